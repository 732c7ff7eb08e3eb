-- What is emitted hands no variable to a unit twice, and nothing but names.
use Rattle.std.proofs.Common.{◌≡◌, ℕ, Bool, true, false, List, [], ◌∷◌, ◌++◌, map, refl, ap, ◌∙◌}
use Rattle.std.specs.Prelude.{flat_map, Some}
use Rattle.adj_tree.specs.Code.{Terms, Act, assign, choose, loop, during, call, runtime, Procedure}
use Rattle.def_text.specs.Written.{IsName, IsWrittenProcedure}
use Rattle.def_meaning.specs.LeastSet.{Dummies}
use Rattle.def_meaning.specs.Written.{find_unit}
use Rattle.def_meaning.specs.Rename.{rename_terms}
use Rattle.def_names.specs.Reserved.{is_runtime}
use Rattle.def_names.specs.WriteFaults.{shared_variables, written_values}
use Rattle.def_sweep.specs.Naming.{naming}
use Rattle.def_sweep.specs.Declared.{unit_at}
use Rattle.def_sweep.specs.Marking.{ProgramMarks}
use Rattle.def_sweep.specs.Program.{all_units, emitted_units_with, emitted_for_with}
use Rattle.law_sweep.specs.Source.{CallUnits}
use Rattle.law_emitted.proofs.Lists.{Each}
use Rattle.law_emitted.proofs.Callings.{Found}
use Rattle.law_emitted.specs.Emitted.{ActualsHaveNone}
use Rattle.law_emitted.proofs.Called.{IsOwn}
use Rattle.law_emitted.proofs.Actuals.{Fits}
use Rattle.law_emitted.proofs.PlainTexts.{text_code}
use Rattle.law_emitted.proofs.DistinctActuals.{IsDistinct, each_clean, body_clean, renamed_terms, renamed_apart, text_distinct}
use Rattle.law_emitted.proofs.Sources.{UnitSound, all_named}
use Rattle.law_emitted.proofs.Makings.{Making, made, is_made, ClearsOwn}
use Rattle.law_emitted.proofs.UnitFaults.{flat_none}
use Rattle.law_emitted.proofs.CallFaults.{IsSound, names_for, name_apart, statements_have, each_known, all_known, all_there, each_sound}

module _ (handed : Dummies) where
  module _ (sb : Bool) (m : ProgramMarks) (ps : List Procedure) (head : Procedure) (vars outvars : List Bool) (named : Each (λ u. IsName u.name) ps) (known : CallUnits ps ps) (sound : Each (IsSound sb m ps) ps) where
    carried_clean : (u : Procedure) → UnitSound ps u → shared_variables handed u ++ written_values handed u ≡ []
    carried_clean u s = let written : IsWrittenProcedure u = s.written in body_clean handed u (text_distinct u.body (text_code u.body written.body s.kernel))

    made_clean : (u : Procedure) (s : IsSound sb m ps u) (k : Making) → ClearsOwn m u k → find_unit ps u.name ≡ Some u → is_made m ps head u k ≡ true → shared_variables handed (made sb m ps (all_units m ps head) u k) ++ written_values handed (made sb m ps (all_units m ps head) u k) ≡ []
    made_clean u s k clears found there =
        each_clean handed (made sb m ps (all_units m ps head) u k) (statements_have sb m ps head vars outvars named known sound u s k clears found there (λ s. IsDistinct s.1) own called (λ line c h. tt))
      where
        own : (line : ℕ) (act : Act) → IsOwn act → IsDistinct act
        own line (assign x l e) o = tt
        own line (choose c a b) o = tt
        own line (loop x a b c body mark) o = tt
        own line (during c body) o = tt
        own line (call name args) o = absurd o
        own line (runtime r) o = absurd o

        called : (line : ℕ) (other : List ℕ) (args : Terms) → is_runtime other ≡ false → Fits (emitted_units_with sb m ps head vars outvars ps) (made sb m ps (all_units m ps head) u k) (naming (names_for sb m ps head vars outvars named known sound u s k)) other args →
            IsDistinct (call other (rename_terms (naming (names_for sb m ps head vars outvars named known sound u s k)) args))
        called line other args r f =
            let ns = names_for sb m ps head vars outvars named known sound u s k in
            (map (naming ns) f.variables, (ap (rename_terms (naming ns)) f.are ∙ renamed_terms (naming ns) (name_apart sb m ps head vars outvars named known sound u s k) f.variables, renamed_apart (naming ns) (name_apart sb m ps head vars outvars named known sound u s k) f.variables f.apart))

    pub emitted_clean : Each (Found ps) ps → flat_map (λ u. shared_variables handed u ++ written_values handed u) (emitted_units_with sb m ps head vars outvars ps) ≡ []
    emitted_clean found =
        flat_none (λ u. shared_variables handed u ++ written_values handed u) (emitted_units_with sb m ps head vars outvars ps)
        (each_known sb m ps head vars outvars named known sound (λ u. shared_variables handed u ++ written_values handed u ≡ []) found (λ u f s h. carried_clean u s.sound) (λ u s k clears f there. made_clean u s k clears f there))

pub actuals_have_none : ActualsHaveNone
actuals_have_none rules ps checked sb m shadowed may head vars outvars handed = go (unit_at head ps)
  where
    go : (us : List Procedure) → flat_map (λ u. shared_variables handed u ++ written_values handed u) (emitted_for_with sb m ps vars outvars us) ≡ []
    go [] = refl
    go (u ∷ us) = emitted_clean handed sb m ps u vars outvars (all_named rules ps checked) (all_known rules ps checked) (each_sound rules ps checked sb m shadowed may) (all_there rules ps checked)
