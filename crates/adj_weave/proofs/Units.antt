-- The units that are made of a unit are put together.
use Rattle.std.proofs.Common.{◌≡◌, ℕ, Bool, true, false, List, [], ◌∷◌, ◌++◌, refl, sym, ap, ◌∙◌}
use Rattle.std.specs.Prelude.{◌==◌, ◌||◌, Option, Some}
use Rattle.adj_tree.specs.Code.{Var, plain, shadow, helper, Code, Procedure, var_eq}
use Rattle.def_meaning.specs.Apart.{has_name}
use Rattle.def_meaning.specs.Rename.{rename}
use Rattle.def_meaning.specs.Written.{find_unit}
use Rattle.def_names.specs.Fault.{run_rules}
use Rattle.def_names.specs.NameFaults.{is_rank_for}
use Rattle.def_names.specs.Variables.{variables, rank}
use Rattle.def_names.specs.Numbers.{Vars}
use Rattle.def_sweep.specs.Naming.{adjoint_text, Named, name_in, naming}
use Rattle.def_sweep.specs.Plan.{Plan, Schedules}
use Rattle.def_sweep.specs.Marking.{ProgramMarks, first_statement, plan_in}
use Rattle.def_sweep.specs.Program.{helpers_used_with, helpers_forth, schedules_in}
use Rattle.law_emitted.proofs.Lists.{Each, each_found}
use Rattle.law_emitted.specs.Checked.{IsChecked}
use Rattle.law_emitted.specs.Shadowed.{HasShadows, AllHaveShadows}
use Rattle.law_emitted.specs.Splits.{MaySplit, AllMaySplit}
use Rattle.law_emitted.proofs.Over.{OverCode, Any}
use Rattle.law_emitted.proofs.Tables.{among, has_var, plain_known, table_for}
use Rattle.law_emitted.proofs.Apart.{VarsApart, used_apart_with, forth_apart}
use Rattle.law_emitted.proofs.Sources.{each_name, UnitSound, all_named}
use Rattle.law_emitted.proofs.NameFaults.{NamesSound, all_names_sound}
use Rattle.law_emitted.proofs.Makings.{Making, its_name, its_shadows, its_helpers, its_code, made, Cleared, ClearsOwn}
use Rattle.law_emitted.proofs.MakingCode.{its_are_helpers}
use Rattle.law_emitted.proofs.Following.{follows_any}
use Rattle.law_emitted.proofs.MakingFaults.{keeps, body_holds}
use Rattle.adj_naming.specs.declared.names.Names.{Names}
use Rattle.adj_naming.specs.Sets.{has_variable, AreDifferent}
use Rattle.adj_naming.specs.Table.{table_of, named_by}
use Rattle.adj_weave.specs.Shared.{HaveShadows}
use Rattle.adj_weave_units.specs.Made.{unit_under}
use Rattle.adj_weave_units.proofs.Renamed.{code_same}

same_among : (v : Var) (vs : List Var) → has_variable v vs ≡ among v vs
same_among v [] = refl
same_among v (w ∷ vs) = ap (λ b. var_eq v w || b) (same_among v vs)

different : (vs : List Var) → VarsApart vs → AreDifferent vs
different [] h = tt
different (v ∷ vs) h = (same_among v vs ∙ h.0, different vs h.1)

-- the helpers of a unit stand once
pub helpers_different : (sc : Schedules) (p : Plan) (i : ℕ) (c : Code) → AreDifferent (helpers_used_with sc p i c)
helpers_different sc p i c = different (helpers_used_with sc p i c) (used_apart_with sc p i c)

pub forth_different : (sc : Schedules) (p : Plan) (i : ℕ) (c : Code) → AreDifferent (helpers_forth sc p i c)
forth_different sc p i c = different (helpers_forth sc p i c) (forth_apart sc p i c)

-- variables that have a shadow are variables of the unit
pub cleared_own : (m : ProgramMarks) (u : Procedure) (xs : List (List ℕ)) → HaveShadows m u xs → Cleared m u xs
cleared_own m u xs h = each_name (λ x. (has_name x (variables u) ≡ true) × (m.shadowed u.name (plain x) ≡ true)) xs h

-- ---- each unit has what is asked of all

shadows_each : (m : ProgramMarks) (ps us : List Procedure) → AllHaveShadows m ps us → Each (λ u. HasShadows (plan_in m ps u) (first_statement ps u.name) u.body) us
shadows_each m ps [] h = tt
shadows_each m ps (u ∷ us) h = (h.0, shadows_each m ps us h.1)

splits_each : (sb : Bool) (m : ProgramMarks) (ps us : List Procedure) → AllMaySplit sb m ps us → Each (λ u. MaySplit (schedules_in sb ps) m.adjointed m.split (first_statement ps u.name) u.body) us
splits_each sb m ps [] h = tt
splits_each sb m ps (u ∷ us) h = (h.0, splits_each sb m ps us h.1)

-- ---- what is made of a unit, whichever it is

module _ (sb : Bool) (m : ProgramMarks) (ps : List Procedure) (checked : IsChecked run_rules ps) (shadowed : AllHaveShadows m ps ps) (may : AllMaySplit sb m ps ps) (u : Procedure) (found : find_unit ps u.name ≡ Some u) (units : List (List ℕ)) (k : Making) (clears : ClearsOwn m u k) where
  abbrev pub its_table : List Named
  its_table = table_for adjoint_text (variables u) units (its_shadows m u k) (its_helpers sb m ps u k)

  abbrev Q : Var → Option ℕ → Type 0
  Q v n = (has_var v its_table ≡ true) × (is_rank_for n (rank (made sb m ps units u k) (name_in its_table v)) ≡ true)

  abbrev A : Var → Type 0
  A v = (rank (made sb m ps units u k) (name_in its_table v) == 0) ≡ false

  sound : UnitSound ps u × NamesSound ps u
  sound = each_found (λ u. UnitSound ps u × NamesSound ps u) ps (all_names_sound run_rules ps checked) u.name u found

  shadows : HasShadows (plan_in m ps u) (first_statement ps u.name) u.body
  shadows = each_found (λ u. HasShadows (plan_in m ps u) (first_statement ps u.name) u.body) ps (shadows_each m ps ps shadowed) u.name u found

  splits : MaySplit (schedules_in sb ps) m.adjointed m.split (first_statement ps u.name) u.body
  splits = each_found (λ u. MaySplit (schedules_in sb ps) m.adjointed m.split (first_statement ps u.name) u.body) ps (splits_each sb m ps ps may) u.name u found

  over : OverCode Q A Any (its_code sb m ps u k)
  over =
      let s = sound.0 in
      let n = sound.1 in
      body_holds sb m ps units u s n k clears Any (follows_any sb m ps (all_named run_rules ps checked) u s shadows splits k)

  -- the names of the text are kept
  pub body_same : (n : Names) → table_of n ≡ its_table → rename (named_by n) (its_code sb m ps u k) ≡ rename (naming its_table) (its_code sb m ps u k)
  body_same n t = code_same Q A Any (named_by n) (naming its_table) same (its_code sb m ps u k) over
    where
      same : (v : Var) (j : Option ℕ) → Q v j → named_by n v ≡ naming its_table v
      same (plain x) j q =
          let s = sound.0 in
          let h : has_name x (variables u) ≡ true = plain_known (variables u) units (its_shadows m u k) (its_helpers sb m ps u k) s.free (its_are_helpers sb m ps u k) x q.0 in
          ap plain (sym (keeps sb m ps units u s sound.1 k x h))
      same (shadow x) j q = ap (λ z. naming z (shadow x)) t
      same (helper r i) j q = ap (λ z. naming z (helper r i)) t

  -- the parts make the unit
  pub unit_is : (t : List Named) (name : List ℕ) (a : Vars) (vs : List (List ℕ)) (hs : List Var) (code : Code) → t ≡ its_table → name ≡ its_name ps u k → a ≡ its_shadows m u k → vs ≡ variables u → hs ≡ its_helpers sb m ps u k →
      code ≡ rename (naming its_table) (its_code sb m ps u k) → unit_under t name a u vs hs code ≡ made sb m ps units u k
  unit_is t name a vs hs code ht hn ha hv hh hc = λ j. unit_under (ht j) (hn j) (ha j) u (hv j) (hh j) (hc j)
