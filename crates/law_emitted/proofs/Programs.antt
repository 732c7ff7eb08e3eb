-- What is emitted for a checked program is written.
use Rattle.std.proofs.Common.{◌≡◌, ℕ, suc, Bool, true, false, List, [], ◌∷◌, refl}
use Rattle.std.specs.Prelude.{Option, Some, None}
use Rattle.std.proofs.lemmas.List.Elements.{All-nil, All-cons}
use Rattle.adj_tree.specs.Code.{Var, Act, assign, choose, loop, during, call, runtime, Code, stop, step, Procedure}
use Rattle.def_text.specs.Written.{IsName, IsWrittenProcedure, IsWritten}
use Rattle.def_meaning.specs.Written.{find_unit}
use Rattle.def_names.specs.Variables.{variables}
use Rattle.def_names.specs.Numbers.{Vars, everything, next, behind}
use Rattle.def_sweep.specs.Declared.{unit_at}
use Rattle.def_sweep.specs.Naming.{adjoint_text}
use Rattle.def_sweep.specs.Plan.{names_of}
use Rattle.def_sweep.specs.Marking.{ProgramMarks, full_marks, first_statement, callee_of, callee_in, plan_in, arrays_of}
use Rattle.def_sweep.specs.Program.{is_carried_with, all_units, emitted_units_with, emitted_for_with, schedules_in}
use Rattle.law_emitted.proofs.Lists.{Each, each_more}
use Rattle.law_emitted.specs.Shadowed.{AreCarried, HasShadows', HasShadows, AllHaveShadows}
use Rattle.law_emitted.specs.Splits.{MaySplit, AllMaySplit}
use Rattle.law_emitted.specs.Emitted.{MarkedIsWritten, EmittedIsWritten}
use Rattle.law_emitted.proofs.Over.{Any}
use Rattle.law_emitted.proofs.Tables.{has_plain_for, plain_known_for, has_shadow_for, has_helper_for}
use Rattle.law_emitted.proofs.Sources.{UnitSound, all_named, all_sound}
use Rattle.law_emitted.proofs.Units.{HasName, AnyArray, source_formed, made_written}
use Rattle.law_emitted.proofs.MadeFaults.{MayStand}
use Rattle.law_emitted.proofs.Makings.{Making, its_name, its_shadows, its_helpers, its_code, made, ClearsOwn}
use Rattle.law_emitted.proofs.MakingNames.{its_named}
use Rattle.law_emitted.proofs.MakingCode.{its_are_helpers, its_code_over}
use Rattle.law_emitted.proofs.Calling.{unsplit_may}
use Rattle.law_emitted.proofs.Following.{follows_any}
use Rattle.law_emitted.proofs.UnitFaults.{OfMade, each_emitted}

-- ---- the emitted units

module _ (sb : Bool) (m : ProgramMarks) (ps : List Procedure) (units : List (List ℕ)) (named : Each (λ u. IsName u.name) ps) (u : Procedure) (s : UnitSound ps u) (h : HasShadows (plan_in m ps u) (first_statement ps u.name) u.body) (may : MaySplit (schedules_in sb ps) m.adjointed m.split (first_statement ps u.name) u.body) (k : Making) where
  abbrev a : Vars
  a = its_shadows m u k

  abbrev hs : List Var
  hs = its_helpers sb m ps u k

  abbrev Q : Var → Option ℕ → Type 0
  Q = HasName adjoint_text units u a hs s.written s.free (its_are_helpers sb m ps u k)

  abbrev A : Var → Type 0
  A = AnyArray adjoint_text units u a hs s.written s.free (its_are_helpers sb m ps u k)

  -- every variable that has a name may stand
  may_stand : MayStand Q A a (arrays_of u) (variables u) hs
  may_stand = record {
    shadows = λ x n marked q. has_shadow_for adjoint_text (variables u) units a hs s.free (its_are_helpers sb m ps u k) x (plain_known_for adjoint_text (variables u) units a hs s.free (its_are_helpers sb m ps u k) x q) marked;
    arrays = λ x e. tt;
    shadow_arrays = λ x marked e. tt;
    scalars = λ x e q. q;
    wholes = λ x h. has_plain_for adjoint_text (variables u) units a hs s.free (its_are_helpers sb m ps u k) x h;
    helpers = λ v h. has_helper_for adjoint_text (variables u) units a hs s.free (its_are_helpers sb m ps u k) v h;
  }

  -- what is made of a unit is written
  its_written : ClearsOwn m u k → IsWrittenProcedure (made sb m ps units u k)
  its_written clears =
      made_written adjoint_text units u a hs s.written s.free (its_are_helpers sb m ps u k) (its_name ps u k) (its_code sb m ps u k) (its_named ps u k named s.there).0
      (its_code_over sb m ps u Q A Any (source_formed adjoint_text units u a hs s.written s.free (its_are_helpers sb m ps u k) ps s.kernel s.calls) k clears may_stand (follows_any sb m ps named u s h may k))

each_is : (qs : List Procedure) → Each IsWrittenProcedure qs → IsWritten qs
each_is [] h = All-nil IsWrittenProcedure
each_is (q ∷ qs) h = All-cons IsWrittenProcedure q qs h.0 (each_is qs h.1)

module _ (sb : Bool) (m : ProgramMarks) (ps : List Procedure) (head : Procedure) (vars outvars : List Bool) (named : Each (λ u. IsName u.name) ps) where
  all_made : (us : List Procedure) → Each (UnitSound ps) us → AllHaveShadows m ps us → AllMaySplit sb m ps us → Each (OfMade sb m ps head vars outvars IsWrittenProcedure) us
  all_made [] s h may = tt
  all_made (u ∷ us) s h may = (λ k clears there. its_written sb m ps (all_units m ps head) named u s.0 h.0 may.0 k clears, all_made us s.1 h.1 may.1)

  units_written : Each (UnitSound ps) ps → AllHaveShadows m ps ps → AllMaySplit sb m ps ps → IsWritten (emitted_units_with sb m ps head vars outvars ps)
  units_written s h may =
      each_is (emitted_units_with sb m ps head vars outvars ps)
      (each_emitted sb m ps head vars outvars IsWrittenProcedure ps (each_more (UnitSound ps) (λ u. is_carried_with sb m ps head u.name ≡ true → IsWrittenProcedure u) (λ u sound c. sound.written) ps s) (all_made ps s h may))

-- what is emitted by marks with shadows is written
pub marked_written : MarkedIsWritten
marked_written rules ps checked sb m shadowed may head vars outvars = go (unit_at head ps)
  where
    go : (us : List Procedure) → IsWritten (emitted_for_with sb m ps vars outvars us)
    go [] = All-nil IsWrittenProcedure
    go (u ∷ us) = units_written sb m ps u vars outvars (all_named rules ps checked) (all_sound rules ps checked) shadowed may

-- ---- full marks

full_carried : (ds given : List (List ℕ)) → AreCarried everything everything ds given
full_carried [] given = tt
full_carried (d ∷ ds) [] = tt
full_carried (d ∷ ds) (a ∷ given) = (λ h. refl, full_carried ds given)

module _ (ps : List Procedure) (u : Procedure) where
  -- the shadows of a callee
  full_callee : (name : List ℕ) (given : List (List ℕ)) → AreCarried (callee_in full_marks ps name).shadowed everything (callee_in full_marks ps name).dummies given
  full_callee name given = go (find_unit ps name)
    where
      go : (o : Option Procedure) → AreCarried (callee_of full_marks ps name o).shadowed everything (callee_of full_marks ps name o).dummies given
      go None = tt
      go (Some v) = full_carried v.dummies given

  mutual
    full_act : (i : ℕ) (a : Act) → HasShadows' (plan_in full_marks ps u) i a
    full_act i (assign x subs e) = λ h. refl
    full_act i (choose c a b) = (full_list (suc i) a, full_list (behind (suc i) a) b)
    full_act i (loop x a b c body n) = full_list (suc i) body
    full_act i (during c body) = full_list (suc i) body
    full_act i (call name args) = λ h. full_callee name (names_of args)
    full_act i (runtime r) = tt

    full_list : (i : ℕ) (c : Code) → HasShadows (plan_in full_marks ps u) i c
    full_list i stop = tt
    full_list i (step line a rest) = (full_act i a, full_list (next i a) rest)

-- everything has a shadow with full marks
pub full_shadows : (ps us : List Procedure) → AllHaveShadows full_marks ps us
full_shadows ps [] = tt
full_shadows ps (u ∷ us) = (full_list ps u (first_statement ps u.name) u.body, full_shadows ps us)

pub emitted_written : EmittedIsWritten
emitted_written rules ps checked head vars outvars = marked_written rules ps checked false full_marks (full_shadows ps ps) (unsplit_may false full_marks (λ i. refl) ps ps) head vars outvars
