-- A unit that is made of a unit, whichever it is, has no faults of names, those of units left aside.
use Rattle.std.proofs.Common.{◌≡◌, ℕ, Bool, true, false, List, [], map}
use Rattle.std.specs.Prelude.{◌==◌, Option}
use Rattle.adj_tree.specs.Code.{Terms, Var, plain, shadow, name_eq, var_eq, Runtime, Act, call, runtime, Code, Procedure}
use Rattle.def_meaning.specs.Apart.{has_name}
use Rattle.def_meaning.specs.Rename.{rename_terms}
use Rattle.def_names.specs.CallFaults.{variable_rank, array_arguments}
use Rattle.def_names.specs.Fault.{run_rules}
use Rattle.def_names.specs.NameFaults.{undeclared, declared_twice, misused, bad_extents}
use Rattle.def_names.specs.Numbers.{Vars}
use Rattle.def_names.specs.Reserved.{is_runtime}
use Rattle.def_names.specs.Statements.{At, statements}
use Rattle.def_names.specs.Variables.{places, variables, rank}
use Rattle.def_sweep.specs.Marking.{ProgramMarks, first_statement}
use Rattle.def_sweep.specs.Naming.{adjoint_text, Named, name_in, naming}
use Rattle.def_sweep.specs.Program.{schedules_in}
use Rattle.law_emitted.proofs.Lists.{Each}
use Rattle.law_emitted.proofs.Called.{IsOwn}
use Rattle.law_emitted.proofs.Follows.{FollowsBy}
use Rattle.law_emitted.proofs.Over.{OverCode, Any}
use Rattle.law_emitted.proofs.Tables.{IsFree, table_for}
use Rattle.law_emitted.proofs.Sources.{UnitSound}
use Rattle.law_emitted.proofs.SourceNames.{NamesSound}
use Rattle.law_emitted.proofs.MadeFaults as of_made
use Rattle.law_emitted.proofs.Makings.{Making, its_name, its_shadows, its_plan, its_helpers, its_code, its_turns, made, ClearsOwn}
use Rattle.law_emitted.proofs.MakingCode.{its_are_helpers, its_once, its_code_over}

module _ (sb : Bool) (m : ProgramMarks) (ps : List Procedure) (units : List (List ℕ)) (u : Procedure) (s : UnitSound ps u) (n : NamesSound ps u) (k : Making) where
  -- the names of its variables
  abbrev pub its_table : List Named
  its_table = table_for adjoint_text (variables u) units (its_shadows m u k) (its_helpers sb m ps u k)

  abbrev hs : List Var
  hs = its_helpers sb m ps u k

  abbrev a : Vars
  a = its_shadows m u k

  abbrev code : Code
  code = its_code sb m ps u k

  abbrev pub unit : Procedure
  unit = made sb m ps units u k

  abbrev pub Declared : List ℕ → Type 0
  Declared x = has_name x (map (λ d. d.name) unit.declarations) ≡ true

  pub apart : (v w : Var) → name_eq (name_in its_table v) (name_in its_table w) ≡ var_eq v w
  apart = of_made.apart adjoint_text units a hs (its_are_helpers sb m ps u k) (its_once sb m ps u k) ps u s.written s.kernel s.free s.calls n.dummies_once n.extent_dummy n.extents n.stands (its_name ps u k) code

  pub keeps : (x : List ℕ) → has_name x (variables u) ≡ true → name_in its_table (plain x) ≡ x
  keeps = of_made.keeps adjoint_text units a hs (its_are_helpers sb m ps u k) (its_once sb m ps u k) ps u s.written s.kernel s.free s.calls n.dummies_once n.extent_dummy n.extents n.stands (its_name ps u k) code

  -- ---- ranks

  pub plain_rank : (x : List ℕ) → rank unit (name_in its_table (plain x)) ≡ rank u x
  plain_rank = of_made.plain_rank adjoint_text units a hs (its_are_helpers sb m ps u k) (its_once sb m ps u k) ps u s.written s.kernel s.free s.calls n.dummies_once n.extent_dummy n.extents n.stands (its_name ps u k) code

  pub shadow_rank : (x : List ℕ) → its_shadows m u k (plain x) ≡ true → rank unit (name_in its_table (shadow x)) ≡ rank u x
  shadow_rank = of_made.shadow_rank adjoint_text units a hs (its_are_helpers sb m ps u k) (its_once sb m ps u k) ps u s.written s.kernel s.free s.calls n.dummies_once n.extent_dummy n.extents n.stands (its_name ps u k) code

  -- a variable that stands with as many subscripts as it has extents, and an array
  abbrev pub Q : Var → Option ℕ → Type 0
  Q = of_made.Q adjoint_text units a hs (its_are_helpers sb m ps u k) (its_once sb m ps u k) ps u s.written s.kernel s.free s.calls n.dummies_once n.extent_dummy n.extents n.stands (its_name ps u k) code

  abbrev pub A : Var → Type 0
  A = of_made.A adjoint_text units a hs (its_are_helpers sb m ps u k) (its_once sb m ps u k) ps u s.written s.kernel s.free s.calls n.dummies_once n.extent_dummy n.extents n.stands (its_name ps u k) code

  source : OverCode Q A Any u.body
  source = of_made.source adjoint_text units a hs (its_are_helpers sb m ps u k) (its_once sb m ps u k) ps u s.written s.kernel s.free s.calls n.dummies_once n.extent_dummy n.extents n.stands (its_name ps u k) code

  -- ---- its declarations

  pub no_bad_extents : bad_extents unit ≡ []
  no_bad_extents = of_made.no_bad_extents adjoint_text units a hs (its_are_helpers sb m ps u k) (its_once sb m ps u k) ps u s.written s.kernel s.free s.calls n.dummies_once n.extent_dummy n.extents n.stands (its_name ps u k) code

  pub no_twice : declared_twice unit ≡ []
  no_twice = of_made.no_twice adjoint_text units a hs (its_are_helpers sb m ps u k) (its_once sb m ps u k) ps u s.written s.kernel s.free s.calls n.dummies_once n.extent_dummy n.extents n.stands (its_name ps u k) code

  -- its names are those of the unit and names that were made
  pub each_declared : (P : List ℕ → Type 0) → ((x : List ℕ) → has_name x (variables u) ≡ true → P x) → ((z : List ℕ) → IsFree z → has_name z units ≡ false → P z) → (x : List ℕ) → Declared x → P x
  each_declared = of_made.each_declared adjoint_text units a hs (its_are_helpers sb m ps u k) (its_once sb m ps u k) ps u s.written s.kernel s.free s.calls n.dummies_once n.extent_dummy n.extents n.stands (its_name ps u k) code

  module _ (clears : ClearsOwn m u k) where
    -- its body, where of each CALL holds what is asked of it
    pub body_holds : (C : List ℕ → Terms → Type 0) → FollowsBy (schedules_in sb ps) C (its_turns k C) (its_plan m ps u k) (first_statement ps u.name) u.body → OverCode Q A C code
    body_holds C f =
        its_code_over sb m ps u Q A C source k clears
        (of_made.may_stand adjoint_text units a hs (its_are_helpers sb m ps u k) (its_once sb m ps u k) ps u s.written s.kernel s.free s.calls n.dummies_once n.extent_dummy n.extents n.stands (its_name ps u k) code) f

    -- each statement has what CALLs and calls of the runtime have
    pub statements_have : (C : List ℕ → Terms → Type 0) → FollowsBy (schedules_in sb ps) C (its_turns k C) (its_plan m ps u k) (first_statement ps u.name) u.body → (G : At Act → Type 0) → ((line : ℕ) (act : Act) → IsOwn act → G (line, act)) →
        ((line : ℕ) (other : List ℕ) (args : Terms) → is_runtime other ≡ false → C other args → G (line, call other (rename_terms (naming its_table) args))) → ((line : ℕ) (c : Runtime) → Each (λ x. (variable_rank unit x == 0) ≡ false) (array_arguments c) → G (line, runtime c)) → Each G (statements unit.body)
    statements_have C f = of_made.statements_have adjoint_text units a hs (its_are_helpers sb m ps u k) (its_once sb m ps u k) ps u s.written s.kernel s.free s.calls n.dummies_once n.extent_dummy n.extents n.stands (its_name ps u k) code C (body_holds C f)

    module _ (f : FollowsBy (schedules_in sb ps) Any (its_turns k Any) (its_plan m ps u k) (first_statement ps u.name) u.body) where
      pub places_declared : Each (λ (p : At (List ℕ)). Declared p.1) (places unit)
      places_declared = of_made.places_declared adjoint_text units a hs (its_are_helpers sb m ps u k) (its_once sb m ps u k) ps u s.written s.kernel s.free s.calls n.dummies_once n.extent_dummy n.extents n.stands (its_name ps u k) code (body_holds Any f)

      pub no_misused : misused run_rules unit ≡ []
      no_misused = of_made.no_misused adjoint_text units a hs (its_are_helpers sb m ps u k) (its_once sb m ps u k) ps u s.written s.kernel s.free s.calls n.dummies_once n.extent_dummy n.extents n.stands (its_name ps u k) code (body_holds Any f)

      pub no_undeclared : undeclared unit ≡ []
      no_undeclared = of_made.no_undeclared adjoint_text units a hs (its_are_helpers sb m ps u k) (its_once sb m ps u k) ps u s.written s.kernel s.free s.calls n.dummies_once n.extent_dummy n.extents n.stands (its_name ps u k) code (body_holds Any f)
