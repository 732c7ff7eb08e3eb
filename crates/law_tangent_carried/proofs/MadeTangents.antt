-- The tangent of a unit, as a unit that is made: ranks of its variables, and what holds of its statements.
use Rattle.std.proofs.Common.{◌≡◌, ℕ, ◌≤◌, Bool, true, false, List, [], map, arith}
use Rattle.std.specs.Prelude.{◌==◌, Option, Some, None}
use Rattle.adj_tree.specs.Code.{Terms, Var, plain, shadow, helper, work, temp, Runtime, Act, call, runtime, Code, Procedure}
use Rattle.def_meaning.specs.Append.{◌+++◌}
use Rattle.def_meaning.specs.Apart.{has_name}
use Rattle.def_meaning.specs.Rename.{rename_terms}
use Rattle.def_names.specs.Numbers.{Vars}
use Rattle.def_names.specs.Reserved.{is_runtime}
use Rattle.def_names.specs.Statements.{At, statements}
use Rattle.def_names.specs.Variables.{places, variables, rank}
use Rattle.def_names.specs.Fault.{run_rules}
use Rattle.def_names.specs.NameFaults.{undeclared, declared_twice, misused, bad_extents}
use Rattle.def_names.specs.CallFaults.{variable_rank, array_arguments}
use Rattle.def_sweep.specs.Naming.{tangent_text, Named, name_in, naming}
use Rattle.def_sweep.specs.Marking.{arrays_of}
use Rattle.def_tangent.specs.Forward.{tangents}
use Rattle.def_tangent.specs.Program.{Carried, plan_in, parts_used, temps_used, helpers_used, cleared, names_of_unit, tangent_name}
use Rattle.law_emitted.proofs.Lists.{Each, each_more}
use Rattle.law_emitted.proofs.Over.{OverCode, Any, over_append}
use Rattle.law_emitted.proofs.Called.{IsOwn}
use Rattle.law_emitted.proofs.Tables.{IsFree}
use Rattle.law_emitted.proofs.Sources.{UnitSound}
use Rattle.law_emitted.proofs.NameFaults.{NamesSound}
use Rattle.law_tangent_carried.proofs.Forming.{Takes, list_over, cleared_over}
use Rattle.law_tangent_carried.proofs.HelpersUsed.{are_helpers, stand_once, work_among, temp_among}
use Rattle.law_tangent_carried.proofs.EmittedUnits.{all_units, at_first, at_first_stand, tangent_of}
use Rattle.law_emitted.proofs.MadeFaults.{MayStand}
use Rattle.law_emitted.proofs.MadeFaults as made

module _ (c : Carried) (ps : List Procedure) (head : Procedure) (vars : List Bool) (u : Procedure) (s : UnitSound ps u) (n : NamesSound ps u) where
  abbrev a : Vars
  a = c u.name

  abbrev hs : List Var
  hs = helpers_used a u.body

  -- the names of its variables
  abbrev pub names : List Named
  names = names_of_unit a (all_units c ps head vars) u

  abbrev pub code : Code
  code = cleared (arrays_of u) u.line (at_first c ps head vars u) +++ tangents (plan_in c ps u.name) u.body

  -- a variable that stands with as many subscripts as it has extents, and an array
  abbrev pub Q : Var → Option ℕ → Type 0
  Q = made.Q tangent_text (all_units c ps head vars) a hs (are_helpers a u.body) (stand_once a u.body) ps u s.written s.kernel s.free s.calls n.dummies_once n.extent_dummy n.extents n.stands (tangent_name ps u.name) code

  abbrev pub A : Var → Type 0
  A = made.A tangent_text (all_units c ps head vars) a hs (are_helpers a u.body) (stand_once a u.body) ps u s.written s.kernel s.free s.calls n.dummies_once n.extent_dummy n.extents n.stands (tangent_name ps u.name) code

  pub plain_rank : (x : List ℕ) → rank (tangent_of c ps head vars u) (name_in names (plain x)) ≡ rank u x
  plain_rank = made.plain_rank tangent_text (all_units c ps head vars) a hs (are_helpers a u.body) (stand_once a u.body) ps u s.written s.kernel s.free s.calls n.dummies_once n.extent_dummy n.extents n.stands (tangent_name ps u.name) code

  pub shadow_rank : (x : List ℕ) → c u.name (plain x) ≡ true → rank (tangent_of c ps head vars u) (name_in names (shadow x)) ≡ rank u x
  shadow_rank = made.shadow_rank tangent_text (all_units c ps head vars) a hs (are_helpers a u.body) (stand_once a u.body) ps u s.written s.kernel s.free s.calls n.dummies_once n.extent_dummy n.extents n.stands (tangent_name ps u.name) code

  pub keeps : (x : List ℕ) → has_name x (variables u) ≡ true → name_in names (plain x) ≡ x
  keeps = made.keeps tangent_text (all_units c ps head vars) a hs (are_helpers a u.body) (stand_once a u.body) ps u s.written s.kernel s.free s.calls n.dummies_once n.extent_dummy n.extents n.stands (tangent_name ps u.name) code

  -- ---- its statements

  may_stand : MayStand Q A a (arrays_of u) (variables u) (helpers_used a u.body)
  may_stand = made.may_stand tangent_text (all_units c ps head vars) a hs (are_helpers a u.body) (stand_once a u.body) ps u s.written s.kernel s.free s.calls n.dummies_once n.extent_dummy n.extents n.stands (tangent_name ps u.name) code

  -- its body, where of each CALL holds what is asked of it
  body_over : (C : List ℕ → Terms → Type 0) → Takes C (plan_in c ps u.name) u.body → OverCode Q A C code
  body_over C takes =
      let m = may_stand in
      let at = at_first c ps head vars u in
      over_append Q A C (cleared (arrays_of u) u.line at) (tangents (plan_in c ps u.name) u.body)
      (cleared_over Q A C (plan_in c ps u.name) (parts_used a u.body) (temps_used a u.body) works temps (λ x i k q. shadows x (Some i) k q) (λ x k q. shadows x None k q) (arrays_of u) u.line at (λ x e k. m.shadow_arrays x k e) (λ x e q. m.scalars x e q)
      (each_more (λ x. (has_name x (variables u) ≡ true) × (a (plain x) ≡ true)) (λ x. Q (plain x) None × (a (plain x) ≡ true)) (λ x k. (m.wholes x k.0, k.1)) at (at_first_stand c ps head vars u)))
      (list_over Q A C (plan_in c ps u.name) (parts_used a u.body) (temps_used a u.body) works temps (λ x i k q. shadows x (Some i) k q) (λ x k q. shadows x None k q) u.body source takes (omega arith) (omega arith))
    where
      shadows : (x : List ℕ) (i : Option ℕ) → a (plain x) ≡ true → Q (plain x) i → Q (shadow x) i
      shadows x i k q = let m = may_stand in m.shadows x i k q

      works : (k : ℕ) → 1 ≤ k → k ≤ parts_used a u.body → Q (helper work k) (Some 0)
      works k low high = let m = may_stand in m.helpers (helper work k) (work_among a u.body k low high)

      temps : (k : ℕ) → 1 ≤ k → k ≤ temps_used a u.body → Q (helper temp k) (Some 0)
      temps k low high = let m = may_stand in m.helpers (helper temp k) (temp_among a u.body k low high)

      source : OverCode Q A Any u.body
      source = made.source tangent_text (all_units c ps head vars) a hs (are_helpers a u.body) (stand_once a u.body) ps u s.written s.kernel s.free s.calls n.dummies_once n.extent_dummy n.extents n.stands (tangent_name ps u.name) code

  -- each has what CALLs and calls of the runtime have
  pub statements_have : (C : List ℕ → Terms → Type 0) → Takes C (plan_in c ps u.name) u.body → (G : At Act → Type 0) → ((line : ℕ) (act : Act) → IsOwn act → G (line, act)) → ((line : ℕ) (other : List ℕ) (args : Terms) → is_runtime other ≡ false → C other args → G (line, call other (rename_terms (naming names) args))) →
      ((line : ℕ) (r : Runtime) → Each (λ x. (variable_rank (tangent_of c ps head vars u) x == 0) ≡ false) (array_arguments r) → G (line, runtime r)) → Each G (statements (tangent_of c ps head vars u).body)
  statements_have C takes = made.statements_have tangent_text (all_units c ps head vars) a hs (are_helpers a u.body) (stand_once a u.body) ps u s.written s.kernel s.free s.calls n.dummies_once n.extent_dummy n.extents n.stands (tangent_name ps u.name) code C (body_over C takes)

  -- ---- it has no faults of names, those of units left aside

  pub no_twice : declared_twice (tangent_of c ps head vars u) ≡ []
  no_twice = made.no_twice tangent_text (all_units c ps head vars) a hs (are_helpers a u.body) (stand_once a u.body) ps u s.written s.kernel s.free s.calls n.dummies_once n.extent_dummy n.extents n.stands (tangent_name ps u.name) code

  pub no_bad_extents : bad_extents (tangent_of c ps head vars u) ≡ []
  no_bad_extents = made.no_bad_extents tangent_text (all_units c ps head vars) a hs (are_helpers a u.body) (stand_once a u.body) ps u s.written s.kernel s.free s.calls n.dummies_once n.extent_dummy n.extents n.stands (tangent_name ps u.name) code

  module _ (takes : Takes Any (plan_in c ps u.name) u.body) where
    pub no_undeclared : undeclared (tangent_of c ps head vars u) ≡ []
    no_undeclared = made.no_undeclared tangent_text (all_units c ps head vars) a hs (are_helpers a u.body) (stand_once a u.body) ps u s.written s.kernel s.free s.calls n.dummies_once n.extent_dummy n.extents n.stands (tangent_name ps u.name) code (body_over Any takes)

    pub no_misused : misused run_rules (tangent_of c ps head vars u) ≡ []
    no_misused = made.no_misused tangent_text (all_units c ps head vars) a hs (are_helpers a u.body) (stand_once a u.body) ps u s.written s.kernel s.free s.calls n.dummies_once n.extent_dummy n.extents n.stands (tangent_name ps u.name) code (body_over Any takes)

    -- it declares all that stands in it
    pub its_places : Each (λ (p : At (List ℕ)). has_name p.1 (map (λ d. d.name) (tangent_of c ps head vars u).declarations) ≡ true) (places (tangent_of c ps head vars u))
    its_places = made.places_declared tangent_text (all_units c ps head vars) a hs (are_helpers a u.body) (stand_once a u.body) ps u s.written s.kernel s.free s.calls n.dummies_once n.extent_dummy n.extents n.stands (tangent_name ps u.name) code (body_over Any takes)

    -- at each place stands a variable of the unit, or a free name that no unit has
    pub each_place : (P : List ℕ → Type 0) → ((x : List ℕ) → has_name x (variables u) ≡ true → P x) → ((z : List ℕ) → IsFree z → has_name z (all_units c ps head vars) ≡ false → P z) → Each (λ (p : At (List ℕ)). P p.1) (places (tangent_of c ps head vars u))
    each_place P f g =
        each_more (λ (p : At (List ℕ)). has_name p.1 (map (λ d. d.name) (tangent_of c ps head vars u).declarations) ≡ true) (λ p. P p.1) (λ p k. made.each_declared tangent_text (all_units c ps head vars) a hs (are_helpers a u.body) (stand_once a u.body) ps u s.written s.kernel s.free s.calls n.dummies_once n.extent_dummy n.extents n.stands (tangent_name ps u.name) code P f g p.1 k) (places (tangent_of c ps head vars u)) its_places
