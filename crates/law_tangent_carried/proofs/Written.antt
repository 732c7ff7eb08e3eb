-- What is emitted for a checked program is written.
use Rattle.std.proofs.Common.{◌≡◌, ℕ, suc, ◌≤◌, Bool, true, false, List, [], ◌∷◌, ◌++◌, map, refl, sym, ap, ◌∙◌, subst, arith, codes, if◌then◌else◌}
use Rattle.std.specs.Prelude.{Option, Some, None}
use Rattle.std.proofs.lemmas.List.Elements.{All-nil, All-cons}
use Rattle.adj_tree.specs.Code.{Var, plain, shadow, helper, work, temp, Act, assign, choose, loop, during, call, runtime, Code, stop, step, Procedure}
use Rattle.def_text.specs.Written.{IsName, IsWrittenProcedure, IsWritten}
use Rattle.def_meaning.specs.Append.{◌+++◌}
use Rattle.def_meaning.specs.Written.{find_unit}
use Rattle.def_names.specs.Fault.{Rules}
use Rattle.def_names.specs.Statements.{inner, statements}
use Rattle.def_names.specs.Variables.{variables}
use Rattle.def_kernel.specs.Form.{IsKernelCode}
use Rattle.def_meaning.specs.Apart.{has_name, AreApart}
use Rattle.def_sweep.specs.Naming.{tangent_text, Named}
use Rattle.def_sweep.specs.Facts.{In}
use Rattle.adj_tree.proofs.Names.{name_refl}
use Rattle.def_names.specs.Numbers.{Vars, next, behind}
use Rattle.def_names.specs.Numbering.{point_before, point_after}
use Rattle.def_sweep.specs.Declared.{unit_name, unit_at}
use Rattle.def_names.proofs.Variables.{has_apart}
use Rattle.def_sweep.specs.Plan.{beside, IsActual, names_of}
use Rattle.law_sweep.specs.Laws.{point_inside}
use Rattle.law_sweep.proofs.CallSweeps.{names_are}
use Rattle.law_sweep.proofs.Passing.{beside_key}
use Rattle.def_sweep.specs.Names.{source_names, named_after}
use Rattle.def_sweep.specs.Marking.{arrays_of, entry_point, first_statement}
use Rattle.law_sweep.specs.Source.{is_unit}
use Rattle.law_sweep.proofs.UnitLists.{found_there}
use Rattle.law_emitted.specs.Checked.{IsChecked}
use Rattle.law_emitted.proofs.Lists.{Each, each_front, each_behind, each_more}
use Rattle.law_emitted.proofs.Statements.{CallHasNone, call_of_unit}
use Rattle.law_emitted.proofs.Callings.{Found}
use Rattle.law_emitted.proofs.Premises.{found}
use Rattle.law_emitted.specs.Shadowed.{AreCarried}
use Rattle.law_emitted.proofs.Over.{OverCode, Any, over_append}
use Rattle.law_emitted.proofs.Sources.{UnitSound, all_named, all_sound}
use Rattle.law_emitted.proofs.Tables.{IsFree, has_var, among, has_plain_for, plain_known_for, has_shadow_for, has_helper_for}
use Rattle.law_emitted.proofs.Units.{source_formed, made_written}
use Rattle.law_emitted.proofs.MadeNames.{IsMadeName, made_no_runtime, made_named}
use Rattle.def_flow.specs.Problem.{Problem}
use Rattle.def_tangent.specs.Forward.{tangents}
use Rattle.law_tangent.specs.Laws.{ActFlows, ListFlows}
use Rattle.law_tangent.specs.Source.{flow_in}
use Rattle.def_flow.specs.Carried.{IsCarrying, carried_by}
use Rattle.law_tangent_carried.specs.Emitted.{TangentIsWritten}
use Rattle.law_tangent_carried.proofs.Fits.{unit_flows, apart}
use Rattle.def_tangent.specs.Program.{Carried, tangent_name, dummies_of, plan_in, parts_used, temps_used, helpers_used, cleared, names_of_unit, has_tangent, stays, made_names, tangent_unit, emitted_units}
use Rattle.law_tangent_carried.proofs.Forming.{TakesAct, Takes, list_over, cleared_over}
use Rattle.law_tangent_carried.proofs.HelpersUsed.{are_helpers, work_among, temp_among}
use Rattle.law_tangent_carried.proofs.EmittedUnits.{for_head, at_first, at_first_stand}

-- ---- the tangent of a unit

module _ (c : Carried) (ps : List Procedure) (units : List (List ℕ)) (u : Procedure) (written : IsWrittenProcedure u) (kernel : IsKernelCode u.body) (free : Each IsFree (variables u)) (calls : Each (CallHasNone ps u) (statements u.body)) (takes : Takes Any (plan_in c ps u.name) u.body) where
  abbrev a : Vars
  a = c u.name

  abbrev hs : List Var
  hs = helpers_used a u.body

  abbrev ns : List Named
  ns = names_of_unit a units u

  -- a variable that has a name
  abbrev Q : Var → Option ℕ → Type 0
  Q v n = has_var v ns ≡ true

  abbrev A : Var → Type 0
  A v = Unit {0}

  helper_stands : (v : Var) → among v hs ≡ true → Q v (Some 0)
  helper_stands v h = has_helper_for tangent_text (variables u) units a hs free (are_helpers a u.body) v h

  works_stand : (k : ℕ) → 1 ≤ k → k ≤ parts_used a u.body → Q (helper work k) (Some 0)
  works_stand k low high = helper_stands (helper work k) (work_among a u.body k low high)

  temps_stand : (k : ℕ) → 1 ≤ k → k ≤ temps_used a u.body → Q (helper temp k) (Some 0)
  temps_stand k low high = helper_stands (helper temp k) (temp_among a u.body k low high)

  shadow_stands : (x : List ℕ) → a (plain x) ≡ true → has_var (plain x) ns ≡ true → has_var (shadow x) ns ≡ true
  shadow_stands x k q = has_shadow_for tangent_text (variables u) units a hs free (are_helpers a u.body) x (plain_known_for tangent_text (variables u) units a hs free (are_helpers a u.body) x q) k

  body_over : (line : ℕ) (at : List (List ℕ)) → Each (λ x. (has_name x (variables u) ≡ true) × (a (plain x) ≡ true)) at → OverCode Q A Any (cleared (arrays_of u) line at +++ tangents (plan_in c ps u.name) u.body)
  body_over line at stand =
      over_append Q A Any (cleared (arrays_of u) line at) (tangents (plan_in c ps u.name) u.body)
      (cleared_over Q A Any (plan_in c ps u.name) (parts_used a u.body) (temps_used a u.body) works_stand temps_stand (λ x n k q. shadow_stands x k q) (λ x k q. shadow_stands x k q) (arrays_of u) line at (λ x k m. tt) (λ x k q. q)
      (each_more (λ x. (has_name x (variables u) ≡ true) × (a (plain x) ≡ true)) (λ x. Q (plain x) None × (a (plain x) ≡ true)) (λ x k. (has_plain_for tangent_text (variables u) units a hs free (are_helpers a u.body) x k.0, k.1)) at stand))
      (list_over Q A Any (plan_in c ps u.name) (parts_used a u.body) (temps_used a u.body) works_stand temps_stand (λ x n k q. shadow_stands x k q) (λ x k q. shadow_stands x k q) u.body (source_formed tangent_text units u a hs written free (are_helpers a u.body) ps kernel calls) takes (omega arith) (omega arith))

  unit_written : (at : List (List ℕ)) → IsName (tangent_name ps u.name) → Each (λ x. (has_name x (variables u) ≡ true) × (a (plain x) ≡ true)) at → IsWrittenProcedure (tangent_unit c ps units u at)
  unit_written at named stand = made_written tangent_text units u a hs written free (are_helpers a u.body) (tangent_name ps u.name) (cleared (arrays_of u) u.line at +++ tangents (plan_in c ps u.name) u.body) named (body_over u.line at stand)

-- ---- the names of tangents

-- each is written and has an underscore, by which it isn't a reserved one
pub tangent_named : (taken : List (List ℕ)) (us : List Procedure) (name : List ℕ) → Each (λ u. IsName u.name) us → is_unit us name ≡ true → IsMadeName (named_after (codes "_D") taken us name)
tangent_named = made_named (codes "_D") refl refl

-- ---- what calls take

-- a dummy that carries a tangent has an actual that does
are_carried : (on on' : Vars) (ds given : List (List ℕ)) → AreApart ds → ((d x : List ℕ) → IsActual ds given d x → In (plain d) on → In (plain x) on') → AreCarried on on' ds given
are_carried on on' [] given a h = tt
are_carried on on' (d ∷ ds) [] a h = tt
are_carried on on' (d ∷ ds) (x ∷ given) a h = (
  λ k. h d x (ap (λ b. if b then Some x else beside ds given d) (name_refl d)) k,
  are_carried on on' ds given a.1 (λ e y is k. h e y (ap (λ b. if b then Some x else beside ds given e) (has_apart e d ds (beside_key ds given e y is) a.0) ∙ is) k),
)

module _ (c : Carried) (ps : List Procedure) (named : Each (λ u. IsName u.name) ps) (f : ℕ → Vars) (own : List ℕ) (apart : (name : List ℕ) (v : Procedure) → find_unit ps name ≡ Some v → AreApart (dummies_of ps name)) (u : Procedure) where
  mutual
    takes_act : (i line : ℕ) (a : Act) → ActFlows (flow_in c f ps) f (c own) i a → CallHasNone ps u (line, a) → Each (CallHasNone ps u) (inner a) → TakesAct Any (plan_in c ps own) a
    takes_act i line (assign x subs e) w h k = tt
    takes_act i line (choose t a b) w h k = (takes_list (point_before i) (suc i) a w.0.0 (each_front (CallHasNone ps u) (statements a) (statements b) k), takes_list (point_before i) (behind (suc i) a) b w.1.0 (each_behind (CallHasNone ps u) (statements a) (statements b) k))
    takes_act i line (loop x first last by body m) w h k = takes_list (point_inside i) (suc i) body w.1 k
    takes_act i line (during t body) w h k = takes_list (point_inside i) (suc i) body w.1 k
    takes_act i line (call name args) w h k = (
      λ t.
          let o = call_of_unit ps u line name args h in
          let made = tangent_named (source_names ps) ps name named (found_there ps name o.unit o.found).0 in
          let flows = w.1.1 in
          (made.0, (made_no_runtime (tangent_name ps name) made, (subst (λ given. AreCarried (c name) (c own) (dummies_of ps name) given) (sym (ap names_of w.1.0 ∙ names_are w.0)) (are_carried (c name) (c own) (dummies_of ps name) w.0 (apart name o.unit o.found) flows.carries), tt))),
      λ t. tt,
    )
    takes_act i line (runtime r) w h k = tt

    takes_list : (p i : ℕ) (l : Code) → ListFlows (flow_in c f ps) f (c own) p i l → Each (CallHasNone ps u) (statements l) → Takes Any (plan_in c ps own) l
    takes_list p i stop w k = tt
    takes_list p i (step line a rest) w k = (takes_act i line a w.1.0 k.0 (each_front (CallHasNone ps u) (inner a) (statements rest) k.1), takes_list (point_after i) (next i a) rest w.1.1 (each_behind (CallHasNone ps u) (inner a) (statements rest) k.1))

-- ---- the emitted program

module _ (rules : Rules) (k : Problem) (checked : IsChecked rules k.units) (f on : ℕ → Vars) (is : IsCarrying k f on) (top : Procedure) (at : unit_at k.head k.units ≡ top ∷ []) where
  abbrev ps : List Procedure
  ps = k.units

  abbrev c : Carried
  c = carried_by ps on

  abbrev units : List (List ℕ)
  units = map unit_name ps ++ made_names c ps top.name ps

  -- the calls of each unit whose tangent is emitted hand on what carries a tangent
  pub takes_any : (u : Procedure) → Found ps u → UnitSound ps u → has_tangent c ps top.name u.name ≡ true → Takes Any (plan_in c ps u.name) u.body
  takes_any u there s h =
      let flows = unit_flows rules k checked f on is top at u.name u there.0 h in
      takes_list c ps (all_named rules ps checked) f u.name (apart rules k checked f on is top at) u (entry_point ps u.name) (first_statement ps u.name) u.body flows.flows s.calls

  own_written : (u : Procedure) → Found ps u → UnitSound ps u → has_tangent c ps top.name u.name ≡ true → (xs : List (List ℕ)) → Each (λ x. (has_name x (variables u) ≡ true) × (c u.name (plain x) ≡ true)) xs → IsWrittenProcedure (tangent_unit c ps units u xs)
  own_written u there s h xs stand = unit_written c ps units u s.written s.kernel s.free s.calls (takes_any u there s h) xs (tangent_named (source_names ps) ps u.name (all_named rules ps checked) s.there).0 stand

  units_written : (us : List Procedure) → Each (Found ps) us → Each (UnitSound ps) us → IsWritten (emitted_units c ps top k.vars us)
  units_written [] e s = All-nil IsWrittenProcedure
  units_written (u ∷ us) e s = keep (stays c ps top.name u.name) (make (has_tangent c ps top.name u.name) refl (units_written us e.1 s.1))
    where
      first : List (List ℕ)
      first = at_first c ps top k.vars u

      make : (b : Bool) → has_tangent c ps top.name u.name ≡ b → IsWritten (emitted_units c ps top k.vars us) → IsWritten ((if b then tangent_unit c ps units u first ∷ [] else []) ++ emitted_units c ps top k.vars us)
      make true h ih = All-cons IsWrittenProcedure (tangent_unit c ps units u first) (emitted_units c ps top k.vars us) (own_written u e.0 s.0 h first (at_first_stand c ps top k.vars u)) ih
      make false h ih = ih

      keep : (b : Bool) → IsWritten ((if has_tangent c ps top.name u.name then tangent_unit c ps units u first ∷ [] else []) ++ emitted_units c ps top k.vars us) → IsWritten ((if b then u ∷ [] else []) ++ ((if has_tangent c ps top.name u.name then tangent_unit c ps units u first ∷ [] else []) ++ emitted_units c ps top k.vars us))
      keep true ih = let sound = s.0 in All-cons IsWrittenProcedure u _ sound.written ih
      keep false ih = ih

-- the law
pub tangent_is_written : TangentIsWritten
tangent_is_written rules k checked f on is =
    for_head IsWritten (carried_by k.units on) k.units k.head k.vars (All-nil IsWrittenProcedure)
    (λ u at. units_written rules k checked f on is u at k.units (found rules k.units checked) (all_sound rules k.units checked))
