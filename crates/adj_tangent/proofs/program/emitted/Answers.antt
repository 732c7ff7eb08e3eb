use Rattle.std.proofs.Common.{◌≡◌, ◌<◌, ◌+◌, ◌++◌, [], false, length, map, get_or, refl, sym, ap, subst, ◌∙◌, append_assoc, arith}
use Rattle.std.proofs.lemmas.List.{length-map}
use Rattle.adj_tree.specs.Code.{Procedure}
use Rattle.adj_tree.specs.View.{procedure_of}
use Rattle.def_names.specs.Variables.{variables}
use Rattle.def_sweep.specs.Marking.{place_from}
use Rattle.def_tangent.specs.Program.{tangent_name, has_tangent, stays, emitted_units}
use Rattle.adj_naming.proofs.Places.{get_or_any}
use Rattle.adj_weave_units.proofs.Facts.{units_apart, variables_each}
use Rattle.adj_weave_units.proofs.Ordered.{unit_place}
use Rattle.adj_weave_units.proofs.Places.{find_at}
use Rattle.adj_weave_units.proofs.Standing.{told_at, told_flag, unit_there, reaches}
use Rattle.adj_tangent.specs.Flagged.{carried_told}
use Rattle.adj_tangent.specs.Woven.{sources, carried_for, head_of, only_if, emitted_tangent}
use Rattle.adj_tangent.proofs.Emitted.{emitted_on}
use Rattle.adj_tangent.proofs.program.emitted.Goals as goal

pub variables-requires : goal.variables-requires
variables-requires c =
    let s = c.args.shared.now in
    let own = s.checked.now.program.units in
    let same = c.units_of-units.ensures.units in
    let k = c.loop-k.k in
    let there : k < length own = subst (λ us. k < length us) same c.loop-k-test.true in
    record { unit = subst (λ n. k < n) (sym (variables_each s.checked.now c.units_of-units.ensures.facts)) there }

pub bounds-tangents-k : goal.bounds-tangents-k
bounds-tangents-k c =
    let s = c.args.shared.now in
    let own = s.checked.now.program.units in
    let same = c.units_of-units.ensures.units in
    let k = c.loop-k.k in
    let there : k < length own = subst (λ us. k < length us) same c.loop-k-test.true in
    reaches (λ (u : Procedure). tangent_name (sources c.args.shared.now) u.name) own c.args.table.now.tangents.now k there c.requires.table.tangents

pub bounds-stays-k : goal.bounds-stays-k
bounds-stays-k c =
    let s = c.args.shared.now in
    let own = s.checked.now.program.units in
    let same = c.units_of-units.ensures.units in
    let k = c.loop-k.k in
    let there : k < length own = subst (λ us. k < length us) same c.loop-k-test.true in
    reaches (λ (u : Procedure). stays (carried_for c.args.shared.now) (sources c.args.shared.now) (head_of c.args.aim.now).name u.name) own c.as_slice-stays.result.now k there (c.as_slice-stays.ensures.members ∙ c.requires.table.stays)

pub bounds-has-k : goal.bounds-has-k
bounds-has-k c =
    let s = c.args.shared.now in
    let own = s.checked.now.program.units in
    let same = c.units_of-units.ensures.units in
    let k = c.loop-k.k in
    let there : k < length own = subst (λ us. k < length us) same c.loop-k-test.true in
    reaches (λ (u : Procedure). has_tangent (carried_for c.args.shared.now) (sources c.args.shared.now) (head_of c.args.aim.now).name u.name) own c.as_slice-has.result.now k there (c.as_slice-has.ensures.members ∙ c.requires.table.made)

pub of_unit-requires : goal.of_unit-requires
of_unit-requires c =
    let s = c.args.shared.now in
    let own = s.checked.now.program.units in
    let same = c.units_of-units.ensures.units in
    let k = c.loop-k.k in
    let there : k < length own = subst (λ us. k < length us) same c.loop-k-test.true in
    let parts = s.carried.flow.now.parts.items in
    let many : length parts ≡ length own = sym (length-map parts (λ p. procedure_of p.unit.now)) ∙ ap length c.requires.flow ∙ length-map own procedure_of in
    record { unit = subst (λ n. k < n) (sym many) there }

pub add_tangent-requires-clause-part : goal.add_tangent-requires-clause-part
add_tangent-requires-clause-part c =
    let s = c.args.shared.now in
    let own = s.checked.now.program.units in
    let same = c.units_of-units.ensures.units in
    let k = c.loop-k.k in
    let there : k < length own = subst (λ us. k < length us) same c.loop-k-test.true in
    let ps = sources s in
    let known = s.checked.now in
    let facts = c.units_of-units.ensures.facts in
    let u = c.index-units-k.result in
    let apart = units_apart known facts in
    let at = unit_there c.units_of-units.result.now own same k there u c.index-units-k.is in
    let place : place_from 0 ps u.name ≡ k = unit_place 0 ps k (procedure_of u) apart at ∙ (let z : 0 + k ≡ k = omega arith in z) in
    let here = ap (carried_told s.carried) (sym place) in
    let within : k < length known.variables = subst (λ n. k < n) (sym (variables_each known facts)) there in
    let row = get_or known.variables k [] in
    record {
      found = find_at ps k (procedure_of u) apart at;
      active = c.of_unit.ensures.active ∙ here;
      carried = c.of_unit.ensures.carried ∙ here;
      variables = c.as_slice.ensures.members ∙ c.variables.ensures.variables ∙ told_at variables ps k (procedure_of u) known.variables row at facts.variables (get_or_any known.variables k [] row within);
      tangent = told_at (λ (v : Procedure). tangent_name ps v.name) ps k (procedure_of u) c.args.table.now.tangents.now c.index-tangents-k.result at c.requires.table.tangents c.index-tangents-k.is;
    }

pub loop-k-init : goal.loop-k-init
loop-k-init c =
    let s = c.args.shared.now in
    let a = c.args.aim.now in
    λ i. map procedure_of (c.new-made.ensures.items i) ++ emitted_units (carried_for s) (sources s) (head_of a) a.vars.now (map procedure_of (c.units_of-units.ensures.units i))

pub loop-k-preserved : goal.loop-k-preserved
loop-k-preserved c =
    let s = c.args.shared.now in
    let own = s.checked.now.program.units in
    let same = c.units_of-units.ensures.units in
    let k = c.loop-k.k in
    let there : k < length own = subst (λ us. k < length us) same c.loop-k-test.true in
    let a = c.args.aim.now in
    let on = carried_for s in
    let ps = sources s in
    let h = head_of a in
    let us = c.units_of-units.result.now in
    let u = c.index-units-k.result in
    let at = unit_there us own same k there u c.index-units-k.is in
    let kept = get_or c.as_slice-stays.result.now k false in
    let has = get_or c.as_slice-has.result.now k false in
    let tangent = only_if has (emitted_tangent on ps h a.vars.now (procedure_of u)) in
    let longer = c.in_ok-add_tangent.ensures.units ∙ ap (λ xs. xs ++ tangent) c.in_ok-add_staying.ensures.units ∙ append_assoc (map procedure_of c.loop-k.made.items) (only_if kept (procedure_of u)) tangent in
    emitted_on on ps h a.vars.now us c.loop-k.made.items c.add_tangent.new.made.items k u kept has c.loop-k-test.true c.index-units-k.is longer
    (told_flag (λ (v : Procedure). stays on ps h.name v.name) ps k (procedure_of u) c.as_slice-stays.result.now kept at (c.as_slice-stays.ensures.members ∙ c.requires.table.stays) refl)
    (told_flag (λ (v : Procedure). has_tangent on ps h.name v.name) ps k (procedure_of u) c.as_slice-has.result.now has at (c.as_slice-has.ensures.members ∙ c.requires.table.made) refl)
    ∙ c.loop-k.invariant
