use Rattle.std.proofs.Common.{◌≡◌, ◌<◌, ◌+◌, length, sym, ◌∙◌, arith}
use Rattle.adj_tree.specs.View.{procedure_of, procedures_of}
use Rattle.def_sweep.specs.MarkedAdjoint.{shadow_flags}
use Rattle.adj_weave.specs.Marked.{unit_marks}
use Rattle.adj_weave_units.proofs.Facts.{units_apart}
use Rattle.adj_weave.proofs.Known.{has_fewer, knows_has, over_knows}
use Rattle.adj_weave_units.proofs.Standing.{unit_there}
use Rattle.adj_weave_units.proofs.Places.{at_one}
use Rattle.adj_weave.proofs.Headed.{at_slice, head_shadows}
use Rattle.adj_weave.proofs.head.head_adjoint.Goals as goal

pub of_unit-marking-requires : goal.of_unit-marking-requires
of_unit-marking-requires c =
    let us = c.args.checked.now.program.units in
    let k = c.args.head.now.unit in
    let lt : k < length us = c.requires.head in
    record { unit = has_fewer c.args.marked (length us) (k + 1) (knows_has c.args.marked us (over_knows c.args.marked (procedures_of c.args.checked.now.program) k c.requires.flow)) (omega (arith, lt)) }

pub returns-clause-shadowed : goal.returns-clause-shadowed
returns-clause-shadowed c = λ u h.
    let known = c.args.checked.now in
    let ps = procedures_of known.program in
    let k = c.args.head.now.unit in
    let v = c.index-units-number.result in
    let stands = unit_there c.units_of-units.result.now known.program.units c.units_of-units.ensures.units k c.requires.head v c.index-units-number.is in
    let at = at_slice ps k u h in
    let is : procedure_of v ≡ u = at_one ps k (procedure_of v) u stands at in
    let apart = units_apart known c.units_of-units.ensures.facts in
    c.new.ensures.members ∙ c.in_ok-flags.ensures.flags
    ∙ (λ i. shadow_flags (c.of_unit-marking.ensures.marks i).shadowed (c.as_slice.ensures.members i))
    ∙ (λ i. shadow_flags (unit_marks c.args.marked k).shadowed (sym c.index-units-number.is i).dummies)
    ∙ (λ i. shadow_flags (head_shadows c.args.marked ps k u c.requires.flow apart at i) (is i).dummies)
