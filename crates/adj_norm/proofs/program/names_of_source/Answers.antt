use Rattle.std.proofs.Common.{◌∙◌, ◌+◌, [], map, drop, flat_map, ap, sym}
use Rattle.adj_tree.specs.View.{procedure_of}
use Rattle.def_kernel.specs.Kernel.{unit_name, names_of}
use Rattle.adj_sets.specs.Sets.{all_added}
use Rattle.adj_naming.proofs.Places.{from_here}
use Rattle.adj_norm.proofs.Adding.{added_both}
use Rattle.adj_norm.proofs.program.names_of_source.Goals as goal

pub loop-unit-init : goal.loop-unit-init
loop-unit-init c =
    let us = map procedure_of c.args.units.now in
    ap (λ z. all_added z (flat_map names_of us)) (c.in_ok-add_unit_names.ensures.added ∙ ap (λ z. all_added z (map unit_name us)) c.in_ok-names.ensures.empty) ∙ sym (added_both [] (map unit_name us) (flat_map names_of us))

pub loop-unit-preserved : goal.loop-unit-preserved
loop-unit-preserved c =
    let l = c.loop-unit in
    let items = c.args.units.now in
    let unit = c.unit-item.result in
    let others = flat_map names_of (map procedure_of (drop (l.unit-index + 1) items)) in
    ap (λ z. all_added z others) c.in_ok-add_unit.ensures.added ∙ sym (added_both l.names (names_of (procedure_of unit)) others)
    ∙ ap (λ z. all_added l.names (flat_map names_of (map procedure_of z))) (sym (from_here items l.unit-index unit c.loop-unit-test.true c.unit-item.is)) ∙ l.invariant
