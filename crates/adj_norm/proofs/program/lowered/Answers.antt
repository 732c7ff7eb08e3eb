use Rattle.std.proofs.Common.{◌≡◌, ◌∙◌, ◌+◌, ◌++◌, ◌∷◌, [], map, take, ap, sym}
use Rattle.std.proofs.lemmas.List.{take_more, map_push}
use Rattle.adj_tree.specs.View.{procedure_of}
use Rattle.def_names.specs.Reserved.{reserved}
use Rattle.def_kernel.specs.Kernel.{lowered_unit}
use Rattle.adj_sets.specs.Sets.{all_added}
use Rattle.adj_norm.proofs.program.lowered.Goals as goal

pub loop-unit-preserved : goal.loop-unit-preserved
loop-unit-preserved c =
    let l = c.loop-unit in
    let items = c.args.units.now in
    let units = map procedure_of items in
    let i = l.unit-index in
    let unit = c.unit-item.result in
    let now : map procedure_of (take (i + 1) items) ≡ map procedure_of (take i items) ++ procedure_of unit ∷ [] =
    ap (map procedure_of) (take_more items i unit c.loop-unit-test.true ∙ ap (λ z. take i items ++ z ∷ []) (sym c.unit-item.is)) ∙ map_push procedure_of (take i items) unit in
    let shared = c.in_ok-shared.ensures.names ∙ ap (λ z. all_added [] (z ++ reserved)) (c.as_slice.ensures.value ∙ c.in_ok-names.ensures.names) in
    let whole = c.in_ok-lower_unit.ensures.unit units shared c.in_ok-table.ensures.handed in
    ap (map procedure_of) c.in_ok-push.ensures.items ∙ map_push procedure_of l.made.items _ ∙ (λ j. l.invariant j ++ whole j ∷ [])
    ∙ sym (map_push (lowered_unit units) (map procedure_of (take i items)) (procedure_of unit)) ∙ ap (map (lowered_unit units)) (sym now)
