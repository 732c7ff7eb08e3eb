use Rattle.std.proofs.Common.{◌+◌, length, map, drop, sym, ap, ◌∙◌}
use Rattle.std.specs.Prelude.{◌==◌}
use Rattle.std.proofs.lemmas.Bool.{false≢true}
use Rattle.std.proofs.lemmas.List.{length-map}
use Rattle.adj_tree.specs.CommonView.{common_of, shared_of}
use Rattle.def_common.specs.Blocks.{all_blocks}
use Rattle.adj_naming.proofs.Places.{from_here}
use Rattle.adj_common.proofs.Empty.{some_here}
use Rattle.adj_common.proofs.top.has_none.Goals as goal

pub returns-then-not-is_empty : goal.returns-then-not-is_empty
returns-then-not-is_empty c =
    let us = c.args.units.now in
    let i = c.loop-shared.shared-index in
    let s = shared_of c.shared-item.result in
    let rest = all_blocks (map shared_of (drop (i + 1) us)) in
    let here = ap (λ l. all_blocks (map shared_of l)) (sym (from_here us i c.shared-item.result c.loop-shared-test.true c.shared-item.is)) ∙ c.loop-shared.invariant in
    let count = length-map c.shared-item.result.commons common_of ∙ ap length (sym c.as_slice.ensures.members) in
    let some = ap (λ n. n == 0) count ∙ sym c.is_empty.ensures ∙ c.if-not-is_empty.true in
    record { none = (λ h. absurd (false≢true h), λ h. absurd (some_here s.commons rest some (here ∙ h))) }
