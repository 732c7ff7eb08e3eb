use Rattle.std.proofs.Common.{map, sym, ◌∙◌}
use Rattle.std.proofs.lemmas.List.{length-map}
use Rattle.adj_tree.specs.View.{extent_of}
use Rattle.adj_common.proofs.Walked.{length_differs}
use Rattle.adj_common.proofs.extents.same_extents.Goals as goal

pub returns-then-one-other : goal.returns-then-one-other
returns-then-one-other c =
    let one = c.args.one.now in
    let other = c.args.other.now in
    record { same = sym (length_differs (map extent_of one) (map extent_of other) (λ q. c.if-one-other.true (sym (length-map one extent_of) ∙ q ∙ length-map other extent_of))) }
