use Rattle.std.proofs.Common.{◌++◌, ◌∷◌, [], ◌∙◌}
use Rattle.adj_tbr.proofs.held.add_way.Goals as goal

pub returns : goal.returns
returns c =
    let from = c.number-from.ensures.number in
    let to = c.number-to.ensures.number in
    let left = c.replaced-left.ensures.replaced in
    record { added = c.in_ok-push.ensures.items ∙ (λ i. c.args.arcs.now.items ++ record { from = from i; to = to i; kept = c.args.part.now.number; left = left i } ∷ []) }
