use Rattle.std.proofs.Common.{◌++◌, ◌∷◌, [], ◌∙◌}
use Rattle.adj_activity.proofs.along.add_arc.Goals as goal

pub returns : goal.returns
returns c =
    let from = c.number-from.ensures.number in
    let to = c.number-to.ensures.number in
    let left = c.assigned_place-left.ensures in
    record { added = c.in_ok-push.ensures.items ∙ (λ i. c.args.arcs.now.items ++ record { from = from i; to = to i; kept = c.args.part.now.number; left = left i } ∷ []) }
