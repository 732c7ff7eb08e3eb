use Rattle.std.proofs.Common.{◌≡◌, ◌∙◌, suc, arith}
use Rattle.adj_norm_statement.proofs.expression.next_two.Goals as goal

pub returns-clause-second : goal.returns-clause-second
returns-clause-second c =
    let one_more : c.in_ok-next.next ≡ suc c.args.number = omega arith in
    c.in_ok-second.ensures.name ∙ (λ k. (c.in_ok-first.ensures.same k) (one_more k))
