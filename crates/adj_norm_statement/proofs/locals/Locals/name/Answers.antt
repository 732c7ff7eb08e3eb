use Rattle.std.proofs.Common.{◌<◌, ◌∙◌, length, ap, arith}
use Rattle.adj_tree.specs.Code.{plain}
use Rattle.adj_norm_statement.proofs.Made.{made_at}
use Rattle.adj_norm_statement.proofs.locals.Locals.name.Goals as goal

pub returns-clause-name : goal.returns-clause-name
returns-clause-name c =
    let l = c.loop-self.self in
    let within : c.args.number < length l.names.items = omega arith in
    ap plain (c.in_ok-name.ensures.same ∙ c.index.ensures) ∙ made_at l.taken l.names.items c.args.number c.index.result.now l.made within ∙ (λ i. (c.loop-self.invariant i) c.args.number)
