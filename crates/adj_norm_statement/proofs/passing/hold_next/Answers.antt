use Rattle.std.proofs.Common.{◌≡◌, ◌∙◌, ap}
use Rattle.adj_tree.specs.Code.{plain, var, more}
use Rattle.adj_tree.specs.View.{terms_of}
use Rattle.adj_norm_statement.specs.Locals.{local_by}
use Rattle.adj_norm_statement.proofs.passing.hold_next.Goals as goal

pub returns-clause-subs : goal.returns-clause-subs
returns-clause-subs c =
    let own = c.args.held.next in
    let name : plain c.in_ok-local.local ≡ local_by c.args.locals.now own = c.in_ok-local.ensures.name ∙ (λ k. (c.in_ok-next.ensures.locals k) own) in
    c.in_ok-turned.ensures.terms ∙ ap (λ z. more (var z) (terms_of c.args.held.turned)) name
