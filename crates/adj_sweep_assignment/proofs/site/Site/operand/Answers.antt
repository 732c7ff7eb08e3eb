use Rattle.std.proofs.Common.{◌∙◌, ap}
use Rattle.adj_tree.specs.Code.{plain, none, assign}
use Rattle.adj_tree.specs.View.{term_of}
use Rattle.adj_sweep_assignment.specs.Sites.{naming_of}
use Rattle.adj_sweep_assignment.proofs.Onto.{own_pushed}
use Rattle.adj_sweep_assignment.proofs.site.Site.operand.Goals as goal

pub returns-clause-steps : goal.returns-clause-steps
returns-clause-steps c =
    λ t h rest.
    own_pushed (naming_of c.args.self.now) c.args.own c.args.self.now.line c.args.a.next t c.args.steps.now.items c.push.new.self.items c.scalar_assignment.result rest c.if-not-own.false c.in_ok-push.ensures.items c.scalar_assignment.ensures.line
    (c.scalar_assignment.ensures.act ∙ (λ i. assign (plain (c.in_ok-name.ensures.name i)) none ((ap term_of c.into_inner-value.ensures ∙ h) i)))
