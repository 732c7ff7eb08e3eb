use Rattle.std.proofs.Common.{◌∙◌}
use Rattle.std.specs.Prelude.{pos}
use Rattle.adj_tree.specs.Code.{plain, shadow, none, lit, assign}
use Rattle.adj_sweep_assignment.proofs.Onto.{steps_pushed}
use Rattle.adj_tangent.specs.Plans.{naming_in}
use Rattle.adj_tangent.proofs.plan.Plan.clear_scalar.Goals as goal

pub returns : goal.returns
returns c = record {
  steps = λ rest.
      let r = naming_in c.args.self.now in
      steps_pushed c.args.steps.now.items c.push.new.self.items c.scalar_assignment.result c.args.line (assign (r (shadow c.args.x.now)) none (lit (pos 0))) rest c.in_ok-push.ensures.items c.scalar_assignment.ensures.line
      (c.scalar_assignment.ensures.act ∙ (λ i. assign (plain (c.in_ok-name.ensures.name i)) none (lit (pos 0))));
}
