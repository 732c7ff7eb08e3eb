use Rattle.std.proofs.Common.{refl}
use Rattle.adj_tree.specs.Code.{plain, shadow, runtime, zero_array}
use Rattle.adj_tree.specs.declared.stmt.Stmt.{Stmt}
use Rattle.adj_tree.specs.declared.stmt.Act.TheVariants.{Run}
use Rattle.adj_tree.specs.declared.stmt.RunCall.TheVariants.{Zero}
use Rattle.adj_sweep_assignment.proofs.Onto.{steps_pushed}
use Rattle.adj_tangent.specs.Plans.{naming_in}
use Rattle.adj_tangent.proofs.plan.Plan.clear_array.Goals as goal

pub returns : goal.returns
returns c = record {
  steps = λ rest.
      let r = naming_in c.args.self.now in
      let s : Stmt = record { line = c.args.line; act = Run (Zero c.in_ok-name.name) } in
      steps_pushed c.args.steps.now.items c.push.new.self.items s c.args.line (runtime (zero_array (r (shadow c.args.x.now)))) rest c.in_ok-push.ensures.items refl
      (λ i. runtime (zero_array (plain (c.in_ok-name.ensures.name i))));
}
