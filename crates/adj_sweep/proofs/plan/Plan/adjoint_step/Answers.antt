use Rattle.std.proofs.Common.{◌∙◌}
use Rattle.adj_tree.specs.Code.{call, stop, step}
use Rattle.adj_sweep.proofs.plan.Plan.adjoint_step.Goals as goal

pub returns : goal.returns
returns c = record { call = c.in_ok-code.ensures.step ∙ (λ i. step c.args.line (call c.args.step.now.adjoint.now (c.in_ok-given.ensures.actuals i)) stop) }
