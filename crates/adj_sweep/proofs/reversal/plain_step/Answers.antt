use Rattle.std.proofs.Common.{◌∙◌}
use Rattle.adj_tree.specs.Code.{call, stop, step}
use Rattle.adj_sweep.proofs.reversal.plain_step.Goals as goal

pub returns : goal.returns
returns c = record { call = c.in_ok-code.ensures.step ∙ (λ i. step c.args.line (call c.args.step.now.name.now (c.in_ok-given.ensures.named i)) stop) }
