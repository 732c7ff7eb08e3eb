use Rattle.std.proofs.Common.{◌∙◌}
use Rattle.adj_tree.specs.Code.{during, step}
use Rattle.adj_tree.specs.View.{code_of}
use Rattle.adj_sweep.proofs.repeats.while_before.Goals as goal

pub returns : goal.returns
returns c = record { step = c.in_ok-code.ensures.step ∙ (λ i. step c.args.line (during (c.in_ok-copy.ensures.equal i) (code_of c.args.body)) (code_of c.args.rest)) }
