use Rattle.std.proofs.Common.{◌∙◌}
use Rattle.adj_tree.specs.Code.{call, step}
use Rattle.adj_tree.specs.View.{terms_of, code_of}
use Rattle.adj_sweep.proofs.actuals.call_before.Goals as goal

pub returns : goal.returns
returns c = record { step = c.in_ok-code.ensures.step ∙ (λ i. step c.args.line (call (c.in_ok-copy.ensures.same i) (terms_of c.args.actuals)) (code_of c.args.rest)) }
