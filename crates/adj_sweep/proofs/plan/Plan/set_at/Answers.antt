use Rattle.std.proofs.Common.{◌∙◌}
use Rattle.adj_tree.specs.Code.{plain, none, assign, step}
use Rattle.adj_tree.specs.View.{code_of}
use Rattle.adj_sweep.proofs.plan.Plan.set_at.Goals as goal

pub returns : goal.returns
returns c =
    record {
      step = c.in_ok-code.ensures.step ∙ (λ i. step c.args.at.line (assign (plain (c.in_ok-copy.ensures.same i)) none (c.in_ok-value.ensures.value i)) (code_of c.args.rest));
    }
