use Rattle.std.proofs.Common.{◌∙◌, ap}
use Rattle.adj_tree.specs.Code.{compare, is_same, choose, step}
use Rattle.adj_tree.specs.View.{term_of, code_of}
use Rattle.adj_sweep.proofs.plan.Plan.if_own.Goals as goal

pub returns : goal.returns
returns c =
    let right = ap term_of c.in_ok-right.ensures.boxed ∙ c.literal.ensures.literal in
    record { step = c.in_ok-code.ensures.step ∙ (λ i. step c.args.line (choose (compare is_same (c.in_ok-left.ensures.term i) (right i)) (code_of c.args.first) (code_of c.args.second)) (code_of c.args.rest)) }
