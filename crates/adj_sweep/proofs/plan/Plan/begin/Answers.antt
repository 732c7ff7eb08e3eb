use Rattle.std.proofs.Common.{◌∙◌}
use Rattle.adj_tree.specs.Code.{helper, var, runtime, begin_reversal, step}
use Rattle.adj_tree.specs.View.{code_of}
use Rattle.adj_naming.specs.Roles.{role_of}
use Rattle.adj_sweep.specs.Plans.{naming_in}
use Rattle.adj_sweep.proofs.plan.Plan.begin.Goals as goal

pub returns : goal.returns
returns c =
    let r = naming_in c.args.self.now in
    let own = c.of_depth.ensures in
    let steps = c.in_ok-steps.ensures.term ∙ (λ j. var (r (helper (role_of (own.role j)) (own.number j)))) in
    record { call = c.in_ok-code.ensures.step ∙ (λ i. step c.args.at.line (runtime (begin_reversal (steps i) (c.in_ok-stored.ensures.slots i))) (code_of c.args.rest)) }
