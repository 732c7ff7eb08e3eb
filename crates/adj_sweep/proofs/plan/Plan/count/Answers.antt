use Rattle.std.proofs.Common.{◌∙◌}
use Rattle.adj_tree.specs.Code.{plain, helper, var, runtime, count_actions, step}
use Rattle.adj_tree.specs.View.{code_of}
use Rattle.adj_naming.specs.Roles.{role_of}
use Rattle.adj_sweep.specs.Plans.{naming_in}
use Rattle.adj_sweep.proofs.plan.Plan.count.Goals as goal

pub returns : goal.returns
returns c =
    let r = naming_in c.args.self.now in
    let own = c.of_depth.ensures in
    let steps = c.in_ok-steps.ensures.term ∙ (λ j. var (r (helper (role_of (own.role j)) (own.number j)))) in
    record { call = c.in_ok-code.ensures.step ∙ (λ i. step c.args.at.line (runtime (count_actions (steps i) (c.in_ok-stored.ensures.slots i) (plain (c.in_ok-made.ensures.name i)))) (code_of c.args.rest)) }
