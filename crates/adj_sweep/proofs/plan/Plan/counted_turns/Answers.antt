use Rattle.std.proofs.Common.{◌∙◌}
use Rattle.adj_tree.specs.Code.{plain, helper, var, loop, unmarked, step}
use Rattle.adj_tree.specs.View.{code_of}
use Rattle.adj_naming.specs.Roles.{role_of}
use Rattle.adj_sweep.specs.Plans.{naming_in}
use Rattle.adj_sweep.proofs.plan.Plan.counted_turns.Goals as goal

pub returns : goal.returns
returns c =
    let r = naming_in c.args.self.now in
    let made = c.in_ok-turns.ensures in
    let h = c.of_depth.ensures in
    let g = c.of_depth-2.ensures in
    let first = c.in_ok-first.ensures.term ∙ (λ j. var (r (helper (role_of (h.role j)) (h.number j)))) in
    let stride = c.in_ok-stride.ensures.term ∙ (λ j. var (r (helper (role_of (g.role j)) (g.number j)))) in
    record {
      step = c.in_ok-code.ensures.step
          ∙ (λ i. step (made.line i) ((made.act ∙ (λ j. loop (plain (c.in_ok-variable.ensures.same j)) (first j) (c.in_ok-limit.ensures.equal j) (stride j) (c.in_ok-counted.ensures.counted j) unmarked)) i) (code_of c.args.rest));
    }
