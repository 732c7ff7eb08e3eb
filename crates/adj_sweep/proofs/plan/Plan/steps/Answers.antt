use Rattle.std.proofs.Common.{◌∙◌}
use Rattle.std.specs.Prelude.{pos}
use Rattle.adj_tree.specs.Code.{plain, helper, minus, var, lit, bin, loop, unmarked, stop, step}
use Rattle.adj_tree.specs.View.{term_of, code_of}
use Rattle.adj_naming.specs.Roles.{role_of}
use Rattle.adj_sweep.specs.Plans.{naming_in}
use Rattle.adj_sweep.proofs.plan.Plan.steps.Goals as goal

pub returns : goal.returns
returns c =
    let r = naming_in c.args.self.now in
    let made = c.in_ok-turns.ensures in
    let h = c.of_depth.ensures in
    let g = c.of_depth-2.ensures in
    let first = c.in_ok-first.ensures.term ∙ (λ j. var (r (helper (role_of (h.role j)) (h.number j)))) in
    let limit = c.in_ok-limit.ensures.term ∙ (λ j. bin minus ((c.in_ok-left.ensures.term ∙ (λ k. var (r (helper (role_of (g.role k)) (g.number k))))) j) (lit (pos 1))) in
    record {
      steps = c.in_ok-code.ensures.step
          ∙ (λ i. step (made.line i) ((made.act ∙ (λ j. loop (plain (c.in_ok-turn.ensures.name j)) (first j) (limit j) (term_of (c.in_ok-step.ensures.boxed j)) (code_of c.args.body) unmarked)) i) stop);
    }
