use Rattle.std.proofs.Common.{◌∙◌}
use Rattle.std.specs.Prelude.{pos}
use Rattle.adj_tree.specs.Code.{plain, helper, minus, var, lit, neg, bin, loop, unmarked, step}
use Rattle.adj_tree.specs.View.{term_of, code_of}
use Rattle.adj_naming.specs.Roles.{role_of}
use Rattle.adj_sweep.specs.Plans.{naming_in}
use Rattle.adj_sweep.proofs.plan.Plan.turns_back.Goals as goal

pub returns : goal.returns
returns c =
    let r = naming_in c.args.self.now in
    let made = c.in_ok-turns.ensures in
    let h = c.of_depth.ensures in
    let from = c.in_ok-from.ensures.term ∙ (λ j. bin minus ((c.in_ok-count.ensures.term ∙ (λ k. var (r (helper (role_of (h.role k)) (h.number k))))) j) (lit (pos 1))) in
    let stride = (λ j. term_of (c.in_ok-stride.ensures.boxed j)) ∙ (λ j. neg (term_of (c.in_ok-back.ensures.boxed j))) in
    record {
      step = c.in_ok-code.ensures.step
          ∙ (λ i. step (made.line i) ((made.act ∙ (λ j. loop (plain (c.in_ok-turn.ensures.name j)) (from j) (term_of (c.in_ok-limit.ensures.boxed j)) (stride j) (code_of c.args.body) unmarked)) i) (code_of c.args.rest));
    }
