use Rattle.std.proofs.Common.{◌∙◌, ap}
use Rattle.std.specs.Prelude.{pos}
use Rattle.adj_tree.specs.Code.{helper, plus, var, lit, bin, none, assign, step, stop}
use Rattle.adj_tree.specs.Listed.{code_turned}
use Rattle.adj_tree.specs.View.{code_of}
use Rattle.adj_naming.specs.Roles.{role_of}
use Rattle.adj_sweep.specs.Plans.{naming_in}
use Rattle.adj_sweep.proofs.plan.Plan.counted.Goals as goal

pub returns : goal.returns
returns c =
    let r = naming_in c.args.self.now in
    let at = c.args.at in
    let h = c.of_depth-count.ensures in
    record {
      counted = c.turned.ensures.turned
          ∙ ap (λ z. code_turned z stop)
          (c.in_ok-code.ensures.step
          ∙ (λ i. step at.line (assign (r (helper (role_of (h.role i)) (h.number i))) none ((c.in_ok-more.ensures.term ∙ (λ j. bin plus ((c.in_ok-old.ensures.term ∙ (λ k. var (r (helper (role_of (h.role k)) (h.number k))))) j) (lit (pos 1)))) i)) (code_of c.args.body)));
    }
