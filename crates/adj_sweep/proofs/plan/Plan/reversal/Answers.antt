use Rattle.std.proofs.Common.{◌∙◌, ap}
use Rattle.std.specs.Prelude.{pos}
use Rattle.adj_tree.specs.Code.{Code, plain, helper, count, entry, entries, var, lit, loop, unmarked, runtime, begin_reversal, count_actions, step}
use Rattle.adj_tree.specs.View.{mark_of}
use Rattle.def_meaning.specs.Rename.{rename_term, rename}
use Rattle.def_sweep.specs.ReversalCode.{slots_of, one_action}
use Rattle.adj_sweep.specs.Plans.{naming_in, plan_of}
use Rattle.adj_sweep.specs.Steps.{keep_of, back_of, plain_of, adjoint_of}
use Rattle.adj_sweep.proofs.plan.Plan.reversal.Goals as goal

pub returns : goal.returns
returns c =
    let r = naming_in c.args.self.now in
    let line = c.args.at.line in
    let d = c.args.at.depth in
    let n = c.args.at.number in
    let s = c.args.step.now in
    let slots = slots_of d (mark_of s.mark.now) in
    let begun = runtime (begin_reversal (var (r (helper count d))) (rename_term r slots)) in
    let counted = runtime (count_actions (var (r (helper count d))) (rename_term r slots) (r (helper entries d))) in
    record {
      reversal = λ callees.
          let p = plan_of c.args.self.now callees in
          let acts = loop (r (helper entry d)) (lit (pos 1)) (var (r (helper entries d))) (lit (pos 1)) (rename r (one_action line d (plain c.args.variable.now) slots (keep_of p n line s) (back_of p n line s) (plain_of line s) (adjoint_of line s))) unmarked in
          c.in_ok-code.ensures.call
          ∙ ap (λ (z : Code). step line begun z) (c.in_ok-counted.ensures.call
          ∙ ap (λ (z : Code). step line counted z) (c.in_ok-gone.ensures.actions callees
          ∙ ap (λ (z : Code). step line acts z) c.in_ok-ended.ensures.step));
    }
