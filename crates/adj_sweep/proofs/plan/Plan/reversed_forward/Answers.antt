use Rattle.std.proofs.Common.{◌≡◌, ◌∙◌, suc, refl, ap}
use Rattle.std.specs.Prelude.{pos}
use Rattle.adj_tree.specs.Code.{plain, helper, first, stride, count, plus, var, lit, bin, none, assign, runtime, push_word, loop, unmarked, step, Code}
use Rattle.adj_tree.specs.Listed.{code_turned}
use Rattle.adj_tree.specs.View.{term_of, mark_of, code_of}
use Rattle.def_meaning.specs.Append.{◌+++◌, one}
use Rattle.def_meaning.specs.Rename.{rename}
use Rattle.def_meaning.proofs.Appends.{append_assoc}
use Rattle.def_sweep.specs.Marked.{code_if}
use Rattle.def_sweep.specs.ReversalCode.{reversed_forward}
use Rattle.adj_sweep_assignment.specs.View.{marks_of}
use Rattle.adj_sweep.specs.declared.actuals.Group.TheVariants as groups
use Rattle.adj_sweep.specs.Actuals.{is_in, chosen}
use Rattle.adj_sweep.specs.Plans.{naming_in, plan_of}
use Rattle.adj_sweep.specs.Steps.{save_of, keep_of, plain_of}
use Rattle.adj_sweep.specs.Swept.{in_order}
use Rattle.adj_sweep.proofs.Groups.{pushes_plain}
use Rattle.adj_sweep.proofs.Rows.{counted_named}
use Rattle.adj_sweep.proofs.Reversals.{kept_turned, forward_named}
use Rattle.adj_sweep.proofs.plan.Plan.reversed_forward.Goals as goal

pub returns : goal.returns
returns c =
    let r = naming_in c.args.self.now in
    let at = c.args.at in
    let d = at.depth in
    let line = at.line in
    let i = at.number in
    let b = c.args.bounds.now in
    let x = b.variable.now in
    let s = c.args.step.now in
    let m = marks_of c.args.self.now.marks.now in
    let called = code_of c.in_ok-call.call in
    let inner = code_if (m.kept (suc i)) (plain_of line s) in
    let body = code_turned called (one line (assign (r (helper count d)) none (bin plus (var (r (helper count d))) (lit (pos 1))))) in
    let turned : in_order called ≡ rename r inner = ap in_order c.in_ok-call.ensures.kept ∙ kept_turned r (λ y. refl) line s.name.now s.given.now (m.kept (suc i)) in
    let kept = code_of c.in_ok-kept.kept in
    let old = in_order (code_of c.args.turned) in
    let pushed = code_if (m.saved i (plain x)) (one line (runtime (push_word (plain x) none))) in
    let gone : code_of c.in_ok-gone.gone ≡ step line (loop (plain x) (var (r (helper first d))) (term_of b.limit.now) (var (r (helper stride d))) body unmarked) kept = c.in_ok-gone.ensures.step in
    record {
      forward = λ callees.
          let p = plan_of c.args.self.now callees in
          let turns : Code = rename r (reversed_forward d line (plain x) (term_of b.first.now) (term_of b.limit.now) (term_of b.step.now) (mark_of s.mark.now) (save_of p i line s) (keep_of p i line s) inner) in
          forward_named r (λ y. refl) d line x b.first.now b.limit.now b.step.now (mark_of s.mark.now) (save_of p i line s) (keep_of p i line s) body inner (code_of c.in_ok-begun.begun) (code_of c.in_ok-bound.bound) (code_of c.in_ok-told.told) (code_of c.in_ok-opened.opened) (code_of c.in_ok-saved.saved) kept (code_of c.in_ok-gone.gone) (code_of c.in_ok-pushed.pushed) (code_of c.in_ok-stored.stored) (code_of c.in_ok-code.code)
          (pushes_plain r (λ y. refl) p line (chosen (is_in (m.saved i) groups.Save) s.actuals.now)) (pushes_plain r (λ y. refl) p line (chosen (is_in (m.saved i) groups.Step) s.actuals.now))
          (counted_named r (λ y. refl) d line called inner turned)
          c.in_ok-bound.ensures.set c.in_ok-told.ensures.set c.in_ok-opened.ensures.set (c.in_ok-saved.ensures.pushed callees) (c.in_ok-kept.ensures.pushed callees) gone c.in_ok-pushed.ensures.pushed c.in_ok-stored.ensures.pushed c.in_ok-code.ensures.pushed
          ∙ ap (λ z. z +++ turns) c.in_ok-begun.ensures.pushed
          ∙ append_assoc old pushed turns;
    }
