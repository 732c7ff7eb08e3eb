use Rattle.std.proofs.Common.{◌≡◌, ◌∙◌, suc, refl, sym, ap, subst}
use Rattle.adj_tree.specs.Code.{plain, none, runtime, push_word, pop_word}
use Rattle.adj_tree.specs.View.{term_of, terms_of, mark_of, code_of}
use Rattle.def_meaning.specs.Append.{◌+++◌, one}
use Rattle.def_meaning.specs.Rename.{rename}
use Rattle.def_sweep.specs.Marked.{code_if}
use Rattle.def_sweep.specs.Plan as sweeps
use Rattle.def_sweep.specs.Plan.{names_of}
use Rattle.def_sweep.specs.Rows.{reset}
use Rattle.def_sweep.specs.ReversalCode.{reversed_forward, reversed_backward}
use Rattle.adj_sweep_assignment.specs.View.{marks_of}
use Rattle.adj_sweep.specs.Callees.{Knows}
use Rattle.adj_sweep.specs.Actuals.{paired}
use Rattle.adj_sweep.specs.Plans.{naming_in, plan_of, schedules_of}
use Rattle.adj_sweep.specs.Steps.{save_of, unsave_of, keep_of, back_of, plain_of, adjoint_of}
use Rattle.adj_sweep.specs.Swept.{in_order}
use Rattle.adj_sweep.proofs.Acts.{reversed_skipped, reversed_written}
use Rattle.adj_sweep.proofs.Reversals.{IsStep, forward_is, backward_is}
use Rattle.adj_sweep.proofs.plan.Plan.reversed_loop.Goals as goal

pub returns-then-not-emitted : goal.returns-then-not-emitted
returns-then-not-emitted c =
    let b = c.args.bounds.now in
    record {
      sweeps = λ callees reads d body m know is e.
          reversed_skipped (schedules_of c.args.self.now reads) (naming_in c.args.self.now) (λ x. refl) (plan_of c.args.self.now callees) d c.args.line b.variable.now (term_of b.first.now) (term_of b.limit.now) (term_of b.step.now) body m _ c.args.sweeps _ (sym is)
          (sym c.emitted.ensures.emitted ∙ c.if-not-emitted.true) (c.in_ok-number.ensures.next ∙ ap suc c.in_ok-called.ensures.next) refl refl;
    }

pub returns : goal.returns
returns c =
    let r = naming_in c.args.self.now in
    let b = c.args.bounds.now in
    let x = b.variable.now in
    let ta = term_of b.first.now in
    let tb = term_of b.limit.now in
    let tc = term_of b.step.now in
    let line = c.args.line in
    let old = c.args.sweeps in
    let i = old.number in
    let marks = marks_of c.args.self.now.marks.now in
    let call = c.args.call.now in
    let name = call.name.now in
    let given = names_of (terms_of call.actuals.now) in
    let k = c.find-callee.result.now in
    let s = c.step_with-step.result in
    let made = c.step_with-step.ensures in
    let pushed = code_if (marks.saved i (plain x)) (one line (runtime (push_word (plain x) none))) in
    let popped = code_if (marks.saved i (plain x)) (one line (runtime (pop_word (plain x) none))) in
    let behind = popped +++ (rename r (reset marks i line x) +++ code_of old.backward) in
    let named : c.as_slice-given.result.now ≡ given = c.as_slice-given.ensures.value ∙ c.in_ok-names.ensures.names in
    record {
      sweeps = λ callees reads d body m know is e.
          let p = plan_of c.args.self.now callees in
          let t : sweeps.Step = record { name = name; given = given; read = reads name; mark = mark_of call.mark.now } in
          let h : IsStep p (reads name) s k t = record {
            name = made.name;
            given = made.given ∙ named;
            actuals = made.actuals ∙ c.as_slice-actuals.ensures.value ∙ c.in_ok-made.ensures.paired ∙ (λ j. paired (c.as_slice-dummies.ensures.value j) (named j));
            adjoint = made.adjoint;
            mark = made.mark;
            read_is = refl;
            knows = subst (λ z. Knows z (callees name) (reads name)) (sym c.find-callee.ensures.found) (know name);
          } in
          reversed_written (schedules_of c.args.self.now reads) r (λ y. refl) p d line x ta tb tc body m t old _ (sym is)
          (sym c.emitted.ensures.emitted ∙ c.if-not-emitted.false) (c.in_ok-number.ensures.next ∙ ap suc c.in_ok-called.ensures.next)
          (c.in_ok-forward.ensures.forward callees
          ∙ ap (λ z. in_order (code_of old.forward) +++ (pushed +++ rename r z))
          (ap (λ n. reversed_forward n line (plain x) ta tb tc (mark_of s.mark.now) (save_of p i line s) (keep_of p i line s) (code_if (marks.kept (suc i)) (plain_of line s))) e
          ∙ forward_is p i d line x (reads name) s k t h ta tb tc))
          (c.in_ok-backward.ensures.backward callees
          ∙ ap (λ z. rename r z +++ behind)
          (ap (λ n. reversed_backward n line (plain x) (mark_of s.mark.now) (keep_of p i line s) (back_of p i line s) (unsave_of p i line s) (plain_of line s) (adjoint_of line s)) e
          ∙ backward_is p i d line x (reads name) s k t h));
    }
