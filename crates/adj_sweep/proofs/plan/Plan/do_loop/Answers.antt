use Rattle.std.proofs.Common.{◌∙◌, refl, sym, ap}
use Rattle.adj_tree.specs.Code.{plain, none, runtime, push_word, pop_word}
use Rattle.adj_tree.specs.View.{term_of, code_of}
use Rattle.def_meaning.specs.Append.{◌+++◌, one}
use Rattle.def_meaning.specs.Rename.{rename}
use Rattle.def_sweep.specs.Marked.{code_if}
use Rattle.def_sweep.specs.Rows.{loop_forward, loop_backward, reset}
use Rattle.adj_sweep_assignment.specs.View.{marks_of}
use Rattle.adj_sweep.specs.Plans.{naming_in, plan_of}
use Rattle.adj_sweep.specs.Swept.{in_order}
use Rattle.adj_sweep.proofs.Acts.{loop_skipped, loop_written}
use Rattle.adj_sweep.proofs.plan.Plan.do_loop.Goals as goal

pub returns-then-not-emitted : goal.returns-then-not-emitted
returns-then-not-emitted c =
    let b = c.args.bounds.now in
    record {
      sweeps = λ sc callees d body m others e h.
          loop_skipped sc (naming_in c.args.self.now) (λ x. refl) (plan_of c.args.self.now callees) d c.args.line b.variable.now (term_of b.first.now) (term_of b.limit.now) (term_of b.step.now) body m c.args.sweeps c.args.inner _ others h
          (sym c.emitted.ensures.emitted ∙ c.if-not-emitted.true) refl refl refl;
    }

pub returns : goal.returns
returns c =
    let r = naming_in c.args.self.now in
    let b = c.args.bounds.now in
    let x = b.variable.now in
    let line = c.args.line in
    let old = c.args.sweeps in
    let idle = c.is_idle-idle.result in
    let marks = marks_of c.args.self.now.marks.now in
    let pushed = code_if (marks.saved old.number (plain x)) (one line (runtime (push_word (plain x) none))) in
    let popped = code_if (marks.saved old.number (plain x)) (one line (runtime (pop_word (plain x) none))) in
    let behind = popped +++ (rename r (reset marks old.number line x) +++ code_of old.backward) in
    record {
      sweeps = λ sc callees d body m others e h.
          loop_written sc r (λ y. refl) (plan_of c.args.self.now callees) d line x (term_of b.first.now) (term_of b.limit.now) (term_of b.step.now) body m old c.args.inner _ others h
          idle (sym c.emitted.ensures.emitted ∙ c.if-not-emitted.false) c.is_idle-idle.ensures.idle refl
          (λ z q. c.in_ok-forward.ensures.forward z q ∙ ap (λ k. in_order (code_of old.forward) +++ (pushed +++ rename r (loop_forward idle k line (plain x) (term_of b.first.now) (term_of b.limit.now) (term_of b.step.now) z))) e)
          (λ z q. c.in_ok-backward.ensures.backward z q ∙ ap (λ k. rename r (loop_backward idle k line (plain x) z) +++ behind) e);
    }
