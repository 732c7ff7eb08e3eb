use Rattle.std.proofs.Common.{◌∙◌, refl, sym, ap}
use Rattle.adj_tree.specs.Code.{plain, none, runtime, push_word, Code}
use Rattle.adj_tree.specs.View.{term_of, code_of}
use Rattle.def_meaning.specs.Append.{◌+++◌, one}
use Rattle.def_meaning.specs.Rename.{rename}
use Rattle.def_meaning.proofs.Appends.{append_assoc}
use Rattle.def_sweep.specs.Marked.{code_if}
use Rattle.def_sweep.specs.Rows.{loop_forward}
use Rattle.adj_sweep_assignment.specs.View.{marks_of}
use Rattle.adj_sweep.specs.Plans.{naming_in}
use Rattle.adj_sweep.specs.Swept.{in_order}
use Rattle.adj_sweep.proofs.Rows.{plain_turns_named}
use Rattle.adj_sweep.proofs.plan.Plan.do_forward.Goals as goal

pub returns-then-idle : goal.returns-then-idle
returns-then-idle c =
    let r = naming_in c.args.self.now in
    let at = c.args.at in
    let b = c.args.bounds.now in
    let old = in_order (code_of c.args.turned) in
    let t = in_order (code_of c.in_ok-pushed.pushed) in
    let m = marks_of c.args.self.now.marks.now in
    let pushed = code_if (m.saved at.number (plain b.variable.now)) (one at.line (runtime (push_word (plain b.variable.now) none))) in
    record {
      forward = λ inner h.
          let turns : Code = rename r (loop_forward c.args.idle at.depth at.line (plain b.variable.now) (term_of b.first.now) (term_of b.limit.now) (term_of b.step.now) inner) in
          c.in_ok-plain.ensures.forward
          ∙ ap (λ z. t +++ z) (plain_turns_named r (λ y. refl) at.line at.depth b.variable.now b.first.now b.limit.now b.step.now (in_order (code_of c.args.body)) inner h)
          ∙ ap (λ i. t +++ rename r (loop_forward i at.depth at.line (plain b.variable.now) (term_of b.first.now) (term_of b.limit.now) (term_of b.step.now) inner)) (sym c.if-idle.true)
          ∙ ap (λ z. z +++ turns) c.in_ok-pushed.ensures.pushed
          ∙ append_assoc old pushed turns;
    }

pub returns : goal.returns
returns c =
    let r = naming_in c.args.self.now in
    let at = c.args.at in
    let b = c.args.bounds.now in
    let old = in_order (code_of c.args.turned) in
    let t = in_order (code_of c.in_ok-pushed.pushed) in
    let m = marks_of c.args.self.now.marks.now in
    let pushed = code_if (m.saved at.number (plain b.variable.now)) (one at.line (runtime (push_word (plain b.variable.now) none))) in
    record {
      forward = λ inner h.
          let turns : Code = rename r (loop_forward c.args.idle at.depth at.line (plain b.variable.now) (term_of b.first.now) (term_of b.limit.now) (term_of b.step.now) inner) in
          c.in_ok-code.ensures.told inner h
          ∙ ap (λ i. t +++ rename r (loop_forward i at.depth at.line (plain b.variable.now) (term_of b.first.now) (term_of b.limit.now) (term_of b.step.now) inner)) (sym c.if-idle.false)
          ∙ ap (λ z. z +++ turns) c.in_ok-pushed.ensures.pushed
          ∙ append_assoc old pushed turns;
    }
