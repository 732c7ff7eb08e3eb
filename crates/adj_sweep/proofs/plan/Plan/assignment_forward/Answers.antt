use Rattle.std.proofs.Common.{◌∙◌, sym, ap}
use Rattle.adj_tree.specs.Code.{plain, assign, runtime, push_word}
use Rattle.adj_tree.specs.View.{term_of, terms_of, code_of}
use Rattle.def_meaning.specs.Append.{◌+++◌, one}
use Rattle.def_meaning.proofs.Appends.{append_assoc}
use Rattle.def_sweep.specs.Marked.{code_if}
use Rattle.adj_sweep_assignment.specs.View.{marks_of}
use Rattle.adj_sweep.specs.Swept.{in_order}
use Rattle.adj_sweep.proofs.Turned.{put_behind}
use Rattle.adj_sweep.proofs.Emitted.{kept_behind_if, kept_behind_not}
use Rattle.adj_sweep.proofs.plan.Plan.assignment_forward.Goals as goal

pub returns-then-not-kept : goal.returns-then-not-kept
returns-then-not-kept c =
    let m = marks_of c.args.self.now.marks.now in
    let x = c.args.place.now in
    let pushed = code_if (m.saved c.args.number (plain x.name)) (one c.args.line (runtime (push_word (plain x.name) (terms_of x.subs)))) in
    let assigned = one c.args.line (assign (plain x.name) (terms_of x.subs) (term_of c.args.e.now)) in
    record { forward = kept_behind_not (m.kept c.args.number) (pushed +++ assigned) (in_order (code_of c.args.turned)) (sym c.kept.ensures.kept ∙ c.if-not-kept.true) }

pub returns : goal.returns
returns c =
    let m = marks_of c.args.self.now.marks.now in
    let x = c.args.place.now in
    let line = c.args.line in
    let old = in_order (code_of c.args.turned) in
    let pushed = code_if (m.saved c.args.number (plain x.name)) (one line (runtime (push_word (plain x.name) (terms_of x.subs)))) in
    let act = assign (plain x.name) (terms_of x.subs) (term_of c.args.e.now) in
    let copied = c.in_ok-target.ensures in
    let same = c.in_ok-value.ensures in
    record {
      forward = kept_behind_if (m.kept c.args.number) (pushed +++ one line act) old (in_order (code_of c.in_ok-code.code)) (sym c.kept.ensures.kept ∙ c.if-not-kept.false)
          (put_behind (code_of c.in_ok-pushed.pushed) (code_of c.in_ok-code.code) line _ act c.in_ok-code.ensures.step (λ i. assign (plain (copied.name i)) (copied.subscripts i) (same.equal i))
          ∙ ap (λ z. z +++ one line act) c.in_ok-pushed.ensures.pushed ∙ append_assoc old pushed (one line act));
    }
