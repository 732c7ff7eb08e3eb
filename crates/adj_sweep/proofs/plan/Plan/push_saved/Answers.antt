use Rattle.std.proofs.Common.{◌∙◌, sym}
use Rattle.adj_tree.specs.Code.{plain, runtime, push_word}
use Rattle.adj_tree.specs.View.{terms_of, code_of}
use Rattle.def_meaning.specs.Append.{one}
use Rattle.adj_sweep_assignment.specs.View.{marks_of}
use Rattle.adj_sweep.proofs.Turned.{written_behind}
use Rattle.adj_sweep.proofs.Emitted.{kept_behind_if, kept_behind_not}
use Rattle.adj_sweep.proofs.plan.Plan.push_saved.Goals as goal

pub returns-then-not-saved : goal.returns-then-not-saved
returns-then-not-saved c =
    let x = c.args.place.now in
    let saved = (marks_of c.args.self.now.marks.now).saved c.args.number (plain x.name) in
    record { pushed = kept_behind_not saved (one c.args.line (runtime (push_word (plain x.name) (terms_of x.subs)))) _ (sym c.saved.ensures.saved ∙ c.if-not-saved.true) }

pub returns : goal.returns
returns c =
    let x = c.args.place.now in
    let saved = (marks_of c.args.self.now.marks.now).saved c.args.number (plain x.name) in
    let copied = c.in_ok-copy.ensures in
    let act = runtime (push_word (plain x.name) (terms_of x.subs)) in
    record {
      pushed = kept_behind_if saved (one c.args.line act) _ _ (sym c.saved.ensures.saved ∙ c.if-not-saved.false)
          (written_behind (code_of c.args.turned) (code_of c.in_ok-code.code) c.push.result c.args.line act c.in_ok-code.ensures.step c.push.ensures.line (c.push.ensures.act ∙ (λ i. runtime (push_word (plain (copied.name i)) (copied.subscripts i)))));
    }
