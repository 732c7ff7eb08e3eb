use Rattle.std.proofs.Common.{◌∙◌, sym}
use Rattle.adj_tree.specs.Code.{call}
use Rattle.adj_tree.specs.View.{terms_of, code_of}
use Rattle.def_meaning.specs.Append.{one}
use Rattle.adj_sweep_assignment.specs.View.{marks_of}
use Rattle.adj_sweep.specs.Swept.{in_order}
use Rattle.adj_sweep.proofs.Turned.{put_behind}
use Rattle.adj_sweep.proofs.Emitted.{kept_behind_if, kept_behind_not}
use Rattle.adj_sweep.proofs.plan.Plan.call_kept.Goals as goal

pub returns-then-not-kept : goal.returns-then-not-kept
returns-then-not-kept c =
    let m = marks_of c.args.self.now.marks.now in
    record { kept = kept_behind_not (m.kept c.args.number) (one c.args.line (call c.args.name.now (terms_of c.args.actuals.now))) (in_order (code_of c.args.turned)) (sym c.kept.ensures.kept ∙ c.if-not-kept.true) }

pub returns : goal.returns
returns c =
    let m = marks_of c.args.self.now.marks.now in
    let act = call c.args.name.now (terms_of c.args.actuals.now) in
    record {
      kept = kept_behind_if (m.kept c.args.number) (one c.args.line act) (in_order (code_of c.args.turned)) (in_order (code_of c.in_ok-code.code)) (sym c.kept.ensures.kept ∙ c.if-not-kept.false)
          (put_behind (code_of c.args.turned) (code_of c.in_ok-code.code) c.args.line _ act c.in_ok-code.ensures.step (λ i. call c.args.name.now (c.in_ok-given.ensures.equal i)));
    }
