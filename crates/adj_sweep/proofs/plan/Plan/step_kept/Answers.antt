use Rattle.std.proofs.Common.{◌∙◌, sym, ap}
use Rattle.adj_sweep_assignment.specs.View.{marks_of}
use Rattle.adj_sweep.specs.Steps.{plain_of}
use Rattle.adj_sweep.proofs.Acts.{if_true, if_false}
use Rattle.adj_sweep.proofs.plan.Plan.step_kept.Goals as goal

pub returns-then-not-kept : goal.returns-then-not-kept
returns-then-not-kept c =
    let m = marks_of c.args.self.now.marks.now in
    record { kept = sym (if_false _ (plain_of c.args.at.line c.args.step.now) (ap m.kept (sym c.in_ok-call.ensures.next) ∙ sym c.kept.ensures.kept ∙ c.if-not-kept.true)) }

pub returns : goal.returns
returns c =
    let m = marks_of c.args.self.now.marks.now in
    record { kept = c.in_ok-code.ensures.call ∙ sym (if_true _ (plain_of c.args.at.line c.args.step.now) (ap m.kept (sym c.in_ok-call.ensures.next) ∙ sym c.kept.ensures.kept ∙ c.if-not-kept.false)) }
