use Rattle.std.proofs.Common.{◌∙◌, sym}
use Rattle.adj_tree.specs.View.{code_of}
use Rattle.def_sweep.specs.Rows.{pushes}
use Rattle.adj_sweep_assignment.specs.View.{marks_of}
use Rattle.adj_sweep.specs.declared.actuals.Group.TheVariants.{Snapshot}
use Rattle.adj_sweep.specs.Actuals.{is_in, chosen}
use Rattle.adj_sweep.specs.Plans.{plan_of}
use Rattle.adj_sweep.specs.Swept.{in_order}
use Rattle.adj_sweep.proofs.Emitted.{kept_behind_if, kept_behind_not}
use Rattle.adj_sweep.proofs.plan.Plan.push_snapshot.Goals as goal

pub returns-then-not-adjointed : goal.returns-then-not-adjointed
returns-then-not-adjointed c =
    let m = marks_of c.args.self.now.marks.now in
    record {
      pushed = λ callees. kept_behind_not (m.adjointed c.args.number) (pushes (plan_of c.args.self.now callees) c.args.line (chosen (is_in (m.saved c.args.number) Snapshot) c.args.actuals.now)) (in_order (code_of c.args.turned)) (sym c.adjointed.ensures.adjointed ∙ c.if-not-adjointed.true);
    }

pub returns : goal.returns
returns c =
    let m = marks_of c.args.self.now.marks.now in
    record {
      pushed = λ callees. kept_behind_if (m.adjointed c.args.number) (pushes (plan_of c.args.self.now callees) c.args.line (chosen (is_in (m.saved c.args.number) Snapshot) c.args.actuals.now)) (in_order (code_of c.args.turned)) (in_order (code_of c.in_ok-code.code)) (sym c.adjointed.ensures.adjointed ∙ c.if-not-adjointed.false) (c.in_ok-code.ensures.pushed callees);
    }
