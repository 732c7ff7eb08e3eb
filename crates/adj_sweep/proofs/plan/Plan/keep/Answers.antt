use Rattle.std.proofs.Common.{◌∙◌, refl, sym}
use Rattle.adj_sweep_assignment.specs.View.{marks_of}
use Rattle.adj_sweep.specs.declared.actuals.Group.TheVariants as groups
use Rattle.adj_sweep.specs.Actuals.{is_in, chosen}
use Rattle.adj_sweep.specs.Plans.{naming_in, plan_of}
use Rattle.adj_sweep.proofs.Groups.{pushes_plain}
use Rattle.adj_sweep.proofs.plan.Plan.keep.Goals as goal

pub returns : goal.returns
returns c =
    let xs = chosen (is_in ((marks_of c.args.self.now.marks.now).saved c.args.at.number) groups.Step) c.args.step.now.actuals.now in
    record {
      keep = λ callees. c.turned.ensures.turned ∙ c.in_ok-pushed.ensures.pushed callees ∙ sym (pushes_plain (naming_in c.args.self.now) (λ y. refl) (plan_of c.args.self.now callees) c.args.at.line xs);
    }
