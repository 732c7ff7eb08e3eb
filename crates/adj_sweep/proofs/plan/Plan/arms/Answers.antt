use Rattle.std.proofs.Common.{◌≡◌, ◌∙◌, refl, sym, ap}
use Rattle.adj_tree.specs.Code.{plain, helper, first, stride, lower, plus, times, var, bin, none, assign, stop, step}
use Rattle.adj_tree.specs.View.{code_of}
use Rattle.def_meaning.specs.Append.{◌+++◌}
use Rattle.def_meaning.specs.Rename.{rename}
use Rattle.def_meaning.proofs.Appends.{append-stop}
use Rattle.def_meaning.proofs.RenamedLists.{rename-append}
use Rattle.def_sweep.specs.ReversalCode.{at_turn, advance, arm}
use Rattle.adj_sweep_assignment.specs.View.{marks_of}
use Rattle.adj_sweep.specs.declared.actuals.Group.TheVariants as groups
use Rattle.adj_sweep.specs.Actuals.{is_in, chosen}
use Rattle.adj_sweep.specs.Plans.{naming_in, plan_of}
use Rattle.adj_sweep.specs.Steps.{keep_of, back_of, plain_of, adjoint_of}
use Rattle.adj_sweep.proofs.Groups.{pops_plain}
use Rattle.adj_sweep.proofs.Turned.{joined}
use Rattle.adj_sweep.proofs.plan.Plan.arms.Goals as goal

pub returns : goal.returns
returns c =
    let r = naming_in c.args.self.now in
    let at = c.args.at in
    let line = at.line in
    let d = at.depth in
    let s = c.args.step.now in
    let x = plain c.args.variable.now in
    record {
      arms = λ callees.
          let p = plan_of c.args.self.now callees in
          let keep = keep_of p at.number line s in
          let back = back_of p at.number line s in
          let plainly : rename r back ≡ back = pops_plain r (λ y. refl) p line (chosen (is_in ((marks_of c.args.self.now.marks.now).saved at.number) groups.Step) s.actuals.now) in
          let a5 = arm line d 5 back in
          let a4 = arm line d 4 (back +++ keep) in
          let a3 = arm line d 3 (at_turn line d x lower (adjoint_of line s)) in
          let a2 = arm line d 2 (advance line d x (plain_of line s)) in
          let a1 = arm line d 1 keep in
          let dropped : code_of c.in_ok-dropped.dropped ≡ rename r back = c.in_ok-dropped.ensures.popped callees ∙ append-stop back ∙ sym plainly in
          let again : code_of c.in_ok-again.again ≡ rename r (back +++ keep) = c.in_ok-again.ensures.popped callees ∙ (λ j. sym plainly j +++ c.in_ok-pushed.ensures.keep callees j) ∙ sym (rename-append r back keep) in
          let turned : code_of c.in_ok-turned.turned ≡ rename r (at_turn line d x lower (adjoint_of line s)) =
          c.in_ok-turned.ensures.step ∙ ap (step line (assign x none (bin plus (var (r (helper first d))) (bin times (var (r (helper lower d))) (var (r (helper stride d))))))) c.in_ok-adjoint.ensures.call in
          let h5 = c.in_ok-drops.ensures.arm back dropped in
          let h4 = joined r a4 a5 (code_of c.in_ok-keeps.keeps) (code_of c.in_ok-drops.drops) stop (c.in_ok-keeps.ensures.arm (back +++ keep) again) h5 in
          let h3 = joined r a3 (a4 +++ a5) (code_of c.in_ok-turns.turns) (code_of c.in_ok-keeps.keeps) stop (c.in_ok-turns.ensures.arm (at_turn line d x lower (adjoint_of line s)) turned) h4 in
          let h2 = joined r a2 (a3 +++ (a4 +++ a5)) (code_of c.in_ok-advances.advances) (code_of c.in_ok-turns.turns) stop (c.in_ok-advances.ensures.arm (advance line d x (plain_of line s)) c.in_ok-advanced.ensures.advance) h3 in
          joined r a1 (a2 +++ (a3 +++ (a4 +++ a5))) (code_of c.in_ok-code.code) (code_of c.in_ok-advances.advances) stop (c.in_ok-code.ensures.arm keep (c.in_ok-stored.ensures.keep callees)) h2
          ∙ append-stop (rename r (a1 +++ (a2 +++ (a3 +++ (a4 +++ a5)))));
    }
