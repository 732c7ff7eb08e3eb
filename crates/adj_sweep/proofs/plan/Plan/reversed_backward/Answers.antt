use Rattle.std.proofs.Common.{◌∙◌, refl, sym, ap}
use Rattle.adj_tree.specs.Code.{plain, helper, none, runtime, pop_word, step, Code}
use Rattle.adj_tree.specs.View.{mark_of, code_of}
use Rattle.def_meaning.specs.Append.{◌+++◌}
use Rattle.def_meaning.specs.Rename.{rename}
use Rattle.def_sweep.specs.ReversalCode.{reversed_backward}
use Rattle.adj_naming.specs.Roles.{role_of}
use Rattle.adj_sweep_assignment.specs.View.{marks_of}
use Rattle.adj_sweep.specs.declared.actuals.Group.TheVariants as groups
use Rattle.adj_sweep.specs.Actuals.{is_in, chosen}
use Rattle.adj_sweep.specs.Plans.{naming_in, plan_of}
use Rattle.adj_sweep.specs.Steps.{unsave_of, keep_of, back_of, plain_of, adjoint_of}
use Rattle.adj_sweep.proofs.Groups.{pops_plain}
use Rattle.adj_sweep.proofs.Reversals.{backward_named}
use Rattle.adj_sweep.proofs.plan.Plan.reversed_backward.Goals as goal

pub returns : goal.returns
returns c =
    let r = naming_in c.args.self.now in
    let at = c.args.at in
    let d = at.depth in
    let line = at.line in
    let i = at.number in
    let s = c.args.step.now in
    let m = marks_of c.args.self.now.marks.now in
    let rest = code_of c.in_ok-popped.popped in
    let again = code_of c.in_ok-back.back in
    let stored = code_of c.in_ok-stored.stored in
    record {
      backward = λ callees.
          let p = plan_of c.args.self.now callees in
          let turns : Code = rename r (reversed_backward d line (plain c.args.variable.now) (mark_of s.mark.now) (keep_of p i line s) (back_of p i line s) (unsave_of p i line s) (plain_of line s) (adjoint_of line s)) in
          backward_named r d line c.args.variable.now (mark_of s.mark.now) (keep_of p i line s) (back_of p i line s) (unsave_of p i line s) (plain_of line s) (adjoint_of line s) (code_of c.in_ok-unsaved.unsaved) (code_of c.in_ok-reversed.reversed) again (code_of c.in_ok-stepped.stepped) stored (code_of c.in_ok-code.code) rest
          (c.in_ok-unsaved.ensures.popped callees ∙ ap (λ z. z +++ rest) (sym (pops_plain r (λ y. refl) p line (chosen (is_in (m.saved i) groups.Save) s.actuals.now))))
          (c.in_ok-reversed.ensures.reversal callees)
          (c.in_ok-back.ensures.popped callees ∙ ap (λ z. z +++ code_of c.in_ok-reversed.reversed) (sym (pops_plain r (λ y. refl) p line (chosen (is_in (m.saved i) groups.Step) s.actuals.now))))
          (c.in_ok-stepped.ensures.step
          ∙ (λ j. step line (runtime (pop_word (r (helper (role_of (c.of_depth-2.ensures.role j)) (c.of_depth-2.ensures.number j))) none)) ((c.in_ok-begun.ensures.step
          ∙ (λ k. step line (runtime (pop_word (r (helper (role_of (c.of_depth.ensures.role k)) (c.of_depth.ensures.number k))) none)) again)) j)))
          c.in_ok-stored.ensures.popped
          (c.in_ok-code.ensures.step ∙ (λ j. step line (runtime (pop_word (r (helper (role_of (c.of_depth-3.ensures.role j)) (c.of_depth-3.ensures.number j))) none)) stored))
          ∙ ap (λ z. turns +++ z) c.in_ok-popped.ensures.popped;
    }
