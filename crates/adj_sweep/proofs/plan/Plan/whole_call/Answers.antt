use Rattle.std.proofs.Common.{◌≡◌, ◌∙◌, refl, ap}
use Rattle.adj_tree.specs.Code.{call}
use Rattle.adj_tree.specs.View.{terms_of, code_of}
use Rattle.def_meaning.specs.Append.{◌+++◌, one}
use Rattle.def_meaning.specs.Rename.{rename}
use Rattle.def_sweep.specs.Marked.{code_if}
use Rattle.def_sweep.specs.Plan.{names_of}
use Rattle.def_sweep.specs.Rows.{pushes, pops}
use Rattle.adj_sweep_assignment.specs.View.{marks_of}
use Rattle.adj_sweep.specs.declared.actuals.Group.TheVariants.{Save, Snapshot}
use Rattle.adj_sweep.specs.Actuals.{paired, is_in, chosen, all_with_shadows}
use Rattle.adj_sweep.specs.Plans.{naming_in, plan_of}
use Rattle.adj_sweep.specs.Swept.{in_order}
use Rattle.adj_sweep.proofs.CallActs.{call_written}
use Rattle.adj_sweep.proofs.plan.Plan.whole_call.Goals as goal

pub returns : goal.returns
returns c =
    let r = naming_in c.args.self.now in
    let m = marks_of c.args.self.now.marks.now in
    let line = c.args.line in
    let old = c.args.sweeps in
    let saved = m.saved old.number in
    let names = names_of (terms_of c.args.actuals.now) in
    let k = c.args.callee.now in
    let made : c.as_slice-given.result.now ≡ paired k.dummies.items names = c.as_slice-given.ensures.value ∙ c.in_ok-made.ensures.actuals ∙ ap (λ ds. paired ds names) c.as_slice.ensures.value in
    let s1 = in_order (code_of c.in_ok-saved.saved) in
    let t = code_of c.in_ok-popped.popped in
    record {
      sweeps = λ sc callees read d emitted unsplit h.
          let p = plan_of c.args.self.now callees in
          call_written sc r (λ y. refl) p d line c.args.name.now c.args.actuals.now old _ k read h
          emitted unsplit c.in_ok-after.ensures.next s1 (in_order (code_of c.in_ok-pushed.pushed)) t
          (c.in_ok-saved.ensures.pushed callees ∙ ap (λ z. in_order (code_of old.forward) +++ pushes p line (chosen (is_in saved Save) z)) made)
          (c.in_ok-pushed.ensures.pushed callees ∙ ap (λ z. s1 +++ code_if (m.adjointed old.number) (pushes p line (chosen (is_in saved Snapshot) z))) made)
          c.in_ok-forward.ensures.kept
          (c.in_ok-popped.ensures.popped callees ∙ ap (λ z. pops p line (chosen (is_in saved Save) z) +++ code_of old.backward) made)
          (c.in_ok-backward.ensures.called callees ∙ ap (λ z. code_if (m.adjointed old.number) (pops p line (chosen (is_in saved Snapshot) z) +++ rename r (one line (call k.adjoint (all_with_shadows z)))) +++ t) made);
    }
