use Rattle.std.proofs.Common.{◌≡◌, ◌∙◌, refl, ap}
use Rattle.adj_tree.specs.Code.{call, step}
use Rattle.adj_tree.specs.View.{terms_of, code_of}
use Rattle.def_meaning.specs.Rename.{rename_terms}
use Rattle.def_sweep.specs.Plan.{names_of}
use Rattle.adj_sweep.specs.Actuals.{paired, all_with_shadows}
use Rattle.adj_sweep.specs.Plans.{naming_in, plan_of}
use Rattle.adj_sweep.proofs.Turned.{put_behind}
use Rattle.adj_sweep.proofs.CallActs.{split_written}
use Rattle.adj_sweep.proofs.plan.Plan.split_call.Goals as goal

pub returns : goal.returns
returns c =
    let r = naming_in c.args.self.now in
    let line = c.args.line in
    let old = c.args.sweeps in
    let k = c.args.callee.now in
    let names = names_of (terms_of c.args.actuals.now) in
    let made : c.as_slice-2.result.now ≡ paired k.dummies.items names = c.as_slice-2.ensures.value ∙ c.in_ok-made.ensures.actuals ∙ ap (λ ds. paired ds names) c.as_slice.ensures.value in
    record {
      sweeps = λ sc callees name read d emitted split h.
          split_written sc r (λ y. refl) (plan_of c.args.self.now callees) d line name c.args.actuals.now old _ k read h
          emitted split c.in_ok-after.ensures.next
          (put_behind (code_of old.forward) (code_of c.in_ok-forward.forward) line _ (call k.forth (terms_of c.args.actuals.now)) c.in_ok-forward.ensures.step (ap (call k.forth) c.in_ok-given.ensures.equal))
          (c.in_ok-backward.ensures.step ∙ ap (λ z. step line (call k.back z) (code_of old.backward)) (c.in_ok-shadowed.ensures.actuals ∙ ap (λ z. rename_terms r (all_with_shadows z)) made));
    }
