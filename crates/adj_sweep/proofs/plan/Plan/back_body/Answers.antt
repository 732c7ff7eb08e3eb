use Rattle.std.proofs.Common.{◌∙◌, refl, sym}
use Rattle.adj_tree.specs.Code.{stop}
use Rattle.adj_tree.specs.View.{code_of}
use Rattle.def_meaning.specs.Append.{◌+++◌}
use Rattle.def_meaning.specs.Rename.{rename}
use Rattle.def_meaning.proofs.Appends.{append-stop}
use Rattle.def_meaning.proofs.RenamedLists.{rename-append}
use Rattle.def_sweep.specs.Rows.{pops}
use Rattle.def_sweep.specs.Emission.{backward_with}
use Rattle.adj_sweep.specs.Plans.{naming_in, plan_of, schedules_of}
use Rattle.adj_sweep.proofs.Groups.{pops_plain}
use Rattle.adj_sweep.proofs.plan.Plan.back_body.Goals as goal

pub returns : goal.returns
returns c =
    let r = naming_in c.args.self.now in
    let b = c.args.body.now in
    let body = code_of b.statements.now in
    record {
      body = λ callees reads k.
          let p = plan_of c.args.self.now callees in
          let back = backward_with (schedules_of c.args.self.now reads) p b.number 0 body in
          c.in_ok-code.ensures.popped callees
          ∙ (λ i. sym (pops_plain r (λ y. refl) p b.line b.left.now) i +++ ((c.in_ok-sweeps.ensures.sweeps callees reads k).back ∙ append-stop (rename r back)) i)
          ∙ sym (rename-append r (pops p b.line b.left.now) back);
    }
