use Rattle.std.proofs.Common.{◌≡◌, ◌∙◌, refl, sym, ap}
use Rattle.adj_tree.specs.View.{code_of}
use Rattle.def_meaning.specs.Append.{◌+++◌}
use Rattle.def_meaning.specs.Rename.{rename}
use Rattle.def_meaning.proofs.RenamedLists.{rename-append}
use Rattle.def_sweep.specs.Rows.{pushes}
use Rattle.def_sweep.specs.Emission.{forward_with}
use Rattle.adj_sweep.specs.Plans.{naming_in, plan_of, schedules_of}
use Rattle.adj_sweep.proofs.Groups.{pushes_plain}
use Rattle.adj_sweep.proofs.plan.Plan.forth_body.Goals as goal

pub returns : goal.returns
returns c =
    let r = naming_in c.args.self.now in
    let b = c.args.body.now in
    let body = code_of b.statements.now in
    record {
      body = λ callees reads k.
          let p = plan_of c.args.self.now callees in
          let f = forward_with (schedules_of c.args.self.now reads) p b.number 0 body in
          let left = pushes p b.line b.left.now in
          c.turned-code.ensures.turned ∙ c.in_ok-pushed.ensures.pushed callees
          ∙ (λ i. (c.in_ok-sweeps.ensures.sweeps callees reads k).forth i +++ sym (pushes_plain r (λ y. refl) p b.line b.left.now) i)
          ∙ sym (rename-append r f left);
    }
