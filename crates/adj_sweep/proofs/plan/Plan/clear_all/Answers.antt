use Rattle.std.proofs.Common.{◌∙◌, sym, ap}
use Rattle.std.proofs.lemmas.List.{drop_all}
use Rattle.adj_tree.specs.View.{code_of}
use Rattle.def_meaning.specs.Append.{◌+++◌}
use Rattle.def_meaning.specs.Rename.{rename}
use Rattle.def_meaning.proofs.Appends.{append-stop}
use Rattle.def_sweep.specs.Emission.{cleared}
use Rattle.adj_sweep.specs.Plans.{naming_in, plan_of}
use Rattle.adj_sweep.specs.Swept.{in_order}
use Rattle.adj_sweep.proofs.Cleared.{cleared_passed}
use Rattle.adj_sweep.proofs.plan.Plan.clear_all.Goals as goal

pub loop-x-preserved : goal.loop-x-preserved
loop-x-preserved c =
    let r = naming_in c.args.self.now in
    let names = c.args.names.now in
    λ callees.
    let p = plan_of c.args.self.now callees in
    cleared_passed r p c.args.line c.loop-x.x-index names c.x-item.result c.in_ok-cleared.cleared (code_of c.loop-x.code) (code_of c.in_ok-code.code) (in_order (code_of c.args.turned) +++ rename r (cleared p c.args.line names))
    c.loop-x-test.true c.x-item.is (c.in_ok-cleared.ensures.clears callees) c.in_ok-code.ensures.step (c.loop-x.invariant callees)

pub returns : goal.returns
returns c =
    let r = naming_in c.args.self.now in
    let names = c.args.names.now in
    let old = in_order (code_of c.loop-x.code) in
    record {
      clears = λ callees.
          sym (append-stop old) ∙ ap (λ z. old +++ rename r (cleared (plan_of c.args.self.now callees) c.args.line z)) (sym (drop_all c.loop-x.x-index names c.loop-x-test.false)) ∙ c.loop-x.invariant callees;
    }
