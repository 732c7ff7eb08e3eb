use Rattle.std.proofs.Common.{◌∙◌, ◌+◌, drop, sym, ap}
use Rattle.std.proofs.lemmas.List.{drop_all}
use Rattle.adj_tree.specs.View.{code_of}
use Rattle.def_meaning.specs.Append.{◌+++◌}
use Rattle.def_meaning.proofs.Appends.{append_assoc, append-stop}
use Rattle.def_sweep.specs.Rows.{push, pushes}
use Rattle.adj_sweep.specs.Plans.{plan_of}
use Rattle.adj_sweep.specs.Swept.{in_order}
use Rattle.adj_sweep.proofs.Groups.{dropped}
use Rattle.adj_sweep.proofs.plan.Plan.push_all.Goals as goal

pub loop-x-preserved : goal.loop-x-preserved
loop-x-preserved c =
    let i = c.loop-x.x-index in
    let all = c.args.names.now in
    let x = c.x-item.result in
    let old = in_order (code_of c.loop-x.code) in
    λ callees.
    let p = plan_of c.args.self.now callees in
    let others = pushes p c.args.line (drop (i + 1) all) in
    ap (λ z. z +++ others) (c.in_ok-code.ensures.pushed callees) ∙ append_assoc old (push p c.args.line x) others
    ∙ ap (λ z. old +++ pushes p c.args.line z) (sym (dropped all i x c.loop-x-test.true c.x-item.is))
    ∙ c.loop-x.invariant callees

pub returns : goal.returns
returns c =
    let old = in_order (code_of c.loop-x.code) in
    record {
      pushed = λ callees.
          sym (append-stop old) ∙ ap (λ z. old +++ pushes (plan_of c.args.self.now callees) c.args.line z) (sym (drop_all c.loop-x.x-index c.args.names.now c.loop-x-test.false)) ∙ c.loop-x.invariant callees;
    }
