use Rattle.std.proofs.Common.{◌∙◌, ◌+◌, drop, sym, ap}
use Rattle.std.proofs.lemmas.List.{drop_all}
use Rattle.adj_tree.specs.View.{code_of}
use Rattle.def_meaning.specs.Append.{◌+++◌}
use Rattle.def_meaning.proofs.Appends.{append_assoc}
use Rattle.def_sweep.specs.Rows.{pop, pops}
use Rattle.adj_sweep.specs.Plans.{plan_of}
use Rattle.adj_sweep.proofs.Groups.{dropped}
use Rattle.adj_sweep.proofs.plan.Plan.pop_all.Goals as goal

pub loop-x-preserved : goal.loop-x-preserved
loop-x-preserved c =
    let i = c.loop-x.x-index in
    let all = c.args.names.now in
    let x = c.x-item.result in
    let old = code_of c.loop-x.code in
    λ callees.
    let p = plan_of c.args.self.now callees in
    let others = pops p c.args.line (drop (i + 1) all) in
    ap (λ z. others +++ z) (c.in_ok-code.ensures.popped callees) ∙ sym (append_assoc others (pop p c.args.line x) old)
    ∙ ap (λ z. pops p c.args.line z +++ old) (sym (dropped all i x c.loop-x-test.true c.x-item.is))
    ∙ c.loop-x.invariant callees

pub returns : goal.returns
returns c = record {
  popped = λ callees.
      ap (λ z. pops (plan_of c.args.self.now callees) c.args.line z +++ code_of c.loop-x.code) (sym (drop_all c.loop-x.x-index c.args.names.now c.loop-x-test.false)) ∙ c.loop-x.invariant callees;
}
