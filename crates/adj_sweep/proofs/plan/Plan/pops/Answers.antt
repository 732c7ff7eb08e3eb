use Rattle.std.proofs.Common.{◌∙◌, ◌+◌, drop, sym, ap}
use Rattle.std.proofs.lemmas.List.{drop_all}
use Rattle.adj_tree.specs.View.{code_of}
use Rattle.def_meaning.specs.Append.{◌+++◌}
use Rattle.def_sweep.specs.Rows.{pops}
use Rattle.adj_sweep_assignment.specs.View.{marks_of}
use Rattle.adj_sweep.specs.Actuals.{is_in, chosen}
use Rattle.adj_sweep.specs.Plans.{plan_of}
use Rattle.adj_sweep.proofs.Groups.{pops_more, dropped}
use Rattle.adj_sweep.proofs.plan.Plan.pops.Goals as goal

pub loop-actual-preserved : goal.loop-actual-preserved
loop-actual-preserved c =
    let f = is_in ((marks_of c.args.self.now.marks.now).saved c.args.number) c.args.group in
    let i = c.loop-actual.actual-index in
    let all = c.args.actuals.now in
    let a = c.actual-item.result in
    λ callees.
    let p = plan_of c.args.self.now callees in
    let others = drop (i + 1) all in
    ap (λ z. pops p c.args.line (chosen f others) +++ z) (c.in_ok-code.ensures.popped callees)
    ∙ sym (pops_more p c.args.line f a others (code_of c.loop-actual.code))
    ∙ ap (λ z. pops p c.args.line (chosen f z) +++ code_of c.loop-actual.code) (sym (dropped all i a c.loop-actual-test.true c.actual-item.is))
    ∙ c.loop-actual.invariant callees

pub returns : goal.returns
returns c =
    let f = is_in ((marks_of c.args.self.now.marks.now).saved c.args.number) c.args.group in
    record {
      popped = λ callees.
          ap (λ z. pops (plan_of c.args.self.now callees) c.args.line (chosen f z) +++ code_of c.loop-actual.code) (sym (drop_all c.loop-actual.actual-index c.args.actuals.now c.loop-actual-test.false)) ∙ c.loop-actual.invariant callees;
    }
