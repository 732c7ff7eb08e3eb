use Rattle.std.proofs.Common.{◌∙◌, ◌∷◌, [], ◌+◌, drop, sym, ap}
use Rattle.std.proofs.lemmas.List.{drop_all}
use Rattle.adj_tree.specs.View.{code_of}
use Rattle.def_meaning.specs.Append.{◌+++◌}
use Rattle.def_meaning.proofs.Appends.{append_assoc, append-stop}
use Rattle.def_sweep.specs.Rows.{pushes}
use Rattle.adj_sweep_assignment.specs.View.{marks_of}
use Rattle.adj_sweep.specs.Actuals.{is_in, chosen}
use Rattle.adj_sweep.specs.Plans.{plan_of}
use Rattle.adj_sweep.specs.Swept.{in_order}
use Rattle.adj_sweep.proofs.Groups.{pushes_more, dropped}
use Rattle.adj_sweep.proofs.plan.Plan.pushes.Goals as goal

pub loop-actual-preserved : goal.loop-actual-preserved
loop-actual-preserved c =
    let f = is_in ((marks_of c.args.self.now.marks.now).saved c.args.number) c.args.group in
    let i = c.loop-actual.actual-index in
    let all = c.args.actuals.now in
    let a = c.actual-item.result in
    let old = in_order (code_of c.loop-actual.code) in
    λ callees.
    let p = plan_of c.args.self.now callees in
    let first = pushes p c.args.line (chosen f (a ∷ [])) in
    let others = pushes p c.args.line (chosen f (drop (i + 1) all)) in
    ap (λ z. z +++ others) (c.in_ok-code.ensures.pushed callees) ∙ append_assoc old first others
    ∙ ap (λ z. old +++ z) (sym (pushes_more p c.args.line f a (drop (i + 1) all)))
    ∙ ap (λ z. old +++ pushes p c.args.line (chosen f z)) (sym (dropped all i a c.loop-actual-test.true c.actual-item.is))
    ∙ c.loop-actual.invariant callees

pub returns : goal.returns
returns c =
    let f = is_in ((marks_of c.args.self.now.marks.now).saved c.args.number) c.args.group in
    let old = in_order (code_of c.loop-actual.code) in
    record {
      pushed = λ callees.
          sym (append-stop old) ∙ ap (λ z. old +++ pushes (plan_of c.args.self.now callees) c.args.line (chosen f z)) (sym (drop_all c.loop-actual.actual-index c.args.actuals.now c.loop-actual-test.false)) ∙ c.loop-actual.invariant callees;
    }
