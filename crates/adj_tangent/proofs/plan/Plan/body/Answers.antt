use Rattle.std.proofs.Common.{ap, ◌∙◌}
use Rattle.adj_tree.specs.Code.{stop}
use Rattle.adj_tree.specs.Listed.{steps_onto}
use Rattle.adj_tree.specs.View.{code_of}
use Rattle.def_meaning.specs.Apart.{is_named}
use Rattle.def_meaning.specs.Append.{◌+++◌}
use Rattle.def_meaning.specs.Rename.{rename}
use Rattle.def_meaning.proofs.Appends.{append-stop}
use Rattle.def_tangent.specs.Forward.{tangents}
use Rattle.def_tangent.specs.Program.{cleared}
use Rattle.adj_sweep_assignment.proofs.Behind.{both_behind}
use Rattle.adj_tangent.specs.Plans.{naming_in, plan_of}
use Rattle.adj_tangent.proofs.plan.Plan.body.Goals as goal

pub returns : goal.returns
returns c = record {
  body = λ callees k.
      let self = c.args.self.now in
      let r = naming_in self in
      let first = cleared (is_named c.args.arrays.now) c.args.line c.args.at_first.now in
      let rest = tangents (plan_of self callees) (code_of c.args.statements.now) in
      let s0 = c.new-steps.result.items in
      c.in_ok-made.ensures.steps
      ∙ both_behind r first rest s0 c.clear_all.new.steps.items c.push_list.new.steps.items c.in_ok-clear_all.ensures.steps (c.in_ok-push_list.ensures.steps callees k) stop
      ∙ ap (λ z. steps_onto z (rename r (first +++ rest) +++ stop)) c.new-steps.ensures.items
      ∙ append-stop (rename r (first +++ rest));
}
