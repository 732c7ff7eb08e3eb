use Rattle.std.proofs.Common.{◌≡◌, sym, ap, subst, ◌∙◌}
use Rattle.std.specs.Prelude.{Some, option_map}
use Rattle.adj_tree.specs.View.{terms_of}
use Rattle.adj_tangent.specs.Plans.{naming_in, plan_of, taking_of, Knows}
use Rattle.adj_tangent.proofs.Written.{call_known}
use Rattle.adj_tangent.proofs.plan.Plan.push_call.Goals as goal

pub returns-in_ok-made-in-Some : goal.returns-in_ok-made-in-Some
returns-in_ok-made-in-Some c = record {
  steps = λ callees k.
      let self = c.args.self.now in
      let name = c.args.name.now in
      let there : taking_of self.callees.now name ≡ Some c.in-Some.callee.now = sym c.taking.ensures.callee ∙ ap (option_map (λ k. k.now)) c.in-Some.is in
      call_known (naming_in self) (plan_of self callees) c.args.line name (terms_of c.args.actuals.now) c.in-Some.callee.now c.args.steps.now.items c.call_tangent.new.steps.items (subst (λ o. Knows o (callees name)) there (k name)) c.in_ok-made-in-Some.ensures.steps;
}
