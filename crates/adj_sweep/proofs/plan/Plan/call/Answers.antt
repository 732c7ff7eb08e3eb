use Rattle.std.proofs.Common.{◌∙◌, refl, sym, subst}
use Rattle.std.proofs.lemmas.Result.{IfOk-weaker}
use Rattle.adj_tree.specs.Code.{call}
use Rattle.adj_tree.specs.View.{terms_of}
use Rattle.adj_sweep.specs.Callees.{Knows}
use Rattle.adj_sweep.specs.Plans.{naming_in, plan_of}
use Rattle.adj_sweep.proofs.Acts.{skipped, if_false}
use Rattle.adj_sweep.proofs.plan.Plan.call.Goals as goal

pub returns-then-not-emitted : goal.returns-then-not-emitted
returns-then-not-emitted c = record {
  sweeps = λ sc callees reads d k.
      skipped sc (naming_in c.args.self.now) (plan_of c.args.self.now callees) d c.args.line (call c.args.name.now (terms_of c.args.actuals.now)) c.args.sweeps _
      (if_false _ _ (sym c.emitted.ensures.emitted ∙ c.if-not-emitted.true)) (if_false _ _ (sym c.emitted.ensures.emitted ∙ c.if-not-emitted.true)) c.in_ok-next.ensures.next refl refl;
}

pub returns-then-split : goal.returns-then-split
returns-then-split c = record {
  sweeps = IfOk-weaker c.split_call.result _ _
      (λ s f sc callees reads d k.
      let name = c.args.name.now in
      f sc callees name (reads name) d (sym c.emitted.ensures.emitted ∙ c.if-not-emitted.false) (sym c.split.ensures.split ∙ c.if-split.true)
      (subst (λ z. Knows z (callees name) (reads name)) (sym c.find-callee.ensures.found) (k name)))
      c.split_call.ensures.sweeps;
}

pub returns-else-split : goal.returns-else-split
returns-else-split c = record {
  sweeps = IfOk-weaker c.whole_call.result _ _
      (λ s f sc callees reads d k.
      let name = c.args.name.now in
      f sc callees (reads name) d (sym c.emitted.ensures.emitted ∙ c.if-not-emitted.false) (sym c.split.ensures.split ∙ c.if-split.false)
      (subst (λ z. Knows z (callees name) (reads name)) (sym c.find-callee.ensures.found) (k name)))
      c.whole_call.ensures.sweeps;
}
