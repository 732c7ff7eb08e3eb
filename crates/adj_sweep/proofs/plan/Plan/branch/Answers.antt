use Rattle.std.proofs.Common.{◌∙◌, refl, sym}
use Rattle.adj_sweep.specs.Plans.{naming_in, plan_of}
use Rattle.adj_sweep.proofs.Acts.{branch_skipped, branch_written}
use Rattle.adj_sweep.proofs.plan.Plan.branch.Goals as goal

pub returns-then-not-emitted : goal.returns-then-not-emitted
returns-then-not-emitted c = record {
  sweeps = λ sc callees d a b ha hb.
      branch_skipped sc (naming_in c.args.self.now) (λ x. refl) (plan_of c.args.self.now callees) d c.args.line c.args.c.now a b c.args.sweeps c.args.first c.args.second _ ha hb
      (sym c.emitted.ensures.emitted ∙ c.if-not-emitted.true) refl refl refl;
}

pub returns : goal.returns
returns c = record {
  sweeps = λ sc callees d a b ha hb.
      branch_written sc (naming_in c.args.self.now) (λ x. refl) (plan_of c.args.self.now callees) d c.args.line c.args.c.now a b c.args.sweeps c.args.first c.args.second _ ha hb
      c.are_idle-idle.result (sym c.emitted.ensures.emitted ∙ c.if-not-emitted.false) c.are_idle-idle.ensures.idle refl c.in_ok-forward.ensures.forward c.in_ok-backward.ensures.backward;
}
