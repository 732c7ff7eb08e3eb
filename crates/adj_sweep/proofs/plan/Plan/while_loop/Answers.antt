use Rattle.std.proofs.Common.{◌∙◌, refl, sym, ap}
use Rattle.adj_tree.specs.View.{test_of, code_of}
use Rattle.def_meaning.specs.Append.{◌+++◌}
use Rattle.def_meaning.specs.Rename.{rename}
use Rattle.def_sweep.specs.Rows.{while_forward, while_backward}
use Rattle.adj_sweep.specs.Plans.{naming_in, plan_of}
use Rattle.adj_sweep.specs.Swept.{in_order}
use Rattle.adj_sweep.proofs.Acts.{while_skipped, while_written}
use Rattle.adj_sweep.proofs.plan.Plan.while_loop.Goals as goal

pub returns-then-not-emitted : goal.returns-then-not-emitted
returns-then-not-emitted c = record {
  sweeps = λ sc callees d body e h.
      while_skipped sc (naming_in c.args.self.now) (plan_of c.args.self.now callees) d c.args.line c.args.c.now body c.args.sweeps c.args.inner _ h
      (sym c.emitted.ensures.emitted ∙ c.if-not-emitted.true) refl refl refl;
}

pub returns : goal.returns
returns c =
    let r = naming_in c.args.self.now in
    let line = c.args.line in
    let old = c.args.sweeps in
    let idle = c.is_idle-idle.result in
    let test = test_of c.args.c.now in
    record {
      sweeps = λ sc callees d body e h.
          while_written sc r (plan_of c.args.self.now callees) d line c.args.c.now body old c.args.inner _ h
          idle (sym c.emitted.ensures.emitted ∙ c.if-not-emitted.false) c.is_idle-idle.ensures.idle refl
          (λ z q. c.in_ok-forward.ensures.forward z q ∙ ap (λ k. in_order (code_of old.forward) +++ rename r (while_forward idle k line test z)) e)
          (λ z q. c.in_ok-backward.ensures.backward z q ∙ ap (λ k. rename r (while_backward idle k line z) +++ code_of old.backward) e);
    }
