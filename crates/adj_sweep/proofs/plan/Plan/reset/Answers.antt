use Rattle.std.proofs.Common.{◌∙◌, sym, ap}
use Rattle.std.specs.Prelude.{pos}
use Rattle.adj_tree.specs.Code.{plain, shadow, lit, none, assign, step}
use Rattle.adj_tree.specs.View.{code_of}
use Rattle.def_meaning.specs.Append.{one}
use Rattle.def_sweep.specs.Rows.{resets}
use Rattle.adj_sweep_assignment.specs.View.{marks_of}
use Rattle.adj_sweep.specs.Plans.{naming_in}
use Rattle.adj_sweep.proofs.Emitted.{before_if, before_not}
use Rattle.adj_sweep.proofs.plan.Plan.reset.Goals as goal

pub returns-then-not-resets : goal.returns-then-not-resets
returns-then-not-resets c =
    let x = c.args.x.now in
    record {
      reset = before_not (naming_in c.args.self.now) (resets (marks_of c.args.self.now.marks.now) c.args.number x) (one c.args.line (assign (shadow x) none (lit (pos 0)))) (code_of c.args.rest) (sym c.resets.ensures.resets ∙ c.if-not-resets.true);
    }

pub returns : goal.returns
returns c =
    let x = c.args.x.now in
    let rest = code_of c.args.rest in
    record {
      reset = before_if (naming_in c.args.self.now) (resets (marks_of c.args.self.now.marks.now) c.args.number x) (one c.args.line (assign (shadow x) none (lit (pos 0)))) rest (code_of c.in_ok-code.code) (sym c.resets.ensures.resets ∙ c.if-not-resets.false)
          (c.in_ok-code.ensures.step ∙ (λ i. step (c.scalar_assignment.ensures.line i) ((c.scalar_assignment.ensures.act ∙ ap (λ y. assign (plain y) none (lit (pos 0))) c.in_ok-name.ensures.name) i) rest));
    }
