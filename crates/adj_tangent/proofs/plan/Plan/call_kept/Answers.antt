use Rattle.std.proofs.Common.{refl, sym, ◌∙◌}
use Rattle.adj_tree.specs.Code.{call}
use Rattle.adj_tree.specs.View.{terms_of}
use Rattle.adj_tree.specs.declared.stmt.Stmt.{Stmt}
use Rattle.adj_tree.specs.declared.stmt.Act.TheVariants.{Call}
use Rattle.def_meaning.specs.Rename.{rename_terms}
use Rattle.adj_sweep_assignment.proofs.Onto.{steps_pushed}
use Rattle.adj_sweep_assignment.proofs.Plain.{terms_kept}
use Rattle.adj_tangent.specs.Plans.{naming_in}
use Rattle.adj_tangent.proofs.plan.Plan.call_kept.Goals as goal

pub returns : goal.returns
returns c = record {
  steps = λ rest.
      let r = naming_in c.args.self.now in
      let s : Stmt = record { line = c.args.line; act = Call c.in_ok-copied.copied c.in_ok-given.given } in
      let args = terms_of c.args.actuals.now in
      steps_pushed c.args.steps.now.items c.push.new.self.items s c.args.line (call c.args.name.now (rename_terms r args)) rest c.in_ok-push.ensures.items refl
      (λ i. call (c.in_ok-copied.ensures.same i) ((c.in_ok-given.ensures.equal ∙ sym (terms_kept r (λ x. refl) c.args.actuals.now)) i));
}
