use Rattle.std.proofs.Common.{refl, ap, ◌∙◌}
use Rattle.adj_tree.specs.Code.{call}
use Rattle.adj_tree.specs.View.{terms_of}
use Rattle.adj_tree.specs.declared.stmt.Stmt.{Stmt}
use Rattle.adj_tree.specs.declared.stmt.Act.TheVariants.{Call}
use Rattle.def_meaning.specs.Rename.{rename_terms}
use Rattle.def_sweep.specs.Plan.{names_of}
use Rattle.adj_sweep_assignment.proofs.Onto.{steps_pushed}
use Rattle.adj_tangent.specs.Plans.{naming_in, all_with_tangents}
use Rattle.adj_tangent.proofs.plan.Plan.call_tangent.Goals as goal

pub returns : goal.returns
returns c = record {
  steps = λ rest.
      let r = naming_in c.args.self.now in
      let s : Stmt = record { line = c.args.line; act = Call c.in_ok-name.name c.in_ok-given.given } in
      let names = names_of (terms_of c.args.actuals.now) in
      let k = c.args.callee.now in
      steps_pushed c.args.steps.now.items c.push.new.self.items s c.args.line (call k.tangent (rename_terms r (all_with_tangents k.carried names))) rest c.in_ok-push.ensures.items refl
      (λ i. call (c.in_ok-name.ensures.same i) ((c.in_ok-given.ensures.actuals ∙ ap (λ fs. rename_terms r (all_with_tangents fs names)) c.as_slice.ensures.members) i));
}
