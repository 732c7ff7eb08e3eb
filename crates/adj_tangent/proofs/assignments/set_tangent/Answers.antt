use Rattle.std.proofs.Common.{◌∙◌, ap, refl, sym}
use Rattle.adj_tree.specs.Code.{plain, shadow, assign}
use Rattle.adj_tree.specs.View.{term_of, terms_of}
use Rattle.def_meaning.specs.Rename.{rename_term, rename_terms}
use Rattle.adj_sweep_assignment.specs.Sites.{naming_of}
use Rattle.adj_sweep_assignment.proofs.Onto.{steps_pushed}
use Rattle.adj_sweep_assignment.proofs.Plain.{terms_kept}
use Rattle.adj_tangent.proofs.assignments.set_tangent.Goals as goal

pub returns : goal.returns
returns c = record {
  steps = λ t h rest.
      let r = naming_of c.args.site.now in
      let target = c.args.target.now in
      steps_pushed c.args.steps.now.items c.push.new.self.items c.assignment.result c.args.site.now.line (assign (r (shadow target.name)) (rename_terms r (terms_of target.subs)) (rename_term r t)) rest c.in_ok-push.ensures.items c.assignment.ensures.line
      (c.assignment.ensures.act ∙ (λ i. assign (plain (c.in_ok-name.ensures.name i)) ((c.in_ok-subs.ensures.equal ∙ sym (terms_kept r (λ x. refl) target.subs)) i) ((ap term_of c.into_inner.ensures ∙ h) i)));
}
