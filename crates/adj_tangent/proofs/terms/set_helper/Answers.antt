use Rattle.std.proofs.Common.{◌∙◌, ap}
use Rattle.adj_tree.specs.Code.{plain, helper, work, none, assign}
use Rattle.adj_tree.specs.View.{term_of}
use Rattle.def_meaning.specs.Rename.{rename_term}
use Rattle.adj_sweep_assignment.specs.Sites.{naming_of}
use Rattle.adj_sweep_assignment.proofs.Onto.{steps_pushed}
use Rattle.adj_tangent.proofs.terms.set_helper.Goals as goal

pub returns-clause-steps : goal.returns-clause-steps
returns-clause-steps c =
    λ t h rest.
    let r = naming_of c.args.site.now in
    steps_pushed c.args.steps.now.items c.push.new.self.items c.scalar_assignment.result c.args.site.now.line (assign (r (helper work c.args.part)) none (rename_term r t)) rest c.in_ok-push.ensures.items c.scalar_assignment.ensures.line
    (c.scalar_assignment.ensures.act ∙ (λ i. assign (plain (c.in_ok-name.ensures.name i)) none ((ap term_of c.into_inner-value.ensures ∙ h) i)))
