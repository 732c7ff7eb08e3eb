use Rattle.std.proofs.Common.{◌∙◌, refl, sym, ap}
use Rattle.adj_tree.specs.View.{term_of}
use Rattle.def_meaning.specs.Rename.{rename_term}
use Rattle.def_sweep.specs.Marked.{own_or}
use Rattle.adj_sweep_assignment.specs.Sites.{naming_of}
use Rattle.adj_sweep_assignment.proofs.Plain.{term_kept}
use Rattle.adj_tangent.proofs.terms.Operand.value.Goals as goal

pub returns : goal.returns
returns c =
    let r = naming_of c.args.site.now in
    let s = c.args.self in
    record { value = c.in_ok-made.ensures.equal ∙ sym (term_kept r (λ x. refl) s.term.now) ∙ ap (λ b. rename_term r (own_or b s.temp (term_of s.term.now))) (sym c.if-self.false) }
