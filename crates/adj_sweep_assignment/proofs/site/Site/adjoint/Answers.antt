use Rattle.std.proofs.Common.{◌≡◌, ◌∙◌, refl, sym, ap}
use Rattle.std.specs.Prelude.{pos}
use Rattle.adj_tree.specs.Code.{Code, shadow, helper, work, lit, none, assign, step}
use Rattle.adj_tree.specs.View.{term_of, terms_of, code_of}
use Rattle.adj_tree.specs.Listed.{steps_onto}
use Rattle.def_meaning.specs.Append.{◌+++◌}
use Rattle.def_meaning.specs.Rename.{rename, rename_term, rename_terms}
use Rattle.def_sweep.specs.Marked.{place}
use Rattle.def_sweep.specs.AdjointOf.{temps_where}
use Rattle.adj_sweep_assignment.proofs.Plain.{terms_kept}
use Rattle.adj_sweep_assignment.specs.Shares.{share_code}
use Rattle.adj_sweep_assignment.specs.Sites.{naming_of, active_in}
use Rattle.adj_sweep_assignment.proofs.Adjoints.{adjoint_passive, adjoint_active}
use Rattle.adj_sweep_assignment.proofs.site.Site.adjoint.Goals as goal

pub returns-then-not-parts : goal.returns-then-not-parts
returns-then-not-parts c =
    let site = c.args.self.now in
    let r = naming_of site in
    let target = c.args.target.now in
    let subs = terms_of target.subs in
    let rest = code_of c.args.rest in
    let kept = sym (terms_kept r (λ x. refl) target.subs) in
    record {
      steps = c.in_ok-only.ensures.step ∙ ap (λ s. step site.line (assign (r (shadow target.name)) s (lit (pos 0))) rest) kept
          ∙ adjoint_passive r (active_in site) target.name subs (term_of c.args.e.now) site.line rest (sym c.in_ok-parts.ensures.parts.active ∙ c.if-not-parts.true);
    }

pub returns : goal.returns
returns c =
    let site = c.args.self.now in
    let r = naming_of site in
    let on = active_in site in
    let line = site.line in
    let target = c.args.target.now in
    let subs = terms_of target.subs in
    let e = term_of c.args.e.now in
    let parts = c.in_ok-parts.ensures.parts in
    let s1 = c.apart.new.steps.items in
    let grown = share_code r line c.in_ok-parts.parts.share.value 1 in
    let taken = assign (r (helper work 1)) none (rename_term r (place (shadow target.name) subs)) in
    let zeroed = assign (r (shadow target.name)) (rename_terms r subs) (lit (pos 0)) in
    let rest : Code = grown +++ code_of c.args.rest in
    let kept = sym (terms_kept r (λ x. refl) target.subs) in
    let written : code_of c.in_ok-grown.grown ≡ rest = c.in_ok-grown.ensures.steps ∙ ap (λ z. share_code r line z 1 +++ code_of c.args.rest) c.deref.ensures in
    let cleared : code_of c.in_ok-cleared.cleared ≡ step line zeroed rest = c.in_ok-cleared.ensures.step ∙ (λ i. step line (assign (r (shadow target.name)) (kept i) (lit (pos 0))) (written i)) in
    record {
      steps = adjoint_active r on target.name subs e line (code_of c.in_ok-code.code) grown (code_of c.args.rest) (sym parts.active ∙ c.if-not-parts.false) (parts.share 1)
          (c.in_ok-code.ensures.steps ∙ ap (steps_onto s1) (c.in_ok-taken.ensures.step ∙ ap (step line taken) cleared)
          ∙ c.in_ok-parts.ensures.steps (step line taken (step line zeroed rest))
          ∙ ap (λ ss. steps_onto ss (rename r (temps_where on e 1 line) +++ step line taken (step line zeroed rest))) c.new-steps.ensures.items);
    }
