use Rattle.std.proofs.Common.{◌≡◌, ◌++◌, ◌∙◌, sym, ap, append_assoc}
use Rattle.adj_tree.specs.Code.{more, none}
use Rattle.adj_tree.specs.View.{term_of, terms_of}
use Rattle.def_sweep.specs.Plan.{names_of}
use Rattle.adj_tangent.proofs.Actuals.{names_more}
use Rattle.adj_tangent.proofs.calls.names_of.Goals as goal

pub loop-current-preserved : goal.loop-current-preserved
loop-current-preserved c =
    let e = term_of c.deref.result.now in
    let es = terms_of c.deref-current.result.now in
    let made = c.loop-current.made.items in
    let is : terms_of c.loop-current.current.now ≡ more e es = ap terms_of c.in-More.is ∙ (λ i. more (term_of (sym c.deref.ensures i)) (terms_of (sym c.deref-current.ensures i))) in
    ap (λ z. z ++ names_of es) c.in_ok-push_name.ensures.pushed ∙ append_assoc made (names_of (more e none)) (names_of es) ∙ ap (λ z. made ++ z) (sym (names_more e es)) ∙ ap (λ z. made ++ names_of z) (sym is) ∙ c.loop-current.invariant
