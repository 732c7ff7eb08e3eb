use Rattle.std.proofs.Common.{◌≡◌, true, ap, sym, ◌∙◌, ◌∷◌, ◌+◌, drop}
use Rattle.std.specs.Prelude.{◌&&◌}
use Rattle.std.proofs.lemmas.List.{drop_more}
use Rattle.adj_tree.specs.Code.{none, more}
use Rattle.adj_tree.specs.View.{term_of, terms_of, procedure_of}
use Rattle.def_names.specs.CallFaults.{is_actual_for, are_actuals_for}
use Rattle.def_names.specs.Variables.{rank}
use Rattle.adj_symbols.proofs.calls.are_actuals_for.Goals as goal

pub loop-dummy-preserved : goal.loop-dummy-preserved
loop-dummy-preserved c =
    let u = procedure_of c.args.caller.now in
    let v = procedure_of c.args.called.now in
    let ds = c.as_slice-dummy-items.result.now in
    let i = c.loop-dummy.dummy-index in
    let d = c.dummy-item.result in
    let e = term_of c.in-More.first.value in
    let es = terms_of c.in-More.next.value in
    let fits : true ≡ is_actual_for u (rank v d) e = sym c.if-not-is_actual_for.false ∙ c.is_actual_for.ensures ∙ (λ k. is_actual_for u (c.rank.ensures.rank k) (term_of (c.deref.ensures k))) in
    ap (λ z. are_actuals_for u v (drop (i + 1) ds) (terms_of z)) c.deref-rest.ensures
    ∙ ap (λ b. b && are_actuals_for u v (drop (i + 1) ds) es) fits
    ∙ ap (λ z. are_actuals_for u v z (more e es)) (sym (drop_more ds i d c.loop-dummy-test.true ∙ ap (λ z. z ∷ drop (i + 1) ds) (sym c.dummy-item.is)))
    ∙ ap (λ z. are_actuals_for u v (drop i ds) (terms_of z)) (sym c.in-More.is)
    ∙ c.loop-dummy.invariant

pub returns-in-Empty : goal.returns-in-Empty
returns-in-Empty c =
    let u = procedure_of c.args.caller.now in
    let v = procedure_of c.args.called.now in
    let ds = c.as_slice-dummy-items.result.now in
    let i = c.loop-dummy.dummy-index in
    sym (ap (λ z. are_actuals_for u v z none) (drop_more ds i c.dummy-item.result c.loop-dummy-test.true))
    ∙ ap (λ z. are_actuals_for u v (drop i ds) (terms_of z)) (sym c.in-Empty.is)
    ∙ c.loop-dummy.invariant
