use Rattle.std.proofs.Common.{◌≡◌, ◌∙◌, ◌+◌, ap}
use Rattle.adj_tree.specs.Code.{plain, assign}
use Rattle.adj_tree.specs.View.{term_of, terms_of}
use Rattle.def_meaning.specs.Append.{one}
use Rattle.def_kernel.specs.Lowered.{mentions, locals_in_target, reduced, before, before_target, apart_from}
use Rattle.adj_norm_statement.specs.Locals.{local_by}
use Rattle.adj_norm_statement.proofs.Onto.{writes_both, writes_same}
use Rattle.adj_norm_statement.proofs.target.lower_assignment.Goals as goal

pub returns-clause-steps : goal.returns-clause-steps
returns-clause-steps c =
    let local = local_by c.args.locals.now in
    let line = c.args.line in
    let x = plain c.args.place.now.name in
    let subs = terms_of c.args.place.now.subs in
    let e = term_of c.args.e.now in
    let m = mentions x subs in
    let k = m + locals_in_target x subs in
    let t = c.in_ok-target.ensures in
    let v = c.in_ok-value.ensures in
    let first : c.in_ok-first.first ≡ m = c.in_ok-first.ensures.count in
    let next : c.in_ok-target.target.next ≡ k = t.next ∙ ap (λ z. z + locals_in_target x subs) first in
    let value : term_of c.in_ok-value.value.term.value ≡ reduced local k e = v.term ∙ (λ i. reduced (t.locals i) (next i) e) in
    let targets = writes_same _ _ _ (before_target local line x 0 m subs) t.steps (ap (λ z. before_target local line x 0 z subs) first) in
    let values = writes_same _ _ _ (before local line k e) v.steps (λ i. before (t.locals i) line (next i) e) in
    let assigned = writes_same _ _ _ (one line (assign x (apart_from local x 0 subs) (reduced local k e))) c.in_ok-assign.ensures.written (λ i. one line (assign (plain (c.in_ok-name.ensures.same i)) (t.subs i) (value i))) in
    writes_both _ _ _ _ _ targets (writes_both _ _ _ _ _ values assigned)
