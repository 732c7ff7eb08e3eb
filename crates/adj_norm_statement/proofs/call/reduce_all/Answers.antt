use Rattle.std.proofs.Common.{◌≡◌, ◌∙◌, ◌+◌, ap, sym, arith}
use Rattle.adj_tree.specs.Code.{more}
use Rattle.adj_tree.specs.Listed.{terms_turned}
use Rattle.adj_tree.specs.View.{term_of, terms_of}
use Rattle.def_kernel.specs.Lowered.{locals_in, locals_in_all, reduced, before, reduced_all, before_all}
use Rattle.adj_norm_statement.specs.Locals.{local_by}
use Rattle.adj_norm_statement.proofs.Calls.{reduced_all_more, before_all_more}
use Rattle.adj_norm_statement.proofs.Onto.{writes_same, leaves_less}
use Rattle.adj_norm_statement.proofs.call.reduce_all.Goals as goal

pub loop-current-preserved : goal.loop-current-preserved
loop-current-preserved c =
    let l = c.loop-current in
    let local = local_by c.args.locals.now in
    let line = c.args.line in
    let e = term_of c.deref.result.now in
    let es = terms_of c.deref-current.result.now in
    let is : terms_of l.current.now ≡ more e es = ap terms_of c.in-More.is ∙ (λ i. more (term_of (sym c.deref.ensures i)) (terms_of (sym c.deref-current.ensures i))) in
    let p = c.in_ok-values.ensures in
    let after = c.in_ok-values.values in
    let same = l.invariant.locals in
    let j = l.values.next in
    let count : locals_in_all (terms_of l.current.now) ≡ locals_in e + locals_in_all es = ap locals_in_all is in
    let value : terms_of after.turned ≡ more (reduced local j e) (terms_of l.values.turned) = p.value ∙ (λ i. more (reduced (same i) j e) (terms_of l.values.turned)) in
    record {
      next = omega (arith, p.next, count, l.invariant.next);
      actuals = ap (λ t. terms_turned t (reduced_all local after.next es)) value
          ∙ ap (terms_turned (terms_of l.values.turned)) (sym (ap (reduced_all local j) is ∙ reduced_all_more local j after.next e es p.next)) ∙ l.invariant.actuals;
      steps = leaves_less _ _ _ _ _ (before local line j e) _ l.invariant.steps
          (writes_same _ _ _ _ p.steps (λ i. before (same i) line j e))
          (ap (before_all local line j) is ∙ before_all_more local line j after.next e es p.next);
      locals = p.locals ∙ same;
    }
