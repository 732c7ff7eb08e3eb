use Rattle.std.proofs.Common.{◌≡◌, ap, sym, ◌∙◌, arith}
use Rattle.adj_tree.specs.Code.{more}
use Rattle.adj_tree.specs.View.{term_of, terms_of}
use Rattle.adj_tree.specs.declared.expr.Expr.TheViews.{sized-More}
use Rattle.adj_tree.specs.declared.expr.Exprs.{size-Exprs}
use Rattle.def_kernel.specs.Kernel.{names_in, names_in_all}
use Rattle.adj_sets.specs.Sets.{all_added}
use Rattle.adj_norm.proofs.Adding.{added_both}
use Rattle.adj_norm.proofs.names.+terms.Goals as goal

pub add_terms-loop-current-preserved : goal.add_terms-loop-current-preserved
add_terms-loop-current-preserved t c =
    let l = c.loop-current in
    let e = term_of c.deref.result.now in
    let es = terms_of c.deref-current.result.now in
    let is : terms_of l.current.now ≡ more e es = ap terms_of c.in-More.is ∙ (λ i. more (term_of (sym c.deref.ensures i)) (terms_of (sym c.deref-current.ensures i))) in
    record {
      no_deeper =
          let whole = sized-More c.in-More.first c.in-More.rest in
          let was = ap size-Exprs c.in-More.is in
          let left = ap size-Exprs c.deref-current.ensures in
          let earlier = l.invariant.no_deeper in
          omega (arith, whole, was, left, earlier);
      left =
          ap (λ z. all_added z (names_in_all es)) c.in_ok-add_term.ensures.added ∙ sym (added_both l.names (names_in e) (names_in_all es))
          ∙ ap (λ z. all_added l.names (names_in_all z)) (sym is) ∙ l.invariant.left;
    }
