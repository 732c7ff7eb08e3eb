use Rattle.std.proofs.Common.{◌≡◌, ◌∙◌, ◌+◌, suc, ap, sym, arith}
use Rattle.adj_tree.specs.Code.{var, more}
use Rattle.adj_tree.specs.Listed.{terms_turned}
use Rattle.adj_tree.specs.View.{term_of, terms_of}
use Rattle.def_kernel.specs.Lowered.{length_of, locals_in, locals_in_all, set_local, held, before_held}
use Rattle.adj_norm_statement.specs.Locals.{local_by}
use Rattle.adj_norm_statement.proofs.Held.{held_more, before_held_more}
use Rattle.adj_norm_statement.proofs.Onto.{writes_same, leaves_less}
use Rattle.adj_norm_statement.proofs.passing.hold_all.Goals as goal

pub loop-current-preserved : goal.loop-current-preserved
loop-current-preserved c =
    let l = c.loop-current in
    let local = local_by c.args.locals.now in
    let line = c.args.line in
    let e = term_of c.deref.result.now in
    let es = terms_of c.deref-current.result.now in
    let is : terms_of l.current.now ≡ more e es = ap terms_of c.in-More.is ∙ (λ i. more (term_of (sym c.deref.ensures i)) (terms_of (sym c.deref-current.ensures i))) in
    let p = c.in_ok-held.ensures in
    let after = c.in_ok-held.held in
    let same = l.invariant.locals in
    let own = l.held.next in
    let count : length_of (terms_of l.current.now) + locals_in_all (terms_of l.current.now) ≡ suc (length_of es) + (locals_in e + locals_in_all es) = ap (λ z. length_of z + locals_in_all z) is in
    let subs : terms_of after.turned ≡ more (var (local own)) (terms_of l.held.turned) = p.subs ∙ (λ i. more (var ((same i) own)) (terms_of l.held.turned)) in
    record {
      next = omega (arith, p.next, count, l.invariant.next);
      subs = ap (λ t. terms_turned t (held local after.next es)) subs
          ∙ ap (terms_turned (terms_of l.held.turned)) (sym (ap (held local own) is ∙ held_more local own after.next e es p.next)) ∙ l.invariant.subs;
      steps = leaves_less _ _ _ _ _ (set_local local line own (own + 1) e) _ l.invariant.steps
          (writes_same _ _ _ _ p.steps (λ i. set_local (same i) line own (own + 1) e))
          (ap (before_held local line own) is ∙ before_held_more local line own after.next e es p.next);
      locals = p.locals ∙ same;
    }
