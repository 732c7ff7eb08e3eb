use Rattle.std.proofs.Common.{◌≡◌, ◌∙◌, ◌+◌, refl, ap, sym, arith}
use Rattle.adj_tree.specs.Code.{plain, more}
use Rattle.adj_tree.specs.Listed.{terms_turned}
use Rattle.adj_tree.specs.View.{term_of, terms_of}
use Rattle.def_meaning.specs.Read.{reads_term}
use Rattle.def_kernel.specs.Lowered.{locals_in_target, apart_from, before_target}
use Rattle.adj_norm_statement.specs.Locals.{local_by}
use Rattle.adj_norm_statement.specs.Targets.{kept_apart, before_kept, locals_kept}
use Rattle.adj_norm_statement.proofs.Onto.{writes_same, leaves_less}
use Rattle.adj_norm_statement.proofs.Targets.{locals_more, apart_more, target_more}
use Rattle.adj_norm_statement.proofs.target.separate.Goals as goal

pub loop-current-preserved : goal.loop-current-preserved
loop-current-preserved c =
    let l = c.loop-current in
    let local = local_by c.args.locals.now in
    let line = c.args.line in
    let x = plain c.args.place.now.name in
    let e = term_of c.deref.result.now in
    let es = terms_of c.deref-current.result.now in
    let b = reads_term x e in
    let is : terms_of l.current.now ≡ more e es = ap terms_of c.in-More.is ∙ (λ i. more (term_of (sym c.deref.ensures i)) (terms_of (sym c.deref-current.ensures i))) in
    let p = c.in_ok-passed.ensures in
    let after = c.in_ok-passed.passed in
    let same = l.invariant.locals in
    let here : locals_in_target x (terms_of l.current.now) ≡ locals_kept b e + locals_in_target x es = ap (locals_in_target x) is ∙ locals_more b x e es refl in
    let subs : terms_of after.turned ≡ more (kept_apart b (local l.passed.own) e) (terms_of l.passed.turned) = p.subs ∙ (λ i. more (kept_apart b ((same i) l.passed.own) e) (terms_of l.passed.turned)) in
    record {
      next = omega (arith, p.next, here, l.invariant.next);
      subs = ap (λ t. terms_turned t (apart_from local x after.own es)) subs
          ∙ ap (terms_turned (terms_of l.passed.turned)) (sym (ap (apart_from local x l.passed.own) is ∙ apart_more local x b l.passed.own after.own e es refl p.own)) ∙ l.invariant.subs;
      steps = leaves_less _ _ _ _ _ (before_kept local b line l.passed.own l.passed.next e) _ l.invariant.steps
          (writes_same _ _ _ _ p.steps (λ i. before_kept (same i) b line l.passed.own l.passed.next e))
          (ap (before_target local line x l.passed.own l.passed.next) is ∙ target_more local x b line l.passed.own after.own l.passed.next after.next e es refl p.own p.next);
      locals = p.locals ∙ same;
    }
