use Rattle.std.proofs.Common.{◌≡◌, ◌∙◌, ◌+◌, [], ◌∷◌, ap, sym, subst, arith}
use Rattle.adj_tree.specs.Code.{var, more}
use Rattle.adj_tree.specs.Listed.{terms_turned}
use Rattle.adj_tree.specs.View.{term_of, terms_of}
use Rattle.def_meaning.specs.Append.{◌+++◌}
use Rattle.def_kernel.specs.Lowered.{first_flag, other_flags, passing, passed, locals_passing, before_passing, after_passing, all_passed, before_passing_all, after_passing_all, locals_passing_all}
use Rattle.adj_norm_statement.specs.Locals.{local_by}
use Rattle.adj_norm_statement.specs.Passings.{HasNamesOf, vars_in}
use Rattle.adj_norm_statement.proofs.Onto.{writes_same, leaves_less}
use Rattle.adj_norm_statement.proofs.call.pass_all.Goals as goal

pub loop-current-preserved : goal.loop-current-preserved
loop-current-preserved c =
    let l = c.loop-current in
    let local = local_by c.args.locals.now in
    let line = c.args.line in
    let flags = l.flags.now in
    let e = term_of c.deref.result.now in
    let es = terms_of c.deref-current.result.now in
    let is : terms_of l.current.now ≡ more e es = ap terms_of c.in-More.is ∙ (λ i. more (term_of (sym c.deref.ensures i)) (terms_of (sym c.deref-current.ensures i))) in
    let p = c.in_ok-values.ensures in
    let after = c.in_ok-values.values in
    let same = l.invariant.locals in
    let j = l.values.next in
    let t = terms_of l.values.turned in
    let ns = vars_in t in
    let h : HasNamesOf l.earlier ns = l.invariant.earlier in
    let kind = passing (first_flag flags) ns e in
    let v = passed local j kind in
    let kinds : passing c.first_flag-flag.result ns e ≡ kind = ap (λ w. passing w ns e) c.first_flag-flag.ensures.first in
    let nexts : after.next ≡ j + locals_passing kind = p.next ns h ∙ ap (λ q. j + locals_passing q) kinds in
    let turned : terms_of after.turned ≡ more (var v) t = p.name ns h ∙ (λ i. more (var (passed (same i) j (kinds i))) t) in
    let vars : vars_in (terms_of after.turned) ≡ v ∷ ns = ap vars_in turned in
    let others : c.other_flags-flags.result.now ≡ other_flags flags = c.other_flags-flags.ensures.others in
    let left : locals_passing_all local after.next c.other_flags-flags.result.now (vars_in (terms_of after.turned)) es ≡ locals_passing_all local (j + locals_passing kind) (other_flags flags) (v ∷ ns) es =
    λ i. locals_passing_all local (nexts i) (others i) (vars i) es in
    let here : locals_passing_all local j flags ns (terms_of l.current.now) ≡ locals_passing kind + locals_passing_all local (j + locals_passing kind) (other_flags flags) (v ∷ ns) es = ap (locals_passing_all local j flags ns) is in
    record {
      earlier = subst (HasNamesOf c.pass_one.new.earlier) (sym (ap vars_in (p.name ns h))) (p.earlier ns h);
      next = omega (arith, nexts, left, here, l.invariant.next);
      names = (λ i. terms_turned (turned i) (all_passed local (nexts i) (others i) (vars i) es))
          ∙ ap (λ z. terms_turned t (all_passed local j flags ns z)) (sym is) ∙ l.invariant.names;
      steps = leaves_less _ _ _ _ _ (before_passing local line j kind) _ l.invariant.steps
          (writes_same _ _ _ _ (p.steps ns h) (λ i. before_passing (same i) line j (kinds i)))
          (ap (before_passing_all local line j flags ns) is ∙ (λ i. before_passing local line j kind +++ before_passing_all local line (sym nexts i) (sym others i) (sym vars i) es));
      after = leaves_less c.args.after.now.items l.after.items c.pass_one.new.after.items (after_passing_all local line c.args.first c.args.written.now [] (terms_of c.args.actuals.now)) (after_passing_all local line j flags ns (terms_of l.current.now)) (after_passing local line j kind) (after_passing_all local line after.next c.other_flags-flags.result.now (vars_in (terms_of after.turned)) es) l.invariant.after
          (writes_same l.after.items c.pass_one.new.after.items (after_passing (local_by l.locals) line j (passing c.first_flag-flag.result ns e)) (after_passing local line j kind) (p.after ns h) (λ i. after_passing (same i) line j (kinds i)))
          (ap (after_passing_all local line j flags ns) is ∙ (λ i. after_passing local line j kind +++ after_passing_all local line (sym nexts i) (sym others i) (sym vars i) es));
      locals = p.locals ∙ same;
    }
