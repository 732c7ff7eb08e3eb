use Rattle.std.proofs.Common.{◌≡◌, suc, ◌+◌, ◌-◌, ℕ, ◌∙◌, ap, sym, subst, arith}
use Rattle.std.specs.Prelude.{pos, ◌||◌, ◌&&◌}
use Rattle.adj_tree.specs.Code.{lit, neg, bin, times, pow}
use Rattle.adj_tree.specs.View.{term_of}
use Rattle.def_meaning.specs.Rename.{rename}
use Rattle.def_sweep.specs.Marked.{is_compound, own_or}
use Rattle.def_sweep.specs.Occurrences.{is_active_where}
use Rattle.def_tangent.specs.TangentOf.{tangent_term, sum_of, difference_of, power_factor, own_part, parts_where}
use Rattle.adj_sweep_assignment.specs.Sites.{naming_of, active_in}
use Rattle.adj_sweep_assignment.specs.Behind.{AreBehind}
use Rattle.adj_tangent.specs.Terms.{IsTangent}
use Rattle.adj_tangent.proofs.Tangents.{negation_tangent, same_tangent, sum_tangent, difference_tangent, product_tangent, power_tangent, exponent_tangent}
use Rattle.adj_tangent.proofs.terms.+tangent.Goals as goal

pub negation_tangent-returns : goal.negation_tangent-returns
negation_tangent-returns t c =
    let r = naming_of c.args.site.now in
    let on = active_in c.args.site.now in
    let line = c.args.site.now.line in
    let a = term_of c.args.a.now in
    let k = c.args.part in
    let j = c.args.temp in
    let s0 = c.args.steps.now.items in
    let p = c.in_ok-inner.inner in
    let at = c.in_ok-inner.ensures.tangent in
    let x = neg (tangent_term on a k) in
    let value = c.in_ok-value.ensures.value r (is_active_where on a) (tangent_term on a k) at.value in
    let made = c.in_ok-made.ensures in
    let both = negation_tangent r on line a k j p c.in_ok-made.made s0 c.term_tangent.new.steps.items c.set_part.new.steps.items at c.in_ok-inner.ensures.steps (made.tangent (is_active_where on a) x value) (made.steps (is_active_where on a) x value) in
    record { tangent = both.0; steps = both.1 }

pub sum_tangent-returns : goal.sum_tangent-returns
sum_tangent-returns t c =
    let r = naming_of c.args.site.now in
    let on = active_in c.args.site.now in
    let line = c.args.site.now.line in
    let a = term_of c.args.a.now in
    let b = term_of c.args.b.now in
    let k = c.args.part in
    let j = c.args.temp in
    let s0 = c.args.steps.now.items in
    let p = c.in_ok-left.left in
    let at = c.in_ok-left.ensures.tangent in
    let to = c.in_ok-right.ensures.tangent in
    let act = is_active_where on a || is_active_where on b in
    let x = sum_of (is_active_where on a) (is_active_where on b) (tangent_term on a k) (tangent_term on b p.part) in
    let value = c.in_ok-value.ensures.value r (is_active_where on a) (is_active_where on b) (tangent_term on a k) (tangent_term on b p.part) at.value to.value in
    let made = c.in_ok-made.ensures in
    let both = sum_tangent r on line a b k j p c.in_ok-right.right c.in_ok-made.made s0 c.term_tangent.new.steps.items c.term_tangent-2.new.steps.items c.set_part.new.steps.items at c.in_ok-left.ensures.steps to c.in_ok-right.ensures.steps (made.tangent act x value) (made.steps act x value) in
    record { tangent = both.0; steps = both.1 }

pub difference_tangent-returns : goal.difference_tangent-returns
difference_tangent-returns t c =
    let r = naming_of c.args.site.now in
    let on = active_in c.args.site.now in
    let line = c.args.site.now.line in
    let a = term_of c.args.a.now in
    let b = term_of c.args.b.now in
    let k = c.args.part in
    let j = c.args.temp in
    let s0 = c.args.steps.now.items in
    let p = c.in_ok-left.left in
    let at = c.in_ok-left.ensures.tangent in
    let to = c.in_ok-right.ensures.tangent in
    let act = is_active_where on a || is_active_where on b in
    let x = difference_of (is_active_where on a) (is_active_where on b) (tangent_term on a k) (tangent_term on b p.part) in
    let value = c.in_ok-value.ensures.value r (is_active_where on a) (is_active_where on b) (tangent_term on a k) (tangent_term on b p.part) at.value to.value in
    let made = c.in_ok-made.ensures in
    let both = difference_tangent r on line a b k j p c.in_ok-right.right c.in_ok-made.made s0 c.term_tangent.new.steps.items c.term_tangent-2.new.steps.items c.set_part.new.steps.items at c.in_ok-left.ensures.steps to c.in_ok-right.ensures.steps (made.tangent act x value) (made.steps act x value) in
    record { tangent = both.0; steps = both.1 }

pub product_tangent-returns : goal.product_tangent-returns
product_tangent-returns t c =
    let r = naming_of c.args.site.now in
    let on = active_in c.args.site.now in
    let line = c.args.site.now.line in
    let a = term_of c.args.a.now in
    let b = term_of c.args.b.now in
    let k = c.args.part in
    let j = c.args.temp in
    let s0 = c.args.steps.now.items in
    let p = c.in_ok-left.left in
    let q = c.in_ok-right.right in
    let at = c.in_ok-left.ensures.tangent in
    let to = c.in_ok-right.ensures.tangent in
    let oa = c.has_own-own_left.result in
    let ob = c.has_own_beside-own_right.result in
    let act = is_active_where on a || is_active_where on b in
    let x = sum_of (is_active_where on a) (is_active_where on b) (bin times (tangent_term on a k) (own_or ob q.temp b)) (bin times (own_or oa p.temp a) (tangent_term on b p.part)) in
    let value = c.in_ok-value.ensures.value (is_active_where on a) (is_active_where on b) (tangent_term on a k) (tangent_term on b p.part) at.value to.value in
    let made = c.in_ok-made.ensures in
    let both = product_tangent r on line a b k j p q c.in_ok-made.made s0 c.term_tangent.new.steps.items c.term_tangent-2.new.steps.items c.set_part.new.steps.items at c.in_ok-left.ensures.steps oa ob c.in_ok-begun.begun c.in_ok-next.next c.has_own-own_left.ensures.own
    (c.has_own_beside-own_right.ensures.own ∙ ap (λ z. is_compound b && z) c.is_some-active.ensures) c.in_ok-begun.ensures.next to c.in_ok-right.ensures.steps c.in_ok-next.ensures.next (made.tangent act x value) (made.steps act x value) in
    record { tangent = both.0; steps = both.1 }

pub power_tangent-returns-in_ok-made-in-1 : goal.power_tangent-returns-in_ok-made-in-1
power_tangent-returns-in_ok-made-in-1 t c =
    let r = naming_of c.args.site.now in
    let on = active_in c.args.site.now in
    let line = c.args.site.now.line in
    let a = term_of c.args.a.now in
    let k = c.args.part in
    let j = c.args.temp in
    let s0 = c.args.steps.now.items in
    let p = c.in_ok-inner-in-1.inner in
    let q = c.in_ok-made-in-1.made in
    let s2 = c.set_part.new.steps.items in
    let at = c.in_ok-inner-in-1.ensures.tangent in
    let x = tangent_term on a k in
    let made = c.in_ok-made-in-1.ensures in
    let both = same_tangent r on line a k j p q s0 c.term_tangent.new.steps.items s2 at c.in_ok-inner-in-1.ensures.steps (made.tangent (is_active_where on a) x at.value) (made.steps (is_active_where on a) x at.value) in
    record {
      tangent = subst (λ n. IsTangent r on (pow a n) k j q) (sym c.in-1.is) both.0;
      steps = subst (λ n. AreBehind (rename r (parts_where on (pow a n) k j line)) s0 s2) (sym c.in-1.is) both.1;
    }

pub power_tangent-returns-in_ok-made-in_default : goal.power_tangent-returns-in_ok-made-in_default
power_tangent-returns-in_ok-made-in_default t c =
    let r = naming_of c.args.site.now in
    let on = active_in c.args.site.now in
    let line = c.args.site.now.line in
    let a = term_of c.args.a.now in
    let k = c.args.part in
    let j = c.args.temp in
    let s0 = c.args.steps.now.items in
    let power = c.args.power in
    let n = power - 2 in
    let up : power ≡ suc (suc n) = omega arith in
    let less : power - 1 ≡ suc n = omega arith in
    let p = c.in_ok-inner-in_default.inner in
    let q = c.in_ok-made-in_default.made in
    let s1 = c.term_tangent-in_default.new.steps.items in
    let s2 = c.set_part-in_default.new.steps.items in
    let at = c.in_ok-inner-in_default.ensures.tangent in
    let o = c.has_own_beside-own.result in
    let e = λ (m l : ℕ). bin times (bin times (lit (pos m)) (pow (own_or o p.temp a) l)) (tangent_term on a k) in
    let x = e power (power - 1) in
    let value = c.in_ok-value-in_default.ensures.value (is_active_where on a) (tangent_term on a k) at.value in
    let made = c.in_ok-made-in_default.ensures in
    let act = is_active_where on a in
    let after = subst (λ z. AreBehind (rename r (own_part act line p.part z)) s1 s2) (λ i. e (up i) (less i)) (made.steps act x value) in
    let both = power_tangent r on line a n k j o c.in_ok-next-in_default.next p q s0 s1 s2 at c.in_ok-inner-in_default.ensures.steps (c.has_own_beside-own.ensures.own ∙ ap (λ z. is_compound a && z) c.is_some-active.ensures) c.in_ok-next-in_default.ensures.next (made.tangent act x value) after in
    record {
      tangent = subst (λ z. IsTangent r on (pow a z) k j q) (sym up) both.0;
      steps = subst (λ z. AreBehind (rename r (parts_where on (pow a z) k j line)) s0 s2) (sym up) both.1;
    }

pub exponent_tangent-returns : goal.exponent_tangent-returns
exponent_tangent-returns t c =
    let r = naming_of c.args.site.now in
    let on = active_in c.args.site.now in
    let line = c.args.site.now.line in
    let a = term_of c.args.a.now in
    let b = term_of c.args.b.now in
    let k = c.args.part in
    let j = c.args.temp in
    let s0 = c.args.steps.now.items in
    let p = c.in_ok-inner.inner in
    let at = c.in_ok-inner.ensures.tangent in
    let oa = c.has_own_beside-own_base.result in
    let ob = c.has_own_beside-own_exponent.result in
    let between = c.in_ok-between.between in
    let act = is_active_where on a in
    let x = bin times (power_factor (own_or oa p.temp a) (own_or ob between b)) (tangent_term on a k) in
    let value = c.in_ok-value.ensures.value act (tangent_term on a k) at.value in
    let made = c.in_ok-made.ensures in
    let both = exponent_tangent r on line a b k j oa ob between c.in_ok-next.next p c.in_ok-made.made s0 c.term_tangent.new.steps.items c.set_part.new.steps.items at c.in_ok-inner.ensures.steps
    (c.has_own_beside-own_base.ensures.own ∙ ap (λ z. is_compound a && z) c.is_some-active.ensures) (c.has_own_beside-own_exponent.ensures.own ∙ ap (λ z. is_compound b && z) c.is_some-active.ensures)
    c.in_ok-between.ensures.next c.in_ok-next.ensures.next (made.tangent act x value) (made.steps act x value) in
    record { tangent = both.0; steps = both.1 }
