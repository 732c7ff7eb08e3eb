use Rattle.std.proofs.Common.{◌≡◌, true, ◌∙◌, suc, ◌+◌, ◌-◌, ap, sym, subst, refl, arith}
use Rattle.std.specs.Prelude.{◌&&◌, ◌||◌, pos}
use Rattle.adj_tree.specs.Code.{helper, work, lit, var, neg, bin, plus, minus, times, pow, power_of}
use Rattle.adj_tree.specs.View.{op_of, term_of}
use Rattle.adj_tree.specs.Listed.{steps_onto}
use Rattle.def_meaning.specs.Append.{◌+++◌}
use Rattle.def_meaning.specs.Rename.{rename, rename_term}
use Rattle.def_sweep.specs.Marked.{is_compound, count_of, own_or, own_code}
use Rattle.def_sweep.specs.AdjointOf.{has_own_where, temps_in_where, shrunk_where, temps_where}
use Rattle.adj_sweep_assignment.proofs.Plain.{term_kept}
use Rattle.adj_sweep_assignment.specs.Shares.{scaled_code, guarded_power}
use Rattle.adj_sweep_assignment.specs.Apart.{IsApart}
use Rattle.adj_sweep_assignment.proofs.Values.{is_idle}
use Rattle.adj_sweep_assignment.proofs.ApartTerms.{idle_apart, negation_apart, same_apart, sum_apart, difference_apart, product_apart, power_apart, variable_power_apart}
use Rattle.adj_sweep_assignment.specs.Sites.{naming_of, active_in}
use Rattle.adj_sweep_assignment.specs.Behind.{AreBehind}
use Rattle.adj_sweep_assignment.proofs.Idle.{leaf_idle, operation_idle}
use Rattle.adj_sweep_assignment.proofs.Behind.{nothing_behind, idle_behind, both_behind, owned_behind, product_behind, variable_power_behind}
use Rattle.adj_sweep_assignment.proofs.site.Site.+apart.Goals as goal

pub apart-returns-in_ok-made-in-Lit : goal.apart-returns-in_ok-made-in-Lit
apart-returns-in_ok-made-in-Lit t c =
    let r = naming_of c.args.self.now in
    let on = active_in c.args.self.now in
    let line = c.args.self.now.line in
    let e = term_of c.args.e.now in
    let made = c.in_ok-made-in-Lit.ensures in
    let idle : is_idle e ≡ true = leaf_idle c.args.e.now c.in-Lit.is in
    record {
      parts = idle_apart r on line e c.args.first c.in_ok-made-in-Lit.made idle (term_kept r (λ x. refl) c.args.e.now) made.next made.passive made.term made.share;
      steps = idle_behind r on e c.args.first line c.args.steps.now.items idle;
    }

pub apart-returns-in_ok-made-in-Quot : goal.apart-returns-in_ok-made-in-Quot
apart-returns-in_ok-made-in-Quot t c =
    let r = naming_of c.args.self.now in
    let on = active_in c.args.self.now in
    let line = c.args.self.now.line in
    let e = term_of c.args.e.now in
    let made = c.in_ok-made-in-Quot.ensures in
    let idle : is_idle e ≡ true = subst (λ x. is_idle (term_of x) ≡ true) (sym c.in-Bin.is) (operation_idle c.in-Bin.op (term_of c.in-Bin.a.value) (term_of c.in-Bin.b.value) c.in-Quot.is) in
    record {
      parts = idle_apart r on line e c.args.first c.in_ok-made-in-Quot.made idle (term_kept r (λ x. refl) c.args.e.now) made.next made.passive made.term made.share;
      steps = idle_behind r on e c.args.first line c.args.steps.now.items idle;
    }

pub apart-returns-in_ok-made-in-Neg : goal.apart-returns-in_ok-made-in-Neg
apart-returns-in_ok-made-in-Neg t c =
    let r = naming_of c.args.self.now in
    let on = active_in c.args.self.now in
    let line = c.args.self.now.line in
    let j = c.args.first in
    let a = term_of c.deref-in-Neg.result.now in
    let inner = c.in_ok-inner-in-Neg.ensures in
    let made = c.in_ok-made-in-Neg.ensures in
    let same : neg a ≡ term_of c.args.e.now = ap (λ x. neg (term_of x)) c.deref-in-Neg.ensures ∙ ap term_of (sym c.in-Neg.is) in
    record {
      parts = subst (λ e. IsApart r on line e j c.in_ok-made-in-Neg.made) same (negation_apart r on line a j c.in_ok-inner-in-Neg.inner c.in_ok-made-in-Neg.made inner.parts made.next made.active made.term (made.share r line));
      steps = subst (λ e. AreBehind (rename r (temps_where on e j line)) c.args.steps.now.items c.apart.new.steps.items) same inner.steps;
    }

pub apart-returns-in_ok-made-in-Add : goal.apart-returns-in_ok-made-in-Add
apart-returns-in_ok-made-in-Add t c =
    let r = naming_of c.args.self.now in
    let on = active_in c.args.self.now in
    let line = c.args.self.now.line in
    let j = c.args.first in
    let made = c.in_ok-made-in-Add.ensures in
    let same : bin plus (term_of c.deref-in-Add.result.now) (term_of c.deref-in-Add-2.result.now) ≡ term_of c.args.e.now = (λ i. bin plus (term_of (c.deref-in-Add.ensures i)) (term_of (c.deref-in-Add-2.ensures i))) ∙ ap (λ o. bin (op_of o) (term_of c.in-Bin.a.value) (term_of c.in-Bin.b.value)) (sym c.in-Add.is) ∙ ap term_of (sym c.in-Bin.is) in
    record {
      parts = subst (λ e. IsApart r on line e j c.in_ok-made-in-Add.made) same made.parts;
      steps = subst (λ e. AreBehind (rename r (temps_where on e j line)) c.args.steps.now.items c.sum_apart.new.steps.items) same made.steps;
    }

pub apart-returns-in_ok-made-in-Sub : goal.apart-returns-in_ok-made-in-Sub
apart-returns-in_ok-made-in-Sub t c =
    let r = naming_of c.args.self.now in
    let on = active_in c.args.self.now in
    let line = c.args.self.now.line in
    let j = c.args.first in
    let made = c.in_ok-made-in-Sub.ensures in
    let same : bin minus (term_of c.deref-in-Sub.result.now) (term_of c.deref-in-Sub-2.result.now) ≡ term_of c.args.e.now = (λ i. bin minus (term_of (c.deref-in-Sub.ensures i)) (term_of (c.deref-in-Sub-2.ensures i))) ∙ ap (λ o. bin (op_of o) (term_of c.in-Bin.a.value) (term_of c.in-Bin.b.value)) (sym c.in-Sub.is) ∙ ap term_of (sym c.in-Bin.is) in
    record {
      parts = subst (λ e. IsApart r on line e j c.in_ok-made-in-Sub.made) same made.parts;
      steps = subst (λ e. AreBehind (rename r (temps_where on e j line)) c.args.steps.now.items c.difference_apart.new.steps.items) same made.steps;
    }

pub apart-returns-in_ok-made-in-Mul : goal.apart-returns-in_ok-made-in-Mul
apart-returns-in_ok-made-in-Mul t c =
    let r = naming_of c.args.self.now in
    let on = active_in c.args.self.now in
    let line = c.args.self.now.line in
    let j = c.args.first in
    let made = c.in_ok-made-in-Mul.ensures in
    let same : bin times (term_of c.deref-in-Mul.result.now) (term_of c.deref-in-Mul-2.result.now) ≡ term_of c.args.e.now = (λ i. bin times (term_of (c.deref-in-Mul.ensures i)) (term_of (c.deref-in-Mul-2.ensures i))) ∙ ap (λ o. bin (op_of o) (term_of c.in-Bin.a.value) (term_of c.in-Bin.b.value)) (sym c.in-Mul.is) ∙ ap term_of (sym c.in-Bin.is) in
    record {
      parts = subst (λ e. IsApart r on line e j c.in_ok-made-in-Mul.made) same made.parts;
      steps = subst (λ e. AreBehind (rename r (temps_where on e j line)) c.args.steps.now.items c.product_apart.new.steps.items) same made.steps;
    }

pub apart-returns-in_ok-made-in-Pow : goal.apart-returns-in_ok-made-in-Pow
apart-returns-in_ok-made-in-Pow t c =
    let r = naming_of c.args.self.now in
    let on = active_in c.args.self.now in
    let line = c.args.self.now.line in
    let j = c.args.first in
    let made = c.in_ok-made-in-Pow.ensures in
    let same : pow (term_of c.deref-in-Pow.result.now) c.in-Pow.power ≡ term_of c.args.e.now = ap (λ x. pow (term_of x) c.in-Pow.power) c.deref-in-Pow.ensures ∙ ap term_of (sym c.in-Pow.is) in
    record {
      parts = subst (λ e. IsApart r on line e j c.in_ok-made-in-Pow.made) same made.parts;
      steps = subst (λ e. AreBehind (rename r (temps_where on e j line)) c.args.steps.now.items c.power_apart.new.steps.items) same made.steps;
    }

pub apart-returns-in_ok-made-in-Power : goal.apart-returns-in_ok-made-in-Power
apart-returns-in_ok-made-in-Power t c =
    let r = naming_of c.args.self.now in
    let on = active_in c.args.self.now in
    let line = c.args.self.now.line in
    let j = c.args.first in
    let made = c.in_ok-made-in-Power.ensures in
    let same : power_of (term_of c.deref-in-Power.result.now) (term_of c.deref-in-Power-2.result.now) ≡ term_of c.args.e.now = (λ i. power_of (term_of (c.deref-in-Power.ensures i)) (term_of (c.deref-in-Power-2.ensures i))) ∙ ap term_of (sym c.in-Power.is) in
    record {
      parts = subst (λ e. IsApart r on line e j c.in_ok-made-in-Power.made) same made.parts;
      steps = subst (λ e. AreBehind (rename r (temps_where on e j line)) c.args.steps.now.items c.power_by_apart.new.steps.items) same made.steps;
    }

pub sum_apart-returns : goal.sum_apart-returns
sum_apart-returns t c =
    let r = naming_of c.args.self.now in
    let on = active_in c.args.self.now in
    let line = c.args.self.now.line in
    let a = term_of c.args.a.now in
    let b = term_of c.args.b.now in
    let j = c.args.first in
    let s0 = c.args.steps.now.items in
    let s1 = c.apart.new.steps.items in
    let s2 = c.apart-2.new.steps.items in
    let left = c.in_ok-left.ensures in
    let right = c.in_ok-right.ensures in
    let made = c.in_ok-made.ensures in
    record {
      parts = sum_apart r on line a b j c.in_ok-left.left c.in_ok-right.right c.in_ok-made.made left.parts right.parts made.next made.active made.term (made.share r line);
      steps = both_behind r (temps_where on a j line) (temps_where on b (j + temps_in_where on a) line) s0 s1 s2 left.steps (subst (λ i. AreBehind (rename r (temps_where on b i line)) s1 s2) left.parts.next right.steps);
    }

pub difference_apart-returns : goal.difference_apart-returns
difference_apart-returns t c =
    let r = naming_of c.args.self.now in
    let on = active_in c.args.self.now in
    let line = c.args.self.now.line in
    let a = term_of c.args.a.now in
    let b = term_of c.args.b.now in
    let j = c.args.first in
    let s0 = c.args.steps.now.items in
    let s1 = c.apart.new.steps.items in
    let s2 = c.apart-2.new.steps.items in
    let left = c.in_ok-left.ensures in
    let right = c.in_ok-right.ensures in
    let made = c.in_ok-made.ensures in
    record {
      parts = difference_apart r on line a b j c.in_ok-left.left c.in_ok-right.right c.in_ok-made.made left.parts right.parts made.next made.active made.term (made.share r line);
      steps = both_behind r (temps_where on a j line) (temps_where on b (j + temps_in_where on a) line) s0 s1 s2 left.steps (subst (λ i. AreBehind (rename r (temps_where on b i line)) s1 s2) left.parts.next right.steps);
    }

pub product_apart-returns : goal.product_apart-returns
product_apart-returns t c =
    let r = naming_of c.args.self.now in
    let on = active_in c.args.self.now in
    let line = c.args.self.now.line in
    let a = term_of c.args.a.now in
    let b = term_of c.args.b.now in
    let j = c.args.first in
    let left = c.in_ok-left.left in
    let right = c.in_ok-right.right in
    let v = c.in_ok-left_value.left_value in
    let w = c.in_ok-right_value.right_value in
    let oa = c.has_own-own_left.result in
    let ob = c.has_own_beside-own_right.result in
    let at = c.in_ok-left.ensures.parts in
    let to = c.in_ok-right.ensures.parts in
    let ea : oa ≡ has_own_where on a b = c.has_own-own_left.ensures.own in
    let eb : ob ≡ has_own_where on b a = c.has_own_beside-own_right.ensures.own ∙ ap (λ x. is_compound b && x) at.active in
    let made = c.in_ok-made.ensures in
    record {
      parts = product_apart r on line a b j oa ob left v right w c.in_ok-made.made at to ea eb
          c.in_ok-left_value.ensures.next c.in_ok-right_value.ensures.next
          (c.in_ok-left_value.ensures.term (shrunk_where on a j) at.term)
          (c.in_ok-right_value.ensures.term (shrunk_where on b v.next) to.term)
          made.next
          (made.active ∙ (λ i. c.in_ok-left_value.ensures.active i || c.in_ok-right_value.ensures.active i))
          made.term
          (λ k. made.share r line k ∙ (λ i. scaled_code r line (c.in_ok-left_value.ensures.active i) (bin times (var (r (helper work k))) (term_of w.term.value)) (c.in_ok-left_value.ensures.share i).value k +++ scaled_code r line (c.in_ok-right_value.ensures.active i) (bin times (var (r (helper work k))) (term_of v.term.value)) (c.in_ok-right_value.ensures.share i).value k));
      steps = product_behind r on a b oa ob j left.next v.next right.next line c.args.steps.now.items c.apart.new.steps.items c.operand.new.steps.items c.apart-2.new.steps.items c.operand-2.new.steps.items ea eb at.next c.in_ok-left_value.ensures.next to.next
          c.in_ok-left.ensures.steps (c.in_ok-left_value.ensures.steps (shrunk_where on a j) at.term)
          c.in_ok-right.ensures.steps (c.in_ok-right_value.ensures.steps (shrunk_where on b v.next) to.term);
    }

pub power_by_apart-returns : goal.power_by_apart-returns
power_by_apart-returns t c =
    let r = naming_of c.args.self.now in
    let on = active_in c.args.self.now in
    let line = c.args.self.now.line in
    let a = term_of c.args.a.now in
    let b = term_of c.args.b.now in
    let j = c.args.first in
    let base = c.in_ok-base.base in
    let exponent = c.in_ok-exponent.exponent in
    let v = c.in_ok-value.value in
    let w = c.in_ok-exponent_value.exponent_value in
    let oa = c.has_own_beside-own_base.result in
    let ob = c.has_own_beside-own_exponent.result in
    let at = c.in_ok-base.ensures.parts in
    let ea : oa ≡ has_own_where on a a = c.has_own_beside-own_base.ensures.own ∙ ap (λ x. is_compound a && x) at.active in
    let eb : ob ≡ has_own_where on b a = c.has_own_beside-own_exponent.ensures.own ∙ ap (λ x. is_compound b && x) at.active in
    let plain : term_of exponent.term.value ≡ rename_term r b = c.in_ok-exponent.ensures.term ∙ sym (term_kept r (λ x. refl) c.args.b.now) in
    let behind = c.in_ok-exponent_value.ensures.steps b plain in
    let made = c.in_ok-made.ensures in
    let number : exponent.next ≡ v.next = c.in_ok-exponent.ensures.next in
    record {
      parts = variable_power_apart r on line a b j oa ob base v w c.in_ok-made.made at ea eb
          c.in_ok-value.ensures.next
          (c.in_ok-exponent_value.ensures.next ∙ ap (λ z. z + count_of ob) number)
          (c.in_ok-value.ensures.term (shrunk_where on a j) at.term)
          (c.in_ok-exponent_value.ensures.term b plain ∙ ap (λ z. rename_term r (own_or ob z b)) number)
          made.next
          (made.active ∙ c.in_ok-value.ensures.active)
          made.term
          (λ k. made.share r line k ∙ (λ i. scaled_code r line (c.in_ok-value.ensures.active i) (bin times (bin times (var (r (helper work k))) (term_of w.term.value)) (guarded_power (term_of v.term.value) (term_of w.term.value))) (c.in_ok-value.ensures.share i).value k));
      steps = variable_power_behind r on a b oa ob j base.next v.next line c.args.steps.now.items c.apart.new.steps.items c.operand.new.steps.items c.operand-2.new.steps.items ea eb at.next c.in_ok-value.ensures.next
          c.in_ok-base.ensures.steps (c.in_ok-value.ensures.steps (shrunk_where on a j) at.term)
          (λ rest. behind rest ∙ ap (λ z. steps_onto c.operand.new.steps.items (rename r (own_code ob line z b) +++ rest)) number);
    }

pub power_apart-returns-in_ok-made-in-0 : goal.power_apart-returns-in_ok-made-in-0
power_apart-returns-in_ok-made-in-0 t c =
    let r = naming_of c.args.self.now in
    let on = active_in c.args.self.now in
    let line = c.args.self.now.line in
    let a = term_of c.args.a.now in
    let j = c.args.first in
    let made = c.in_ok-made-in-0.ensures in
    let steps = c.args.steps.now.items in
    record {
      parts = subst (λ k. IsApart r on line (pow a k) j c.in_ok-made-in-0.made) (sym c.in-0.is) (idle_apart r on line (pow a 0) j c.in_ok-made-in-0.made refl (ap (λ e. pow e 0) (term_kept r (λ x. refl) c.args.a.now)) made.next made.passive made.term made.share);
      steps = subst (λ k. AreBehind (rename r (temps_where on (pow a k) j line)) steps steps) (sym c.in-0.is) (nothing_behind r (temps_where on (pow a 0) j line) steps refl);
    }

pub power_apart-returns-in_ok-made-in-1 : goal.power_apart-returns-in_ok-made-in-1
power_apart-returns-in_ok-made-in-1 t c =
    let r = naming_of c.args.self.now in
    let on = active_in c.args.self.now in
    let line = c.args.self.now.line in
    let a = term_of c.args.a.now in
    let j = c.args.first in
    let base = c.in_ok-base-in-1.ensures in
    let made = c.in_ok-made-in-1.ensures in
    record {
      parts = subst (λ k. IsApart r on line (pow a k) j c.in_ok-made-in-1.made) (sym c.in-1.is) (same_apart r on line a j c.in_ok-base-in-1.base c.in_ok-made-in-1.made base.parts made.next made.active made.term (made.share r line));
      steps = subst (λ k. AreBehind (rename r (temps_where on (pow a k) j line)) c.args.steps.now.items c.apart.new.steps.items) (sym c.in-1.is) base.steps;
    }

pub power_apart-returns-in_ok-made-in_default : goal.power_apart-returns-in_ok-made-in_default
power_apart-returns-in_ok-made-in_default t c =
    let r = naming_of c.args.self.now in
    let on = active_in c.args.self.now in
    let line = c.args.self.now.line in
    let a = term_of c.args.a.now in
    let j = c.args.first in
    let power = c.args.power in
    let n = power - 2 in
    let up : power ≡ suc (suc n) = omega arith in
    let less : power - 1 ≡ suc n = omega arith in
    let base = c.in_ok-base-in_default.base in
    let v = c.in_ok-value-in_default.value in
    let o = c.has_own_beside-own.result in
    let at = c.in_ok-base-in_default.ensures.parts in
    let ea : o ≡ has_own_where on a a = c.has_own_beside-own.ensures.own ∙ ap (λ x. is_compound a && x) at.active in
    let value = c.in_ok-value-in_default.ensures in
    let made = c.in_ok-made-in_default.ensures in
    record {
      parts = subst (λ k. IsApart r on line (pow a k) j c.in_ok-made-in_default.made) (sym up)
          (power_apart r on line a j n o base v c.in_ok-made-in_default.made at ea value.next (value.term (shrunk_where on a j) at.term) made.next (made.active ∙ value.active)
          (made.term ∙ ap (pow (term_of v.term.value)) up)
          (λ k. made.share r line k ∙ (λ i. scaled_code r line (value.active i) (bin times (bin times (var (r (helper work k))) (lit (pos (up i)))) (pow (term_of v.term.value) (less i))) (value.share i).value k)));
      steps = subst (λ k. AreBehind (rename r (temps_where on (pow a k) j line)) c.args.steps.now.items c.operand.new.steps.items) (sym up)
          (owned_behind r (temps_where on a j line) o (has_own_where on a a) line base.next (j + temps_in_where on a) (shrunk_where on a j) c.args.steps.now.items c.apart-in_default.new.steps.items c.operand.new.steps.items ea at.next
          c.in_ok-base-in_default.ensures.steps (value.steps (shrunk_where on a j) at.term));
    }
