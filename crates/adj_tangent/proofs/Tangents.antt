-- The tangent of a term, from those of its operands.
use Rattle.std.proofs.Common.{◌≡◌, ℕ, zero, suc, Bool, true, false, ◌+◌, ◌-◌, List, refl, sym, ap, ◌∙◌, subst, arith}
use Rattle.std.specs.Prelude.{◌||◌, ◌&&◌, pos, Option, Some, None, is_some, Box}
use Rattle.std.specs.Global.{Global}
use Rattle.adj_tree.specs.Code.{Var, Term, plus, minus, times, lit, neg, bin, pow, power_of, stop, Code}
use Rattle.adj_tree.specs.declared.expr.Expr.{Expr}
use Rattle.adj_tree.specs.declared.stmt.Stmt.{Stmt}
use Rattle.def_meaning.specs.Append.{◌+++◌}
use Rattle.def_meaning.specs.Rename.{rename}
use Rattle.def_meaning.proofs.Appends.{append_assoc}
use Rattle.def_names.specs.Numbers.{Vars}
use Rattle.def_sweep.specs.Marked.{is_compound, count_of, own_or, work_var}
use Rattle.def_sweep.specs.Occurrences.{is_active_where}
use Rattle.def_sweep.specs.AdjointOf.{has_own_where, temps_in_where}
use Rattle.def_tangent.specs.TangentOf.{parts_in_where, tangent_term, sum_of, difference_of, power_factor, own_part, parts_where}
use Rattle.adj_sweep_assignment.specs.Behind.{AreBehind}
use Rattle.adj_sweep_assignment.proofs.Behind.{nothing_behind, both_behind}
use Rattle.adj_tangent.specs.declared.terms.Tangent.{Tangent}
use Rattle.adj_tangent.specs.Terms.{IsValue, IsPart, IsTangent}

-- whether there is a value says whether the term is active
pub value_there : (r : Var → Var) (b : Bool) (t : Term) (o : Option (Box Expr Global)) → IsValue r b t o → is_some o ≡ b
value_there r b t None h = sym h
value_there r b t (Some x) h = sym h.0

-- a code in place of an equal one
pub moved : (r : Var → Var) (c d : Code) (s0 s1 : List Stmt) → c ≡ d → AreBehind (rename r c) s0 s1 → AreBehind (rename r d) s0 s1
moved r c d s0 s1 e h = subst (λ z. AreBehind (rename r z) s0 s1) e h

module _ (r : Var → Var) (on : Vars) (line : ℕ) where
  -- a term without parts that isn't active
  pub passive_tangent : (t : Term) (k j : ℕ) (p : Tangent) → is_active_where on t ≡ false → parts_in_where on t ≡ 0 → temps_in_where on t ≡ 0 → p.part ≡ k → p.temp ≡ j → p.value ≡ None → IsTangent r on t k j p
  passive_tangent t k j p act parts temps hk hj hv = record {
    part = hk ∙ (omega (arith, parts));
    temp = hj ∙ (omega (arith, temps));
    value = subst (λ o. IsValue r (is_active_where on t) (tangent_term on t k) o) (sym hv) act;
  }

  -- a term whose helper has the number m, where the assignments of other parts come before that of its own
  composed : (t : Term) (k j : ℕ) (b : Bool) (e x : Term) (m to n : ℕ) (inside : Code) (q : Tangent) (s0 s1 s2 : List Stmt) → m ≡ to → e ≡ x → is_active_where on t ≡ b → tangent_term on t k ≡ work_var to → to + count_of b ≡ k + parts_in_where on t → n ≡ j + temps_in_where on t → parts_where on t k j line ≡ inside +++ own_part b line to x →
      AreBehind (rename r inside) s0 s1 → IsPart r b m n q → AreBehind (rename r (own_part b line m e)) s1 s2 → IsTangent r on t k j q × AreBehind (rename r (parts_where on t k j line)) s0 s2
  composed t k j b e x m to n inside q s0 s1 s2 hm he act term parts temps code before part after =
      let own : AreBehind (rename r (own_part b line to x)) s1 s2 = subst (λ z. AreBehind (rename r z) s1 s2) (λ i. own_part b line (hm i) (he i)) after in (
        record {
          part = part.part ∙ ap (λ z. z + count_of b) hm ∙ parts;
          temp = part.temp ∙ temps;
          value = subst (λ z. IsValue r (is_active_where on t) z q.value) (sym term) (subst (λ z. IsValue r z (work_var to) q.value) (sym act) (subst (λ z. IsValue r b (work_var z) q.value) hm part.value));
        },
        moved r (inside +++ own_part b line to x) (parts_where on t k j line) s0 s2 (sym code) (both_behind r inside (own_part b line to x) s0 s1 s2 before own),
      )

  pub negation_tangent : (a : Term) (k j : ℕ) (p q : Tangent) (s0 s1 s2 : List Stmt) → IsTangent r on a k j p → AreBehind (rename r (parts_where on a k j line)) s0 s1 → IsPart r (is_active_where on a) p.part p.temp q → AreBehind (rename r (own_part (is_active_where on a) line p.part (neg (tangent_term on a k)))) s1 s2 →
      IsTangent r on (neg a) k j q × AreBehind (rename r (parts_where on (neg a) k j line)) s0 s2
  negation_tangent a k j p q s0 s1 s2 h c g d =
      let e = neg (tangent_term on a k) in
      composed (neg a) k j (is_active_where on a) e e p.part (k + parts_in_where on a) p.temp (parts_where on a k j line) q s0 s1 s2 h.part refl refl refl (omega arith) h.temp refl c g d

  pub same_tangent : (a : Term) (k j : ℕ) (p q : Tangent) (s0 s1 s2 : List Stmt) → IsTangent r on a k j p → AreBehind (rename r (parts_where on a k j line)) s0 s1 → IsPart r (is_active_where on a) p.part p.temp q → AreBehind (rename r (own_part (is_active_where on a) line p.part (tangent_term on a k))) s1 s2 →
      IsTangent r on (pow a 1) k j q × AreBehind (rename r (parts_where on (pow a 1) k j line)) s0 s2
  same_tangent a k j p q s0 s1 s2 h c g d =
      let e = tangent_term on a k in
      composed (pow a 1) k j (is_active_where on a) e e p.part (k + parts_in_where on a) p.temp (parts_where on a k j line) q s0 s1 s2 h.part refl refl refl (omega arith) h.temp refl c g d

  -- two operands
  module _ (a b : Term) (k j : ℕ) (p q w : Tangent) (s0 s1 s2 s3 : List Stmt) (h : IsTangent r on a k j p) (c : AreBehind (rename r (parts_where on a k j line)) s0 s1) where
    abbrev m : ℕ
    m = k + parts_in_where on a

    abbrev act : Bool
    act = is_active_where on a || is_active_where on b

    -- sums and differences
    module _ (g : IsTangent r on b p.part p.temp q) (d : AreBehind (rename r (parts_where on b p.part p.temp line)) s1 s2) where
      abbrev n : ℕ
      n = j + temps_in_where on a

      second : AreBehind (rename r (parts_where on b (k + parts_in_where on a) (j + temps_in_where on a) line)) s1 s2
      second = moved r (parts_where on b p.part p.temp line) (parts_where on b m n line) s1 s2 (λ i. parts_where on b (h.part i) (h.temp i) line) d

      number : q.part ≡ k + parts_in_where on a + parts_in_where on b
      number = g.part ∙ ap (λ z. z + parts_in_where on b) h.part

      temps : q.temp ≡ j + (temps_in_where on a + temps_in_where on b)
      temps = g.temp ∙ ap (λ z. z + temps_in_where on b) h.temp ∙ omega arith

      pub sum_tangent : IsPart r act q.part q.temp w → AreBehind (rename r (own_part act line q.part (sum_of (is_active_where on a) (is_active_where on b) (tangent_term on a k) (tangent_term on b p.part)))) s2 s3 →
          IsTangent r on (bin plus a b) k j w × AreBehind (rename r (parts_where on (bin plus a b) k j line)) s0 s3
      sum_tangent part after =
          let e = λ (z : ℕ). sum_of (is_active_where on a) (is_active_where on b) (tangent_term on a k) (tangent_term on b z) in
          let first = parts_where on a k j line in
          let other = parts_where on b m n line in
          composed (bin plus a b) k j act (e p.part) (e m) q.part (m + parts_in_where on b) q.temp (first +++ other) w s0 s2 s3 number (ap e h.part) refl refl (omega arith) temps
          (sym (append_assoc first other (own_part act line (m + parts_in_where on b) (e m)))) (both_behind r first other s0 s1 s2 c second) part after

      pub difference_tangent : IsPart r act q.part q.temp w → AreBehind (rename r (own_part act line q.part (difference_of (is_active_where on a) (is_active_where on b) (tangent_term on a k) (tangent_term on b p.part)))) s2 s3 →
          IsTangent r on (bin minus a b) k j w × AreBehind (rename r (parts_where on (bin minus a b) k j line)) s0 s3
      difference_tangent part after =
          let e = λ (z : ℕ). difference_of (is_active_where on a) (is_active_where on b) (tangent_term on a k) (tangent_term on b z) in
          let first = parts_where on a k j line in
          let other = parts_where on b m n line in
          composed (bin minus a b) k j act (e p.part) (e m) q.part (m + parts_in_where on b) q.temp (first +++ other) w s0 s2 s3 number (ap e h.part) refl refl (omega arith) temps
          (sym (append_assoc first other (own_part act line (m + parts_in_where on b) (e m)))) (both_behind r first other s0 s1 s2 c second) part after

    pub product_tangent : (oa ob : Bool) (begun next : ℕ) → oa ≡ has_own_where on a b → ob ≡ (is_compound b && is_some p.value) → begun ≡ p.temp + count_of oa → IsTangent r on b p.part begun q → AreBehind (rename r (parts_where on b p.part begun line)) s1 s2 → next ≡ q.temp + count_of ob → IsPart r act q.part next w →
        AreBehind (rename r (own_part act line q.part (sum_of (is_active_where on a) (is_active_where on b) (bin times (tangent_term on a k) (own_or ob q.temp b)) (bin times (own_or oa p.temp a) (tangent_term on b p.part))))) s2 s3 →
        IsTangent r on (bin times a b) k j w × AreBehind (rename r (parts_where on (bin times a b) k j line)) s0 s3
    product_tangent oa ob begun next ea eb hb g d hn part after =
        let n = j + temps_in_where on a + count_of (has_own_where on a b) in
        let at : begun ≡ j + temps_in_where on a + count_of (has_own_where on a b) = hb ∙ (λ i. h.temp i + count_of (ea i)) in
        let own : ob ≡ has_own_where on b a = eb ∙ ap (λ z. is_compound b && z) (value_there r (is_active_where on a) (tangent_term on a k) p.value h.value) in
        let to : q.temp ≡ n + temps_in_where on b = g.temp ∙ ap (λ z. z + temps_in_where on b) at in
        let number : q.part ≡ m + parts_in_where on b = g.part ∙ ap (λ z. z + parts_in_where on b) h.part in
        let first = parts_where on a k j line in
        let other = parts_where on b m n line in
        let e = λ (u : Bool) (v : ℕ) (o : Bool) (y z : ℕ). sum_of (is_active_where on a) (is_active_where on b) (bin times (tangent_term on a k) (own_or u v b)) (bin times (own_or o y a) (tangent_term on b z)) in
        let x = e (has_own_where on b a) (n + temps_in_where on b) (has_own_where on a b) (j + temps_in_where on a) m in
        composed (bin times a b) k j act (e ob q.temp oa p.temp p.part) x q.part (m + parts_in_where on b) next (first +++ other) w s0 s2 s3 number (λ i. e (own i) (to i) (ea i) (h.temp i) (h.part i)) refl refl (omega arith)
        (hn ∙ (λ i. to i + count_of (own i)) ∙ omega arith)
        (sym (append_assoc first other (own_part act line (m + parts_in_where on b) x)))
        (both_behind r first other s0 s1 s2 c (moved r (parts_where on b p.part begun line) other s1 s2 (λ i. parts_where on b (h.part i) (at i) line) d)) part after

  pub power_tangent : (a : Term) (n k j : ℕ) (o : Bool) (next : ℕ) (p q : Tangent) (s0 s1 s2 : List Stmt) → IsTangent r on a k j p → AreBehind (rename r (parts_where on a k j line)) s0 s1 → o ≡ (is_compound a && is_some p.value) → next ≡ p.temp + count_of o → IsPart r (is_active_where on a) p.part next q →
      AreBehind (rename r (own_part (is_active_where on a) line p.part (bin times (bin times (lit (pos (suc (suc n)))) (pow (own_or o p.temp a) (suc n))) (tangent_term on a k)))) s1 s2 →
      IsTangent r on (pow a (suc (suc n))) k j q × AreBehind (rename r (parts_where on (pow a (suc (suc n))) k j line)) s0 s2
  power_tangent a n k j o next p q s0 s1 s2 h c eo hn part after =
      let own : o ≡ has_own_where on a a = eo ∙ ap (λ z. is_compound a && z) (value_there r (is_active_where on a) (tangent_term on a k) p.value h.value) in
      let e = λ (u : Bool) (v : ℕ). bin times (bin times (lit (pos (suc (suc n)))) (pow (own_or u v a) (suc n))) (tangent_term on a k) in
      composed (pow a (suc (suc n))) k j (is_active_where on a) (e o p.temp) (e (has_own_where on a a) (j + temps_in_where on a)) p.part (k + parts_in_where on a) next (parts_where on a k j line) q s0 s1 s2 h.part (λ i. e (own i) (h.temp i)) refl refl (omega arith)
      (hn ∙ (λ i. h.temp i + count_of (own i)) ∙ omega arith) refl c part after

  pub exponent_tangent : (a b : Term) (k j : ℕ) (oa ob : Bool) (between next : ℕ) (p q : Tangent) (s0 s1 s2 : List Stmt) → IsTangent r on a k j p → AreBehind (rename r (parts_where on a k j line)) s0 s1 → oa ≡ (is_compound a && is_some p.value) → ob ≡ (is_compound b && is_some p.value) → between ≡ p.temp + count_of oa → next ≡ between + count_of ob → IsPart r (is_active_where on a) p.part next q →
      AreBehind (rename r (own_part (is_active_where on a) line p.part (bin times (power_factor (own_or oa p.temp a) (own_or ob between b)) (tangent_term on a k)))) s1 s2 →
      IsTangent r on (power_of a b) k j q × AreBehind (rename r (parts_where on (power_of a b) k j line)) s0 s2
  exponent_tangent a b k j oa ob between next p q s0 s1 s2 h c ea eb hb hn part after =
      let active = value_there r (is_active_where on a) (tangent_term on a k) p.value h.value in
      let base : oa ≡ has_own_where on a a = ea ∙ ap (λ z. is_compound a && z) active in
      let exponent : ob ≡ has_own_where on b a = eb ∙ ap (λ z. is_compound b && z) active in
      let at : between ≡ j + temps_in_where on a + count_of (has_own_where on a a) = hb ∙ (λ i. h.temp i + count_of (base i)) in
      let e = λ (u : Bool) (v : ℕ) (o : Bool) (y : ℕ). bin times (power_factor (own_or u v a) (own_or o y b)) (tangent_term on a k) in
      composed (power_of a b) k j (is_active_where on a) (e oa p.temp ob between) (e (has_own_where on a a) (j + temps_in_where on a) (has_own_where on b a) (j + temps_in_where on a + count_of (has_own_where on a a))) p.part (k + parts_in_where on a) next (parts_where on a k j line) q s0 s1 s2 h.part
      (λ i. e (base i) (h.temp i) (exponent i) (at i)) refl refl (omega arith) (hn ∙ (λ i. at i + count_of (exponent i)) ∙ omega arith) refl c part after
