-- The tangent of statements is formed as written code is, where the helpers that it uses and the tangents of carried variables stand.
use Rattle.std.proofs.Common.{◌≡◌, ℕ, zero, suc, ◌+◌, ◌<◌, ◌≤◌, ◌^◌, Bool, true, false, List, refl, arith, if◌then◌else◌}
use Rattle.std.specs.Prelude.{pos, ◌||◌, Option, Some}
use Rattle.adj_tree.specs.Code.{Var, plain, shadow, helper, work, temp, plus, minus, times, quot, modulo, greater, lesser, Term, lit, var, elem, neg, bin, pow, power_of, abs, Terms, none, more, assign}
use Rattle.def_meaning.specs.Append.{◌+++◌, one}
use Rattle.def_names.specs.Standing as standing
use Rattle.def_names.specs.Numbers.{Vars}
use Rattle.def_sweep.specs.Marked.{code_if, count_of, own_or}
use Rattle.def_sweep.specs.Occurrences.{is_active_where}
use Rattle.def_sweep.specs.AdjointOf.{has_own_where, temps_in_where, temps_where}
use Rattle.law_emitted.proofs.Over.{OverTerm, OverPlace, OverCode, over_append}
use Rattle.law_emitted.proofs.Terms.{own_or_over, temps_over}
use Rattle.def_tangent.specs.TangentOf.{parts_in_where, tangent_term, sum_of, difference_of, own_part, parts_where, before_assignment}

-- what is true counts as one
one_of : (b : Bool) → b ≡ true → count_of b ≡ 1
one_of true e = refl
one_of false e = absurd cc

module _ (on : Vars) (Q : Var → Option ℕ → Type 0) (A : Var → Type 0) (C : List ℕ → Terms → Type 0) (works temps : ℕ) (work_stands : (k : ℕ) → 1 ≤ k → k ≤ works → Q (helper work k) (Some 0)) (temp_stands : (j : ℕ) → 1 ≤ j → j ≤ temps → Q (helper temp j) (Some 0))
    (shadow_stands : (x : List ℕ) (n : ℕ) → on (plain x) ≡ true → Q (plain x) (Some n) → Q (shadow x) (Some n)) where
  -- ---- tangents of terms

  zero_over : OverTerm Q A (lit (pos 0))
  zero_over = omega arith

  tangent_over : (e : Term) (k : ℕ) → OverTerm Q A e → is_active_where on e ≡ true → 1 ≤ k → k + parts_in_where on e ≤ suc works → OverTerm Q A (tangent_term on e k)
  tangent_over (lit z) k w act low high = zero_over
  tangent_over (var (plain x)) k w act low high = shadow_stands x 0 act w
  tangent_over (var (shadow x)) k w act low high = zero_over
  tangent_over (var (helper r i)) k w act low high = zero_over
  tangent_over (elem (plain x) none) k w act low high = absurd w.1.0
  tangent_over (elem (plain x) (more e es)) k w act low high = (shadow_stands x (standing.count_of (more e es)) act w.0, w.1)
  tangent_over (elem (shadow x) subs) k w act low high = zero_over
  tangent_over (elem (helper r i) subs) k w act low high = zero_over
  tangent_over (neg a) k w act low high = let c = one_of (is_active_where on a) act in work_stands (k + parts_in_where on a) (omega (arith, low)) (omega (arith, high, c))
  tangent_over (bin plus a b) k w act low high = let c = one_of (is_active_where on a || is_active_where on b) act in work_stands (k + parts_in_where on a + parts_in_where on b) (omega (arith, low)) (omega (arith, high, c))
  tangent_over (bin minus a b) k w act low high = let c = one_of (is_active_where on a || is_active_where on b) act in work_stands (k + parts_in_where on a + parts_in_where on b) (omega (arith, low)) (omega (arith, high, c))
  tangent_over (bin times a b) k w act low high = let c = one_of (is_active_where on a || is_active_where on b) act in work_stands (k + parts_in_where on a + parts_in_where on b) (omega (arith, low)) (omega (arith, high, c))
  tangent_over (bin quot a b) k w act low high = zero_over
  tangent_over (bin modulo a b) k w act low high = zero_over
  tangent_over (bin greater a b) k w act low high = zero_over
  tangent_over (bin lesser a b) k w act low high = zero_over
  tangent_over (pow a zero) k w act low high = zero_over
  tangent_over (pow a (suc n)) k w act low high = let c = one_of (is_active_where on a) act in work_stands (k + parts_in_where on a) (omega (arith, low)) (omega (arith, high, c))
  tangent_over (power_of a b) k w act low high = let c = one_of (is_active_where on a) act in work_stands (k + parts_in_where on a) (omega (arith, low)) (omega (arith, high, c))
  tangent_over (abs a) k w act low high = zero_over

  sum_over : (b c : Bool) (x y : Term) → (b || c) ≡ true → (b ≡ true → OverTerm Q A x) → (c ≡ true → OverTerm Q A y) → OverTerm Q A (sum_of b c x y)
  sum_over true true x y h f g = (f refl, g refl)
  sum_over true false x y h f g = f refl
  sum_over false true x y h f g = g refl
  sum_over false false x y h f g = absurd cc

  difference_over : (b c : Bool) (x y : Term) → (b || c) ≡ true → (b ≡ true → OverTerm Q A x) → (c ≡ true → OverTerm Q A y) → OverTerm Q A (difference_of b c x y)
  difference_over true true x y h f g = (f refl, g refl)
  difference_over true false x y h f g = f refl
  difference_over false true x y h f g = g refl
  difference_over false false x y h f g = absurd cc

  -- the helper of a part
  part_over : (b : Bool) (line m : ℕ) (e : Term) → 1 ≤ m → m + count_of b ≤ suc works → (b ≡ true → OverTerm Q A e) → OverCode Q A C (own_part b line m e)
  part_over true line m e low high h = ((work_stands m low (omega (arith, high)), h refl), tt)
  part_over false line m e low high h = tt

  parts_over : (e : Term) (k j line : ℕ) → OverTerm Q A e → 1 ≤ k → k + parts_in_where on e ≤ suc works → 1 ≤ j → j + temps_in_where on e ≤ suc temps → OverCode Q A C (parts_where on e k j line)
  parts_over (lit z) k j line w low high first last = tt
  parts_over (var x) k j line w low high first last = tt
  parts_over (elem x subs) k j line w low high first last = tt
  parts_over (neg a) k j line w low high first last =
      over_append Q A C (parts_where on a k j line) _ (parts_over a k j line w low (omega arith) first last)
      (part_over (is_active_where on a) line (k + parts_in_where on a) (neg (tangent_term on a k)) (omega arith) (omega arith) (λ t. tangent_over a k w t low (omega arith)))
  parts_over (bin plus a b) k j line w low high first last =
      let m = k + parts_in_where on a in
      over_append Q A C (parts_where on a k j line) _ (parts_over a k j line w.0 low (omega arith) first (omega arith))
      (over_append Q A C (parts_where on b m (j + temps_in_where on a) line) _ (parts_over b (k + parts_in_where on a) (j + temps_in_where on a) line w.1 (omega arith) (omega arith) (omega arith) (omega arith))
      (part_over (is_active_where on a || is_active_where on b) line (k + parts_in_where on a + parts_in_where on b) _ (omega arith) (omega arith)
      (λ t. sum_over (is_active_where on a) (is_active_where on b) (tangent_term on a k) (tangent_term on b m) t (λ e. tangent_over a k w.0 e low (omega arith)) (λ e. tangent_over b (k + parts_in_where on a) w.1 e (omega arith) (omega arith)))))
  parts_over (bin minus a b) k j line w low high first last =
      let m = k + parts_in_where on a in
      over_append Q A C (parts_where on a k j line) _ (parts_over a k j line w.0 low (omega arith) first (omega arith))
      (over_append Q A C (parts_where on b m (j + temps_in_where on a) line) _ (parts_over b (k + parts_in_where on a) (j + temps_in_where on a) line w.1 (omega arith) (omega arith) (omega arith) (omega arith))
      (part_over (is_active_where on a || is_active_where on b) line (k + parts_in_where on a + parts_in_where on b) _ (omega arith) (omega arith)
      (λ t. difference_over (is_active_where on a) (is_active_where on b) (tangent_term on a k) (tangent_term on b m) t (λ e. tangent_over a k w.0 e low (omega arith)) (λ e. tangent_over b (k + parts_in_where on a) w.1 e (omega arith) (omega arith)))))
  parts_over (bin times a b) k j line w low high first last =
      let m = k + parts_in_where on a in
      let i = j + temps_in_where on a + count_of (has_own_where on a b) in
      over_append Q A C (parts_where on a k j line) _ (parts_over a k j line w.0 low (omega arith) first (omega arith))
      (over_append Q A C (parts_where on b m i line) _ (parts_over b (k + parts_in_where on a) (j + temps_in_where on a + count_of (has_own_where on a b)) line w.1 (omega arith) (omega arith) (omega arith) (omega arith))
      (part_over (is_active_where on a || is_active_where on b) line (k + parts_in_where on a + parts_in_where on b) _ (omega arith) (omega arith)
      (λ t. sum_over (is_active_where on a) (is_active_where on b) (bin times (tangent_term on a k) (own_or (has_own_where on b a) (i + temps_in_where on b) b)) (bin times (own_or (has_own_where on a b) (j + temps_in_where on a) a) (tangent_term on b m)) t
      (λ e. (tangent_over a k w.0 e low (omega arith), own_or_over on Q A C temps temp_stands (has_own_where on b a) (j + temps_in_where on a + count_of (has_own_where on a b) + temps_in_where on b) b (omega arith) (omega arith) w.1))
      (λ e. (own_or_over on Q A C temps temp_stands (has_own_where on a b) (j + temps_in_where on a) a (omega arith) (omega arith) w.0, tangent_over b (k + parts_in_where on a) w.1 e (omega arith) (omega arith))))))
  parts_over (bin quot a b) k j line w low high first last = tt
  parts_over (bin modulo a b) k j line w low high first last = tt
  parts_over (bin greater a b) k j line w low high first last = tt
  parts_over (bin lesser a b) k j line w low high first last = tt
  parts_over (pow a zero) k j line w low high first last = tt
  parts_over (pow a (suc zero)) k j line w low high first last =
      over_append Q A C (parts_where on a k j line) _ (parts_over a k j line w.0 low (omega arith) first last)
      (part_over (is_active_where on a) line (k + parts_in_where on a) (tangent_term on a k) (omega arith) (omega arith) (λ t. tangent_over a k w.0 t low (omega arith)))
  parts_over (pow a (suc (suc n))) k j line w low high first last =
      let small : suc (suc n) ≤ 63 = w.1 in
      let word : suc (suc n) < 2 ^ 63 = omega (arith, small) in
      let less : suc n ≤ 63 = omega (arith, small) in
      over_append Q A C (parts_where on a k j line) _ (parts_over a k j line w.0 low (omega arith) first (omega arith))
      (part_over (is_active_where on a) line (k + parts_in_where on a) _ (omega arith) (omega arith)
      (λ t. ((word, (own_or_over on Q A C temps temp_stands (has_own_where on a a) (j + temps_in_where on a) a (omega arith) (omega arith) w.0, less)), tangent_over a k w.0 t low (omega arith))))
  parts_over (power_of a b) k j line w low high first last =
      let base = own_or_over on Q A C temps temp_stands (has_own_where on a a) (j + temps_in_where on a) a (omega arith) (omega arith) w.0 in
      let exponent = own_or_over on Q A C temps temp_stands (has_own_where on b a) (j + temps_in_where on a + count_of (has_own_where on a a)) b (omega arith) (omega arith) w.1.0 in
      let one_word : 1 < 2 ^ 63 = omega arith in
      let zero_word : 0 < 2 ^ 63 = omega arith in
      over_append Q A C (parts_where on a k j line) _ (parts_over a k j line w.0 low (omega arith) first (omega arith))
      (part_over (is_active_where on a) line (k + parts_in_where on a) _ (omega arith) (omega arith)
      (λ t. ((exponent, (base, (((exponent, one_word), zero_word), refl))), tangent_over a k w.0 t low (omega arith))))
  parts_over (abs a) k j line w low high first last = tt

  -- ---- what stands before an assignment

  pub before_over : (t : List ℕ) (subs : Terms) (e : Term) (line : ℕ) → OverPlace Q A (shadow t) subs → OverTerm Q A e → parts_in_where on e ≤ works → (is_active_where on e ≡ true → temps_in_where on e ≤ temps) → OverCode Q A C (before_assignment on t subs e line)
  before_over t subs e line here w most all = go (is_active_where on e) refl
    where
      go : (b : Bool) → is_active_where on e ≡ b → OverCode Q A C (code_if b (temps_where on e 1 line +++ parts_where on e 1 1 line) +++ one line (assign (shadow t) subs (if b then tangent_term on e 1 else lit (pos 0))))
      go true act =
          let enough = all act in
          over_append Q A C (temps_where on e 1 line +++ parts_where on e 1 1 line) (one line (assign (shadow t) subs (tangent_term on e 1)))
          (over_append Q A C (temps_where on e 1 line) (parts_where on e 1 1 line) (temps_over on Q A C temps temp_stands e 1 line w (omega arith) (omega (arith, enough))) (parts_over e 1 1 line w (omega arith) (omega (arith, most)) (omega arith) (omega (arith, enough))))
          ((here, tangent_over e 1 w act (omega arith) (omega (arith, most))), tt)
      go false act = ((here, zero_over), tt)
