-- The adjoint of an assignment is formed as written code is, where the helpers that it uses and the shadows of active variables stand.
use Rattle.std.proofs.Common.{◌≡◌, ℕ, zero, suc, ◌+◌, ◌<◌, ◌≤◌, ◌^◌, max, Bool, true, false, List, refl, arith, if◌then◌else◌}
use Rattle.std.specs.Prelude.{pos, ◌||◌, Option, Some}
use Rattle.adj_tree.specs.Code.{Var, plain, shadow, helper, work, temp, plus, minus, times, quot, modulo, greater, lesser, Term, lit, var, elem, neg, bin, pow, power_of, abs, Terms, none, more, assign, Code, step}
use Rattle.def_text.specs.Written.{is_literal}
use Rattle.def_meaning.specs.Append.{◌+++◌, one}
use Rattle.def_names.specs.Standing as standing
use Rattle.def_names.specs.Numbers.{Vars}
use Rattle.def_sweep.specs.Marked.{code_if, count_of, own_or, own_code, work_var, place}
use Rattle.def_sweep.specs.Occurrences.{is_active_where}
use Rattle.def_sweep.specs.AdjointOf.{has_own_where, temps_in_where, shrunk_where, temps_where, times_power, back_where, works_in_where, adjoint_where}
use Rattle.law_emitted.proofs.Over.{OverTerm, OverPlace, OverCode, over_append, over_if}

-- one of two holds, and bounds the greater of two numbers
either_bounds : (p q : Bool) (k m n : ℕ) → (p ≡ true → k ≤ m) → (q ≡ true → k ≤ n) → (p || q) ≡ true → k ≤ max m n
either_bounds true q k m n f g h = let bound = f refl in omega arith
either_bounds false q k m n f g h = let bound = g h in omega arith

-- where the first of two alternatives is taken
taken_bound : (b : Bool) (k : ℕ) → b ≡ true → k ≤ (if b then k else 0)
taken_bound true k h = omega arith
taken_bound false k h = cc

-- an exponent stays none that is literal
own_or_literal : (t : Bool) (j : ℕ) (e : Term) → is_literal e ≡ false → is_literal (own_or t j e) ≡ false
own_or_literal true j e h = refl
own_or_literal false j e h = h

module _ (on : Vars) where
  -- an active term uses the work variable of its own adjoint
  works_least : (e : Term) (k : ℕ) → is_active_where on e ≡ true → k ≤ works_in_where on e k
  works_least (lit z) k h = cc
  works_least (var x) k h = taken_bound (on x) k h
  works_least (elem x subs) k h = taken_bound (on x) k h
  works_least (neg a) k h = let least = works_least a (suc k) h in omega arith
  works_least (bin plus a b) k h = either_bounds (is_active_where on a) (is_active_where on b) k (works_in_where on a k) (works_in_where on b k) (works_least a k) (works_least b k) h
  works_least (bin minus a b) k h =
      either_bounds (is_active_where on a) (is_active_where on b) k (works_in_where on a k) (works_in_where on b (suc k)) (works_least a k) (λ t. let least = works_least b (suc k) t in omega arith) h
  works_least (bin times a b) k h =
      let least = either_bounds (is_active_where on a) (is_active_where on b) (suc k) (works_in_where on a (suc k)) (works_in_where on b (suc k)) (works_least a (suc k)) (works_least b (suc k)) h in
      omega arith
  works_least (bin quot a b) k h = cc
  works_least (bin modulo a b) k h = cc
  works_least (bin greater a b) k h = cc
  works_least (bin lesser a b) k h = cc
  works_least (pow a zero) k h = cc
  works_least (pow a (suc zero)) k h = works_least a k h
  works_least (pow a (suc (suc m))) k h = let least = works_least a (suc k) h in omega arith
  works_least (power_of a b) k h = let least = works_least a (suc k) h in omega arith
  works_least (abs a) k h = cc

  -- the first temporaries stand as scalars
  module _ (Q : Var → Option ℕ → Type 0) (A : Var → Type 0) (C : List ℕ → Terms → Type 0) (temps : ℕ) (temp_stands : (j : ℕ) → 1 ≤ j → j ≤ temps → Q (helper temp j) (Some 0)) where
    -- ---- operands

    -- an operand by its temporary or by itself
    pub own_or_over : (t : Bool) (j : ℕ) (e : Term) → 1 ≤ j → j + count_of t ≤ suc temps → OverTerm Q A e → OverTerm Q A (own_or t j e)
    own_or_over true j e low high w = temp_stands j low (omega arith)
    own_or_over false j e low high w = w

    shrunk_over : (e : Term) (j : ℕ) → OverTerm Q A e → 1 ≤ j → j + temps_in_where on e ≤ suc temps → OverTerm Q A (shrunk_where on e j)
    shrunk_over (lit z) j w low high = w
    shrunk_over (var x) j w low high = w
    shrunk_over (elem x subs) j w low high = w
    shrunk_over (neg a) j w low high = shrunk_over a j w low high
    shrunk_over (bin plus a b) j w low high = (shrunk_over a j w.0 low (omega arith), shrunk_over b (j + temps_in_where on a) w.1 (omega arith) (omega arith))
    shrunk_over (bin minus a b) j w low high = (shrunk_over a j w.0 low (omega arith), shrunk_over b (j + temps_in_where on a) w.1 (omega arith) (omega arith))
    shrunk_over (bin times a b) j w low high =
        let m = j + temps_in_where on a + count_of (has_own_where on a b) in (
          own_or_over (has_own_where on a b) (j + temps_in_where on a) (shrunk_where on a j) (omega arith) (omega arith) (shrunk_over a j w.0 low (omega arith)),
          own_or_over (has_own_where on b a) (m + temps_in_where on b) (shrunk_where on b m) (omega arith) (omega arith) (shrunk_over b m w.1 (omega arith) (omega arith)),
        )
    shrunk_over (bin quot a b) j w low high = w
    shrunk_over (bin modulo a b) j w low high = w
    shrunk_over (bin greater a b) j w low high = w
    shrunk_over (bin lesser a b) j w low high = w
    shrunk_over (pow a zero) j w low high = w
    shrunk_over (pow a (suc zero)) j w low high = (shrunk_over a j w.0 low high, w.1)
    shrunk_over (pow a (suc (suc k))) j w low high =
        (own_or_over (has_own_where on a a) (j + temps_in_where on a) (shrunk_where on a j) (omega arith) (omega arith) (shrunk_over a j w.0 low (omega arith)), w.1)
    shrunk_over (power_of a b) j w low high =
        let m = j + temps_in_where on a + count_of (has_own_where on a a) in (
          own_or_over (has_own_where on a a) (j + temps_in_where on a) (shrunk_where on a j) (omega arith) (omega arith) (shrunk_over a j w.0 low (omega arith)),
          (own_or_over (has_own_where on b a) m b (omega arith) (omega arith) w.1.0, own_or_literal (has_own_where on b a) m b w.1.1),
        )
    shrunk_over (abs a) j w low high = w

    -- ---- temporaries

    own_over : (t : Bool) (line j : ℕ) (e : Term) → 1 ≤ j → j + count_of t ≤ suc temps → OverTerm Q A e → OverCode Q A C (own_code t line j e)
    own_over true line j e low high w = ((temp_stands j low (omega arith), w), tt)
    own_over false line j e low high w = tt

    pub temps_over : (e : Term) (j line : ℕ) → OverTerm Q A e → 1 ≤ j → j + temps_in_where on e ≤ suc temps → OverCode Q A C (temps_where on e j line)
    temps_over (lit z) j line w low high = tt
    temps_over (var x) j line w low high = tt
    temps_over (elem x subs) j line w low high = tt
    temps_over (neg a) j line w low high = temps_over a j line w low high
    temps_over (bin plus a b) j line w low high =
        over_append Q A C (temps_where on a j line) (temps_where on b (j + temps_in_where on a) line) (temps_over a j line w.0 low (omega arith)) (temps_over b (j + temps_in_where on a) line w.1 (omega arith) (omega arith))
    temps_over (bin minus a b) j line w low high =
        over_append Q A C (temps_where on a j line) (temps_where on b (j + temps_in_where on a) line) (temps_over a j line w.0 low (omega arith)) (temps_over b (j + temps_in_where on a) line w.1 (omega arith) (omega arith))
    temps_over (bin times a b) j line w low high =
        let m = j + temps_in_where on a + count_of (has_own_where on a b) in
        let first = own_code (has_own_where on a b) line (j + temps_in_where on a) (shrunk_where on a j) in
        let second = own_code (has_own_where on b a) line (m + temps_in_where on b) (shrunk_where on b m) in
        over_append Q A C (temps_where on a j line) (first +++ (temps_where on b m line +++ second)) (temps_over a j line w.0 low (omega arith))
        (over_append Q A C first (temps_where on b m line +++ second) (own_over (has_own_where on a b) line (j + temps_in_where on a) (shrunk_where on a j) (omega arith) (omega arith) (shrunk_over a j w.0 low (omega arith)))
        (over_append Q A C (temps_where on b m line) second (temps_over b m line w.1 (omega arith) (omega arith))
        (own_over (has_own_where on b a) line (m + temps_in_where on b) (shrunk_where on b m) (omega arith) (omega arith) (shrunk_over b m w.1 (omega arith) (omega arith)))))
    temps_over (bin quot a b) j line w low high = tt
    temps_over (bin modulo a b) j line w low high = tt
    temps_over (bin greater a b) j line w low high = tt
    temps_over (bin lesser a b) j line w low high = tt
    temps_over (pow a zero) j line w low high = tt
    temps_over (pow a (suc zero)) j line w low high = temps_over a j line w.0 low high
    temps_over (pow a (suc (suc k))) j line w low high =
        over_append Q A C (temps_where on a j line) (own_code (has_own_where on a a) line (j + temps_in_where on a) (shrunk_where on a j)) (temps_over a j line w.0 low (omega arith))
        (own_over (has_own_where on a a) line (j + temps_in_where on a) (shrunk_where on a j) (omega arith) (omega arith) (shrunk_over a j w.0 low (omega arith)))
    temps_over (power_of a b) j line w low high =
        let m = j + temps_in_where on a + count_of (has_own_where on a a) in
        let first = own_code (has_own_where on a a) line (j + temps_in_where on a) (shrunk_where on a j) in
        let second = own_code (has_own_where on b a) line m b in
        over_append Q A C (temps_where on a j line) (first +++ second) (temps_over a j line w.0 low (omega arith))
        (over_append Q A C first second (own_over (has_own_where on a a) line (j + temps_in_where on a) (shrunk_where on a j) (omega arith) (omega arith) (shrunk_over a j w.0 low (omega arith)))
        (own_over (has_own_where on b a) line m b (omega arith) (omega arith) w.1.0))
    temps_over (abs a) j line w low high = tt

    -- so do the first work variables, and the shadows of active variables wherever these stand
    module _ (works : ℕ) (work_stands : (k : ℕ) → 1 ≤ k → k ≤ works → Q (helper work k) (Some 0)) (shadow_stands : (x : List ℕ) (n : ℕ) → on (plain x) ≡ true → Q (plain x) (Some n) → Q (shadow x) (Some n)) where
      -- ---- what is added to shadows

      -- the next work variable becomes a value, and more follows, where e is active
      scaled_over : (e : Term) (line k : ℕ) (v : Term) (c : Code) → 1 ≤ k → works_in_where on e (suc k) ≤ works → (k ≤ works → OverTerm Q A v) → (is_active_where on e ≡ true → OverCode Q A C c) → OverCode Q A C (code_if (is_active_where on e) (step line (assign (helper work (suc k)) none v) c))
      scaled_over e line k v c low high w h =
          over_if Q A C (is_active_where on e) (step line (assign (helper work (suc k)) none v) c) (λ t. let least = works_least e (suc k) t in ((work_stands (suc k) (omega arith) (omega arith), w (omega arith)), h t))

      back_over : (e : Term) (k j line : ℕ) → OverTerm Q A e → is_active_where on e ≡ true → 1 ≤ k → works_in_where on e k ≤ works → 1 ≤ j → j + temps_in_where on e ≤ suc temps → OverCode Q A C (back_where on e k j line)
      back_over (lit z) k j line w act low least first last = tt
      back_over (var (plain x)) k j line w act low least first last =
          let here = works_least (var (plain x)) k act in
          let stands = shadow_stands x 0 act w in
          ((stands, (stands, work_stands k low (omega arith))), tt)
      back_over (var (shadow x)) k j line w act low least first last = tt
      back_over (var (helper s i)) k j line w act low least first last = tt
      back_over (elem (plain x) none) k j line w act low least first last = absurd w.1.0
      back_over (elem (plain x) (more e es)) k j line w act low least first last =
          let here = works_least (elem (plain x) (more e es)) k act in
          let stands = shadow_stands x (standing.count_of (more e es)) act w.0 in
          (((stands, w.1), ((stands, w.1), work_stands k low (omega arith))), tt)
      back_over (elem (shadow x) subs) k j line w act low least first last = tt
      back_over (elem (helper s i) subs) k j line w act low least first last = tt
      back_over (neg a) k j line w act low least first last =
          let here = works_least (neg a) k act in
          scaled_over a line k (neg (work_var k)) (back_where on a (suc k) j line) low least (λ h. work_stands k low h) (λ t. back_over a (suc k) j line w t (omega arith) least first last)
      back_over (bin plus a b) k j line w act low least first last =
          let m = j + temps_in_where on a in
          over_append Q A C (code_if (is_active_where on a) (back_where on a k j line)) (code_if (is_active_where on b) (back_where on b k m line))
          (over_if Q A C (is_active_where on a) (back_where on a k j line) (λ t. back_over a k j line w.0 t low (omega arith) first (omega arith)))
          (over_if Q A C (is_active_where on b) (back_where on b k m line) (λ t. back_over b k m line w.1 t low (omega arith) (omega arith) (omega arith)))
      back_over (bin minus a b) k j line w act low least first last =
          let m = j + temps_in_where on a in
          over_append Q A C (code_if (is_active_where on a) (back_where on a k j line)) (code_if (is_active_where on b) (step line (assign (helper work (suc k)) none (neg (work_var k))) (back_where on b (suc k) m line)))
          (over_if Q A C (is_active_where on a) (back_where on a k j line) (λ t. back_over a k j line w.0 t low (omega arith) first (omega arith)))
          (scaled_over b line k (neg (work_var k)) (back_where on b (suc k) m line) low (omega arith) (λ h. work_stands k low h) (λ t. back_over b (suc k) m line w.1 t (omega arith) (omega arith) (omega arith) (omega arith)))
      back_over (bin times a b) k j line w act low least first last =
          let m = j + temps_in_where on a + count_of (has_own_where on a b) in
          let left = bin times (work_var k) (own_or (has_own_where on a b) (j + temps_in_where on a) a) in
          let right = bin times (work_var k) (own_or (has_own_where on b a) (m + temps_in_where on b) b) in
          over_append Q A C (code_if (is_active_where on a) (step line (assign (helper work (suc k)) none right) (back_where on a (suc k) j line))) (code_if (is_active_where on b) (step line (assign (helper work (suc k)) none left) (back_where on b (suc k) m line)))
          (scaled_over a line k right (back_where on a (suc k) j line) low (omega arith) (λ h. (work_stands k low h, own_or_over (has_own_where on b a) (m + temps_in_where on b) b (omega arith) (omega arith) w.1)) (λ t. back_over a (suc k) j line w.0 t (omega arith) (omega arith) first (omega arith)))
          (scaled_over b line k left (back_where on b (suc k) m line) low (omega arith) (λ h. (work_stands k low h, own_or_over (has_own_where on a b) (j + temps_in_where on a) a (omega arith) (omega arith) w.0)) (λ t. back_over b (suc k) m line w.1 t (omega arith) (omega arith) (omega arith) (omega arith)))
      back_over (bin quot a b) k j line w act low least first last = tt
      back_over (bin modulo a b) k j line w act low least first last = tt
      back_over (bin greater a b) k j line w act low least first last = tt
      back_over (bin lesser a b) k j line w act low least first last = tt
      back_over (pow a zero) k j line w act low least first last = tt
      back_over (pow a (suc zero)) k j line w act low least first last = over_if Q A C (is_active_where on a) (back_where on a k j line) (λ t. back_over a k j line w.0 t low least first last)
      back_over (pow a (suc (suc m))) k j line w act low least first last =
          let n = suc (suc m) in
          let value = own_or (has_own_where on a a) (j + temps_in_where on a) a in
          let high : suc (suc m) ≤ 63 = w.1 in
          let word : n < 2 ^ 63 = omega arith in
          let less : suc m ≤ 63 = omega arith in
          scaled_over a line k (bin times (bin times (work_var k) (lit (pos n))) (pow value (suc m))) (back_where on a (suc k) j line) low least
          (λ h. ((work_stands k low h, word), (own_or_over (has_own_where on a a) (j + temps_in_where on a) a (omega arith) (omega arith) w.0, less)))
          (λ t. back_over a (suc k) j line w.0 t (omega arith) least first (omega arith))
      back_over (power_of a b) k j line w act low least first last =
          let m = j + temps_in_where on a + count_of (has_own_where on a a) in
          let base = own_or (has_own_where on a a) (j + temps_in_where on a) a in
          let exponent = own_or (has_own_where on b a) m b in
          let one_word : 1 < 2 ^ 63 = omega arith in
          let zero_word : 0 < 2 ^ 63 = omega arith in
          scaled_over a line k (times_power (work_var k) base exponent) (back_where on a (suc k) j line) low least
          (λ h. ((work_stands k low h, own_or_over (has_own_where on b a) m b (omega arith) (omega arith) w.1.0), (own_or_over (has_own_where on a a) (j + temps_in_where on a) a (omega arith) (omega arith) w.0, (((own_or_over (has_own_where on b a) m b (omega arith) (omega arith) w.1.0, one_word), zero_word), refl))))
          (λ t. back_over a (suc k) j line w.0 t (omega arith) least first (omega arith))
      back_over (abs a) k j line w act low least first last = tt

      -- ---- the adjoint of an assignment

      -- the value of a place
      place_over : (x : Var) (subs : Terms) → OverPlace Q A x subs → OverTerm Q A (place x subs)
      place_over x none h = h
      place_over x (more e es) h = h

      pub adjoint_over : (t : List ℕ) (subs : Terms) (e : Term) (line : ℕ) → OverPlace Q A (shadow t) subs → OverTerm Q A e → works_in_where on e 1 ≤ works → temps_in_where on e ≤ temps → OverCode Q A C (adjoint_where on t subs e line)
      adjoint_over t subs e line here w most all =
          let taken = one line (assign (helper work 1) none (place (shadow t) subs)) in
          let zero_word : 0 < 2 ^ 63 = omega arith in
          over_append Q A C (code_if (is_active_where on e) (temps_where on e 1 line +++ taken)) (one line (assign (shadow t) subs (lit (pos 0))) +++ code_if (is_active_where on e) (back_where on e 1 1 line))
          (over_if Q A C (is_active_where on e) (temps_where on e 1 line +++ taken)
          (λ h. let least = works_least e 1 h in over_append Q A C (temps_where on e 1 line) taken (temps_over e 1 line w (omega arith) (omega arith)) ((work_stands 1 (omega arith) (omega arith), place_over (shadow t) subs here), tt)))
          ((here, zero_word), over_if Q A C (is_active_where on e) (back_where on e 1 1 line) (λ h. back_over e 1 1 line w h (omega arith) most (omega arith) (omega arith)))
