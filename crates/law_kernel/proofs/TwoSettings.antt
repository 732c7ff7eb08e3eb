-- Values, actuals and handing back in two settings that agree on some variables.
use Rattle.std.proofs.Common.{◌≡◌, ℕ, Bool, true, false, List, [], ◌∷◌, refl, sym, ap}
use Rattle.std.specs.Prelude.{ℤ, ◌||◌, ◌&&◌, not, ◌==◌, Option, Result, Ok, if◌then◌else◌}
use Rattle.adj_tree.specs.Code.{Var, plain, var_eq, Term, lit, var, elem, neg, bin, pow, power_of, abs, Terms, none, more, Test, compare, negation, conjunction, disjunction}
use Rattle.def_meaning.specs.Trap.{Trap, index, then_ok, or_trap}
use Rattle.def_meaning.specs.Numbers.{Numbers, operation, absolute, compares}
use Rattle.def_meaning.specs.Store.{Shape, Store, cell_of}
use Rattle.def_meaning.specs.Value.{Setting, exponent_of, value, values, target, cell_at, holds}
use Rattle.def_meaning.specs.Read.{reads_term, reads_terms, reads_test}
use Rattle.def_meaning.specs.Units.{Place, whole, cell, nowhere, Actual, one_word, actual_of, actuals, put, copied_out}
use Rattle.def_meaning.proofs.Booleans.{or_first, or_second}
use Rattle.def_meaning.proofs.Variables.{var_refl}
use Rattle.law_kernel.specs.Apart.{TermInside, TermsInside, TestInside}
use Rattle.law_kernel.proofs.Targeting.{first_inside, rest_inside}

module _ {C : Type 0} (N : Numbers C) (room : Option ℕ) where
  -- a setting by its shapes and its level
  abbrev pub set_in : (Var → Shape) → ℕ → Setting C
  set_in sh level = record { numbers = N; shape = sh; room = room; level = level }

  module _ (inside : Var → Bool) (sh sh' : Var → Shape) (level level' : ℕ) (same : (x : Var) → inside x ≡ true → sh' x ≡ sh x) (f g : Store C) (agree : (x : Var) (i : ℕ) → inside x ≡ true → f x i ≡ g x i) where
    abbrev n : Setting C
    n = set_in sh level

    abbrev n' : Setting C
    n' = set_in sh' level'

    -- the same cell
    cell_same : (x : Var) (is : List ℤ) → inside x ≡ true → cell_at n x is ≡ cell_at n' x is
    cell_same x is h = λ i. or_trap index (cell_of (sym (same x h) i) is)

    mutual
      pub value_two : (e : Term) → TermInside inside e → value n e f ≡ value n' e g
      value_two (lit z) h = refl
      value_two (var x) h = ap Ok (agree x 0 (h x (var_refl x)))
      value_two (elem x subs) h =
          let hx = h x (or_first (var_eq x x) (reads_terms x subs) (var_refl x)) in
          λ i. then_ok (values_two subs (λ y r. h y (or_second (var_eq y x) (reads_terms y subs) r)) i) (λ is. then_ok (cell_same x is hx i) (λ j. Ok (agree x j hx i)))
      value_two (neg a) h = ap (λ z. then_ok z (λ u. Ok (N.negation u))) (value_two a h)
      value_two (bin op a b) h =
          λ i. then_ok (value_two a (λ x r. h x (or_first (reads_term x a) (reads_term x b) r)) i) (λ u. then_ok (value_two b (λ x r. h x (or_second (reads_term x a) (reads_term x b) r)) i) (λ v. operation N op u v))
      value_two (pow a k) h = ap (λ z. then_ok z (λ u. Ok (N.raised_to u k))) (value_two a h)
      value_two (power_of a b) h =
          λ i. then_ok (value_two a (λ x r. h x (or_first (reads_term x a) (reads_term x b) r)) i) (λ u. then_ok (value_two b (λ x r. h x (or_second (reads_term x a) (reads_term x b) r)) i) (λ v. then_ok (exponent_of (N.shown v)) (λ k. Ok (N.raised_to u k))))
      value_two (abs a) h = ap (λ z. then_ok z (λ u. Ok (absolute N u))) (value_two a h)

      pub values_two : (es : Terms) → TermsInside inside es → values n es f ≡ values n' es g
      values_two none h = refl
      values_two (more e es) h = λ i. then_ok (value_two e (first_inside inside e es h) i) (λ u. then_ok (values_two es (rest_inside inside e es h) i) (λ us. Ok (N.shown u ∷ us)))

    -- the cell of a target is the same
    pub target_two : (x : Var) (subs : Terms) → inside x ≡ true → TermsInside inside subs → target n x subs f ≡ target n' x subs g
    target_two x none hx h = refl
    target_two x (more e es) hx h = λ i. then_ok (values_two (more e es) h i) (λ is. cell_same x is hx i)

    -- and so is a condition
    pub holds_two : (c : Test) → TestInside inside c → holds n c f ≡ holds n' c g
    holds_two (compare r a b) h =
        λ i. then_ok (value_two a (λ x z. h x (or_first (reads_term x a) (reads_term x b) z)) i) (λ u. then_ok (value_two b (λ x z. h x (or_second (reads_term x a) (reads_term x b) z)) i) (λ v. Ok (compares r (N.shown u) (N.shown v))))
    holds_two (negation c) h = ap (λ z. then_ok z (λ p. Ok (not p))) (holds_two c h)
    holds_two (conjunction c d) h =
        λ i. then_ok (holds_two c (λ x z. h x (or_first (reads_test x c) (reads_test x d) z)) i) (λ p. then_ok (holds_two d (λ x z. h x (or_second (reads_test x c) (reads_test x d) z)) i) (λ q. Ok (p && q)))
    holds_two (disjunction c d) h =
        λ i. then_ok (holds_two c (λ x z. h x (or_first (reads_test x c) (reads_test x d) z)) i) (λ p. then_ok (holds_two d (λ x z. h x (or_second (reads_test x c) (reads_test x d) z)) i) (λ q. Ok (p || q)))

    -- an actual is the same
    value_actual : (v w : Result C Trap) → v ≡ w → then_ok v (λ c. Ok (one_word c nowhere)) ≡ then_ok w (λ c. Ok (one_word c nowhere))
    value_actual v w e = ap (λ z. then_ok z (λ c. Ok (one_word c nowhere))) e

    -- an actual is the same
    actual_two : (e : Term) → TermInside inside e → actual_of n e f ≡ actual_of n' e g
    actual_two (var x) h = let hx = h x (var_refl x) in λ i. Ok (record { shape = sym (same x hx) i; cells = λ j. agree x j hx i; place = whole x })
    actual_two (elem x subs) h =
        let hx = h x (or_first (var_eq x x) (reads_terms x subs) (var_refl x)) in
        λ i. then_ok (values_two subs (λ y r. h y (or_second (var_eq y x) (reads_terms y subs) r)) i) (λ is. then_ok (cell_same x is hx i) (λ j. Ok (one_word (agree x j hx i) (cell x j))))
    actual_two (lit z) h = refl
    actual_two (neg a) h = value_actual (value n (neg a) f) (value n' (neg a) g) (value_two (neg a) h)
    actual_two (bin op a b) h = value_actual (value n (bin op a b) f) (value n' (bin op a b) g) (value_two (bin op a b) h)
    actual_two (pow a k) h = value_actual (value n (pow a k) f) (value n' (pow a k) g) (value_two (pow a k) h)
    actual_two (power_of a b) h = value_actual (value n (power_of a b) f) (value n' (power_of a b) g) (value_two (power_of a b) h)
    actual_two (abs a) h = value_actual (value n (abs a) f) (value n' (abs a) g) (value_two (abs a) h)

    -- so the actuals are the same: their cells are all equal
    pub actuals_two : (es : Terms) → TermsInside inside es → actuals n es f ≡ actuals n' es g
    actuals_two none h = refl
    actuals_two (more e es) h = λ i. then_ok (actual_two e (first_inside inside e es h) i) (λ a. then_ok (actuals_two es (rest_inside inside e es h) i) (λ got. Ok (a ∷ got)))

-- ---- handing back to two stores

module _ {C : Type 0} (inside : Var → Bool) (u v : Store C) where
  -- stores that agree on the variables inside
  abbrev pub Agreeing : Store C → Store C → Type 0
  Agreeing f g = (x : Var) (i : ℕ) → inside x ≡ true → f x i ≡ g x i

  -- cells that are put keep agreement
  put_two : (p : Place) (cs ds : ℕ → C) (f g : Store C) → ((i : ℕ) → cs i ≡ ds i) → Agreeing f g → Agreeing (put p cs f) (put p ds g)
  put_two (whole y) cs ds f g e a x i h = λ k. if var_eq x y then e i k else a x i h k
  put_two (cell y j) cs ds f g e a x i h = λ k. if var_eq x y && (i == j) then e 0 k else a x i h k
  put_two nowhere cs ds f g e a x i h = a x i h

  -- of each dummy both hand back the same
  abbrev pub Equal : List (List ℕ) → Type 0
  Equal [] = Unit {0}
  Equal (d ∷ ds) = ((i : ℕ) → u (plain d) i ≡ v (plain d) i) × Equal ds

  -- and so does handing back
  pub copied_two : (ds : List (List ℕ)) (ws : List Bool) (got : List (Actual C)) (f g : Store C) → Equal ds → Agreeing f g → Agreeing (copied_out ds ws got u f) (copied_out ds ws got v g)
  copied_two [] ws got f g e a = a
  copied_two (d ∷ ds) [] got f g e a = a
  copied_two (d ∷ ds) (w ∷ ws) [] f g e a = a
  copied_two (d ∷ ds) (true ∷ ws) (b ∷ got) f g e a = copied_two ds ws got (put b.place (u (plain d)) f) (put b.place (v (plain d)) g) e.1 (put_two b.place (u (plain d)) (v (plain d)) f g e.0 a)
  copied_two (d ∷ ds) (false ∷ ws) (b ∷ got) f g e a = copied_two ds ws got f g e.1 a
