-- Values and actuals don't depend on the room of the tape.
use Rattle.std.proofs.Common.{◌≡◌, ◌∷◌, refl, ap}
use Rattle.std.specs.Prelude.{Ok, None, ◌&&◌, ◌||◌, not}
use Rattle.adj_tree.specs.Code.{Var, Term, lit, var, elem, neg, bin, pow, power_of, abs, Terms, none, more, Test, compare, negation, conjunction, disjunction}
use Rattle.def_meaning.specs.Trap.{then_ok}
use Rattle.def_meaning.specs.Numbers.{operation, absolute, compares}
use Rattle.def_meaning.specs.Store.{Store}
use Rattle.def_meaning.specs.Value.{Setting, exponent_of, value, values, cell_at, target, holds}
use Rattle.def_meaning.specs.Units.{cell, nowhere, one_word, actual_of, actuals}

-- the same setting with a tape without a limit
abbrev pub unlimited : {C : Type 0} → Setting C → Setting C
unlimited n = record n { room = None }

module _ {C : Type 0} (n : Setting C) where
  mutual
    -- an expression
    pub value_same : (e : Term) (s : Store C) → value n e s ≡ value (unlimited n) e s
    value_same (lit z) s = refl
    value_same (var x) s = refl
    value_same (elem x subs) s = λ i. then_ok (values_same subs s i) (λ is. then_ok (cell_at n x is) (λ j. Ok (s x j)))
    value_same (neg a) s = λ i. then_ok (value_same a s i) (λ u. Ok (n.numbers.negation u))
    value_same (bin op a b) s = λ i. then_ok (value_same a s i) (λ u. then_ok (value_same b s i) (λ v. operation n.numbers op u v))
    value_same (pow a k) s = λ i. then_ok (value_same a s i) (λ u. Ok (n.numbers.raised_to u k))
    value_same (power_of a b) s = λ i. then_ok (value_same a s i) (λ u. then_ok (value_same b s i) (λ v. then_ok (exponent_of (n.numbers.shown v)) (λ k. Ok (n.numbers.raised_to u k))))
    value_same (abs a) s = λ i. then_ok (value_same a s i) (λ u. Ok (absolute n.numbers u))

    -- some expressions
    pub values_same : (es : Terms) (s : Store C) → values n es s ≡ values (unlimited n) es s
    values_same none s = refl
    values_same (more e es) s = λ i. then_ok (value_same e s i) (λ u. then_ok (values_same es s i) (λ us. Ok (n.numbers.shown u ∷ us)))

  -- the cell of a target
  pub target_same : (x : Var) (subs : Terms) (s : Store C) → target n x subs s ≡ target (unlimited n) x subs s
  target_same x none s = refl
  target_same x (more e es) s = λ i. then_ok (values_same (more e es) s i) (λ is. cell_at n x is)

  -- a condition
  pub holds_same : (c : Test) (s : Store C) → holds n c s ≡ holds (unlimited n) c s
  holds_same (compare r a b) s = λ i. then_ok (value_same a s i) (λ u. then_ok (value_same b s i) (λ v. Ok (compares r (n.numbers.shown u) (n.numbers.shown v))))
  holds_same (negation c) s = λ i. then_ok (holds_same c s i) (λ p. Ok (not p))
  holds_same (conjunction c d) s = λ i. then_ok (holds_same c s i) (λ p. then_ok (holds_same d s i) (λ q. Ok (p && q)))
  holds_same (disjunction c d) s = λ i. then_ok (holds_same c s i) (λ p. then_ok (holds_same d s i) (λ q. Ok (p || q)))

  -- an actual of a call
  actual_same : (e : Term) (s : Store C) → actual_of n e s ≡ actual_of (unlimited n) e s
  actual_same (var x) s = refl
  actual_same (elem x subs) s = λ i. then_ok (values_same subs s i) (λ is. then_ok (cell_at n x is) (λ j. Ok (one_word (s x j) (cell x j))))
  actual_same (lit z) s = refl
  actual_same (neg a) s = ap (λ v. then_ok v (λ c. Ok (one_word c nowhere))) (value_same (neg a) s)
  actual_same (bin op a b) s = ap (λ v. then_ok v (λ c. Ok (one_word c nowhere))) (value_same (bin op a b) s)
  actual_same (pow a k) s = ap (λ v. then_ok v (λ c. Ok (one_word c nowhere))) (value_same (pow a k) s)
  actual_same (power_of a b) s = ap (λ v. then_ok v (λ c. Ok (one_word c nowhere))) (value_same (power_of a b) s)
  actual_same (abs a) s = ap (λ v. then_ok v (λ c. Ok (one_word c nowhere))) (value_same (abs a) s)

  -- the actuals of a call
  pub actuals_same : (es : Terms) (s : Store C) → actuals n es s ≡ actuals (unlimited n) es s
  actuals_same none s = refl
  actuals_same (more e es) s = λ i. then_ok (actual_same e s i) (λ a. then_ok (actuals_same es s i) (λ got. Ok (a ∷ got)))
