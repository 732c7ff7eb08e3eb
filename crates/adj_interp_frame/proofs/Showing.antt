-- What slots show of a store, expressions see.
use Rattle.std.proofs.Common.{◌≡◌, ℕ, ◌<◌, List, ◌∷◌, refl, ap, ◌∙◌}
use Rattle.std.specs.Prelude.{ℤ, Result, Ok, Err, Option, Some, None, not, ◌&&◌, ◌||◌}
use Rattle.adj_tree.specs.Code.{Var, Term, lit, var, elem, neg, bin, pow, power_of, abs, Terms, none, more, Test, compare, negation, conjunction, disjunction}
use Rattle.def_meaning.specs.Trap.{Trap, index, then_ok, or_trap}
use Rattle.def_meaning.specs.Numbers.{Numbers, operation, absolute, compares}
use Rattle.def_meaning.specs.Store.{Shape, size_of, Store, cell_of}
use Rattle.def_meaning.specs.Value.{Setting, exponent_of, value, values, cell_at, target, holds}
use Rattle.def_meaning.proofs.Cells.{size_positive, cell_below}
use Rattle.adj_interp_frame.specs.declared.slot.Slot.{Slot}
use Rattle.adj_interp_frame.specs.Framed.{shapes_in, store_in, setting_in_slots}
use Rattle.adj_interp_frame.specs.Shown.{on_numbers, Shows}

-- what goes on alike from the same first result
same_ok : {A B : Type 0} (v w : Result A Trap) (f g : A → Result B Trap) → v ≡ w → ((a : A) → v ≡ Ok a → f a ≡ g a) → then_ok v f ≡ then_ok w g
same_ok (Ok a) w f g e h = h a refl ∙ ap (λ z. then_ok z g) e
same_ok (Err t) w f g e h = ap (λ z. then_ok z g) e

module _ {C : Type 0} where
  -- a cell that subscripts name is one of the variable's
  cell_bound : (n : Setting C) (x : Var) (is : List ℤ) (i : ℕ) → cell_at n x is ≡ Ok i → i < size_of (n.shape x)
  cell_bound n x is i h = go (cell_of (n.shape x) is) refl h
    where
      go : (o : Option ℕ) → cell_of (n.shape x) is ≡ o → or_trap index o ≡ Ok i → i < size_of (n.shape x)
      go (Some j) e h = let s : j ≡ i = cc in cell_below (n.shape x) is i (e ∙ ap Some s)
      go None e h = absurd cc

module _ {C : Type 0} (numbers : Numbers C) where
  -- slots show what they hold
  pub shows_itself : (names : List (List ℕ)) (vs : List (Slot C)) → Shows numbers names vs (shapes_in names vs) (store_in numbers names vs)
  shows_itself names vs = record { shapes = λ x. refl; cells = λ x j l. refl }

  module _ (names : List (List ℕ)) (vs : List (Slot C)) (shape : Var → Shape) (room : Option ℕ) (level : ℕ) (s : Store C) (h : Shows numbers names vs shape s) where
    mutual
      -- an expression has the value that it has in the slots
      pub value_shown : (e : Term) → value (on_numbers numbers shape room level) e s ≡ value (setting_in_slots numbers names vs) e (store_in numbers names vs)
      value_shown (lit z) = refl
      value_shown (var x) = ap Ok (h.cells x 0 (size_positive (shape x)))
      value_shown (elem x subs) =
          same_ok (values (on_numbers numbers shape room level) subs s) (values (setting_in_slots numbers names vs) subs (store_in numbers names vs)) (λ is. then_ok (cell_at (on_numbers numbers shape room level) x is) (λ i. Ok (s x i))) (λ is. then_ok (cell_at (setting_in_slots numbers names vs) x is) (λ i. Ok (store_in numbers names vs x i)))
          (values_shown subs)
          (λ is w. same_ok (cell_at (on_numbers numbers shape room level) x is) (cell_at (setting_in_slots numbers names vs) x is) (λ i. Ok (s x i)) (λ i. Ok (store_in numbers names vs x i)) (ap (λ sh. or_trap index (cell_of sh is)) (h.shapes x))
          (λ i b. ap Ok (h.cells x i (cell_bound (on_numbers numbers shape room level) x is i b))))
      value_shown (neg a) = ap (λ z. then_ok z (λ u. Ok (numbers.negation u))) (value_shown a)
      value_shown (bin op a b) = λ i. then_ok (value_shown a i) (λ u. then_ok (value_shown b i) (λ v. operation numbers op u v))
      value_shown (pow a k) = ap (λ z. then_ok z (λ u. Ok (numbers.raised_to u k))) (value_shown a)
      value_shown (power_of a b) = λ i. then_ok (value_shown a i) (λ u. then_ok (value_shown b i) (λ v. then_ok (exponent_of (numbers.shown v)) (λ k. Ok (numbers.raised_to u k))))
      value_shown (abs a) = ap (λ z. then_ok z (λ u. Ok (absolute numbers u))) (value_shown a)

      pub values_shown : (es : Terms) → values (on_numbers numbers shape room level) es s ≡ values (setting_in_slots numbers names vs) es (store_in numbers names vs)
      values_shown none = refl
      values_shown (more e es) = λ i. then_ok (value_shown e i) (λ u. then_ok (values_shown es i) (λ us. Ok (numbers.shown u ∷ us)))

    -- subscripts name the cell that they name in the slots
    pub target_shown : (x : Var) (subs : Terms) → target (on_numbers numbers shape room level) x subs s ≡ target (setting_in_slots numbers names vs) x subs (store_in numbers names vs)
    target_shown x none = refl
    target_shown x (more e es) = λ i. then_ok (values_shown (more e es) i) (λ is. or_trap index (cell_of (h.shapes x i) is))

    -- a condition holds where it does in the slots
    pub holds_shown : (t : Test) → holds (on_numbers numbers shape room level) t s ≡ holds (setting_in_slots numbers names vs) t (store_in numbers names vs)
    holds_shown (compare r a b) = λ i. then_ok (value_shown a i) (λ u. then_ok (value_shown b i) (λ v. Ok (compares r (numbers.shown u) (numbers.shown v))))
    holds_shown (negation c) = ap (λ z. then_ok z (λ p. Ok (not p))) (holds_shown c)
    holds_shown (conjunction c d) = λ i. then_ok (holds_shown c i) (λ p. then_ok (holds_shown d i) (λ q. Ok (p && q)))
    holds_shown (disjunction c d) = λ i. then_ok (holds_shown c i) (λ p. then_ok (holds_shown d i) (λ q. Ok (p || q)))
