-- Slots of scalars that were passed their numbers.
use Rattle.std.proofs.Common.{◌≡◌, ℕ, zero, suc, ◌+◌, ◌<◌, ◌≤◌, Bool, true, false, List, [], ◌∷◌, length, get_or, refl, sym, ap, subst, ◌∙◌, arith, if◌then◌else◌}
use Rattle.std.specs.Prelude.{nat_lt, slice_get, Option, Some, None}
use Rattle.adj_tree.specs.Code.{Var}
use Rattle.def_meaning.specs.Numbers.{Numbers}
use Rattle.def_meaning.specs.Store.{Shape, scalar, size_of, Store}
use Rattle.adj_interp_frame.specs.declared.slot.Slot.{Slot}
use Rattle.adj_interp_frame.specs.declared.actual.Actual.{Actual as CodeActual}
use Rattle.adj_interp_frame.specs.declared.layout.Layout.{Layout}
use Rattle.adj_interp_frame.specs.declared.layout.Layout.TheVariants as layout
use Rattle.adj_interp_frame.specs.declared.routine.Routine.{Routine}
use Rattle.adj_interp_frame.specs.Prepared.{var_at}
use Rattle.adj_interp_frame.specs.Framed.{slot_shape}
use Rattle.adj_interp_frame.specs.Shown.{Shows}
use Rattle.adj_interp_frame.specs.Called.{actuals_in, given_at, IsLaidOut, entered_with, fit_from}
use Rattle.adj_interp_frame.specs.Passed.{IsPassed}
use Rattle.adj_interp_frame.proofs.Entering.{scalar_fit, no_extents, scalar_entered, fit_behind}
use Rattle.adj_interp_frame.proofs.Borrowing.{some_slot}

module _ {C : Type 0} where
  -- a dummy gets the actual that stands at its number
  pub given_there : (count : ℕ) (all : List (CodeActual C)) (i : ℕ) (a : CodeActual C) → i < count → slice_get all i ≡ Some a → given_at count all i ≡ Some a
  given_there count all i a lt at =
      let t : nat_lt i count ≡ true = grind arith in
      let o : Option (CodeActual C) = slice_get all i in
      ap (λ b. if b then o else None) t ∙ at

  -- any other variable gets none
  pub given_past : (count : ℕ) (all : List (CodeActual C)) (i : ℕ) → count ≤ i → given_at count all i ≡ None
  given_past count all i past =
      let t : nat_lt i count ≡ false = grind arith in
      let o : Option (CodeActual C) = slice_get all i in
      ap (λ b. if b then o else None) t

  module _ (numbers : Numbers C) (r : Routine) (l : IsLaidOut r) (names : List (List ℕ)) (vs : List (Slot C)) (all : List (CodeActual C)) where
    -- the slot of a scalar holds its number
    pub scalar_passed : (i : ℕ) (d : Layout) → i < length r.names → get_or r.layouts.items i d ≡ layout.Scalar → (v : Slot C) (w : C) → slot_shape v ≡ scalar → v.cells.items ≡ w ∷ []
        → ((shape : Var → Shape) (s : Store C) → Shows numbers names vs shape s → w ≡ entered_with numbers r (actuals_in names shape s all) (var_at r.names i) 0) → IsPassed numbers r names vs all i v
    scalar_passed i d there at v w sh cs f = record {
      sized = ap length cs ∙ ap size_of (sym sh);
      one = ap length cs;
      entered = λ shape s h. scalar_entered numbers r l (actuals_in names shape s all) i d there at v w sh cs (f shape s h);
      fits = λ shape s h. scalar_fit numbers r l names shape s all i (no_extents numbers r l (actuals_in names shape s all) i d there at);
    }

    -- where all slots hold theirs, all dummies fit
    module _ (ws : List (Slot C)) (shape : Var → Shape) (s : Store C) (h : Shows numbers names vs shape s) (each : (i : ℕ) (d : Slot C) → i < length ws → IsPassed numbers r names vs all i (get_or ws i d)) where
      fits_until : (i : ℕ) → i ≤ length ws → fit_from numbers r (actuals_in names shape s all) 0 ≡ fit_from numbers r (actuals_in names shape s all) i
      fits_until zero m = refl
      fits_until (suc i) m =
          let one : i + 1 ≡ suc i = omega arith in
          let lt : i < length ws = omega (arith, m) in
          fits_until i (omega (arith, m)) ∙ (each i (some_slot ws i lt) lt).fits shape s h ∙ ap (fit_from numbers r (actuals_in names shape s all)) one

      pub all_fit : length r.unit.now.dummies ≤ length ws → fit_from numbers r (actuals_in names shape s all) 0 ≡ true
      all_fit m = fits_until (length r.unit.now.dummies) m ∙ fit_behind numbers r (actuals_in names shape s all) (length r.unit.now.dummies) (omega arith)

  -- slots of which the dummies' were passed first, and then those of the others
  pub both : (numbers : Numbers C) (r : Routine) (names : List (List ℕ)) (vs : List (Slot C)) (all : List (CodeActual C)) (us ws : List (Slot C))
      → ((i : ℕ) (d : Slot C) → i < length r.unit.now.dummies → get_or ws i d ≡ get_or us i d)
      → ((i : ℕ) (d : Slot C) → i < length r.unit.now.dummies → IsPassed numbers r names vs all i (get_or us i d))
      → ((i : ℕ) (d : Slot C) → length r.unit.now.dummies ≤ i → i < length ws → IsPassed numbers r names vs all i (get_or ws i d))
      → (i : ℕ) (d : Slot C) → i < length ws → IsPassed numbers r names vs all i (get_or ws i d)
  both numbers r names vs all us ws same first others i d lt = go (nat_lt i (length r.unit.now.dummies)) refl
    where
      go : (b : Bool) → nat_lt i (length r.unit.now.dummies) ≡ b → IsPassed numbers r names vs all i (get_or ws i d)
      go true e = let dummy : i < length r.unit.now.dummies = grind arith in subst (IsPassed numbers r names vs all i) (sym (same i d dummy)) (first i d dummy)
      go false e = let past : length r.unit.now.dummies ≤ i = grind arith in others i d past lt
