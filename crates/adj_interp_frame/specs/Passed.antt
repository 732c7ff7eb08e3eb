-- Passed: calls that hand whole variables to a unit of scalars. No actual is made for them: the expressions say which variables they are.
use Rattle.std.specs.Prelude.{◌≡◌, ◌+◌, ◌<◌, ℕ, List, [], ◌∷◌, length, slice_index_or, true}
use Rattle.adj_tree.specs.Code.{Var}
use Rattle.def_meaning.specs.Numbers.{Numbers}
use Rattle.def_meaning.specs.Store.{Shape, Store}
use Rattle.adj_interp_frame.specs.declared.slot.Slot.{Slot}
use Rattle.adj_interp_frame.specs.declared.actual.Actual.{Actual as CodeActual}
use Rattle.adj_interp_frame.specs.declared.actual.Actual.TheVariants as actual
use Rattle.adj_interp_frame.specs.declared.routine.Routine.{Routine}
use Rattle.adj_interp_frame.specs.declared.term.Term.{Term}
use Rattle.adj_interp_frame.specs.declared.term.Term.TheVariants as term
use Rattle.adj_interp_frame.specs.declared.term.Terms.{Terms}
use Rattle.adj_interp_frame.specs.declared.term.Terms.TheVariants as terms
use Rattle.adj_interp_frame.specs.Framed.{IsSlot, IsFrame}
use Rattle.adj_interp_frame.specs.Shown.{Shows}
use Rattle.adj_interp_frame.specs.Called.{actuals_in, entered_with, shapes_with, IsEntered, fit_from}
use Rattle.adj_interp_frame.specs.Suited.{counts_in}

-- an expression is a whole variable
abbrev pub IsWhole : Term → Type 0
IsWhole (term.Lit n) = ⊥
IsWhole (term.Var i) = Unit {0}
IsWhole (term.Elem i subs) = ⊥
IsWhole (term.Neg' p a) = ⊥
IsWhole (term.Bin' op p a q b) = ⊥
IsWhole (term.Pow' p a k) = ⊥
IsWhole (term.Power' p a q b) = ⊥
IsWhole (term.Abs' p a) = ⊥

-- its number, where it is one
abbrev pub number_of : Term → ℕ
number_of (term.Lit n) = 0
number_of (term.Var i) = i
number_of (term.Elem i subs) = 0
number_of (term.Neg' p a) = 0
number_of (term.Bin' op p a q b) = 0
number_of (term.Pow' p a k) = 0
number_of (term.Power' p a q b) = 0
number_of (term.Abs' p a) = 0

abbrev pub AreWhole : Terms → Type 0
AreWhole terms.Empty = Unit {0}
AreWhole (terms.More' p e q rest) = IsWhole e × AreWhole rest

-- the actuals that they are
abbrev pub wholes : {C : Type 0} → Terms → List (CodeActual C)
wholes terms.Empty = []
wholes (terms.More' p e q rest) = actual.Whole (number_of e) ∷ wholes rest

-- the slot of a scalar at the entry of a unit that gets these actuals, and what fits from the variable on fits from the next
pub record IsPassed {C : Type 0} (numbers : Numbers C) (r : Routine) (names : List (List ℕ)) (vs : List (Slot C)) (all : List (CodeActual C)) (i : ℕ) (v : Slot C) : Type 0 where
  pub sized : IsSlot v
  pub one : length v.cells.items ≡ 1
  pub entered : (shape : Var → Shape) (s : Store C) → Shows numbers names vs shape s → IsEntered numbers r (actuals_in names shape s all) i v
  pub fits : (shape : Var → Shape) (s : Store C) → Shows numbers names vs shape s → fit_from numbers r (actuals_in names shape s all) i ≡ fit_from numbers r (actuals_in names shape s all) (i + 1)

-- the slots of a unit of scalars at its entry, which gets the variables that these expressions are
pub record ArePassed {C : Type 0} (numbers : Numbers C) (r : Routine) (names : List (List ℕ)) (vs : List (Slot C)) (es : Terms) (ws : List (Slot C)) : Type 0 where
  pub whole : AreWhole es
  pub framed : IsFrame r.names ws
  pub ones : (i : ℕ) → i < length r.unit.now.dummies → slice_index_or (counts_in ws) i 0 ≡ 1
  pub shown : (shape : Var → Shape) (s : Store C) → Shows numbers names vs shape s → Shows numbers r.names ws (shapes_with numbers r (actuals_in names shape s (wholes es))) (entered_with numbers r (actuals_in names shape s (wholes es)))
  pub fits : (shape : Var → Shape) (s : Store C) → Shows numbers names vs shape s → fit_from numbers r (actuals_in names shape s (wholes es)) 0 ≡ true
