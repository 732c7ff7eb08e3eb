-- Suited: calls that hand no whole array to a scalar, and how many cells slots have.
use Rattle.std.specs.Prelude.{◌≡◌, ℕ, ◌<◌, List, [], ◌∷◌, map, length, slice_index_or, Some}
use Rattle.adj_tree.specs.Code.{Var, plain, Term, lit, var, elem, neg, bin, pow, power_of, abs, Terms, none, more, Act, assign, choose, loop, during, call, runtime, Code, stop, step, Procedure}
use Rattle.def_meaning.specs.Units.{declared}
use Rattle.def_meaning.specs.Written.{find_unit}
use Rattle.adj_interp_frame.specs.declared.slot.Slot.{Slot}
use Rattle.adj_interp_frame.specs.declared.actual.Actual.{Actual as CodeActual}
use Rattle.adj_interp_frame.specs.declared.actual.Actual.TheVariants as actual
use Rattle.adj_interp_frame.specs.Prepared.{var_at}

-- ---- actuals of scalars

-- a unit declares no extents for the variable
abbrev pub IsScalarIn : Procedure → Var → Type 0
IsScalarIn u x = declared u.declarations x ≡ []

-- of an actual that is a whole variable something holds
abbrev pub HoldsIfWhole : (Var → Type 0) → Term → Type 0
HoldsIfWhole P (var x) = P x
HoldsIfWhole P (elem x subs) = Unit {0}
HoldsIfWhole P (lit z) = Unit {0}
HoldsIfWhole P (neg a) = Unit {0}
HoldsIfWhole P (bin op a b) = Unit {0}
HoldsIfWhole P (pow a k) = Unit {0}
HoldsIfWhole P (power_of a b) = Unit {0}
HoldsIfWhole P (abs a) = Unit {0}

-- it holds of each whole variable that a scalar among these dummies of a unit gets
abbrev pub AreTermsSuited : (Var → Type 0) → Procedure → List (List ℕ) → Terms → Type 0
AreTermsSuited P u [] es = Unit {0}
AreTermsSuited P u (d ∷ ds) none = Unit {0}
AreTermsSuited P u (d ∷ ds) (more e es) = (IsScalarIn u (plain d) → HoldsIfWhole P e) × AreTermsSuited P u ds es

abbrev mutual
  -- it holds so in each call of a statement
  pub IsSuited : List Procedure → (Var → Type 0) → Act → Type 0
  IsSuited units P (assign x subs e) = Unit {0}
  IsSuited units P (choose c a b) = AreSuited units P a × AreSuited units P b
  IsSuited units P (loop x first last by body m) = AreSuited units P body
  IsSuited units P (during c body) = AreSuited units P body
  IsSuited units P (call name args) = (u : Procedure) → find_unit units name ≡ Some u → AreTermsSuited P u u.dummies args
  IsSuited units P (runtime r) = Unit {0}

  -- the same of a list
  pub AreSuited : List Procedure → (Var → Type 0) → Code → Type 0
  AreSuited units P stop = Unit {0}
  AreSuited units P (step line a rest) = IsSuited units P a × AreSuited units P rest

-- ---- cells

-- how many cells each slot has
abbrev pub counts_in : {C : Type 0} → List (Slot C) → List ℕ
counts_in {C} vs = map (λ (v : Slot C). length v.cells.items) vs

-- where the variable has one of these names, it has one cell
abbrev pub HasOneCell : List (List ℕ) → List ℕ → Var → Type 0
HasOneCell names counts x = (i : ℕ) → i < length names → x ≡ var_at names i → slice_index_or counts i 0 ≡ 1

-- an actual that is a whole variable has so many cells
abbrev pub HasCells : {C : Type 0} → List ℕ → CodeActual C → ℕ → Type 0
HasCells counts (actual.Whole i) n = slice_index_or counts i 0 ≡ n
HasCells counts (actual.Cell i j w) n = Unit {0}
HasCells counts (actual.Word w) n = Unit {0}

-- each of so many dummies has as many cells as the whole variable that it gets
abbrev pub AreAsLarge : {C : Type 0} → ℕ → List ℕ → List (CodeActual C) → List ℕ → Type 0
AreAsLarge {C} many counts all inner = (k : ℕ) (d : CodeActual C) → k < many → k < length all → HasCells counts (slice_index_or all k d) (slice_index_or inner k 0)
