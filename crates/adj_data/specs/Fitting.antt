-- Fitting: data without a fault are an input that fits. (docs/DATA.md, "Entries")
use Rattle.std.specs.Prelude.{◌≡◌, ℕ, ◌≤◌, Bool, List, [], length, None, true}
use Rattle.std.specs.List.{All}
use Rattle.adj_tree.specs.Code.{plain, Extent, fixed, given, Procedure}
use Rattle.def_meaning.specs.Numbers.{words}
use Rattle.def_meaning.specs.Units.{declared, fits}
use Rattle.def_meaning.specs.Apart.{has_name}
use Rattle.adj_data.specs.Faults.{data_fault}
use Rattle.adj_data.specs.Given.{input_given}
use Rattle.adj_data.specs.Marked.{check_fault, inputs_given}

-- the extents that a unit declares for a variable
abbrev pub extents_in : Procedure → List ℕ → List Extent
extents_in u x = declared u.declarations (plain x)

-- an extent that is a number or a scalar dummy
abbrev pub IsSize : Procedure → Extent → Type 0
IsSize u (fixed z) = Unit {0}
IsSize u (given x) = (has_name x u.dummies ≡ true) × (extents_in u x ≡ [])

-- each variable has at most two extents, and each of these is a number or a scalar dummy: so it is in every program that was checked
pub record IsSized (u : Procedure) : Type 0 where
  pub few : (x : List ℕ) → length (extents_in u x) ≤ 2
  pub sizes : (x : List ℕ) → All (IsSize u) (extents_in u x)

-- the input that data without a fault are fits the unit
abbrev pub DataFit : Type 0
DataFit = (line : ℕ) (bytes : List ℕ) (u : Procedure) → IsSized u → data_fault line bytes u ≡ None → fits words u (input_given line bytes u) ≡ true

-- and so are the inputs among the data of `check`
abbrev pub CheckDataFit : Type 0
CheckDataFit = (line : ℕ) (bytes : List ℕ) (u : Procedure) (vars outvars : List Bool) → IsSized u → check_fault line bytes u vars outvars ≡ None → fits words u (inputs_given line bytes u) ≡ true
