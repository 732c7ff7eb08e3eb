-- Pattern runs and dual runs of a unit on the same words, and what they leave in a cell.
use Rattle.std.specs.Prelude.{ℕ, zero, suc, ℤ, pos, List, [], ◌∷◌, Bool, Option}
use Rattle.adj_tree.specs.Code.{Procedure}
use Rattle.def_meaning.specs.Numbers.{Numbers, duals}
use Rattle.def_meaning.specs.Scene.{Outcome, Done, Trapped, More, Full}
use Rattle.def_meaning.specs.Units.{Slot, Output, nth_cell, run_unit}
use Rattle.def_jacobian.specs.Columns.{Columns, marked}
use Rattle.def_jacobian.specs.Inputs.{with_columns, in_direction, one_at}

-- a unit of a program, its independents, its input, and what the run may take
pub record Task : Type 0 where
  pub units : List Procedure
  pub unit : Procedure
  pub vars : List Bool
  pub input : List (Slot ℤ)
  pub room : Option ℕ
  pub budget : ℕ

-- the pattern run
abbrev pub pattern_run : Task → Outcome (Output (ℤ × Columns))
pattern_run p = run_unit marked p.units p.unit (with_columns p.vars p.input) [] p.room p.budget

-- the dual run in a direction, which has a tangent for each column
abbrev pub dual_run : Task → (ℕ → ℤ) → Outcome (Output (ℤ × ℤ))
dual_run p t = run_unit duals p.units p.unit (in_direction t p.vars p.input) [] p.room p.budget

-- a cell: the number of its dummy and its own, both from 0
pub record Place : Type 0 where
  pub dummy : ℕ
  pub cell : ℕ

-- what a cell holds; the number of 0 where there is no such cell
abbrev pub held : {C : Type 0} → Numbers C → List (Slot C) → ℕ → ℕ → C
held n [] i j = n.of_word (pos 0)
held n (v ∷ vs) zero j = nth_cell n v.cells j
held n (v ∷ vs) (suc i) j = held n vs i j

-- the columns of a cell at the end of a pattern run
abbrev pub columns_at : Output (ℤ × Columns) → Place → Columns
columns_at out a = (held marked out.slots a.dummy a.cell).1

-- the tangent of a cell at the end of a dual run
abbrev pub tangent_at : Output (ℤ × ℤ) → Place → ℤ
tangent_at out a = (held duals out.slots a.dummy a.cell).1

-- the same of a run, 0 where it isn't done
abbrev pub tangent_of : Outcome (Output (ℤ × ℤ)) → Place → ℤ
tangent_of (Done out used) a = tangent_at out a
tangent_of (Trapped t line w) a = pos 0
tangent_of (More w) a = pos 0
tangent_of (Full w) a = pos 0

-- an entry of the dense derivative: the tangent of a cell where that of one column is 1 and the others' are 0
abbrev pub dense : Task → Place → ℕ → ℤ
dense p a j = tangent_of (dual_run p (one_at j)) a
