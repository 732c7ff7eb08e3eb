-- How a derivative is found, or how the run ends that would find it.
use Rattle.std.specs.Prelude.{◌≡◌, ◌<◌, ℕ, ℤ, Bool, List, map, length, Result, Ok, Err}
use Rattle.adj_tree.specs.declared.value.Slot.{Slot as CodeSlot}
use Rattle.def_meaning.specs.Numbers.{words}
use Rattle.def_meaning.specs.Scene.{Outcome, Done, Trapped, More, Full}
use Rattle.def_meaning.specs.Units.{Output}
use Rattle.def_jacobian.specs.Columns.{Columns}
use Rattle.def_jacobian.specs.Patterns.{Task, Place, held, pattern_run, dual_run, tangent_of, dense}
use Rattle.def_jacobian.specs.Groups.{AreLeastGroups, count_of, seed}
use Rattle.def_jacobian.specs.Recovered.{places, rows_at, entries}
use Rattle.adj_interp.specs.Concludes.{slot_seen}
use Rattle.adj_interp.specs.declared.stop.Stop.{Stop}
use Rattle.adj_jacobian_groups.specs.View.{place_of, rows_of, columns_of_rows}
use Rattle.adj_jacobian.specs.declared.entry.Derivative.{Derivative}
use Rattle.adj_jacobian.specs.Products.{entry_of, tangent_in}
use Rattle.adj_jacobian.specs.Ends.{StopsSo}

-- ---- products

-- the tangents that the dual run of a group leaves, or the end of the pattern run
abbrev pub ProductSo : Outcome (Output (ℤ × Columns)) → Outcome (Output (ℤ × ℤ)) → Result (List CodeSlot) Stop → Type 0
ProductSo o d (Ok ts) = (a : Place) → held words (map slot_seen ts) a.dummy a.cell ≡ tangent_of d a
ProductSo o d (Err s) = StopsSo o s

-- one for each group
pub record AreProducts (p : Task) (groups : List ℕ) (count : ℕ) (ps : List (List CodeSlot)) : Type 0 where
  pub each : length ps ≡ count
  pub told : (g : ℕ) → g < count → (a : Place) → tangent_in ps g a ≡ tangent_of (dual_run p (seed groups g)) a

abbrev pub ProductsSo : {A : Type 0} → Task → List ℕ → ℕ → (A → List (List CodeSlot)) → Result A Stop → Type 0
ProductsSo p groups count seen (Ok ps) = AreProducts p groups count (seen ps)
ProductsSo p groups count seen (Err s) = StopsSo (pattern_run p) s

-- ---- derivatives

-- the derivative of a run: its pattern, the least groups of the columns, and the dense derivative's entries within the pattern
pub record IsDerivative (p : Task) (outvars : List Bool) (out : Output (ℤ × Columns)) (d : Derivative) : Type 0 where
  pub columns : map place_of d.sparsity.cols ≡ places p.vars p.input 0
  pub rows : rows_of d.sparsity.rows ≡ rows_at out (length (places p.vars p.input 0)) (places outvars p.input 0)
  pub groups : AreLeastGroups (columns_of_rows d.sparsity.rows) (length d.sparsity.cols) d.grouping.group
  pub count : d.grouping.count ≡ count_of d.grouping.group
  pub entries : map entry_of d.jacobian.entries ≡ entries (dense p) (rows_of d.sparsity.rows) 0

abbrev pub DerivativeOf : Task → List Bool → Outcome (Output (ℤ × Columns)) → Derivative → Type 0
DerivativeOf p outvars (Done out used) d = IsDerivative p outvars out d
DerivativeOf p outvars (Trapped t line w) d = ⊥
DerivativeOf p outvars (More w) d = ⊥
DerivativeOf p outvars (Full w) d = ⊥

-- the derivative of a run that is done, or the run's end
abbrev pub DerivesSo : Task → List Bool → Outcome (Output (ℤ × Columns)) → Result Derivative Stop → Type 0
DerivesSo p outvars o (Ok d) = DerivativeOf p outvars o d
DerivesSo p outvars o (Err s) = StopsSo o s
