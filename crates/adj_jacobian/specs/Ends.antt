-- How a pattern is found, or how the run ends that would find it.
use Rattle.std.specs.Prelude.{◌≡◌, ◌&&◌, ◌+◌, ◌*◌, ℕ, ℤ, Bool, List, map, length, Result, Ok, Err, Some}
use Rattle.adj_tree.specs.Code.{Procedure}
use Rattle.adj_tree.specs.declared.value.Trap.{Trap as CodeTrap}
use Rattle.def_meaning.specs.Scene.{Outcome, Done, Trapped, More, Full}
use Rattle.def_meaning.specs.Units.{Slot, Output}
use Rattle.def_jacobian.specs.Columns.{Columns}
use Rattle.def_jacobian.specs.Patterns.{Task, Place, held, columns_at}
use Rattle.def_jacobian.specs.Recovered.{Row, places, rows_at}
use Rattle.adj_interp_frame.specs.Framed.{trap_of}
use Rattle.adj_interp.specs.declared.stop.Stop.{Stop}
use Rattle.adj_interp.specs.declared.stop.Stop.TheVariants as stop
use Rattle.adj_jacobian_block.specs.declared.block.Block.{Block}
use Rattle.adj_jacobian_block.specs.Blocks.{blocks, columns_of, inside_block}
use Rattle.adj_jacobian_few.specs.declared.few.Few.{Few}
use Rattle.adj_jacobian_few.specs.Few.{Tells}
use Rattle.adj_jacobian_groups.specs.declared.sparsity.Sparsity.{Sparsity}
use Rattle.adj_jacobian_groups.specs.View.{place_of, rows_of}
use Rattle.adj_jacobian.specs.Parts.{width_of}
use Rattle.adj_jacobian.specs.Lists.{list_in}

-- the runs of a unit on an input, on a tape without room
abbrev pub task_on : List Procedure → Procedure → List Bool → List (Slot ℤ) → ℕ → Task
task_on ps u vars input budget = record { units = ps; unit = u; vars = vars; input = input; room = Some 0; budget = budget }

-- ---- stops

-- a run trapped at a line
abbrev pub TrapsSo : {C : Type 0} → Outcome (Output C) → CodeTrap → ℕ → Type 0
TrapsSo (Done out used) c l = ⊥
TrapsSo (Trapped t line w) c l = (trap_of c ≡ t) × (l ≡ line)
TrapsSo (More w) c l = ⊥
TrapsSo (Full w) c l = ⊥

-- it had more to do
abbrev pub RunsOut : {C : Type 0} → Outcome (Output C) → Type 0
RunsOut (Done out used) = ⊥
RunsOut (Trapped t line w) = ⊥
RunsOut (More w) = Unit {0}
RunsOut (Full w) = ⊥

-- it found the tape full
abbrev pub FindsFull : {C : Type 0} → Outcome (Output C) → Type 0
FindsFull (Done out used) = ⊥
FindsFull (Trapped t line w) = ⊥
FindsFull (More w) = ⊥
FindsFull (Full w) = Unit {0}

-- a stop tells the end of a run, unless memory ran out
abbrev pub StopsSo : {C : Type 0} → Outcome (Output C) → Stop → Type 0
StopsSo o (stop.Trap c l) = TrapsSo o c l
StopsSo o stop.Budget = RunsOut o
StopsSo o stop.TapeFull = FindsFull o
StopsSo o stop.Memory = Unit {0}

-- ---- blocks of columns

-- the slots that a pattern run leaves, with the columns of a block
abbrev pub IsPart : ℕ → Outcome (Output (ℤ × Columns)) → List (Slot Block) → Type 0
IsPart k (Done out used) slots = (a : Place) (c : ℕ) → columns_of k (held blocks slots a.dummy a.cell).columns c ≡ (columns_at out a c && inside_block k c)
IsPart k (Trapped t line w) slots = ⊥
IsPart k (More w) slots = ⊥
IsPart k (Full w) slots = ⊥

-- a run over the words of a block ends as the pattern run
abbrev pub PartSo : {A : Type 0} → ℕ → (A → List (Slot Block)) → Outcome (Output (ℤ × Columns)) → Result A Stop → Type 0
PartSo k seen o (Ok a) = IsPart k o (seen a)
PartSo k seen o (Err s) = StopsSo o s

-- ---- few columns

-- the slots that a run over few columns leaves: where a cell has a list, it is that of its columns
abbrev pub IsFew : Outcome (Output (ℤ × Columns)) → List (Slot Few) → Type 0
IsFew (Done out used) slots = (a : Place) → Tells (list_in slots a) (columns_at out a)
IsFew (Trapped t line w) slots = ⊥
IsFew (More w) slots = ⊥
IsFew (Full w) slots = ⊥

-- a run over few columns ends as the pattern run
abbrev pub FewSo : {A : Type 0} → (A → List (Slot Few)) → Outcome (Output (ℤ × Columns)) → Result A Stop → Type 0
FewSo seen o (Ok a) = IsFew o (seen a)
FewSo seen o (Err s) = StopsSo o s

-- ---- patterns

-- the rows with the columns of one block more
abbrev pub RowsOf : ℕ → ℕ → List Row → Outcome (Output (ℤ × Columns)) → List Row → Type 0
RowsOf k total rows (Done out used) new = (cells : List Place) → rows ≡ rows_at out (256 * k) cells → new ≡ rows_at out (256 * k + width_of k total) cells
RowsOf k total rows (Trapped t line w) new = ⊥
RowsOf k total rows (More w) new = ⊥
RowsOf k total rows (Full w) new = ⊥

abbrev pub RowsSo : {A : Type 0} → ℕ → ℕ → List Row → (A → List Row) → Outcome (Output (ℤ × Columns)) → Result A Stop → Type 0
RowsSo k total rows seen o (Ok new) = RowsOf k total rows o (seen new)
RowsSo k total rows seen o (Err s) = StopsSo o s

-- the rows at some cells, where the run is done
abbrev pub WholeRows : ℕ → List Place → Outcome (Output (ℤ × Columns)) → List Row → Type 0
WholeRows total cells (Done out used) rows = rows ≡ rows_at out total cells
WholeRows total cells (Trapped t line w) rows = Unit {0}
WholeRows total cells (More w) rows = Unit {0}
WholeRows total cells (Full w) rows = Unit {0}

abbrev pub WholeSo : {A : Type 0} → ℕ → List Place → (A → List Row) → Outcome (Output (ℤ × Columns)) → Result A Stop → Type 0
WholeSo total cells seen o (Ok rows) = WholeRows total cells o (seen rows)
WholeSo total cells seen o (Err s) = StopsSo o s

-- the pattern that a run leaves: the cells of the independents, and the rows at the cells of the dependents
pub record IsPattern (p : Task) (outvars : List Bool) (out : Output (ℤ × Columns)) (s : Sparsity) : Type 0 where
  pub columns : map place_of s.cols ≡ places p.vars p.input 0
  pub rows : rows_of s.rows ≡ rows_at out (length (places p.vars p.input 0)) (places outvars p.input 0)

abbrev pub PatternOf : Task → List Bool → Outcome (Output (ℤ × Columns)) → Sparsity → Type 0
PatternOf p outvars (Done out used) s = IsPattern p outvars out s
PatternOf p outvars (Trapped t line w) s = ⊥
PatternOf p outvars (More w) s = ⊥
PatternOf p outvars (Full w) s = ⊥

-- the pattern of a run that is done, or the run's end
abbrev pub PatternSo : Task → List Bool → Outcome (Output (ℤ × Columns)) → Result Sparsity Stop → Type 0
PatternSo p outvars o (Ok s) = PatternOf p outvars o s
PatternSo p outvars o (Err s) = StopsSo o s
