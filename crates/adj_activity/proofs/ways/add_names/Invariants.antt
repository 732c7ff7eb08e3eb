-- The names passed, and those that are left.
use Rattle.std.proofs.Common.{◌≡◌, ℕ, List}
use Rattle.std.specs.Prelude.{◌||◌, is_some}
use Rattle.adj_tree.specs.Code.{plain}
use Rattle.adj_tree.specs.View.{terms_of}
use Rattle.def_flow.specs.Ways.{is_actual}
use Rattle.adj_symbols_writes.specs.Table.{value_of}
use Rattle.adj_activity.proofs.ways.add_names.Given as goal

abbrev pub invariant-loop-rest : goal.invariant-loop-rest
invariant-loop-rest l = (x : List ℕ) → (is_some (value_of x l.passed) || is_actual (plain x) (terms_of l.rest)) ≡ (is_some (value_of x l.initial.passed) || is_actual (plain x) (terms_of l.actuals))
