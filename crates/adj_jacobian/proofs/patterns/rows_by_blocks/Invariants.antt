-- The rows so far.
use Rattle.std.proofs.Common.{◌≡◌, map}
use Rattle.std.specs.Prelude.{slice_get, Some}
use Rattle.adj_tree.specs.Code.{Procedure}
use Rattle.adj_tree.specs.View.{procedures_of}
use Rattle.def_jacobian.specs.Patterns.{pattern_run}
use Rattle.adj_interp.specs.Concludes.{slot_seen}
use Rattle.adj_jacobian_groups.specs.View.{place_of, rows_of}
use Rattle.adj_jacobian.specs.Ends.{task_on}
use Rattle.adj_jacobian.proofs.Rowing.{BuiltSo}
use Rattle.adj_jacobian.proofs.patterns.rows_by_blocks.Given as goal

abbrev pub invariant-loop-block : goal.invariant-loop-block
invariant-loop-block l =
    (u : Procedure) → slice_get (procedures_of l.program.program) l.head.unit ≡ Some u
    → BuiltSo l.block l.total (map place_of l.cells) (pattern_run (task_on (procedures_of l.program.program) u l.head.vars (map slot_seen l.input) l.budget)) (rows_of l.rows.items)
