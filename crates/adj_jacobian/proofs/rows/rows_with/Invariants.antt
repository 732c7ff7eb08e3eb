-- The rows so far.
use Rattle.std.proofs.Common.{◌≡◌, map}
use Rattle.adj_interp.specs.Inputs.{entry_seen}
use Rattle.adj_jacobian_groups.specs.View.{rows_of}
use Rattle.adj_jacobian.specs.Parts.{with_block}
use Rattle.adj_jacobian.proofs.rows.rows_with.Given as goal

abbrev pub invariant-loop-row : goal.invariant-loop-row
invariant-loop-row l = rows_of l.new.items ≡ map (with_block l.block l.total (map entry_seen l.slots)) (rows_of l.yielded)
