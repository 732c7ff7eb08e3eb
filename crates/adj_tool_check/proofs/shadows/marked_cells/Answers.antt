use Rattle.std.proofs.Common.{drop}
use Rattle.adj_tool_check.proofs.Walks.{nothing_left, no_slots}
use Rattle.adj_tool_check.proofs.shadows.marked_cells.Goals as goal

pub returns-in_default : goal.returns-in_default
returns-in_default c = nothing_left c.loop-flag.cells.items _ _ (no_slots (drop c.loop-flag.flag-index c.args.flags.now) c.loop-flag.rest.now c.in_default.len_below) c.loop-flag.invariant
