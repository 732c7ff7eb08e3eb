use Rattle.std.proofs.Common.{drop, map}
use Rattle.def_sweep.specs.Tangents.{cells_of}
use Rattle.adj_data.specs.Given.{slot_seen}
use Rattle.adj_tool_check.proofs.Walks.{nothing_left, no_names, no_cells}
use Rattle.adj_tool_check.proofs.lines.push_flagged.Goals as goal

pub returns-in_default : goal.returns-in_default
returns-in_default c =
    nothing_left c.loop-flag.out.items _ _ (no_names c.args.keyword.now (drop c.loop-flag.flag-index c.args.flags.now) c.loop-flag.unnamed.now (cells_of (map slot_seen c.loop-flag.rest.now)) c.in_default.len_below) c.loop-flag.invariant

pub returns-in_default-rest : goal.returns-in_default-rest
returns-in_default-rest c =
    nothing_left c.loop-flag.out.items _ _ (no_cells c.args.keyword.now (drop c.loop-flag.flag-index c.args.flags.now) c.loop-flag.unnamed.now c.loop-flag.rest.now c.in_default-rest.len_below) c.loop-flag.invariant
