use Rattle.std.proofs.Common.{◌≡◌, ◌++◌, map, drop}
use Rattle.def_sweep.specs.MarkedAdjoint.{joined_by}
use Rattle.adj_data.specs.Given.{slot_seen}
use Rattle.adj_tool_check.proofs.shadows.joined.Given as goal

abbrev pub invariant-loop-flag : goal.invariant-loop-flag
invariant-loop-flag l =
    map slot_seen l.slots.items ++ joined_by (drop l.flag-index l.flags) (map slot_seen l.unjoined) (map slot_seen l.rest) ≡ joined_by l.flags (map slot_seen l.inputs) (map slot_seen l.adjoints)
