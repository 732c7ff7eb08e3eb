-- The numbers of the statements passed, and of those that are left.
use Rattle.std.proofs.Common.{◌≡◌, ◌++◌, map, drop}
use Rattle.std.specs.List.{flat_map}
use Rattle.adj_flow.specs.Rows.{row_of}
use Rattle.adj_flow.specs.View.{standing_of}
use Rattle.adj_tbr.specs.View.{find}
use Rattle.adj_tbr.specs.Reads.{standing_reads, unit_reads}
use Rattle.adj_tbr.proofs.reads.add_unit.Given as goal

abbrev pub invariant-loop-standing : goal.invariant-loop-standing
invariant-loop-standing l =
    l.nodes.items ++ flat_map (standing_reads l.setting.found l.setting.sides (find (map row_of l.setting.units.parts.now) l.setting.units.numbers.now) l.setting.width (row_of l.part)) (map standing_of (drop l.standing-index l.standing-items))
    ≡ l.initial.nodes.items ++ unit_reads l.setting.found l.setting.sides (find (map row_of l.setting.units.parts.now) l.setting.units.numbers.now) l.setting.width (row_of l.part)
