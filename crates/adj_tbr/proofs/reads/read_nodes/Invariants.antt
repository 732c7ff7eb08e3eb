-- The numbers of the units passed, and of those that are left.
use Rattle.std.proofs.Common.{◌≡◌, ◌++◌, map, drop}
use Rattle.std.specs.List.{flat_map}
use Rattle.def_names.specs.VariableLists.{list_if}
use Rattle.adj_flow.specs.Rows.{row_of}
use Rattle.adj_reach.specs.Edges.{flag}
use Rattle.adj_tbr.specs.View.{find}
use Rattle.adj_tbr.specs.Reads.{unit_reads, read_nodes}
use Rattle.adj_tbr.proofs.reads.read_nodes.Given as goal

abbrev pub invariant-loop-part : goal.invariant-loop-part
invariant-loop-part l =
    l.nodes.items ++ flat_map (λ r. list_if (flag l.flow.taking r.part.number) (unit_reads l.setting.found l.setting.sides (find (map row_of l.setting.units.parts.now) l.setting.units.numbers.now) l.setting.width r)) (map row_of (drop l.part-index l.part-items))
    ≡ read_nodes l.setting.found l.setting.sides (find (map row_of l.setting.units.parts.now) l.setting.units.numbers.now) (map row_of l.flow.parts.items) l.flow.taking l.setting.width
