-- The lines of the units passed, and of those that are left.
use Rattle.std.proofs.Common.{◌≡◌, ◌++◌, map, drop}
use Rattle.std.specs.List.{flat_map}
use Rattle.adj_flow.specs.Rows.{row_of}
use Rattle.adj_plan.specs.View.{row_lines}
use Rattle.adj_plan.proofs.lines.lines.Given as goal

abbrev pub invariant-loop-part : goal.invariant-loop-part
invariant-loop-part l =
    l.out.items ++ flat_map (row_lines l.planned.marks l.planned.flow.width l.planned.flow.taking) (map row_of (drop l.part-index l.part-items))
    ≡ flat_map (row_lines l.planned.marks l.planned.flow.width l.planned.flow.taking) (map row_of l.planned.flow.parts.items)
