-- The edges of the units passed, and of those that are left.
use Rattle.std.proofs.Common.{◌≡◌, ◌++◌, map, drop}
use Rattle.std.specs.List.{flat_map}
use Rattle.def_names.specs.VariableLists.{list_if}
use Rattle.adj_flow.specs.Rows.{row_of}
use Rattle.adj_symbols_writes.specs.Table.{value_of}
use Rattle.adj_reach.specs.Edges.{flag}
use Rattle.adj_flow.specs.NodeView.{found_at}
use Rattle.adj_activity.specs.Arcs.{other_edges, all_others}
use Rattle.adj_activity.proofs.listing.edges.Given as goal

abbrev pub invariant-loop-part : goal.invariant-loop-part
invariant-loop-part l =
    l.edges.items
    ++ flat_map (λ r. list_if (flag l.flow.taking r.part.number) (other_edges l.steps (λ x. found_at (map row_of l.flow.parts.items) (value_of x l.flow.numbers)) l.flow.width r)) (map row_of (drop l.part-index l.parts))
    ≡ all_others l.steps (map row_of l.flow.parts.items) l.flow.numbers l.flow.taking l.flow.width
