-- The edges of the statements passed, and of those that are left.
use Rattle.std.proofs.Common.{◌≡◌, ◌++◌, map, drop}
use Rattle.std.specs.List.{flat_map}
use Rattle.adj_flow.specs.Rows.{row_of}
use Rattle.adj_symbols_writes.specs.Table.{value_of}
use Rattle.adj_flow.specs.View.{standing_of}
use Rattle.adj_flow.specs.NodeView.{found_at}
use Rattle.adj_activity.specs.View.{standing_edges}
use Rattle.adj_activity.proofs.listing.add_statements.Given as goal

abbrev pub invariant-loop-standing : goal.invariant-loop-standing
invariant-loop-standing l =
    l.edges.items ++ flat_map (standing_edges l.site.steps (λ x. found_at (map row_of l.units.parts.now) (value_of x l.units.numbers.now)) l.site.width (row_of l.site.part.now)) (map standing_of (drop l.standing-index l.standing-items))
    ≡ l.initial.edges.items ++ flat_map (standing_edges l.site.steps (λ x. found_at (map row_of l.units.parts.now) (value_of x l.units.numbers.now)) l.site.width (row_of l.site.part.now)) (map standing_of l.site.part.now.statements.items)
