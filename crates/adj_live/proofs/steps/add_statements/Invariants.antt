-- The statements passed, and those that are left.
use Rattle.std.proofs.Common.{◌≡◌, ◌++◌, map, drop}
use Rattle.std.specs.List.{flat_map}
use Rattle.adj_flow.specs.View.{standing_of}
use Rattle.adj_live.specs.Listed.{statement_edges}
use Rattle.adj_live.specs.View.{here_at}
use Rattle.adj_live.proofs.steps.add_statements.Given as goal

abbrev pub invariant-loop-standing : goal.invariant-loop-standing
invariant-loop-standing l = l.edges.items ++ flat_map (statement_edges (here_at l.site)) (map standing_of (drop l.standing-index l.standing-items)) ≡ l.initial.edges.items ++ flat_map (statement_edges (here_at l.site)) (map standing_of l.site.part.now.statements.items)
