-- The pairs passed, and those that are left.
use Rattle.std.proofs.Common.{◌≡◌, ◌++◌, map, drop}
use Rattle.std.specs.List.{flat_map}
use Rattle.adj_flow.specs.Rows.{row_of}
use Rattle.adj_flow.specs.View.{standing_of}
use Rattle.adj_flow.specs.Pairs.{pair_of}
use Rattle.adj_live.specs.Listed.{member_edges}
use Rattle.adj_live.specs.View.{here_at}
use Rattle.adj_live.proofs.calls.add_members.Given as goal

abbrev pub invariant-loop-pair : goal.invariant-loop-pair
invariant-loop-pair l =
    l.edges.items ++ flat_map (λ b. member_edges (here_at l.site) (standing_of l.standing) (row_of l.called) b.0 b.1) (map pair_of (drop l.pair-index l.pairs))
    ≡ l.initial.edges.items ++ flat_map (λ b. member_edges (here_at l.site) (standing_of l.standing) (row_of l.called) b.0 b.1) (map pair_of l.pairs)
