-- The places passed are chained.
use Rattle.std.proofs.Common.{ℕ, ◌/◌, map}
use Rattle.adj_reach_rows.proofs.Chaining.{Chained}
use Rattle.adj_reach_rows.proofs.chains.edges_by_row.Given as goal

abbrev pub invariant-loop-place : goal.invariant-loop-place
invariant-loop-place l = Chained l.rows (map (λ (e : ℕ × ℕ). e.0 / l.width) l.edges) l.place l.heads.items l.next.items
