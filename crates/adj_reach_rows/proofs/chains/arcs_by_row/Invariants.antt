-- The places passed are chained.
use Rattle.std.proofs.Common.{map}
use Rattle.adj_reach_rows.specs.declared.arc.Arc.{Arc}
use Rattle.adj_reach_rows.proofs.Chaining.{Chained}
use Rattle.adj_reach_rows.proofs.chains.arcs_by_row.Given as goal

abbrev pub invariant-loop-place : goal.invariant-loop-place
invariant-loop-place l = Chained l.rows (map (λ (a : Arc). a.from) l.arcs) l.place l.heads.items l.next.items
