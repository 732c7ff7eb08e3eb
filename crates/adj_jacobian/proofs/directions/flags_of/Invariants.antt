-- The dummies of the columns so far are flagged.
use Rattle.std.proofs.Common.{◌≡◌, ℕ, ◌<◌, map, length, take}
use Rattle.adj_reach.specs.Edges.{flag}
use Rattle.adj_jacobian_groups.specs.View.{place_of}
use Rattle.adj_jacobian.specs.Walks.{has_dummy}
use Rattle.adj_jacobian.proofs.directions.flags_of.Given as goal

abbrev pub invariant-loop-column : goal.invariant-loop-column
invariant-loop-column l = record {
  count : length l.flags.items ≡ l.count;
  flagged : (i : ℕ) → i < l.count → flag l.flags.items i ≡ has_dummy (map place_of (take l.column-index l.columns)) i;
}
