-- The flags of the places passed are set.
use Rattle.std.proofs.Common.{◌≡◌, ℕ, ◌<◌, true}
use Rattle.adj_reach.specs.Edges.{flag}
use Rattle.adj_activity.proofs.starts.first_unset.Given as goal

abbrev pub invariant-loop-place : goal.invariant-loop-place
invariant-loop-place l = (j : ℕ) → j < l.place → flag l.seen j ≡ true
