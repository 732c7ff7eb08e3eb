-- The flags of the places passed are joined.
use Rattle.std.proofs.Common.{◌≡◌, ℕ, ◌+◌, ◌*◌, ◌<◌, ◌≤◌, length}
use Rattle.std.specs.Prelude.{◌||◌}
use Rattle.adj_reach.specs.Edges.{flag}
use Rattle.adj_activity.proofs.starts.join.Given as goal

abbrev pub invariant-loop-place : goal.invariant-loop-place
invariant-loop-place l = record {
  count : length l.seen ≡ length l.initial.seen;
  joined : (j : ℕ) → j < l.place → flag l.seen j ≡ (flag l.initial.seen j || flag l.flags (l.point * l.width + j));
  rest : (j : ℕ) → l.place ≤ j → flag l.seen j ≡ flag l.initial.seen j;
}
