-- What is flagged on the ways passed, or on one of those that are left; the first places are flagged.
use Rattle.std.proofs.Common.{◌≡◌, ℕ, ◌+◌, ◌*◌, ◌<◌, ◌≤◌, true, map, drop, length}
use Rattle.std.specs.Prelude.{◌||◌}
use Rattle.def_flow.specs.Rules.{somewhere}
use Rattle.adj_flow.specs.WayView.{way_of}
use Rattle.adj_reach.specs.Edges.{flag}
use Rattle.adj_activity.proofs.starts.seen.Given as goal

abbrev pub invariant-loop-way : goal.invariant-loop-way
invariant-loop-way l = record {
  count : length l.seen.items ≡ length l.part.variables.now;
  within : l.set ≤ length l.seen.items;
  set : (j : ℕ) → j < l.set → flag l.seen.items j ≡ true;
  seen : (j : ℕ) → j < length l.part.variables.now → (flag l.seen.items j || somewhere (map way_of (drop l.way-index l.way-items)) (λ p. flag l.flags (p * l.width + j))) ≡ somewhere (map way_of l.part.ways.items) (λ p. flag l.flags (p * l.width + j));
}
