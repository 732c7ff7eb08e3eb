-- How many are left, and those picked so far.
use Rattle.std.proofs.Common.{◌≡◌, ℕ, ◌+◌, ◌-◌, ◌*◌, ◌<◌, length}
use Rattle.adj_reach.specs.Edges.{flag}
use Rattle.adj_flow.proofs.strided.picked.Given as goal

abbrev pub decreases-loop-next : goal.decreases-loop-next
decreases-loop-next l = length l.flags - l.next

abbrev pub invariant-loop-next : goal.invariant-loop-next
invariant-loop-next l = record {
  here : l.next ≡ length l.picked.items * l.stride + l.place;
  so_far : (n : ℕ) → n < length l.picked.items → flag l.picked.items n ≡ flag l.flags (n * l.stride + l.place);
}
