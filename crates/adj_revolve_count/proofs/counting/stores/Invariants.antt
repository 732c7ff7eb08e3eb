-- What was counted and what the steps that are left take are all.
use Rattle.std.proofs.Common.{◌≡◌, ◌+◌, ◌<◌, ◌≤◌, ◌^◌}
use Rattle.adj_revolve_count.specs.Stores.{stores}
use Rattle.adj_revolve_count.proofs.counting.stores.Given as goal

abbrev pub invariant-loop-left : goal.invariant-loop-left
invariant-loop-left l = record {
  few : l.slots ≤ 64;
  slot : 2 ≤ l.left → 0 < l.slots;
  within : l.left ≤ 2 ^ 40;
  counted : l.taken + stores l.slots l.left ≡ stores l.snapshots l.steps;
}

abbrev pub decreases-loop-left : goal.decreases-loop-left
decreases-loop-left l = l.left
