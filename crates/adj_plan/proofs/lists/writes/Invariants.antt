-- The rows of the units passed.
use Rattle.std.proofs.Common.{◌≡◌, map, take}
use Rattle.adj_plan.proofs.lists.writes.Given as goal

abbrev pub invariant-loop-unit : goal.invariant-loop-unit
invariant-loop-unit l = map (λ b. b.now) l.writes.items ≡ take l.unit l.checked.writes
