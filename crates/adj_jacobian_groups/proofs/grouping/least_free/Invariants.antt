use Rattle.std.proofs.Common.{◌≡◌, ℕ, ◌<◌, get_or}
use Rattle.adj_jacobian_groups.proofs.grouping.least_free.Given as goal

-- the groups so far have the stamp
abbrev pub invariant-loop-group : goal.invariant-loop-group
invariant-loop-group l = (g : ℕ) → g < l.group → get_or l.stamps g 0 ≡ l.stamp
