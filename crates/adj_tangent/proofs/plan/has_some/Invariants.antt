-- None of the flags passed is set.
use Rattle.std.proofs.Common.{◌≡◌, drop}
use Rattle.adj_tangent.specs.Plans.{has_some}
use Rattle.adj_tangent.proofs.plan.has_some.Given as goal

abbrev pub invariant-loop-flag : goal.invariant-loop-flag
invariant-loop-flag l = has_some (drop l.flag-index l.flags) ≡ has_some l.flags
