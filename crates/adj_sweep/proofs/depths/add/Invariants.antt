-- No depth was added yet.
use Rattle.std.proofs.Common.{◌+◌, ◌-◌}
use Rattle.adj_sweep.specs.Depths.{IsSame}
use Rattle.adj_sweep.proofs.depths.add.Given as goal

abbrev pub invariant-loop-flags : goal.invariant-loop-flags
invariant-loop-flags l = IsSame l.fn.flags.items l.flags.items

abbrev pub decreases-loop-flags : goal.decreases-loop-flags
decreases-loop-flags l = l.depth + 1 - l.flags.len
