-- The values so far.
use Rattle.std.proofs.Common.{◌≡◌, map}
use Rattle.adj_interp.specs.Concludes.{slot_seen}
use Rattle.adj_interp.specs.Inputs.{entry_seen}
use Rattle.adj_interp.proofs.output.values_of.Given as goal

abbrev pub invariant-loop-slot : goal.invariant-loop-slot
invariant-loop-slot l = map slot_seen l.values.items ≡ map entry_seen l.yielded
