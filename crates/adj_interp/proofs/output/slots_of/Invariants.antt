-- The slots so far.
use Rattle.std.proofs.Common.{◌≡◌, map}
use Rattle.adj_interp.specs.Concludes.{slot_seen}
use Rattle.adj_interp.specs.Inputs.{entry_seen}
use Rattle.adj_interp.proofs.output.slots_of.Given as goal

abbrev pub invariant-loop-value : goal.invariant-loop-value
invariant-loop-value l = map entry_seen l.slots.items ≡ map slot_seen l.yielded
