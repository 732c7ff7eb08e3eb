-- The values and the tangents so far.
use Rattle.std.proofs.Common.{◌≡◌, map, take}
use Rattle.adj_interp.specs.Dually.{AreTangents, dual_slots}
use Rattle.adj_interp.specs.Inputs.{entry_seen}
use Rattle.adj_interp.proofs.dual.values_of.Given as goal

abbrev pub invariant-loop-slot : goal.invariant-loop-slot
invariant-loop-slot l = record {
  tangents : AreTangents l.values.items l.tangents.items;
  same : dual_slots l.values.items l.tangents.items ≡ map entry_seen (take l.slot-index l.slots);
}
