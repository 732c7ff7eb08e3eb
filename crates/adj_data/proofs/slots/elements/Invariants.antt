use Rattle.std.proofs.Common.{take}
use Rattle.adj_data.proofs.Elements.{Multiplied}
use Rattle.adj_data.proofs.slots.elements.Given as goal

abbrev pub invariant-loop-extent : goal.invariant-loop-extent
invariant-loop-extent l = Multiplied (take l.extent-index l.extents) l.count
