use Rattle.std.proofs.Common.{◌≡◌, map, take, pos}
use Rattle.adj_data.proofs.marks.zeros_like.Given as goal

abbrev pub invariant-loop-cell : goal.invariant-loop-cell
invariant-loop-cell l = l.cells.items ≡ map (λ z. pos 0) (take l._cell-index l.slot.cells)
