-- The words and the tangents so far.
use Rattle.std.proofs.Common.{◌≡◌, map, take}
use Rattle.std.specs.Prelude.{ℤ}
use Rattle.adj_interp.proofs.dual.parted.Given as goal

abbrev pub invariant-loop-cell : goal.invariant-loop-cell
invariant-loop-cell l = record {
  words : l.words.items ≡ map (λ (p : ℤ × ℤ). p.0) (take l.cell-index l.cell-items);
  tangents : l.tangents.items ≡ map (λ (p : ℤ × ℤ). p.1) (take l.cell-index l.cell-items);
}
