-- The columns so far, and the number of the next.
use Rattle.std.proofs.Common.{◌≡◌, ◌+◌, ◌-◌, ◌*◌, ◌++◌, min}
use Rattle.adj_jacobian.specs.Parts.{columns_from}
use Rattle.adj_jacobian.proofs.rows.add_mask.Given as goal

abbrev pub invariant-loop-w : goal.invariant-loop-w
invariant-loop-w l = record {
  stands : l.first ≡ 256 * l.block + min (l.total - 256 * l.block) (64 * l.w);
  so_far : l.columns ≡ l.fn.columns ++ columns_from l.block l.mask (256 * l.block) (l.first - 256 * l.block);
}
