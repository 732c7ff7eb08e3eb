-- The next piece goes on where those before it ended.
use Rattle.std.proofs.Common.{◌≤◌, length, drop, length-drop, arith, subst}
use Rattle.adj_io.proofs.Pieces.{next_taken, slice_rest}
use Rattle.adj_io.proofs.whole.write_all.Goals as goal

pub loop-done-preserved : goal.loop-done-preserved
loop-done-preserved g c =
    let bytes = c.args.bytes.now in
    let done = c.loop-done.done in
    let rest = slice_rest bytes done in
    let within : c.in-Ok.count ≤ length (drop done bytes) = subst (λ r. c.in-Ok.count ≤ length r) rest c.in-Ok.ensures.within in
    record {
      within = omega (arith, within, length-drop done bytes, c.loop-done.invariant.within);
      taken = next_taken _ _ _ bytes _ done c.in-Ok.count rest c.loop-done.invariant.taken c.in-Ok.ensures.bytes;
      count = omega (arith, c.loop-done.invariant.count, c.in-Ok.ensures.count);
    }
