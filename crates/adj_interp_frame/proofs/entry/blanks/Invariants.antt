-- So many slots so far.
use Rattle.std.proofs.Common.{◌≡◌, length}
use Rattle.adj_interp_frame.proofs.entry.blanks.Given as goal

abbrev pub invariant-loop-i : goal.invariant-loop-i
invariant-loop-i g l = length l.slots.items ≡ l._i
