-- The dummies passed that aren't written are there.
use Rattle.std.proofs.Common.{◌≡◌, ◌++◌, drop}
use Rattle.adj_weave.specs.Left.{read_only}
use Rattle.adj_weave.proofs.left.unwritten.Given as goal

abbrev pub invariant-loop-k : goal.invariant-loop-k
invariant-loop-k l = l.made.items ++ read_only (drop l.k l.dummies) (drop l.k l.written) ≡ read_only l.dummies l.written
