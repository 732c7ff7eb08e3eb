-- The dummies passed are made.
use Rattle.std.proofs.Common.{◌≡◌, ◌++◌, drop}
use Rattle.adj_weave.specs.Orders.{dummies_said}
use Rattle.adj_weave.proofs.called.dummies_of.Given as goal

abbrev pub invariant-loop-k : goal.invariant-loop-k
invariant-loop-k l = l.made.items ++ dummies_said l.marked l.place (drop l.k l.names) (drop l.k l.written) (drop l.k l.read) ≡ dummies_said l.marked l.place l.names l.written l.read
