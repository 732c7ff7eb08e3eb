-- The variables passed that are left are there.
use Rattle.std.proofs.Common.{◌≡◌, ◌++◌, drop}
use Rattle.adj_weave.specs.Left.{unless_among}
use Rattle.adj_weave.proofs.left.others.Given as goal

abbrev pub invariant-loop-name : goal.invariant-loop-name
invariant-loop-name l = l.made.items ++ unless_among l.stays (drop l.name-index l.variables) ≡ unless_among l.stays l.variables
