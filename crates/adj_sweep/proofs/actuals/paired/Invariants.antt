-- What was made are the dummies with the names passed.
use Rattle.std.proofs.Common.{◌≡◌, take}
use Rattle.adj_sweep.specs.Actuals.{paired}
use Rattle.adj_sweep.proofs.actuals.paired.Given as goal

abbrev pub invariant-loop-name : goal.invariant-loop-name
invariant-loop-name l = l.made.items ≡ paired l.dummies (take l.name-index l.given)
