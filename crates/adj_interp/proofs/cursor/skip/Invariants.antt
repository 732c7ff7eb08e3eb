-- What is left to be left out.
use Rattle.std.proofs.Common.{◌≡◌, drop}
use Rattle.adj_interp.proofs.cursor.skip.Given as goal

abbrev pub invariant-each : goal.invariant-each
invariant-each l = drop l.left l.schedule ≡ drop l.count l.initial.schedule

abbrev pub decreases-each : goal.decreases-each
decreases-each l = l.left
