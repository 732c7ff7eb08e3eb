use Rattle.std.proofs.Common.{◌≡◌, min}
use Rattle.adj_revolve.specs.Binomial.{beta}
use Rattle.adj_revolve.proofs.binomial.ways_up_to.Given as goal

abbrev pub invariant-loop-i : goal.invariant-loop-i
invariant-loop-i l = l.ways ≡ min l.cap (beta l.many l.i)
