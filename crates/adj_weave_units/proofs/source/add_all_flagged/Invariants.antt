-- The names passed that are flagged are there.
use Rattle.std.proofs.Common.{◌≡◌, ◌++◌, drop}
use Rattle.adj_weave_units.specs.Calls.{flagged}
use Rattle.adj_weave_units.proofs.source.add_all_flagged.Given as goal

abbrev pub invariant-loop-k : goal.invariant-loop-k
invariant-loop-k l = l.made.items ++ flagged (drop l.k l.flags) (drop l.k l.names) ≡ l.fn.made.items ++ flagged l.flags l.names
