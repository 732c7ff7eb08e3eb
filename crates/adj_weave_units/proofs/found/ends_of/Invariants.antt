-- The ends of the edges passed are made.
use Rattle.std.proofs.Common.{◌≡◌, ◌++◌, drop}
use Rattle.adj_weave_units.specs.Calls.{ends_of}
use Rattle.adj_weave_units.proofs.found.ends_of.Given as goal

abbrev pub invariant-loop-edge : goal.invariant-loop-edge
invariant-loop-edge l = l.made.items ++ ends_of l.flags (drop l.edge-index l.edges) ≡ ends_of l.flags l.edges
