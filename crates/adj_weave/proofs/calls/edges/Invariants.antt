-- The edges of the calls passed are made.
use Rattle.std.proofs.Common.{◌≡◌, ◌++◌, drop}
use Rattle.adj_weave.specs.Orders.{is_edge}
use Rattle.adj_weave_units.specs.Calls.{edges_of}
use Rattle.adj_weave.proofs.calls.edges.Given as goal

abbrev pub invariant-loop-call : goal.invariant-loop-call
invariant-loop-call l = l.made.items ++ edges_of (is_edge l.marked l.counting) (drop l.call-index l.calls) ≡ edges_of (is_edge l.marked l.counting) l.calls
