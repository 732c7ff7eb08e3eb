-- The edges of the calls passed are made.
use Rattle.std.proofs.Common.{◌≡◌, ◌++◌, drop, true}
use Rattle.adj_weave_units.specs.Calls.{edges_of}
use Rattle.adj_weave_units.proofs.calls.all_edges.Given as goal

abbrev pub invariant-loop-call : goal.invariant-loop-call
invariant-loop-call l = l.made.items ++ edges_of (λ i turns. true) (drop l.call-index l.calls) ≡ edges_of (λ i turns. true) l.calls
