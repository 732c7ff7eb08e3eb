-- The calls of the units passed are listed.
use Rattle.std.proofs.Common.{◌≡◌, ◌++◌, map, drop}
use Rattle.adj_tree.specs.View.{procedure_of}
use Rattle.adj_weave_units.specs.Calls.{listed_from}
use Rattle.adj_weave_units.proofs.calls.listed_calls.Given as goal

abbrev pub invariant-loop-place : goal.invariant-loop-place
invariant-loop-place l = l.calls.items ++ listed_from l.names l.place l.number (map procedure_of (drop l.place l.units)) ≡ listed_from l.names 0 0 (map procedure_of l.units)
