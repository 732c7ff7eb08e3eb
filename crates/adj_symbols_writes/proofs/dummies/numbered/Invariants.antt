-- The units passed, and those that are left.
use Rattle.std.proofs.Common.{◌≡◌, ◌+◌, ◌++◌, map, length, drop}
use Rattle.adj_tree.specs.View.{procedure_of}
use Rattle.def_meaning.specs.LeastSet.{dummies_in_all}
use Rattle.adj_symbols_writes.specs.Graph.{placed_of, numbered}
use Rattle.adj_symbols_writes.proofs.dummies.numbered.Given as goal

abbrev pub invariant-loop-unit : goal.invariant-loop-unit
invariant-loop-unit l = record {
  units : map placed_of l.placed.items ++ numbered (length l.all.items) (map procedure_of (drop l.unit-index l.units)) ≡ numbered 0 (map procedure_of l.units);
  count : length l.all.items + dummies_in_all (map procedure_of (drop l.unit-index l.units)) ≡ dummies_in_all (map procedure_of l.units);
}
