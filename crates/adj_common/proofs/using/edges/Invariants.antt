-- The units passed, and those that are left.
use Rattle.std.proofs.Common.{◌≡◌, ◌++◌, map, drop}
use Rattle.adj_tree.specs.CommonView.{shared_of}
use Rattle.adj_common.specs.Using.{edges_from}
use Rattle.adj_common.proofs.using.edges.Given as goal

abbrev pub invariant-loop-unit : goal.invariant-loop-unit
invariant-loop-unit l = l.edges.items ++ edges_from l.numbers l.unit (map shared_of (drop l.unit l.units)) ≡ edges_from l.numbers 0 (map shared_of l.units)
