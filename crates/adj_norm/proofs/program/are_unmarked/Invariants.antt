-- No loop is marked in the units passed.
use Rattle.std.proofs.Common.{◌≡◌, map, drop}
use Rattle.adj_tree.specs.View.{procedure_of}
use Rattle.adj_norm.specs.Programs.{are_unmarked}
use Rattle.adj_norm.proofs.program.are_unmarked.Given as goal

abbrev pub invariant-loop-unit : goal.invariant-loop-unit
invariant-loop-unit l = are_unmarked (map procedure_of (drop l.unit-index l.units)) ≡ are_unmarked (map procedure_of l.units)
