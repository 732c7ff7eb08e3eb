-- The units passed, and those that are left.
use Rattle.std.proofs.Common.{◌≡◌, map, drop}
use Rattle.adj_tree.specs.CommonView.{shared_of}
use Rattle.adj_common.specs.Using.{numbered_from, unit_numbers}
use Rattle.adj_common.proofs.using.unit_numbers.Given as goal

abbrev pub invariant-loop-number : goal.invariant-loop-number
invariant-loop-number l = numbered_from l.numbers l.number (map shared_of (drop l.number l.units)) ≡ unit_numbers (map shared_of l.units)
