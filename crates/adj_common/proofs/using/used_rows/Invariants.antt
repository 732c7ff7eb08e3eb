-- The units passed, and those that are left.
use Rattle.std.proofs.Common.{◌≡◌, ◌++◌, map, drop}
use Rattle.adj_tree.specs.CommonView.{shared_of}
use Rattle.adj_common.specs.Using.{rows_from}
use Rattle.adj_common.proofs.using.used_rows.Given as goal

abbrev pub invariant-loop-unit : goal.invariant-loop-unit
invariant-loop-unit l = map (λ r. r.items) l.rows.items ++ rows_from l.flags l.unit (map shared_of (drop l.unit l.units)) ≡ rows_from l.flags 0 (map shared_of l.units)
