-- The blocks passed, and those that are left.
use Rattle.std.proofs.Common.{◌≡◌, ◌++◌, drop}
use Rattle.adj_common.specs.Using.{row_from}
use Rattle.adj_common.proofs.using.used_row.Given as goal

abbrev pub invariant-loop-block : goal.invariant-loop-block
invariant-loop-block l = l.row.items ++ row_from l.block (drop l.block l.flags) l.unit ≡ row_from 0 l.flags l.unit
