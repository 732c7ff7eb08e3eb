-- The places passed, and those that are left.
use Rattle.std.proofs.Common.{◌≡◌, ◌++◌, map, drop}
use Rattle.adj_tree.specs.CommonView.{common_of}
use Rattle.adj_common.specs.Entries.{entries_of_row}
use Rattle.adj_common.specs.Views.{entry_of, firsts_of}
use Rattle.adj_common.proofs.own.group.Given as goal

abbrev pub invariant-loop-place : goal.invariant-loop-place
invariant-loop-place l = map entry_of l.out.items ++ entries_of_row (firsts_of l.declared) (map common_of l.commons) (drop l.place-index l.row) ≡ entries_of_row (firsts_of l.declared) (map common_of l.commons) l.row
