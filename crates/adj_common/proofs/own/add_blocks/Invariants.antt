-- The statements passed, and those that are left.
use Rattle.std.proofs.Common.{◌≡◌, ◌++◌, map, drop}
use Rattle.adj_tree.specs.CommonView.{common_of}
use Rattle.adj_symbols_writes.specs.View.{names_seen}
use Rattle.adj_common.specs.Entries.{block_names}
use Rattle.adj_common.proofs.own.add_blocks.Given as goal

abbrev pub invariant-loop-common : goal.invariant-loop-common
invariant-loop-common l = names_seen l.out.items ++ block_names (map common_of (drop l.common-index l.commons)) ≡ names_seen l.initial.out.items ++ block_names (map common_of l.commons)
