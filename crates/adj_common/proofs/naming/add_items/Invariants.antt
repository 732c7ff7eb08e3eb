-- The statements passed, and those that are left.
use Rattle.std.proofs.Common.{◌≡◌, ◌++◌, map, drop}
use Rattle.adj_tree.specs.CommonView.{common_of}
use Rattle.adj_symbols_writes.specs.View.{vars_seen}
use Rattle.adj_common.specs.Naming.{vars_of_items}
use Rattle.adj_common.proofs.naming.add_items.Given as goal

abbrev pub invariant-loop-common : goal.invariant-loop-common
invariant-loop-common l = vars_seen l.out.items ++ vars_of_items (map common_of (drop l.common-index l.commons)) ≡ vars_seen l.initial.out.items ++ vars_of_items (map common_of l.commons)
