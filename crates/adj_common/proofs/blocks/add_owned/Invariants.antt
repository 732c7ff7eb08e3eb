-- The statements passed, and those that are left.
use Rattle.std.proofs.Common.{◌≡◌, ◌++◌, map, drop}
use Rattle.adj_tree.specs.CommonView.{common_of}
use Rattle.adj_symbols_writes.specs.View.{names_seen}
use Rattle.adj_common.specs.Entries.{block_names}
use Rattle.adj_common.proofs.blocks.add_owned.Given as goal

abbrev pub invariant-loop-common : goal.invariant-loop-common
invariant-loop-common l = record {
  names : names_seen l.names.items ++ block_names (map common_of (drop l.common-index l.commons)) ≡ names_seen l.initial.names.items ++ block_names (map common_of l.commons);
  owners : l.owners.items ++ map (λ c. l.unit) (map common_of (drop l.common-index l.commons)) ≡ l.initial.owners.items ++ map (λ c. l.unit) (map common_of l.commons);
}
