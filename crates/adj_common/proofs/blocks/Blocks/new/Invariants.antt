-- The units passed, and those that are left.
use Rattle.std.proofs.Common.{◌≡◌, ◌++◌, map, drop}
use Rattle.adj_tree.specs.CommonView.{shared_of}
use Rattle.adj_symbols_writes.specs.View.{names_seen}
use Rattle.adj_common.specs.Texts.{names_of_text, owners_from}
use Rattle.adj_common.proofs.blocks.Blocks.new.Given as goal

abbrev pub invariant-loop-unit : goal.invariant-loop-unit
invariant-loop-unit l = record {
  names : names_seen l.names.items ++ names_of_text (map shared_of (drop l.unit l.units)) ≡ names_of_text (map shared_of l.units);
  owners : l.owners.items ++ owners_from l.unit (map shared_of (drop l.unit l.units)) ≡ owners_from 0 (map shared_of l.units);
}
