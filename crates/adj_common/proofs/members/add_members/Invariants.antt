-- The members of the items passed, and those of the items that are left.
use Rattle.std.proofs.Common.{◌≡◌, ◌++◌, map, drop}
use Rattle.adj_tree.specs.View.{declaration_of}
use Rattle.adj_tree.specs.CommonView.{common_of}
use Rattle.adj_common.specs.Entries.{item_entry, statement_entries}
use Rattle.adj_common.specs.Views.{entry_of, firsts_of}
use Rattle.adj_common.proofs.members.add_members.Given as goal

abbrev pub invariant-loop-item : goal.invariant-loop-item
invariant-loop-item l = map entry_of l.out.items ++ map (item_entry (firsts_of l.declared) l.common.line) (map declaration_of (drop l.item-index l.item-items)) ≡ map entry_of l.initial.out.items ++ statement_entries (firsts_of l.declared) (common_of l.common)
