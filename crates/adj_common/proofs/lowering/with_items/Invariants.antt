-- The declarations passed.
use Rattle.std.proofs.Common.{◌≡◌, map, take}
use Rattle.adj_tree.specs.View.{declaration_of}
use Rattle.adj_common.specs.Views.{entry_of}
use Rattle.adj_common.specs.Members.{with_item}
use Rattle.adj_common.proofs.lowering.with_items.Given as goal

abbrev pub invariant-loop-decl : goal.invariant-loop-decl
invariant-loop-decl l = map declaration_of l.out.items ≡ map (with_item (map entry_of l.members)) (map declaration_of (take l.decl-index l.decls))
