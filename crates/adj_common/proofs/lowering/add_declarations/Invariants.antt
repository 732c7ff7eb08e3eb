-- The members passed, and those that are left.
use Rattle.std.proofs.Common.{◌≡◌, ◌++◌, map, drop}
use Rattle.adj_tree.specs.View.{declaration_of}
use Rattle.adj_common.specs.Views.{entry_of, firsts_of}
use Rattle.adj_common.specs.Members.{entry_declarations}
use Rattle.adj_common.proofs.lowering.add_declarations.Given as goal

abbrev pub invariant-loop-member : goal.invariant-loop-member
invariant-loop-member l = map declaration_of l.out.items ++ entry_declarations (firsts_of l.declared) l.none (map entry_of (drop l.member-index l.members)) ≡ map declaration_of l.initial.out.items ++ entry_declarations (firsts_of l.declared) l.none (map entry_of l.members)
