-- The declarations passed, and those that are left.
use Rattle.std.proofs.Common.{◌≡◌, ◌++◌, map, drop}
use Rattle.adj_tree.specs.View.{declaration_of}
use Rattle.adj_symbols_writes.specs.View.{vars_seen}
use Rattle.adj_common.specs.Naming.{vars_declared}
use Rattle.adj_common.proofs.naming.add_declared.Given as goal

abbrev pub invariant-loop-decl : goal.invariant-loop-decl
invariant-loop-decl l = vars_seen l.out.items ++ vars_declared (map declaration_of (drop l.decl-index l.decls)) ≡ vars_seen l.initial.out.items ++ vars_declared (map declaration_of l.decls)
