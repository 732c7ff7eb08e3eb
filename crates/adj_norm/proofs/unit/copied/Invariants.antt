-- What was made is equal to the first part of the list.
use Rattle.std.proofs.Common.{◌≡◌, map, take}
use Rattle.adj_tree.specs.View.{declaration_of}
use Rattle.adj_norm.proofs.unit.copied.Given as goal

abbrev pub invariant-loop-decl : goal.invariant-loop-decl
invariant-loop-decl l = map declaration_of l.made.items ≡ map declaration_of (take l.decl-index l.decls)
