-- The declarations passed, and those that are left.
use Rattle.std.proofs.Common.{◌≡◌, ◌++◌, map, drop}
use Rattle.adj_tree.specs.View.{declaration_of}
use Rattle.adj_symbols.specs.View.{places_of}
use Rattle.adj_symbols.proofs.name_faults.add_declared.Given as goal

abbrev pub invariant-loop-decl : goal.invariant-loop-decl
invariant-loop-decl l = places_of l.out.items ++ map (λ d. (d.line, d.name)) (map declaration_of (drop l.decl-index l.decl-items)) ≡ places_of l.initial.out.items ++ map (λ d. (d.line, d.name)) (map declaration_of l.unit.decls)
