-- The declarations passed, and those that are left.
use Rattle.std.proofs.Common.{◌≡◌, ◌++◌, map, drop}
use Rattle.std.specs.Prelude.{flat_map}
use Rattle.adj_tree.specs.View.{declaration_of}
use Rattle.def_names.specs.NameFaults.{extent_names}
use Rattle.adj_symbols.specs.View.{places_of}
use Rattle.adj_symbols.proofs.extents.add_extent_places.Given as goal

abbrev pub invariant-loop-decl : goal.invariant-loop-decl
invariant-loop-decl l = places_of l.out.items ++ flat_map (λ d. map (λ x. (d.line, x)) (extent_names d.extents)) (map declaration_of (drop l.decl-index l.decls)) ≡ places_of l.initial.out.items ++ flat_map (λ d. map (λ x. (d.line, x)) (extent_names d.extents)) (map declaration_of l.decls)
