-- The extents passed, and those that are left.
use Rattle.std.proofs.Common.{◌≡◌, ◌++◌, map, drop}
use Rattle.adj_tree.specs.View.{extent_of}
use Rattle.def_names.specs.NameFaults.{extent_names}
use Rattle.adj_symbols.specs.View.{places_of}
use Rattle.adj_symbols.proofs.extents.add_extent_names.Given as goal

abbrev pub invariant-loop-extent : goal.invariant-loop-extent
invariant-loop-extent l = places_of l.out.items ++ map (λ x. (l.decl.line, x)) (extent_names (map extent_of (drop l.extent-index l.extent-items))) ≡ places_of l.initial.out.items ++ map (λ x. (l.decl.line, x)) (extent_names (map extent_of l.decl.extents))
