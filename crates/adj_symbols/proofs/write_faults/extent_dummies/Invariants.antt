-- The extents passed that are dummies, and those that are left.
use Rattle.std.proofs.Common.{◌≡◌, drop}
use Rattle.std.specs.Prelude.{◌&&◌, ◌||◌}
use Rattle.adj_tree.specs.View.{procedure_of}
use Rattle.def_meaning.specs.Apart.{has_name}
use Rattle.def_names.specs.Variables.{Name, is_dummy}
use Rattle.adj_symbols.specs.View.{places_of, names_at}
use Rattle.adj_symbols.proofs.write_faults.extent_dummies.Given as goal

abbrev pub invariant-loop-place : goal.invariant-loop-place
invariant-loop-place l = (x : Name) → (has_name x l.dummies || (has_name x (names_at (places_of (drop l.place-index l.place-items))) && is_dummy (procedure_of l.outline) x)) ≡ (has_name x (names_at (places_of l.place-items)) && is_dummy (procedure_of l.outline) x)
