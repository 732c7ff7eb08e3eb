-- The names of the extents passed, and those of the others.
use Rattle.std.proofs.Common.{◌≡◌, ℕ, List, map, drop}
use Rattle.std.specs.Prelude.{is_some, ◌||◌}
use Rattle.adj_tree.specs.View.{extent_of}
use Rattle.def_meaning.specs.Read.{names_extent}
use Rattle.adj_symbols_writes.specs.Table.{value_of}
use Rattle.adj_live.proofs.extents.add_names.Given as goal

abbrev pub invariant-loop-extent : goal.invariant-loop-extent
invariant-loop-extent l =
    (x : List ℕ) → (is_some (value_of x l.names) || names_extent x (map extent_of (drop l.extent-index l.extents))) ≡ (is_some (value_of x l.initial.names) || names_extent x (map extent_of l.extents))
