-- The extents passed are good.
use Rattle.std.proofs.Common.{◌≡◌, map, drop}
use Rattle.std.specs.List.{list_any}
use Rattle.adj_tree.specs.View.{extent_of, procedure_of}
use Rattle.def_names.specs.NameFaults.{is_bad_extent}
use Rattle.adj_symbols.proofs.extents.is_bad_somewhere.Given as goal

abbrev pub invariant-loop-extent : goal.invariant-loop-extent
invariant-loop-extent l = list_any (is_bad_extent (procedure_of l.outline)) (map extent_of (drop l.extent-index l.extents)) ≡ list_any (is_bad_extent (procedure_of l.outline)) (map extent_of l.extents)
