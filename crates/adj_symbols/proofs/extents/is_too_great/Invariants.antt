-- The product of the extents passed, and those that are left.
use Rattle.std.proofs.Common.{◌≡◌, ◌≤◌, map, drop, false}
use Rattle.std.specs.Prelude.{pos, ◌*ℤ◌}
use Rattle.std.specs.List.{list_any}
use Rattle.adj_tree.specs.View.{extent_of, procedure_of}
use Rattle.def_names.specs.NameFaults.{is_bad_extent, literal_product}
use Rattle.adj_symbols.proofs.extents.is_too_great.Given as goal

abbrev pub invariant-loop-extent : goal.invariant-loop-extent
invariant-loop-extent l = record {
  least : 1 ≤ l.product;
  most : l.product ≤ 1048576;
  good : list_any (is_bad_extent (procedure_of l.outline)) (map extent_of (drop l.extent-index l.extents)) ≡ false;
  product : pos l.product *ℤ literal_product (map extent_of (drop l.extent-index l.extents)) ≡ literal_product (map extent_of l.extents);
}
