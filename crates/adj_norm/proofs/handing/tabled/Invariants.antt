-- The units passed have their rows.
use Rattle.std.proofs.Common.{◌≡◌, ℕ, List, length, map, take}
use Rattle.adj_tree.specs.View.{procedure_of}
use Rattle.def_meaning.specs.LeastSet.{row_of}
use Rattle.def_meaning.specs.Apart.{has_name}
use Rattle.def_kernel.specs.Kernel.{unit_name}
use Rattle.adj_norm.specs.Rows.{at_name}
use Rattle.adj_norm.proofs.handing.tabled.Given as goal

abbrev pub invariant-loop-place : goal.invariant-loop-place
invariant-loop-place l = record {
  alike : length l.table.units ≡ length l.table.rows.items;
  names : (x : List ℕ) → has_name x l.table.units ≡ has_name x (map unit_name (map procedure_of (take l.place l.units)));
  rows : (x : List ℕ) → at_name l.table.units l.table.rows.items x ≡ row_of (map procedure_of (take l.place l.units)) l.rows x;
}
