use Rattle.std.proofs.Common.{◌≡◌, ℕ, length, take}
use Rattle.std.specs.Prelude.{◌==◌, ◌&&◌, ◌||◌}
use Rattle.def_jacobian.specs.Groups.{has}
use Rattle.adj_jacobian_groups.specs.Listed.{list_at}
use Rattle.adj_jacobian_groups.proofs.lists.add_row.Given as goal

-- the columns so far have the row
abbrev pub invariant-loop-column : goal.invariant-loop-column
invariant-loop-column l = record {
  count : length l.lists ≡ length l.fn.lists;
  added : (c r : ℕ) → has (list_at l.lists c) r ≡ (has (list_at l.fn.lists c) r || (r == l.row && has (take l.column-index l.columns) c));
}
