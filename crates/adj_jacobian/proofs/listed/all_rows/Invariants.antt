-- The rows so far, and those that are still to come.
use Rattle.std.proofs.Common.{◌≡◌, ◌++◌, map, drop}
use Rattle.std.specs.Vec.Iter.{into_iter_items}
use Rattle.adj_interp.specs.Inputs.{entry_seen}
use Rattle.adj_jacobian_groups.specs.View.{place_of, rows_of}
use Rattle.adj_jacobian.specs.Lists.{woven}
use Rattle.adj_jacobian.proofs.listed.all_rows.Given as goal

abbrev pub invariant-loop-at : goal.invariant-loop-at
invariant-loop-at l =
    rows_of l.rows.items ++ woven (map entry_seen l.slots) (map place_of (drop l.at-index l.cells)) (rows_of (into_iter_items l.left)) ≡ woven (map entry_seen l.slots) (map place_of l.cells) (rows_of l.fn.others.items)
