-- The open cells so far, and those that are still to come.
use Rattle.std.proofs.Common.{◌≡◌, ◌++◌, map, drop, filter}
use Rattle.adj_interp.specs.Inputs.{entry_seen}
use Rattle.adj_jacobian_groups.specs.View.{place_of}
use Rattle.adj_jacobian.specs.Lists.{is_open}
use Rattle.adj_jacobian.proofs.listed.open_cells.Given as goal

abbrev pub invariant-loop-at : goal.invariant-loop-at
invariant-loop-at l =
    map place_of l.all.items ++ filter (is_open (map entry_seen l.slots)) (map place_of (drop l.at-index l.cells)) ≡ filter (is_open (map entry_seen l.slots)) (map place_of l.cells)
