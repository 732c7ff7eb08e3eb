-- The places passed, and those that are left.
use Rattle.std.proofs.Common.{◌≡◌, drop}
use Rattle.adj_common.specs.Layouts.{units_from, units_of_row}
use Rattle.adj_common.proofs.layouts.units_of_row.Given as goal

abbrev pub invariant-loop-place : goal.invariant-loop-place
invariant-loop-place l = units_from l.units.items l.owners (drop l.place-index l.row) ≡ units_of_row l.owners l.row
