-- The numbers of points.
use Rattle.std.specs.Prelude.{ℕ}
use Rattle.def_names.specs.Numbering.{point_before, point_after, point_inside}
use Rattle.adj_flow.specs.declared.way.Point.{Point}
use Rattle.adj_flow.specs.declared.way.Point.TheVariants.{Before, After, Inside, At}

abbrev pub number_of : Point → ℕ
number_of (Before i) = point_before i
number_of (After i) = point_after i
number_of (Inside i) = point_inside i
number_of (At p) = p
