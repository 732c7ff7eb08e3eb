-- None of the units passed is odd, so that those left decide.
use Rattle.std.proofs.Common.{◌≡◌, map, drop}
use Rattle.adj_common.specs.Views.{own_of}
use Rattle.adj_common.specs.Layouts.{odd_among}
use Rattle.adj_common.proofs.layouts.find_odd.Given as goal

abbrev pub invariant-loop-unit : goal.invariant-loop-unit
invariant-loop-unit l = odd_among (map own_of l.owns) (own_of l.first) l.block (drop l.unit-index l.units) ≡ odd_among (map own_of l.owns) (own_of l.first) l.block l.units
