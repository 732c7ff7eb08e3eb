-- The count is made in 128 bits, in which nothing wraps.
use Rattle.std.proofs.Common.{ap, ◌∙◌}
use Rattle.std.specs.Int.{w64, cast_unsigned}
use Rattle.adj_word.proofs.TripCounts.{trips_divide, trips_held}
use Rattle.adj_word.proofs.arithmetic.trips.Goals as goal

pub nonzero_div-turns : goal.nonzero_div-turns
nonzero_div-turns c =
    let r = c.ranges in
    trips_divide c.args.m1 c.args.m2 c.args.m3 _ _ _ r.m1 r.m2 r.m3 c.from-2.ensures c.from.ensures c.from-step.ensures (λ e. c.if-m3-eq0.false (ap (cast_unsigned w64) e))

pub returns : goal.returns
returns c =
    let r = c.ranges in
    (λ e. c.if-m3-eq0.false (ap (cast_unsigned w64) e), c.unwrap_or.ensures ∙ trips_held c.args.m1 c.args.m2 c.args.m3 _ _ _ r.m1 r.m2 r.m3 c.from-2.ensures c.from.ensures c.from-step.ensures c.try_from.result c.try_from.ensures)
