use Rattle.std.proofs.Common.{◌≤◌, arith}
use Rattle.adj_revolve_count.proofs.Counts.{IsTurn, turn_is, stores-le, stores-few}
use Rattle.adj_revolve_count.proofs.counting.stores.Goals as goal
use Rattle.adj_revolve_count.proofs.counting.stores.Goals.{After-steps_up_to-taken}

-- a turn of the loop
turn : (c : After-steps_up_to-taken) → IsTurn c.loop-left.left c.loop-left.slots c.steps_up_to-full.result c.steps_up_to-taken.result
turn c =
    let two : 2 ≤ c.loop-left.left = omega (arith, c.loop-left-test.true) in
    turn_is c.loop-left.left c.loop-left.slots c.repetitions_within-repetitions.result c.steps_up_to-full.result c.steps_up_to-taken.result two (c.loop-left.invariant.slot two)
    c.repetitions_within-repetitions.ensures.fits c.repetitions_within-repetitions.ensures.most c.steps_up_to-full.ensures c.steps_up_to-taken.ensures

pub overflow_add-taken : goal.overflow_add-taken
overflow_add-taken c =
    let t = turn c in
    omega (arith, t.counted, c.loop-left.invariant.counted, stores-le c.args.snapshots c.args.steps)

pub loop-left-preserved : goal.loop-left-preserved
loop-left-preserved c =
    let t = turn c in
    record {
      few = omega arith;
      slot = t.slot;
      within = omega arith;
      counted = omega (arith, t.counted, c.loop-left.invariant.counted);
    }

pub loop-left-smaller : goal.loop-left-smaller
loop-left-smaller c = let t = turn c in omega (arith, t.some, t.fits)

pub returns : goal.returns
returns c = omega (arith, c.loop-left.invariant.counted, stores-few c.loop-left.slots c.loop-left.left (omega arith))
