use Rattle.std.proofs.Common.{arith}
use Rattle.adj_revolve_count.proofs.Counts.{length-schedule, stores-le}
use Rattle.adj_revolve_count.proofs.search.in_part.Goals as goal

pub overflow_add-actions : goal.overflow_add-actions
overflow_add-actions c =
    omega (arith, c.requires.actions, c.requires.within, length-schedule c.args.low c.args.steps c.args.snapshots c.requires.one c.requires.slot, stores-le c.args.snapshots c.args.steps)

pub overflow_sub-actions : goal.overflow_sub-actions
overflow_sub-actions c = omega (arith, c.requires.actions, length-schedule c.args.low c.args.steps c.args.snapshots c.requires.one c.requires.slot)

pub new-row-requires-clause-taken : goal.new-row-requires-clause-taken
new-row-requires-clause-taken c = omega (arith, c.requires.actions, length-schedule c.args.low c.args.steps c.args.snapshots c.requires.one c.requires.slot)
