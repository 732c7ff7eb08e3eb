use Rattle.std.proofs.Common.{arith}
use Rattle.adj_revolve_count.proofs.Counts.{length-schedule, stores-le}
use Rattle.adj_revolve_count.proofs.counting.count.Goals as goal

pub overflow_add-result : goal.overflow_add-result
overflow_add-result c = omega (arith, c.stores.ensures, stores-le c.args.snapshots c.args.steps)

pub returns-clause-count : goal.returns-clause-count
returns-clause-count c = omega (arith, length-schedule 0 c.args.steps c.args.snapshots (omega arith) (λ two. c.requires.some))

pub returns-clause-within : goal.returns-clause-within
returns-clause-within c = omega (arith, c.stores.ensures, stores-le c.args.snapshots c.args.steps)
