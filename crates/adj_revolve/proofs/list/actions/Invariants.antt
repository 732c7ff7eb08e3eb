use Rattle.std.proofs.Common.{◌≡◌, ◌++◌, length}
use Rattle.adj_revolve.specs.Schedule.{schedule_of}
use Rattle.adj_revolve.proofs.list.actions.Given as goal

abbrev pub invariant-loop-action : goal.invariant-loop-action
invariant-loop-action l = l.list.items ++ l.schedule ≡ schedule_of 0 l.steps l.snapshots

abbrev pub decreases-loop-action : goal.decreases-loop-action
decreases-loop-action l = length l.schedule
