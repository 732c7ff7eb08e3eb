use Rattle.std.proofs.Common.{◌≡◌, ◌++◌, length}
use Rattle.std.specs.Prelude.{flat_map}
use Rattle.adj_revolve.specs.Schedule.{schedule_of}
use Rattle.adj_tool.specs.Answer.{action_line}
use Rattle.adj_tool.proofs.schedule.schedule.Given as goal

abbrev pub invariant-loop-action : goal.invariant-loop-action
invariant-loop-action l = l.text.items ++ flat_map action_line l.actions ≡ flat_map action_line (schedule_of 0 l.steps l.snapshots)

abbrev pub decreases-loop-action : goal.decreases-loop-action
decreases-loop-action l = length l.actions
