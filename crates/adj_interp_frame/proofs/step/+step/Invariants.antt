-- Dropping a list goes on with what is left of it.
use Rattle.std.proofs.Common.{◌≤◌}
use Rattle.adj_interp_frame.specs.declared.step.Steps.{size-Steps}
use Rattle.adj_interp_frame.proofs.step.+step.Given as goal

abbrev pub invariant-Steps::drop-loop-self : goal.invariant-Steps::drop-loop-self
invariant-Steps::drop-loop-self l = size-Steps l.self ≤ size-Steps l.initial.self
