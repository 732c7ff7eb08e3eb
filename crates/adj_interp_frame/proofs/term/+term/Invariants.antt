-- Dropping a list goes on with what is left of it.
use Rattle.std.proofs.Common.{◌≤◌}
use Rattle.adj_interp_frame.specs.declared.term.Terms.{size-Terms}
use Rattle.adj_interp_frame.proofs.term.+term.Given as goal

abbrev pub invariant-Terms::drop-loop-self : goal.invariant-Terms::drop-loop-self
invariant-Terms::drop-loop-self l = size-Terms l.self ≤ size-Terms l.initial.self
