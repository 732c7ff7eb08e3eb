-- The locals stay, and there are more and more names.
use Rattle.std.proofs.Common.{◌≡◌, ◌+◌, ◌-◌, vec_len}
use Rattle.adj_norm_statement.specs.Locals.{local_by}
use Rattle.adj_norm_statement.proofs.locals.Locals.name.Given as goal

abbrev pub invariant-loop-self : goal.invariant-loop-self
invariant-loop-self l = local_by l.self ≡ local_by l.fn.self

abbrev pub decreases-loop-self : goal.decreases-loop-self
decreases-loop-self l = l.number + 1 - vec_len l.self.names
