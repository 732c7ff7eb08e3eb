use Rattle.std.proofs.Common.{sym, subst}
use Rattle.adj_interp_frame.specs.Shown.{Shows}
use Rattle.adj_interp.proofs.machine.Machine.take_back.Goals as goal

pub returns-clause-handed : goal.returns-clause-handed
returns-clause-handed g c shape within s s0 t h q = c.take_back.ensures.handed shape within s s0 t h (subst (λ vs. Shows g.N.Number.numbers c.args.routine.now.names vs within t) (sym c.as_slice.ensures.value) q)
