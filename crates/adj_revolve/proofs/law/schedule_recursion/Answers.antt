use Rattle.adj_revolve.proofs.ScheduleLemmas.{body-unfold}
use Rattle.adj_revolve.proofs.law.schedule_recursion.Goals as goal

pub returns : goal.returns
returns c = body-unfold c.args.low c.args.steps c.args.snapshots c.requires.some c.requires.two
