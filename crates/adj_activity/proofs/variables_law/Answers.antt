-- What stands in a statement stands at a place of a name, and each of these is a variable.
use Rattle.adj_activity.proofs.Holding.{written_hold}
use Rattle.adj_activity.proofs.variables_law.Goals as goal

pub returns : goal.returns
returns c = record { hold = written_hold }
