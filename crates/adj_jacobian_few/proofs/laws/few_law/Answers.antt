-- By the runs that carry both.
use Rattle.adj_jacobian_few.proofs.Told.{few_tells}
use Rattle.adj_jacobian_few.proofs.laws.few_law.Goals as goal

pub returns : goal.returns
returns c = record { tells = few_tells }
