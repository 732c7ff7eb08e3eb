-- The law is a lemma.
use Rattle.law_cost.proofs.Rows.{reversed_rows_cost}
use Rattle.law_cost.proofs.cost.rows_law.Goals as goal

pub returns : goal.returns
returns c = reversed_rows_cost
