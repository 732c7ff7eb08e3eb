-- The machine's theory, at the algebra of the conditions themselves.
use Rattle.adj_parse_expression.proofs.ConditionUnique.{test_reads_itself, test_itself_derived, one_condition}
use Rattle.adj_parse_expression.proofs.laws.conditions_are_read.Goals as goal

pub returns : goal.returns
returns c = record { complete = test_reads_itself; sound = test_itself_derived; one = one_condition }
