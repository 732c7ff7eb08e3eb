-- The machine's theory, at the algebra of the expressions themselves.
use Rattle.def_text.proofs.Unique.{one_expression, reads_itself, itself_derived}
use Rattle.law_text.proofs.texts.expressions_are_read.Goals as goal

pub returns : goal.returns
returns c = record { complete = reads_itself; sound = itself_derived; one = one_expression }
