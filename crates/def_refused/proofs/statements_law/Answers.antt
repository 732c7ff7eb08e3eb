use Rattle.def_refused.proofs.StatementTests.{statements_answer, statements_refused, statements_accepted}
use Rattle.def_refused.proofs.statements_law.Goals as goal

pub returns : goal.returns
returns c = record { answer = statements_answer; refused = statements_refused; accepted = statements_accepted }
