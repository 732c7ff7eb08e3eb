-- Each law is a lemma.
use Rattle.law_flow.proofs.Statements.{analysed_is_closed, entries_are_closed, statements_are_closed, calls_are_closed}
use Rattle.law_flow.proofs.closed_law.Goals as goal

pub returns-clause-ways : goal.returns-clause-ways
returns-clause-ways c = analysed_is_closed

pub returns-clause-statements : goal.returns-clause-statements
returns-clause-statements c = statements_are_closed

pub returns-clause-calls : goal.returns-clause-calls
returns-clause-calls c = calls_are_closed

pub returns-clause-entries : goal.returns-clause-entries
returns-clause-entries c = entries_are_closed
