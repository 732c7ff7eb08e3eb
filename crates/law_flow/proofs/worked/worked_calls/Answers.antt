-- Each table is computed.
use Rattle.law_flow.proofs.Examples.{square_by_call_worked, reset_by_call_worked, plain_call_worked, call_that_saves_worked, not_called_worked, extent_worked, marked_loop_worked, named_count_worked}
use Rattle.law_flow.proofs.worked.worked_calls.Goals as goal

pub returns-clause-square_by_call : goal.returns-clause-square_by_call
returns-clause-square_by_call c = square_by_call_worked

pub returns-clause-reset_by_call : goal.returns-clause-reset_by_call
returns-clause-reset_by_call c = reset_by_call_worked

pub returns-clause-plain_call : goal.returns-clause-plain_call
returns-clause-plain_call c = plain_call_worked

pub returns-clause-call_that_saves : goal.returns-clause-call_that_saves
returns-clause-call_that_saves c = call_that_saves_worked

pub returns-clause-not_called : goal.returns-clause-not_called
returns-clause-not_called c = not_called_worked

pub returns-clause-extent : goal.returns-clause-extent
returns-clause-extent c = extent_worked

pub returns-clause-marked_loop : goal.returns-clause-marked_loop
returns-clause-marked_loop c = marked_loop_worked

pub returns-clause-named_count : goal.returns-clause-named_count
returns-clause-named_count c = named_count_worked
