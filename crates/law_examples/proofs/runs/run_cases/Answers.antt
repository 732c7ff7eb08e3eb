use Rattle.law_examples.proofs.RunCases.{control_popped, difference, shapes, logs, fitting, unlined_events, unlined_ends}
use Rattle.law_examples.proofs.runs.run_cases.Goals as goal

pub returns-clause-control_popped : goal.returns-clause-control_popped
returns-clause-control_popped c = control_popped

pub returns-clause-difference : goal.returns-clause-difference
returns-clause-difference c = difference

pub returns-clause-shapes : goal.returns-clause-shapes
returns-clause-shapes c = shapes

pub returns-clause-logs : goal.returns-clause-logs
returns-clause-logs c = logs

pub returns-clause-fitting : goal.returns-clause-fitting
returns-clause-fitting c = fitting

pub returns-clause-unlined_events : goal.returns-clause-unlined_events
returns-clause-unlined_events c = unlined_events

pub returns-clause-unlined_ends : goal.returns-clause-unlined_ends
returns-clause-unlined_ends c = unlined_ends
