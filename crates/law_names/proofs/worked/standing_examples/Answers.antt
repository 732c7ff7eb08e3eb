-- Each program is computed.
use Rattle.law_names.proofs.Samples.{in_assignment, in_tests, in_loops, in_call, in_runtime, at_any_depth, variables_in_order, each_reserved, fresh_names, numbers}
use Rattle.law_names.proofs.worked.standing_examples.Goals as goal

pub returns-clause-in_assignment : goal.returns-clause-in_assignment
returns-clause-in_assignment c = in_assignment

pub returns-clause-in_tests : goal.returns-clause-in_tests
returns-clause-in_tests c = in_tests

pub returns-clause-in_loops : goal.returns-clause-in_loops
returns-clause-in_loops c = in_loops

pub returns-clause-in_call : goal.returns-clause-in_call
returns-clause-in_call c = in_call

pub returns-clause-in_runtime : goal.returns-clause-in_runtime
returns-clause-in_runtime c = in_runtime

pub returns-clause-at_any_depth : goal.returns-clause-at_any_depth
returns-clause-at_any_depth c = at_any_depth

pub returns-clause-variables_in_order : goal.returns-clause-variables_in_order
returns-clause-variables_in_order c = variables_in_order

pub returns-clause-each_reserved : goal.returns-clause-each_reserved
returns-clause-each_reserved c = each_reserved

pub returns-clause-fresh_names : goal.returns-clause-fresh_names
returns-clause-fresh_names c = fresh_names

pub returns-clause-numbers : goal.returns-clause-numbers
returns-clause-numbers c = numbers
