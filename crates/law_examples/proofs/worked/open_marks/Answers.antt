use Rattle.law_examples.proofs.Trials.{value_unsaved_fails, assignment_unkept_fails, variable_unsaved_fails, variable_unvaried_fails, memberless_fails, call_unadjointed_fails, call_unkept_fails, call_unsaved_fails, branch_left_out_fails}
use Rattle.law_examples.proofs.worked.open_marks.Goals as goal

pub returns-clause-variable_unsaved : goal.returns-clause-variable_unsaved
returns-clause-variable_unsaved c = variable_unsaved_fails

pub returns-clause-variable_unvaried : goal.returns-clause-variable_unvaried
returns-clause-variable_unvaried c = variable_unvaried_fails

pub returns-clause-memberless : goal.returns-clause-memberless
returns-clause-memberless c = memberless_fails

pub returns-clause-call_unadjointed : goal.returns-clause-call_unadjointed
returns-clause-call_unadjointed c = call_unadjointed_fails

pub returns-clause-call_unkept : goal.returns-clause-call_unkept
returns-clause-call_unkept c = call_unkept_fails

pub returns-clause-call_unsaved : goal.returns-clause-call_unsaved
returns-clause-call_unsaved c = call_unsaved_fails

pub returns-clause-branch_left_out : goal.returns-clause-branch_left_out
returns-clause-branch_left_out c = branch_left_out_fails

pub returns-clause-value_unsaved : goal.returns-clause-value_unsaved
returns-clause-value_unsaved c = value_unsaved_fails

pub returns-clause-assignment_unkept : goal.returns-clause-assignment_unkept
returns-clause-assignment_unkept c = assignment_unkept_fails
