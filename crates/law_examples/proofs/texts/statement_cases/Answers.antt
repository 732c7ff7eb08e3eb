use Rattle.law_examples.proofs.TextCases.{calls, other_actuals, loop_forms}
use Rattle.law_examples.proofs.texts.statement_cases.Goals as goal

pub returns-clause-calls : goal.returns-clause-calls
returns-clause-calls c = calls

pub returns-clause-other_actuals : goal.returns-clause-other_actuals
returns-clause-other_actuals c = other_actuals

pub returns-clause-loop_forms : goal.returns-clause-loop_forms
returns-clause-loop_forms c = loop_forms
