use Rattle.law_examples.proofs.ReadingCases.{read_by_terms, read_by_statements, read_by_calls, read_by_runtime}
use Rattle.law_examples.proofs.reading.read_cases.Goals as goal

pub returns-clause-terms : goal.returns-clause-terms
returns-clause-terms c = read_by_terms

pub returns-clause-statements : goal.returns-clause-statements
returns-clause-statements c = read_by_statements

pub returns-clause-calls : goal.returns-clause-calls
returns-clause-calls c = read_by_calls

pub returns-clause-runtime : goal.returns-clause-runtime
returns-clause-runtime c = read_by_runtime
