use Rattle.law_examples.proofs.Printed.{terms, tests, programs, literals, written_bounds, written_terms, cut_lines}
use Rattle.law_examples.proofs.texts.printed_cases.Goals as goal

pub returns-clause-terms : goal.returns-clause-terms
returns-clause-terms c = terms

pub returns-clause-tests : goal.returns-clause-tests
returns-clause-tests c = tests

pub returns-clause-programs : goal.returns-clause-programs
returns-clause-programs c = programs

pub returns-clause-literals : goal.returns-clause-literals
returns-clause-literals c = literals

pub returns-clause-written_bounds : goal.returns-clause-written_bounds
returns-clause-written_bounds c = written_bounds

pub returns-clause-written_terms : goal.returns-clause-written_terms
returns-clause-written_terms c = written_terms

pub returns-clause-cut_lines : goal.returns-clause-cut_lines
returns-clause-cut_lines c = cut_lines
