use Rattle.law_examples.proofs.FirstFaults.{passes, of_lines, of_texts, of_statements}
use Rattle.law_examples.proofs.texts.first_faults.Goals as goal

pub returns-clause-passes : goal.returns-clause-passes
returns-clause-passes c = passes

pub returns-clause-of_lines : goal.returns-clause-of_lines
returns-clause-of_lines c = of_lines

pub returns-clause-of_texts : goal.returns-clause-of_texts
returns-clause-of_texts c = of_texts

pub returns-clause-of_statements : goal.returns-clause-of_statements
returns-clause-of_statements c = of_statements
