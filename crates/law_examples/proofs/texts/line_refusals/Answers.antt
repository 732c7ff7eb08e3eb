use Rattle.law_examples.proofs.Refusals.{initial_lines, characters, wrong_directives, wrong_splits}
use Rattle.law_examples.proofs.texts.line_refusals.Goals as goal

pub returns-clause-initial_lines : goal.returns-clause-initial_lines
returns-clause-initial_lines c = initial_lines

pub returns-clause-characters : goal.returns-clause-characters
returns-clause-characters c = characters

pub returns-clause-directives : goal.returns-clause-directives
returns-clause-directives c = wrong_directives

pub returns-clause-splits : goal.returns-clause-splits
returns-clause-splits c = wrong_splits
