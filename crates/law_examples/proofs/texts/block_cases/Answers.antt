use Rattle.law_examples.proofs.Blocks.{branches, loop_blocks, directives, split_calls, lines, declared, likenesses, data_places, labels, keywords}
use Rattle.law_examples.proofs.texts.block_cases.Goals as goal

pub returns-clause-branches : goal.returns-clause-branches
returns-clause-branches c = branches

pub returns-clause-loop_blocks : goal.returns-clause-loop_blocks
returns-clause-loop_blocks c = loop_blocks

pub returns-clause-directives : goal.returns-clause-directives
returns-clause-directives c = directives

pub returns-clause-split_calls : goal.returns-clause-split_calls
returns-clause-split_calls c = split_calls

pub returns-clause-lines : goal.returns-clause-lines
returns-clause-lines c = lines

pub returns-clause-declared : goal.returns-clause-declared
returns-clause-declared c = declared

pub returns-clause-likenesses : goal.returns-clause-likenesses
returns-clause-likenesses c = likenesses

pub returns-clause-data_places : goal.returns-clause-data_places
returns-clause-data_places c = data_places

pub returns-clause-labels : goal.returns-clause-labels
returns-clause-labels c = labels

pub returns-clause-keywords : goal.returns-clause-keywords
returns-clause-keywords c = keywords
