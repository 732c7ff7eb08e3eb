use Rattle.law_examples.proofs.Depths.{depths, counts, test_depths, flaws, deep_statements}
use Rattle.law_examples.proofs.texts.depth_cases.Goals as goal

pub returns-clause-depths : goal.returns-clause-depths
returns-clause-depths c = depths

pub returns-clause-counts : goal.returns-clause-counts
returns-clause-counts c = counts

pub returns-clause-test_depths : goal.returns-clause-test_depths
returns-clause-test_depths c = test_depths

pub returns-clause-flaws : goal.returns-clause-flaws
returns-clause-flaws c = flaws

pub returns-clause-deep_statements : goal.returns-clause-deep_statements
returns-clause-deep_statements c = deep_statements
