use Rattle.law_examples.proofs.ReadingCases.{renamed, padded}
use Rattle.law_examples.proofs.reading.renamed_cases.Goals as goal

pub returns-clause-renamed : goal.returns-clause-renamed
returns-clause-renamed c = renamed

pub returns-clause-padded : goal.returns-clause-padded
returns-clause-padded c = padded
