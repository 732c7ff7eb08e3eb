use Rattle.law_examples.proofs.ReadingCases.{handed_back, within}
use Rattle.law_examples.proofs.reading.dummy_cases.Goals as goal

pub returns-clause-handed_back : goal.returns-clause-handed_back
returns-clause-handed_back c = handed_back

pub returns-clause-within : goal.returns-clause-within
returns-clause-within c = within
