use Rattle.law_examples.proofs.ReadingCases.{written}
use Rattle.law_examples.proofs.reading.written_cases.Goals as goal

pub returns : goal.returns
returns c = record { written = written }
