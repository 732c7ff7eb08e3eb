use Rattle.law_examples.proofs.Limits.{bounds}
use Rattle.law_examples.proofs.texts.limit_cases.Goals as goal

pub returns : goal.returns
returns c = record { bounds = bounds }
