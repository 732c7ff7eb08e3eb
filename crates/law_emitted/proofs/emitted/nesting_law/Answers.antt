use Rattle.law_emitted.proofs.Nesting.{keeps_nesting}
use Rattle.law_emitted.proofs.emitted.nesting_law.Goals as goal

pub returns : goal.returns
returns c = keeps_nesting
