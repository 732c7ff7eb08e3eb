use Rattle.std.proofs.Common.{refl}
use Rattle.law_examples.proofs.reversals.worked_rows.Goals as goal

pub returns : goal.returns
returns c = record { repeated = λ n m. refl; numbered = λ n. refl }
