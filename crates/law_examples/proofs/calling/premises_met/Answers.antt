use Rattle.law_examples.proofs.AnalysedWorked.{calling_is_adjoint}
use Rattle.law_examples.proofs.calling.premises_met.Goals as goal

pub returns : goal.returns
returns c = calling_is_adjoint
