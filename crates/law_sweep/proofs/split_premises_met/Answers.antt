use Rattle.law_sweep.proofs.SplitFitting.{pair_fits, pair_adjoint}
use Rattle.law_sweep.proofs.split_premises_met.Goals as goal

pub returns-clause-fits : goal.returns-clause-fits
returns-clause-fits c = pair_fits

pub returns-clause-adjoint : goal.returns-clause-adjoint
returns-clause-adjoint c = pair_adjoint
