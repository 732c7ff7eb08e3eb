use Rattle.law_sweep.proofs.Fitting.{source_fits, twice_adjoint}
use Rattle.law_sweep.proofs.premises_met.Goals as goal

pub returns-clause-fits : goal.returns-clause-fits
returns-clause-fits c = source_fits

pub returns-clause-adjoint : goal.returns-clause-adjoint
returns-clause-adjoint c = twice_adjoint
