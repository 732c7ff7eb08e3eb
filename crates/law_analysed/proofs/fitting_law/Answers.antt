use Rattle.law_analysed.proofs.Adjoint.{analysed_fits, analysed_fits_reversed}
use Rattle.law_analysed.proofs.fitting_law.Goals as goal

pub returns-clause-unmarked : goal.returns-clause-unmarked
returns-clause-unmarked c = analysed_fits

pub returns-clause-reversed : goal.returns-clause-reversed
returns-clause-reversed c = analysed_fits_reversed
