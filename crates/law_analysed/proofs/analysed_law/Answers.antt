use Rattle.law_analysed.proofs.Adjoint.{analysed_is_adjoint, analysed_reverses}
use Rattle.law_analysed.proofs.analysed_law.Goals as goal

pub returns-clause-unmarked : goal.returns-clause-unmarked
returns-clause-unmarked c = analysed_is_adjoint

pub returns-clause-reversed : goal.returns-clause-reversed
returns-clause-reversed c = analysed_reverses
