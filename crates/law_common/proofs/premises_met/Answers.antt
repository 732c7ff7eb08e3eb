use Rattle.law_common.proofs.Premises.{accepted, arrays}
use Rattle.law_common.proofs.premises_met.Goals as goal

pub returns-clause-accepted : goal.returns-clause-accepted
returns-clause-accepted c = accepted

pub returns-clause-arrays : goal.returns-clause-arrays
returns-clause-arrays c = arrays
