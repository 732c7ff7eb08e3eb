-- Padded programs.
use Rattle.law_meaning.proofs.PaddedPrograms.{runs_padded, pads_pay, unpadded}
use Rattle.law_meaning.proofs.laws.price_laws.Goals as goal

pub returns-clause-padded : goal.returns-clause-padded
returns-clause-padded c = (runs_padded, runs_padded)

pub returns-clause-pays : goal.returns-clause-pays
returns-clause-pays c = (pads_pay, pads_pay)

pub returns-clause-nothing : goal.returns-clause-nothing
returns-clause-nothing c = unpadded
