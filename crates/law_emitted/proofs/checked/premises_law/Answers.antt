use Rattle.law_emitted.proofs.Premises.{checked_fits}
use Rattle.law_emitted.proofs.checked.premises_law.Goals as goal

pub returns : goal.returns
returns c = checked_fits
