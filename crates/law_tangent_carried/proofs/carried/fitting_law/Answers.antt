use Rattle.law_tangent_carried.proofs.Fits.{carrying_fits}
use Rattle.law_tangent_carried.proofs.carried.fitting_law.Goals as goal

pub returns : goal.returns
returns c = carrying_fits
