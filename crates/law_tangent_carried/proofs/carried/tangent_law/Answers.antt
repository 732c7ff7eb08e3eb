use Rattle.law_tangent_carried.proofs.Fits.{carrying_is_tangent}
use Rattle.law_tangent_carried.proofs.carried.tangent_law.Goals as goal

pub returns : goal.returns
returns c = carrying_is_tangent
