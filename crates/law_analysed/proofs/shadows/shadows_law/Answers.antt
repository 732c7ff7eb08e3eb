use Rattle.law_analysed.proofs.Lending.{exact_shadows}
use Rattle.law_analysed.proofs.shadows.shadows_law.Goals as goal

pub returns : goal.returns
returns c = record { shadows = exact_shadows }
