use Rattle.law_emitted.proofs.Lawful.{lawful_shadows}
use Rattle.law_emitted.proofs.emitted.shadows_law.Goals as goal

pub returns : goal.returns
returns c = lawful_shadows
