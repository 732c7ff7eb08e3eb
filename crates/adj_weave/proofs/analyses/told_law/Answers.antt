use Rattle.std.proofs.Common.{refl}
use Rattle.adj_weave.proofs.analyses.told_law.Goals as goal

pub returns : goal.returns
returns c = λ f t needed held. refl
