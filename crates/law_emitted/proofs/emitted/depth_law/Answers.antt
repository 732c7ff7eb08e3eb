use Rattle.law_emitted.proofs.Depths.{keeps_depth}
use Rattle.law_emitted.proofs.emitted.depth_law.Goals as goal

pub returns : goal.returns
returns c = keeps_depth
