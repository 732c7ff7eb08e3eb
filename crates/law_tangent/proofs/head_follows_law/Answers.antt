use Rattle.law_tangent.proofs.Head.{head_follows}
use Rattle.law_tangent.proofs.head_follows_law.Goals as goal

pub returns : goal.returns
returns c = head_follows
