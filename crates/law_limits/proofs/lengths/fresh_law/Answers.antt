use Rattle.law_limits.proofs.FreshLengths.{fresh_short}
use Rattle.law_limits.proofs.lengths.fresh_law.Goals as goal

pub returns : goal.returns
returns c = fresh_short
