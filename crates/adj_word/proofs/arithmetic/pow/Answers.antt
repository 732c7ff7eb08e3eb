-- The bits of the power are those of its residue.
use Rattle.adj_word.proofs.Powers.{power_held}
use Rattle.adj_word.proofs.arithmetic.pow.Goals as goal

pub returns : goal.returns
returns c = power_held c.args.base _ c.args.e c.ranges.base c.wrapping_pow.ensures
