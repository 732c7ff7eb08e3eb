-- The bits of the remainder are those of its residue.
use Rattle.std.proofs.Common.{ap}
use Rattle.std.specs.Int.{w64, cast_unsigned}
use Rattle.adj_word.proofs.Quotients.{remainder_held}
use Rattle.adj_word.proofs.arithmetic.rem.Goals as goal

pub returns-else-b-eq0 : goal.returns-else-b-eq0
returns-else-b-eq0 c = (λ e. c.if-b-eq0.false (ap (cast_unsigned w64) e), remainder_held c.args.a c.args.b _ c.ranges.a c.ranges.b c.wrapping_rem.ensures)
