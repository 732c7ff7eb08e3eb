-- The bits of the quotient are those of its residue.
use Rattle.std.proofs.Common.{ap}
use Rattle.std.specs.Int.{w64, cast_unsigned}
use Rattle.adj_word.proofs.Quotients.{quotient_held}
use Rattle.adj_word.proofs.arithmetic.quot.Goals as goal

pub returns-else-b-eq0 : goal.returns-else-b-eq0
returns-else-b-eq0 c = (λ e. c.if-b-eq0.false (ap (cast_unsigned w64) e), quotient_held c.args.a c.args.b _ c.ranges.a c.ranges.b c.wrapping_div.ensures)
