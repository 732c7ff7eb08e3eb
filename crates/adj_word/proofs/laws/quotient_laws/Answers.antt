-- Each clause is a law of the kit.
use Rattle.adj_word.proofs.Quotients.{quotient_is, remainder_is, quotient-remainder}
use Rattle.adj_word.proofs.laws.quotient_laws.Goals as goal

pub returns : goal.returns
returns c = record { quotient = quotient_is; remainder = remainder_is; whole = quotient-remainder }
