-- Each clause is a law of the kit.
use Rattle.adj_word.proofs.Pairings.{pairing_comm, pairing-dot, pairing-more}
use Rattle.adj_word.proofs.laws.pairing_laws.Goals as goal

pub returns : goal.returns
returns g c = record { turned = pairing_comm; listed = pairing-dot; changed = pairing-more }
