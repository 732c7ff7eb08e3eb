-- The law is a lemma.
use Rattle.law_rooms.proofs.Adjoints.{adjoints_balance}
use Rattle.law_rooms.proofs.balance_law.Goals as goal

pub returns : goal.returns
returns c = record { balance = adjoints_balance }
