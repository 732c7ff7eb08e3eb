-- The law is a lemma.
use Rattle.law_rooms.proofs.Advances.{adjoints_advance}
use Rattle.law_rooms.proofs.advance_law.Goals as goal

pub returns : goal.returns
returns c = adjoints_advance
