-- The law is a lemma, over words and over words with tangents.
use Rattle.std.specs.Prelude.{ℤ}
use Rattle.law_rooms.proofs.Rooms.{room_is_enough}
use Rattle.law_rooms.proofs.room_laws.Goals as goal

pub returns : goal.returns
returns c = record { enough = (room_is_enough {C = ℤ}, room_is_enough {C = ℤ × ℤ}) }
