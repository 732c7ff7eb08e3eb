use Rattle.law_tangent_carried.proofs.SoundTexts.{tangent_is_sound}
use Rattle.law_tangent_carried.proofs.text.sound_law.Goals as goal

pub returns : goal.returns
returns c = tangent_is_sound
