use Rattle.law_emitted.proofs.SoundPrograms.{marked_sound, emitted_sound}
use Rattle.law_emitted.proofs.emitted.sound_law.Goals as goal

pub returns-clause-marked : goal.returns-clause-marked
returns-clause-marked c = marked_sound

pub returns-clause-full : goal.returns-clause-full
returns-clause-full c = emitted_sound
