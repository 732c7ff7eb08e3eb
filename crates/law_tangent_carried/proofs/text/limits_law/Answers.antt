use Rattle.law_tangent_carried.proofs.SoundTexts.{tangent_is_sound}
use Rattle.law_tangent_carried.proofs.Runnable.{tangent_shallow, tangent_runnable}
use Rattle.law_tangent_carried.proofs.text.limits_law.Goals as goal

pub returns : goal.returns
returns c = record { shallow = tangent_shallow c.source_law.ensures; runnable = tangent_runnable c.kept_law.ensures c.source_law.ensures tangent_is_sound }
