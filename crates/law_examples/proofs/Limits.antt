-- Texts at the limits are computed.
use Rattle.std.proofs.Common.{refl}
use Rattle.def_text.specs.Text.{laid}
use Rattle.law_examples.specs.Limits.{Bounds}
use Rattle.law_examples.proofs.Computing.{reading}

pub bounds : Bounds
unfolding reading laid
bounds = (refl, refl, refl, refl, refl, refl, refl, refl, refl, refl, refl, refl, refl, refl, refl, refl, refl, refl, refl)
