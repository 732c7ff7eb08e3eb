-- The depths and flaws are computed.
use Rattle.std.proofs.Common.{refl}
use Rattle.def_text.specs.Grammar.{to_power}
use Rattle.law_examples.specs.Depths.{Depths, Counts, TestDepths, Flaws, DeepStatements}

pub depths : Depths
unfolding to_power
depths = (refl, refl, refl, refl, refl, refl, refl, refl, refl, refl, refl, refl, refl, refl, refl, refl, refl)

pub counts : Counts
counts = (refl, refl, refl, refl, refl)

pub test_depths : TestDepths
unfolding to_power
test_depths = (refl, refl, refl, refl, refl, refl, refl, refl, refl, refl)

pub flaws : Flaws
unfolding to_power
flaws = (refl, refl, refl, refl, refl, refl, refl, refl, refl, refl, refl, refl)

pub deep_statements : DeepStatements
unfolding to_power
deep_statements = (refl, refl, refl, refl, refl, refl, refl, refl, refl, refl, refl, refl, refl, refl, refl, refl, refl, refl, refl, refl, refl, refl, refl, refl, refl, refl, refl, refl, refl, refl, refl, refl, refl, refl, refl, refl, refl)
