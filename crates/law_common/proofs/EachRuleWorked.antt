-- The program is lowered, and layouts are refused, as it was worked out by hand.
use Rattle.std.proofs.Common.{refl}
use Rattle.law_common.specs.EachRule.{WorkedRules, WorkedLayouts}

pub rules : WorkedRules
rules = (refl, refl)

pub layouts : WorkedLayouts
layouts = (refl, (refl, refl))
