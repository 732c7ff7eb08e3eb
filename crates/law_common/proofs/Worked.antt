-- The worked programs are lowered and run as they were worked out by hand.
use Rattle.std.proofs.Common.{refl}
use Rattle.std.specs.Int.{int_wrap}
use Rattle.law_common.specs.Examples.{WorkedLowering, WorkedRun, WorkedLoweredRun, WorkedPassing, WorkedClash, WorkedNaming}

pub lowering : WorkedLowering
lowering = refl

pub run : WorkedRun
unfolding int_wrap
run = refl

pub lowered_run : WorkedLoweredRun
unfolding int_wrap
lowered_run = refl

pub passing : WorkedPassing
unfolding int_wrap
passing = (refl, (refl, refl))

pub clash : WorkedClash
unfolding int_wrap
clash = (refl, (refl, refl))

pub naming : WorkedNaming
naming = (refl, refl)
