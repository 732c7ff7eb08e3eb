-- The runs, and what they tell, are computed.
use Rattle.std.proofs.Common.{refl}
use Rattle.std.specs.Int.{int_wrap}
use Rattle.law_examples.specs.Runs.{ControlPopped, Difference, Shapes, Logs, Fitting, UnlinedEnds, UnlinedEvents}

pub control_popped : ControlPopped
unfolding int_wrap
control_popped = refl

pub difference : Difference
unfolding int_wrap
difference = (refl, refl)

pub shapes : Shapes
unfolding int_wrap
shapes = (refl, refl, refl, refl, refl, refl, refl, refl, refl, refl, refl, refl, refl)

pub logs : Logs
unfolding int_wrap
logs = (refl, refl, refl, refl, refl)

pub fitting : Fitting
unfolding int_wrap
fitting = (refl, refl, refl, refl, refl, refl, refl, refl, refl, refl, refl)

pub unlined_ends : UnlinedEnds
unfolding int_wrap
unlined_ends = (refl, refl, refl, refl)

pub unlined_events : UnlinedEvents
unfolding int_wrap
unlined_events = (refl, refl, refl, refl)
