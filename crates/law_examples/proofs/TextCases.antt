-- What expressions, conditions and simple statements are is computed.
use Rattle.std.proofs.Common.{refl}
use Rattle.law_examples.specs.Texts.{Orders, Exponents, Applications, Conditions, Calls, OtherActuals, LoopForms}
use Rattle.law_examples.proofs.Computing.{reading}

pub orders : Orders
unfolding reading
orders = (refl, refl, refl, refl, refl, refl, refl, refl, refl, refl, refl, refl, refl, refl, refl)

pub exponents : Exponents
unfolding reading
exponents = (refl, refl, refl, refl, refl, refl, refl, refl, refl, refl, refl, refl, refl, refl, refl, refl, refl, refl)

pub applications : Applications
unfolding reading
applications = (refl, refl, refl, refl, refl, refl, refl, refl, refl, refl, refl, refl, refl)

pub conditions : Conditions
unfolding reading
conditions = (refl, refl, refl, refl, refl, refl, refl, refl, refl, refl, refl, refl, refl, refl, refl, refl)

pub calls : Calls
unfolding reading
calls = (refl, refl, refl, refl, refl, refl, refl, refl, refl, refl, refl, refl, refl, refl, refl, refl, refl, refl, refl, refl)

pub other_actuals : OtherActuals
unfolding reading
other_actuals = (refl, refl, refl, refl, refl, refl, refl, refl, refl)

pub loop_forms : LoopForms
unfolding reading
loop_forms = (refl, refl, refl, refl)
