use Rattle.law_tangent_carried.proofs.Worked.{caller_is_tangent, loop_is_tangent}
use Rattle.law_tangent_carried.proofs.Computing.{carrying_found}
use Rattle.law_tangent_carried.proofs.carried.premises_met.Goals as goal

pub returns-clause-computed : goal.returns-clause-computed
returns-clause-computed c = carrying_found

pub returns-clause-caller : goal.returns-clause-caller
returns-clause-caller c = caller_is_tangent

pub returns-clause-of_loop : goal.returns-clause-of_loop
returns-clause-of_loop c = loop_is_tangent
