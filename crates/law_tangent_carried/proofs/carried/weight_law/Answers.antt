use Rattle.law_tangent_carried.proofs.Weighing.{weighs_is_light, has_weight, accepted_by_weight}
use Rattle.law_tangent_carried.proofs.carried.weight_law.Goals as goal

pub returns-clause-light : goal.returns-clause-light
returns-clause-light c = weighs_is_light

pub returns-clause-weighed : goal.returns-clause-weighed
returns-clause-weighed c = has_weight

pub returns-clause-read : goal.returns-clause-read
returns-clause-read c = accepted_by_weight
