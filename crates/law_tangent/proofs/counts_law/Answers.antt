use Rattle.law_tangent.proofs.Counting.{twice_the_weight}
use Rattle.law_tangent.proofs.Premises.{product_is_light}
use Rattle.law_tangent.proofs.counts_law.Goals as goal

pub returns-clause-weight : goal.returns-clause-weight
returns-clause-weight c = twice_the_weight

pub returns-clause-of_product : goal.returns-clause-of_product
returns-clause-of_product c = product_is_light
