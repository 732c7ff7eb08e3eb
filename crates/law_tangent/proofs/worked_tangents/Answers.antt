use Rattle.std.proofs.Common.{refl}
use Rattle.law_tangent.proofs.worked_tangents.Goals as goal

pub returns-clause-of_product : goal.returns-clause-of_product
returns-clause-of_product c = refl

pub returns-clause-of_loop : goal.returns-clause-of_loop
returns-clause-of_loop c = refl

pub returns-clause-of_branches : goal.returns-clause-of_branches
returns-clause-of_branches c = refl

pub returns-clause-of_forms : goal.returns-clause-of_forms
returns-clause-of_forms c = refl

pub returns-clause-of_calls : goal.returns-clause-of_calls
returns-clause-of_calls c = refl
