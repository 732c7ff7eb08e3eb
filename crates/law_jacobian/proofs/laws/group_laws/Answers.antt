-- By the columns before a column.
use Rattle.law_jacobian.proofs.Runs.{group_tells}
use Rattle.law_jacobian.proofs.Grouping.{shares_none, one_grouping, groups_counted}
use Rattle.law_jacobian.proofs.laws.group_laws.Goals as goal

pub returns-clause-apart : goal.returns-clause-apart
returns-clause-apart c = shares_none

pub returns-clause-one : goal.returns-clause-one
returns-clause-one c = one_grouping

pub returns-clause-tells : goal.returns-clause-tells
returns-clause-tells c = group_tells

pub returns-clause-counted : goal.returns-clause-counted
returns-clause-counted c = groups_counted
