-- Each run is computed.
use Rattle.law_jacobian.proofs.Examples.{neighbours_pattern, squares_pattern, chosen_columns, one_group_refused}
use Rattle.law_jacobian.proofs.laws.worked_patterns.Goals as goal

pub returns-clause-neighbours : goal.returns-clause-neighbours
returns-clause-neighbours c = neighbours_pattern

pub returns-clause-squares : goal.returns-clause-squares
returns-clause-squares c = squares_pattern

pub returns-clause-chosen : goal.returns-clause-chosen
returns-clause-chosen c = chosen_columns

pub returns-clause-one_group : goal.returns-clause-one_group
returns-clause-one_group c = one_group_refused
