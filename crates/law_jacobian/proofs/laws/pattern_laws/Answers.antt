-- By the runs that carry two tangents and the columns.
use Rattle.std.specs.Prelude.{ℕ, ℤ}
use Rattle.law_jacobian.proofs.Runs.{columns_forgotten, ends_as_dual, direction_paired, tangents_by_columns, outside_is_zero, parts_tell}
use Rattle.law_jacobian.proofs.laws.pattern_laws.Goals as goal

pub returns-clause-forgotten : goal.returns-clause-forgotten
returns-clause-forgotten c = columns_forgotten

pub returns-clause-ends : goal.returns-clause-ends
returns-clause-ends c = ends_as_dual

pub returns-clause-by_columns : goal.returns-clause-by_columns
returns-clause-by_columns c = tangents_by_columns

pub returns-clause-outside : goal.returns-clause-outside
returns-clause-outside c = outside_is_zero

pub returns-clause-paired : goal.returns-clause-paired
returns-clause-paired c = direction_paired

pub returns-clause-parts : goal.returns-clause-parts
returns-clause-parts c = parts_tell {C = ℤ × ℕ}
