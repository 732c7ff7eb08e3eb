use Rattle.std.proofs.Common.{◌<◌, length}
use Rattle.std.specs.Prelude.{All}
use Rattle.adj_jacobian_groups.specs.declared.sparsity.Row.{Row}
use Rattle.test_foundations.proofs.grouping.pattern.Given as goal

abbrev pub invariant-loop-numbers : goal.invariant-loop-numbers
invariant-loop-numbers l = All (λ (r : Row). All (λ c. c < length l.cols.items) r.columns) l.rows.items
