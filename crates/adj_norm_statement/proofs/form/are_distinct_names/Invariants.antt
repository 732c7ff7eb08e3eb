-- The actuals are distinct names exactly where those that are left are.
use Rattle.std.proofs.Common.{◌≡◌}
use Rattle.adj_tree.specs.View.{terms_of}
use Rattle.adj_norm_statement.specs.Form.{are_distinct_names}
use Rattle.adj_norm_statement.proofs.form.are_distinct_names.Given as goal

abbrev pub invariant-loop-current : goal.invariant-loop-current
invariant-loop-current l = record { left : are_distinct_names (terms_of l.current) ≡ are_distinct_names (terms_of l.actuals) }
