-- The name is an actual exactly where it is one of those that are left.
use Rattle.std.proofs.Common.{◌≡◌}
use Rattle.adj_tree.specs.Code.{plain}
use Rattle.adj_tree.specs.View.{terms_of}
use Rattle.def_kernel.specs.Calls.{stands_whole}
use Rattle.adj_norm_statement.proofs.form.is_actual.Given as goal

abbrev pub invariant-loop-current : goal.invariant-loop-current
invariant-loop-current l = record { left : stands_whole (plain l.name) (terms_of l.current) ≡ stands_whole (plain l.name) (terms_of l.actuals) }
