-- The names in what is left are still to be added.
use Rattle.std.proofs.Common.{◌≡◌, ◌≤◌}
use Rattle.adj_tree.specs.View.{terms_of}
use Rattle.adj_tree.specs.declared.expr.Exprs.{size-Exprs}
use Rattle.def_kernel.specs.Kernel.{names_in_all}
use Rattle.adj_sets.specs.Sets.{all_added}
use Rattle.adj_norm.proofs.names.+terms.Given as goal

abbrev pub invariant-add_terms-loop-current : goal.invariant-add_terms-loop-current
invariant-add_terms-loop-current l = record {
  no_deeper : size-Exprs l.current ≤ size-Exprs l.initial.current;
  left : all_added l.names (names_in_all (terms_of l.current)) ≡ all_added l.fn.names (names_in_all (terms_of l.es));
}
