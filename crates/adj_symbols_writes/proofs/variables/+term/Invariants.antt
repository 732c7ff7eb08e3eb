-- What was added and what is left are the variables in the expressions.
use Rattle.std.proofs.Common.{◌≡◌, ◌≤◌, ◌++◌}
use Rattle.adj_tree.specs.declared.expr.Exprs.{size-Exprs}
use Rattle.adj_tree.specs.View.{terms_of}
use Rattle.def_names.specs.VariableLists.{vars_in_terms}
use Rattle.adj_symbols_writes.specs.View.{vars_seen}
use Rattle.adj_symbols_writes.proofs.variables.+term.Given as goal

abbrev pub invariant-add_terms-loop-rest : goal.invariant-add_terms-loop-rest
invariant-add_terms-loop-rest l = record {
  no_deeper : size-Exprs l.rest ≤ size-Exprs l.initial.rest;
  so_far : vars_seen l.out.items ++ vars_in_terms (terms_of l.rest) ≡ vars_seen l.initial.out.items ++ vars_in_terms (terms_of l.terms);
}
