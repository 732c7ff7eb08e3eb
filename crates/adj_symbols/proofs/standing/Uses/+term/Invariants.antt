-- What was added and what is left are the names in the expressions.
use Rattle.std.proofs.Common.{◌≡◌, ◌≤◌, ◌++◌}
use Rattle.adj_tree.specs.declared.expr.Exprs.{size-Exprs}
use Rattle.adj_tree.specs.View.{terms_of}
use Rattle.def_names.specs.Standing.{in_terms}
use Rattle.adj_symbols.specs.View.{at_line}
use Rattle.adj_symbols.proofs.standing.Uses.+term.Given as goal

abbrev pub invariant-add_terms-loop-rest : goal.invariant-add_terms-loop-rest
invariant-add_terms-loop-rest l = record {
  no_deeper : size-Exprs l.rest ≤ size-Exprs l.initial.rest;
  so_far : l.self ++ at_line l.line (in_terms (terms_of l.rest)) ≡ l.initial.self ++ at_line l.line (in_terms (terms_of l.terms));
}
