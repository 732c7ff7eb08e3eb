-- The name stands in the list exactly where it stands in what is left of it.
use Rattle.std.proofs.Common.{◌≡◌, ◌≤◌}
use Rattle.adj_tree.specs.Code.{plain}
use Rattle.adj_tree.specs.View.{terms_of}
use Rattle.adj_tree.specs.declared.expr.Exprs.{size-Exprs}
use Rattle.def_meaning.specs.Read.{reads_terms}
use Rattle.adj_norm_statement.proofs.form.+reads.Given as goal

abbrev pub invariant-stands_in_any-loop-current : goal.invariant-stands_in_any-loop-current
invariant-stands_in_any-loop-current l = record {
  no_deeper : size-Exprs l.current ≤ size-Exprs l.initial.current;
  left : reads_terms (plain l.name) (terms_of l.current) ≡ reads_terms (plain l.name) (terms_of l.es);
}
