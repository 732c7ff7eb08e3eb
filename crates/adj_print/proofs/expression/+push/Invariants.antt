-- What was added and what is left are the expressions behind commas.
use Rattle.std.proofs.Common.{◌≡◌, ◌≤◌, ◌++◌}
use Rattle.adj_tree.specs.declared.expr.Exprs.{size-Exprs}
use Rattle.adj_tree.specs.View.{terms_of}
use Rattle.def_text.specs.Text.{behind_commas, term_texts}
use Rattle.adj_print.proofs.expression.+push.Given as goal

abbrev pub invariant-push_others-loop-current : goal.invariant-push_others-loop-current
invariant-push_others-loop-current l = record {
  no_deeper : size-Exprs l.current ≤ size-Exprs l.initial.current;
  so_far : l.out.items ++ behind_commas (term_texts (terms_of l.current)) ≡ l.initial.out.items ++ behind_commas (term_texts (terms_of l.list));
}
