-- What was made is the first part of the list, turned round.
use Rattle.std.proofs.Common.{◌≡◌, ◌≤◌}
use Rattle.adj_tree.specs.declared.expr.Exprs.{size-Exprs}
use Rattle.adj_tree.specs.View.{terms_of}
use Rattle.adj_tree.specs.Listed.{terms_turned}
use Rattle.adj_tree.proofs.expr.+copying.Given as goal

abbrev pub invariant-Exprs::copy-loop-current : goal.invariant-Exprs::copy-loop-current
invariant-Exprs::copy-loop-current l = record {
  no_deeper : size-Exprs l.current ≤ size-Exprs l.initial.current;
  same : terms_turned (terms_of l.made) (terms_of l.current) ≡ terms_of l.self;
}
