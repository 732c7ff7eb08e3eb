-- The depth of a list is the greater of that of what was passed and that of what is left.
use Rattle.std.proofs.Common.{◌≡◌, ◌≤◌, max}
use Rattle.adj_tree.specs.declared.expr.Exprs.{size-Exprs}
use Rattle.adj_tree.specs.View.{terms_of}
use Rattle.adj_tree.specs.Size.{capped_u32, terms_depth}
use Rattle.adj_tree.proofs.expr.+term_depth.Given as goal

abbrev pub invariant-Exprs::depth-loop-current : goal.invariant-Exprs::depth-loop-current
invariant-Exprs::depth-loop-current l = record {
  no_deeper : size-Exprs l.current ≤ size-Exprs l.initial.current;
  passed : capped_u32 (max l.greatest (terms_depth (terms_of l.current))) ≡ capped_u32 (terms_depth (terms_of l.self));
  stands_still : capped_u32 l.greatest ≡ l.greatest;
}
