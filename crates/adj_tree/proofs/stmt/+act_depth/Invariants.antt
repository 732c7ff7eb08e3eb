-- The depth of a list is the greater of that of what was passed and that of what is left.
use Rattle.std.proofs.Common.{◌≡◌, ◌≤◌, max}
use Rattle.adj_tree.specs.declared.stmt.Stmts.{size-Stmts}
use Rattle.adj_tree.specs.View.{code_of}
use Rattle.adj_tree.specs.Size.{capped_u32, code_depth}
use Rattle.adj_tree.proofs.stmt.+act_depth.Given as goal

abbrev pub invariant-Stmts::depth-loop-current : goal.invariant-Stmts::depth-loop-current
invariant-Stmts::depth-loop-current l = record {
  no_deeper : size-Stmts l.current ≤ size-Stmts l.initial.current;
  passed : capped_u32 (max l.greatest (code_depth (code_of l.current))) ≡ capped_u32 (code_depth (code_of l.self));
  stands_still : capped_u32 l.greatest ≡ l.greatest;
}
