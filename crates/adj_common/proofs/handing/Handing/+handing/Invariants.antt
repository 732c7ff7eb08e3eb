-- What was made is the first part of the list, turned round.
use Rattle.std.proofs.Common.{◌≡◌, ◌≤◌}
use Rattle.adj_tree.specs.declared.stmt.Stmts.{size-Stmts}
use Rattle.adj_tree.specs.View.{code_of}
use Rattle.adj_tree.specs.Listed.{code_turned}
use Rattle.adj_common.specs.Handing.{passed_names, handed_code}
use Rattle.adj_common.specs.Views.{tables_of}
use Rattle.adj_common.proofs.handing.Handing.+handing.Given as goal

abbrev pub invariant-handed-loop-current : goal.invariant-handed-loop-current
invariant-handed-loop-current l = record {
  no_deeper : size-Stmts l.current ≤ size-Stmts l.initial.current;
  same : code_turned (code_of l.made) (handed_code (passed_names (tables_of l.self)) (code_of l.current)) ≡ handed_code (passed_names (tables_of l.self)) (code_of l.code);
}
