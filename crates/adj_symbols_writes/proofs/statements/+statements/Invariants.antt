-- What was added and what is left are the statements of the list.
use Rattle.std.proofs.Common.{◌≡◌, ◌≤◌, ◌++◌}
use Rattle.adj_tree.specs.declared.stmt.Stmts.{size-Stmts}
use Rattle.adj_tree.specs.View.{code_of}
use Rattle.def_names.specs.Statements.{statements}
use Rattle.adj_symbols_writes.specs.View.{seen}
use Rattle.adj_symbols_writes.proofs.statements.+statements.Given as goal

abbrev pub invariant-add_statements-loop-rest : goal.invariant-add_statements-loop-rest
invariant-add_statements-loop-rest l = record {
  no_deeper : size-Stmts l.rest ≤ size-Stmts l.initial.rest;
  so_far : seen l.out.items ++ statements (code_of l.rest) ≡ seen l.initial.out.items ++ statements (code_of l.list);
}
