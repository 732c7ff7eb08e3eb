-- The statements of a list are those counted so far and those of what is left of it.
use Rattle.std.proofs.Common.{◌≡◌, ◌+◌, ◌≤◌, length}
use Rattle.adj_tree.specs.declared.stmt.Stmts.{size-Stmts}
use Rattle.adj_tree.specs.Size.{capped_u64}
use Rattle.adj_tree.specs.View.{code_of}
use Rattle.def_names.specs.Statements.{statements}
use Rattle.adj_symbols.proofs.counting.+count.Given as goal

abbrev pub invariant-count-loop-rest : goal.invariant-count-loop-rest
invariant-count-loop-rest l = record {
  no_deeper : size-Stmts l.rest ≤ size-Stmts l.initial.rest;
  counted : capped_u64 (l.total + length (statements (code_of l.rest))) ≡ capped_u64 (length (statements (code_of l.list)));
  stands_still : capped_u64 l.total ≡ l.total;
}
