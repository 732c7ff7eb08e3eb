-- The calls that were added and those of what is left are those of the list, and the number so far is that of the first statement that is left.
use Rattle.std.proofs.Common.{◌≡◌, ◌≤◌, ◌++◌}
use Rattle.adj_tree.specs.declared.stmt.Stmts.{size-Stmts}
use Rattle.adj_tree.specs.View.{code_of}
use Rattle.def_names.specs.Numbers.{behind}
use Rattle.adj_weave_units.specs.Calls.{listed_in}
use Rattle.adj_weave_units.proofs.calls.+calls.Given as goal

abbrev pub invariant-add_list-loop-current : goal.invariant-add_list-loop-current
invariant-add_list-loop-current l = record {
  no_deeper : size-Stmts l.current ≤ size-Stmts l.initial.current;
  numbered : behind l.number (code_of l.current) ≡ behind l.first (code_of l.list);
  so_far : l.calls.items ++ listed_in l.names l.from l.number (code_of l.current) ≡ l.initial.calls.items ++ listed_in l.names l.from l.first (code_of l.list);
}
