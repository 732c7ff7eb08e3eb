-- What was added and what is left are the lines of the statements.
use Rattle.std.proofs.Common.{◌≡◌, ◌++◌}
use Rattle.adj_tree.specs.View.{code_of}
use Rattle.def_text.specs.Text.{code_text}
use Rattle.adj_print.proofs.statement.push_each.Given as goal

abbrev pub invariant-loop-current : goal.invariant-loop-current
invariant-loop-current l = l.out.items ++ code_text (code_of l.current) ≡ l.fn.out.items ++ code_text (code_of l.fn.list)
