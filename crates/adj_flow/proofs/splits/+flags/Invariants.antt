-- The flags of the statements passed, and those of the list that is left.
use Rattle.std.proofs.Common.{◌≡◌, ◌≤◌, ◌+◌, ◌*◌, ◌++◌}
use Rattle.adj_tree.specs.View.{act_of, code_of}
use Rattle.adj_reach.specs.Edges.{flag}
use Rattle.adj_flow.specs.SplitFlags.{flags_of}
use Rattle.adj_flow.specs.View.{acts_in, acts_of}
use Rattle.adj_flow.proofs.splits.+flags.Given as goal

abbrev pub decreases-add_list : goal.decreases-add_list
decreases-add_list l = 2 * acts_of (code_of l.body.now) + 1

abbrev pub decreases-add_statement : goal.decreases-add_statement
decreases-add_statement l = 2 * acts_in (act_of l.stmt.now.act)

abbrev pub invariant-add_list-loop-current : goal.invariant-add_list-loop-current
invariant-add_list-loop-current l = record {
  no_more : acts_of (code_of l.current) ≤ acts_of (code_of l.fn.body);
  added : l.flags.items ++ flags_of (flag l.lines) (code_of l.current) ≡ l.fn.flags.items ++ flags_of (flag l.fn.lines) (code_of l.fn.body);
}
