-- The faults of the statements passed, and of those that are left.
use Rattle.std.proofs.Common.{◌≡◌, ◌≤◌, ◌+◌, ◌*◌, map}
use Rattle.adj_tree.specs.Size.{act_nodes, code_nodes}
use Rattle.adj_tree.specs.View.{act_of, code_of, procedure_of}
use Rattle.def_meaning.specs.LeastSet.{row_of}
use Rattle.def_names.specs.Fault.{first_of, sooner}
use Rattle.adj_symbols.specs.Opening.{open_faults}
use Rattle.adj_symbols.specs.Writes.{writes_one}
use Rattle.adj_symbols.proofs.loop_writes.+open.Given as goal

abbrev pub decreases-add_list : goal.decreases-add_list
decreases-add_list l = 2 * code_nodes (code_of l.list.now) + 1

abbrev pub decreases-add_inner : goal.decreases-add_inner
decreases-add_inner l = 2 * act_nodes (act_of l.act.now)

abbrev pub invariant-add_list-loop-rest : goal.invariant-add_list-loop-rest
invariant-add_list-loop-rest l = record {
  no_more : code_nodes (code_of l.rest) ≤ code_nodes (code_of l.list);
  kept : l.opened ≡ l.initial.opened;
  faults : sooner l.first (first_of (open_faults (row_of (map procedure_of l.scope) l.written) (writes_one (row_of (map procedure_of l.scope) l.written) l.initial.opened) (code_of l.rest))) ≡ sooner l.initial.first (first_of (open_faults (row_of (map procedure_of l.scope) l.written) (writes_one (row_of (map procedure_of l.scope) l.written) l.initial.opened) (code_of l.list)));
}
