-- The chains and the faults of the statements passed, and of those that are left.
use Rattle.std.proofs.Common.{◌≡◌, ◌≤◌, ◌+◌, ◌*◌, map, min, max}
use Rattle.std.specs.Prelude.{flat_map}
use Rattle.adj_tree.specs.Size.{act_nodes, code_nodes}
use Rattle.adj_tree.specs.View.{act_of, code_of, procedure_of}
use Rattle.def_names.specs.Calls.{chain}
use Rattle.def_names.specs.Statements.{statements}
use Rattle.def_names.specs.Fault.{first_of, sooner}
use Rattle.adj_symbols.specs.Chain.{length_of, faults_of_chain}
use Rattle.adj_symbols.proofs.chains.+chain.Given as goal

abbrev pub decreases-add_list : goal.decreases-add_list
decreases-add_list l = 2 * code_nodes (code_of l.list.now) + 1

abbrev pub decreases-add_inner : goal.decreases-add_inner
decreases-add_inner l = 2 * act_nodes (act_of l.act.now)

abbrev pub invariant-add_list-loop-rest : goal.invariant-add_list-loop-rest
invariant-add_list-loop-rest l = record {
  no_more : code_nodes (code_of l.rest) ≤ code_nodes (code_of l.list);
  length : max l.most (min l.limit (chain (length_of (map procedure_of l.scope) l.lengths) (code_of l.rest))) ≡ min l.limit (chain (length_of (map procedure_of l.scope) l.lengths) (code_of l.list));
  faults : sooner l.first (first_of (flat_map (faults_of_chain l.limit (length_of (map procedure_of l.scope) l.lengths)) (statements (code_of l.rest)))) ≡ sooner l.initial.first (first_of (flat_map (faults_of_chain l.limit (length_of (map procedure_of l.scope) l.lengths)) (statements (code_of l.list))));
}
