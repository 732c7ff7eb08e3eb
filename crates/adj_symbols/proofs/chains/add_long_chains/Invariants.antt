-- The faults of the units passed, and of those that are left.
use Rattle.std.proofs.Common.{◌≡◌, map, drop}
use Rattle.std.specs.Prelude.{flat_map}
use Rattle.adj_tree.specs.View.{procedure_of}
use Rattle.def_names.specs.Statements.{statements}
use Rattle.def_names.specs.Fault.{first_of, sooner}
use Rattle.adj_symbols.specs.Chain.{length_of, faults_of_chain}
use Rattle.adj_symbols.proofs.chains.add_long_chains.Given as goal

abbrev pub invariant-loop-outline : goal.invariant-loop-outline
invariant-loop-outline l = sooner l.first (first_of (flat_map (λ u. flat_map (faults_of_chain l.rules.chain (length_of (map procedure_of l.scope) l.lengths)) (statements u.body)) (map procedure_of (drop l.outline-index l.outline-items)))) ≡ sooner l.initial.first (first_of (flat_map (λ u. flat_map (faults_of_chain l.rules.chain (length_of (map procedure_of l.scope) l.lengths)) (statements u.body)) (map procedure_of l.outline-items)))
