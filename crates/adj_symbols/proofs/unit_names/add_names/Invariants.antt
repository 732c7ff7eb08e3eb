-- The units passed, and those that are left.
use Rattle.std.proofs.Common.{◌≡◌, ◌++◌, map, drop}
use Rattle.std.specs.Prelude.{flat_map}
use Rattle.adj_tree.specs.View.{procedure_of}
use Rattle.def_names.specs.Variables.{variables}
use Rattle.def_names.specs.NameFaults.{faults_of_names}
use Rattle.def_names.specs.Fault.{first_of, sooner}
use Rattle.adj_symbols.specs.Rules.{rules_of}
use Rattle.adj_symbols.proofs.unit_names.add_names.Given as goal

abbrev pub invariant-loop-outline : goal.invariant-loop-outline
invariant-loop-outline l = record {
  faults : sooner l.first (first_of (flat_map (faults_of_names (rules_of l.rules) (map procedure_of l.scope)) (map procedure_of (drop l.outline-index l.outline-items)))) ≡ sooner l.initial.first (first_of (flat_map (faults_of_names (rules_of l.rules) (map procedure_of l.scope)) (map procedure_of l.outline-items)));
  found : l.variables.items ++ map variables (map procedure_of (drop l.outline-index l.outline-items)) ≡ map variables (map procedure_of l.outline-items);
}
