-- The faults of what was passed, and of what is left.
use Rattle.std.proofs.Common.{◌≡◌, drop}
use Rattle.std.specs.Prelude.{flat_map, not, ◌&&◌}
use Rattle.def_names.specs.Fault.{fault, faults_if, first_of, sooner}
use Rattle.def_names.specs.NameFaults.{calls_runtime}
use Rattle.adj_symbols_writes.specs.View.{seen}
use Rattle.adj_symbols.proofs.name_faults.add_runtime_calls.Given as goal

abbrev pub invariant-loop-stmt : goal.invariant-loop-stmt
invariant-loop-stmt l = sooner l.first (first_of (flat_map (λ s. faults_if (not l.takes_runtime && calls_runtime s.1) (fault 18 s.0)) (seen (drop l.stmt-index l.stmts)))) ≡ sooner l.initial.first (first_of (flat_map (λ s. faults_if (not l.takes_runtime && calls_runtime s.1) (fault 18 s.0)) (seen l.stmts)))
