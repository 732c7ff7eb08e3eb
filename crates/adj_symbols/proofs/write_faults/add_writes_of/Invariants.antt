-- The faults of the statements passed, and of those that are left.
use Rattle.std.proofs.Common.{◌≡◌, map, drop}
use Rattle.std.specs.List.{flat_map}
use Rattle.adj_tree.specs.View.{procedure_of}
use Rattle.def_meaning.specs.LeastSet.{row_of}
use Rattle.def_names.specs.Fault.{fault, faults_if, first_of, sooner}
use Rattle.adj_symbols_writes.specs.View.{seen}
use Rattle.adj_symbols.specs.Writes.{writes_one}
use Rattle.adj_symbols.proofs.write_faults.add_writes_of.Given as goal

abbrev pub invariant-loop-stmt : goal.invariant-loop-stmt
invariant-loop-stmt l = sooner l.first (first_of (flat_map (λ s. faults_if (writes_one (row_of (map procedure_of l.scope) l.written) l.extents s.1) (fault 13 s.0)) (seen (drop l.stmt-index l.stmts)))) ≡ sooner l.initial.first (first_of (flat_map (λ s. faults_if (writes_one (row_of (map procedure_of l.scope) l.written) l.extents s.1) (fault 13 s.0)) (seen l.stmts)))
