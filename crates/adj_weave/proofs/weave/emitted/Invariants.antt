-- What is emitted for the units passed is made.
use Rattle.std.proofs.Common.{◌≡◌, ◌++◌, map, drop}
use Rattle.adj_tree.specs.View.{procedure_of}
use Rattle.def_sweep.specs.Program.{emitted_units_with}
use Rattle.adj_weave.specs.Shared.{sources, marks_for, reversed_for}
use Rattle.adj_weave.specs.Woven.{head_of}
use Rattle.adj_weave.proofs.weave.emitted.Given as goal

abbrev pub invariant-loop-k : goal.invariant-loop-k
invariant-loop-k l = map procedure_of l.made.items ++ emitted_units_with (reversed_for l.shared) (marks_for l.shared) (sources l.shared) (head_of l.aim) l.aim.vars.now l.aim.outvars.now (map procedure_of (drop l.k l.units)) ≡ emitted_units_with (reversed_for l.shared) (marks_for l.shared) (sources l.shared) (head_of l.aim) l.aim.vars.now l.aim.outvars.now (sources l.shared)
