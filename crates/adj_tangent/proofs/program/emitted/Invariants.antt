-- What is emitted for the units passed is made.
use Rattle.std.proofs.Common.{◌≡◌, ◌++◌, map, drop}
use Rattle.adj_tree.specs.View.{procedure_of}
use Rattle.def_tangent.specs.Program.{emitted_units}
use Rattle.adj_tangent.specs.Woven.{sources, carried_for, head_of}
use Rattle.adj_tangent.proofs.program.emitted.Given as goal

abbrev pub invariant-loop-k : goal.invariant-loop-k
invariant-loop-k l = map procedure_of l.made.items ++ emitted_units (carried_for l.shared) (sources l.shared) (head_of l.aim) l.aim.vars.now (map procedure_of (drop l.k l.units)) ≡ emitted_units (carried_for l.shared) (sources l.shared) (head_of l.aim) l.aim.vars.now (sources l.shared)
