-- Those of the variables passed that have a shadow are made.
use Rattle.std.proofs.Common.{◌≡◌, ◌++◌, drop}
use Rattle.def_sweep.specs.Marked.{names_in}
use Rattle.adj_sweep_assignment.specs.View.{marks_of}
use Rattle.adj_weave_units.proofs.shadows.shadowed.Given as goal

abbrev pub invariant-loop-x : goal.invariant-loop-x
invariant-loop-x l = l.made.items ++ names_in (marks_of l.marking).shadowed (drop l.x-index l.variables) ≡ names_in (marks_of l.marking).shadowed l.variables
