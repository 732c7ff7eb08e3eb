-- The dummies passed and their shadows are made.
use Rattle.std.proofs.Common.{◌≡◌, ◌++◌, drop}
use Rattle.def_sweep.specs.MarkedProgram.{shadows_behind}
use Rattle.adj_naming.specs.Table.{table_of}
use Rattle.adj_sweep_assignment.specs.View.{marks_of}
use Rattle.adj_weave_units.proofs.shadows.with_shadows.Given as goal

abbrev pub invariant-loop-x : goal.invariant-loop-x
invariant-loop-x l = l.made.items ++ shadows_behind (marks_of l.marking).shadowed (table_of l.n) (drop l.x-index l.dummies) ≡ shadows_behind (marks_of l.marking).shadowed (table_of l.n) l.dummies
