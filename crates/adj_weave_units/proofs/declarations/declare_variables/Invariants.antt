-- The variables passed and their shadows are declared.
use Rattle.std.proofs.Common.{◌≡◌, ◌++◌, map, drop}
use Rattle.adj_tree.specs.View.{declaration_of}
use Rattle.def_sweep.specs.Declared.{declaration}
use Rattle.adj_naming.specs.Table.{table_of}
use Rattle.adj_sweep_assignment.specs.View.{marks_of}
use Rattle.adj_weave_units.specs.Parts.{declared_among}
use Rattle.adj_weave_units.proofs.declarations.declare_variables.Given as goal

abbrev pub invariant-loop-x : goal.invariant-loop-x
invariant-loop-x l = map declaration_of l.made.items ++ declared_among (marks_of l.marking).shadowed (declaration l.line (map declaration_of l.declared.firsts.items)) (table_of l.n) (drop l.x-index l.names) ≡ map declaration_of l.fn.made.items ++ declared_among (marks_of l.marking).shadowed (declaration l.line (map declaration_of l.declared.firsts.items)) (table_of l.n) l.names
