-- The helpers passed are declared.
use Rattle.std.proofs.Common.{◌≡◌, ◌++◌, map, drop}
use Rattle.adj_tree.specs.View.{declaration_of}
use Rattle.def_sweep.specs.Declared.{declared_helpers}
use Rattle.adj_naming.specs.Roles.{variable_of}
use Rattle.adj_naming.specs.Table.{table_of}
use Rattle.adj_weave_units.proofs.declarations.declare_helpers.Given as goal

abbrev pub invariant-loop-helper : goal.invariant-loop-helper
invariant-loop-helper l = map declaration_of l.made.items ++ declared_helpers (table_of l.n) l.line (map variable_of (drop l.helper-index l.helpers)) ≡ map declaration_of l.fn.made.items ++ declared_helpers (table_of l.n) l.line (map variable_of l.helpers)
