-- A unit that is made of another.
use Rattle.std.specs.Prelude.{ℕ, List, ◌++◌, false}
use Rattle.adj_tree.specs.Code.{Var, Code, Procedure}
use Rattle.def_names.specs.Numbers.{Vars}
use Rattle.def_sweep.specs.Naming.{Named}
use Rattle.def_sweep.specs.Declared.{declared_helpers}
use Rattle.def_sweep.specs.MarkedProgram.{shadows_behind, declared_behind}

-- under these names, where the variables in a set have shadows: it declares some variables and helpers, and has this code
abbrev pub unit_under : List Named → List ℕ → Vars → Procedure → List (List ℕ) → List Var → Code → Procedure
unit_under ns name a u vs helpers code = record {
  line = u.line;
  name = name;
  dummies = shadows_behind a ns u.dummies;
  is_none = false;
  declarations = declared_behind a ns u vs ++ declared_helpers ns u.line helpers;
  body = code;
}
