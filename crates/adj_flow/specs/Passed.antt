-- The actuals that are passed to some dummies.
use Rattle.std.specs.Prelude.{List, [], ◌∷◌, ◌++◌, Bool}
use Rattle.adj_tree.specs.Code.{Var, Terms, none, more}
use Rattle.def_flow.specs.Problem.{name_of}
use Rattle.def_flow.specs.Rules.{list_of}
use Rattle.def_names.specs.VariableLists.{list_if}

-- the actuals of flagged dummies that are variables
abbrev pub passed_in : List Bool → Terms → List Var
passed_in [] args = []
passed_in (w ∷ ws) none = []
passed_in (w ∷ ws) (more e es) = list_if w (list_of (name_of e)) ++ passed_in ws es
