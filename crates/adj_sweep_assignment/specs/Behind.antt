-- Statements that are written behind others.
use Rattle.std.specs.Prelude.{◌≡◌, List}
use Rattle.adj_tree.specs.Code.{Code}
use Rattle.adj_tree.specs.declared.stmt.Stmt.{Stmt}
use Rattle.adj_tree.specs.Listed.{steps_onto}
use Rattle.def_meaning.specs.Append.{◌+++◌}

-- these statements stand behind the others
abbrev pub AreBehind : Code → List Stmt → List Stmt → Type 0
AreBehind c steps longer = (rest : Code) → steps_onto longer rest ≡ steps_onto steps (c +++ rest)
