-- Statements that are written, before others.
use Rattle.std.specs.Prelude.{◌≡◌, List}
use Rattle.adj_tree.specs.Code.{Code}
use Rattle.adj_tree.specs.Listed.{steps_onto}
use Rattle.adj_tree.specs.declared.stmt.Stmt.{Stmt}
use Rattle.def_meaning.specs.Append.{◌+++◌}

-- behind the first statements stand those of a list in the second
abbrev pub Writes : List Stmt → List Stmt → Code → Type 0
Writes before after c = (rest : Code) → steps_onto after rest ≡ steps_onto before (c +++ rest)

-- where the left statements are written behind the second, all are behind the first
abbrev pub Leaves : List Stmt → Code → List Stmt → Code → Type 0
Leaves before all after left = (rest : Code) → steps_onto after (left +++ rest) ≡ steps_onto before (all +++ rest)
