-- Views: what clauses see of lists of borrowed statements and names.
use Rattle.std.specs.Prelude.{List, map}
use Rattle.std.specs.Borrow.{Bor}
use Rattle.adj_tree.specs.Code as code
use Rattle.adj_tree.specs.Code.{Var, plain}
use Rattle.adj_tree.specs.Listed.{statement_of}
use Rattle.adj_tree.specs.declared.stmt.Stmt.{Stmt}
use Rattle.def_names.specs.Statements.{At}
use Rattle.def_names.specs.Variables.{Name}

-- the statements that are borrowed
abbrev pub seen : List (Bor Stmt) → List (At code.Act)
seen bs = map (λ b. statement_of b.now) bs

-- the names that are borrowed
abbrev pub names_seen : List (Bor Name) → List Name
names_seen bs = map (λ b. b.now) bs

-- the variables whose names are borrowed
abbrev pub vars_seen : List (Bor Name) → List Var
vars_seen bs = map (λ b. plain b.now) bs
