-- What is looked up in a unit.
use Rattle.std.specs.Prelude.{◌≡◌, ℕ, List, [], ◌∷◌, length, Option, Some, None, if◌then◌else◌}
use Rattle.std.specs.Borrow.{Bor}
use Rattle.adj_tree.specs.Code.{name_eq, Declaration, Procedure}
use Rattle.adj_tree.specs.declared.stmt.Stmt.{Stmt}
use Rattle.def_names.specs.Statements.{statements}
use Rattle.def_names.specs.Variables.{Name}
use Rattle.adj_symbols_writes.specs.Table.{value_of}
use Rattle.adj_symbols_writes.specs.View.{seen}
use Rattle.adj_symbols.specs.Table.{once}

-- the number of extents that a name is first declared with
abbrev pub declared_rank : List Declaration → Name → Option ℕ
declared_rank [] x = None
declared_rank (d ∷ ds) x = if name_eq x d.name then Some (length d.extents) else declared_rank ds x

-- the tables of a unit
pub record AreTables (u : Procedure) (stmts : List (Bor Stmt)) (ranks : List (Name × ℕ)) (dummies : List Name) : Type 0 where
  pub statements_seen : seen stmts ≡ statements u.body
  pub ranks_known : (x : Name) → value_of x ranks ≡ declared_rank u.declarations x
  pub dummies_known : dummies ≡ once u.dummies
