-- A dummy and its actual, as clauses see them.
use Rattle.std.specs.Prelude.{ℕ, List}
use Rattle.std.specs.Borrow.{Bor}
use Rattle.adj_tree.specs.Code.{Var, plain}
use Rattle.adj_tree.specs.declared.name.Name.{Name}

-- a dummy and its actual
abbrev pub pair_of : Bor Name × Bor Name → List ℕ × Var
pair_of p = (p.0.now, plain p.1.now)
