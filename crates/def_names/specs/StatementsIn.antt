-- How many statements a list has, with those in them.
use Rattle.std.specs.Prelude.{ℕ, List, [], ◌∷◌}
use Rattle.adj_tree.specs.Code.{Procedure}
use Rattle.def_names.specs.Numbers.{behind}

-- how many statements there are
abbrev pub statements_in : ℕ → List Procedure → ℕ
statements_in i [] = i
statements_in i (p ∷ ps) = statements_in (behind i p.body) ps
