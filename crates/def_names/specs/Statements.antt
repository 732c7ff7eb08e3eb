-- The statements of a unit, at any depth.
use Rattle.std.specs.Prelude.{ℕ, List, [], ◌∷◌, ◌++◌}
use Rattle.adj_tree.specs.Code.{Act, assign, choose, loop, during, call, runtime, Code, stop, step}

-- something with the line of the statement where it stands
abbrev pub At : Type 0 → Type 0
At A = ℕ × A

abbrev mutual
  -- the statements in a statement
  pub inner : Act → List (At Act)
  inner (assign x subs e) = []
  inner (choose c a b) = statements a ++ statements b
  inner (loop x first last by body m) = statements body
  inner (during c body) = statements body
  inner (call name args) = []
  inner (runtime r) = []

  -- those of a list in text order, an outer one before those in it
  pub statements : Code → List (At Act)
  statements stop = []
  statements (step line a rest) = (line, a) ∷ (inner a ++ statements rest)
