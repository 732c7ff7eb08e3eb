-- Sets of variables, and the numbers of statements.
use Rattle.std.specs.Prelude.{ℕ, suc, Bool, true}
use Rattle.adj_tree.specs.Code.{Var, Act, assign, choose, loop, during, call, runtime, Code, stop, step}

-- a set of variables
abbrev pub Vars : Type 0
Vars = Var → Bool

-- all variables
abbrev pub everything : Vars
everything x = true

-- Statements are numbered in the order of the text, an outer one before those in it.
abbrev mutual
  -- the number that comes after those of a statement with the number i
  pub next : ℕ → Act → ℕ
  next i (assign x subs e) = suc i
  next i (choose c a b) = behind (behind (suc i) a) b
  next i (loop x first last by body m) = behind (suc i) body
  next i (during c body) = behind (suc i) body
  next i (call name args) = suc i
  next i (runtime r) = suc i

  -- the same of a list whose first statement has the number i
  pub behind : ℕ → Code → ℕ
  behind i stop = i
  behind i (step line a rest) = behind (next i a) rest
