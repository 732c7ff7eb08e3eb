-- The statements of a unit, each with its number and where it stands.
use Rattle.std.specs.Prelude.{ℕ, suc, List, [], ◌∷◌, ◌++◌}
use Rattle.adj_tree.specs.Code.{Var, Mark, unmarked, with_count, count_from, Act, assign, choose, loop, during, call, runtime, Code, stop, step}
use Rattle.def_names.specs.Numbers.{next, behind}

-- where a statement stands
pub data Place : Type 0 where
  -- in the body of its unit
  outermost : Place
  -- in a part of the i-th statement, an IF, or in its body, where it is a DO WHILE or a DO that isn't marked
  part_of : ℕ → Place
  -- in the body of the i-th statement, a marked loop with this variable: the step call
  turn_of : ℕ → Var → Place

pub record Standing : Type 0 where
  pub number : ℕ
  pub place : Place
  pub act : Act

-- where the statements in the body of a DO stand
abbrev pub body_of : ℕ → Var → Mark → Place
body_of i x unmarked = part_of i
body_of i x (with_count m) = turn_of i x
body_of i x (count_from y) = turn_of i x

abbrev mutual
  -- the statements in the i-th one
  pub held_in : ℕ → Act → List Standing
  held_in i (assign x subs e) = []
  held_in i (choose c a b) = standing (part_of i) (suc i) a ++ standing (part_of i) (behind (suc i) a) b
  held_in i (loop x first last by body m) = standing (body_of i x m) (suc i) body
  held_in i (during c body) = standing (part_of i) (suc i) body
  held_in i (call name args) = []
  held_in i (runtime r) = []

  -- the statements of a list at a place, and those in them, the first of them with the number i
  pub standing : Place → ℕ → Code → List Standing
  standing at i stop = []
  standing at i (step line a rest) = record { number = i; place = at; act = a } ∷ (held_in i a ++ standing at (next i a) rest)
