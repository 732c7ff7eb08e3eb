-- Flags of the calls that are to be split: one for each statement, in the order of their numbers.
use Rattle.std.specs.Prelude.{ℕ, List, [], ◌∷◌, ◌++◌, Bool, false, flat_map}
use Rattle.adj_tree.specs.Code.{Mark, unmarked, with_count, count_from, Act, assign, choose, loop, during, call, runtime, Code, stop, step, Procedure}

-- the lines that count in the body of a DO: none where it is marked
abbrev pub lines_inside : (ℕ → Bool) → Mark → ℕ → Bool
lines_inside lines unmarked n = lines n
lines_inside lines (with_count m) n = false
lines_inside lines (count_from x) n = false

abbrev mutual
  -- those of a statement at a line and of those in it
  pub flags_in : (ℕ → Bool) → ℕ → Act → List Bool
  flags_in lines line (assign x subs e) = false ∷ []
  flags_in lines line (choose c a b) = false ∷ (flags_of lines a ++ flags_of lines b)
  flags_in lines line (loop x first last by body m) = false ∷ flags_of (lines_inside lines m) body
  flags_in lines line (during c body) = false ∷ flags_of lines body
  flags_in lines line (call name args) = lines line ∷ []
  flags_in lines line (runtime r) = false ∷ []

  -- those of a list
  pub flags_of : (ℕ → Bool) → Code → List Bool
  flags_of lines stop = []
  flags_of lines (step line a rest) = flags_in lines line a ++ flags_of lines rest

-- those of some units
abbrev pub all_flags : (ℕ → Bool) → List Procedure → List Bool
all_flags lines us = flat_map (λ u. flags_of lines u.body) us
