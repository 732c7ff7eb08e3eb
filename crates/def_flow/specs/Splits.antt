-- Which calls the lines of directives mark, by the numbers of statements.
use Rattle.std.specs.Prelude.{ℕ, suc, ◌==◌, List, [], ◌∷◌, Bool, false, ◌&&◌, ◌||◌}
use Rattle.adj_tree.specs.Code.{unmarked, with_count, count_from, Act, assign, choose, loop, during, call, runtime, Code, stop, step, Procedure}
use Rattle.def_names.specs.Numbers.{next, behind}

-- whether a line is among these
abbrev pub is_line : List ℕ → ℕ → Bool
is_line [] n = false
is_line (line ∷ lines) n = (n == line) || is_line lines n

-- whether the n-th statement is a call at one of the lines, among a statement at a line, with the number i, and those in it; the step call of a
-- marked loop is none
abbrev mutual
  pub marked_call : (ℕ → Bool) → ℕ → ℕ → ℕ → Act → Bool
  marked_call lines n i line (assign x subs e) = false
  marked_call lines n i line (choose c a b) = marked_calls lines n (suc i) a || marked_calls lines n (behind (suc i) a) b
  marked_call lines n i line (loop x first last by body unmarked) = marked_calls lines n (suc i) body
  marked_call lines n i line (loop x first last by body (with_count m)) = false
  marked_call lines n i line (loop x first last by body (count_from y)) = false
  marked_call lines n i line (during c body) = marked_calls lines n (suc i) body
  marked_call lines n i line (call name args) = lines line && (n == i)
  marked_call lines n i line (runtime r) = false

  pub marked_calls : (ℕ → Bool) → ℕ → ℕ → Code → Bool
  marked_calls lines n i stop = false
  marked_calls lines n i (step line a rest) = marked_call lines n i line a || marked_calls lines n (next i a) rest

-- the same among the units, the first statement of which has the number i
abbrev pub marked_from : (ℕ → Bool) → ℕ → ℕ → List Procedure → Bool
marked_from lines n i [] = false
marked_from lines n i (u ∷ us) = marked_calls lines n i u.body || marked_from lines n (behind i u.body) us

-- the calls of a program that are to be split
abbrev pub split_calls : (ℕ → Bool) → List Procedure → ℕ → Bool
split_calls lines units n = marked_from lines n 0 units
