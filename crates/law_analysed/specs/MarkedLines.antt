-- The lines of the marked loops of a program, and what they tell of reversals by schedules. (docs/THEOREMS.md, "Reversals of marked loops")
use Rattle.std.specs.Prelude.{◌≡◌, ℕ, ◌==◌, List, [], ◌∷◌, ◌++◌, Bool, false, ◌||◌, if◌then◌else◌}
use Rattle.adj_tree.specs.Code.{Act, assign, choose, loop, during, call, runtime, Code, stop, step, Procedure}
use Rattle.def_sweep.specs.MarkedUnits.{is_marked}

-- ---- the lines of marked loops

abbrev mutual
  -- of a statement at a line
  pub marked_in : ℕ → Act → List ℕ
  marked_in line (assign x subs e) = []
  marked_in line (choose c a b) = marked_lines a ++ marked_lines b
  marked_in line (loop x a b c body n) = (if is_marked n then line ∷ [] else []) ++ marked_lines body
  marked_in line (during c body) = marked_lines body
  marked_in line (call name args) = []
  marked_in line (runtime o) = []

  pub marked_lines : Code → List ℕ
  marked_lines stop = []
  marked_lines (step line a rest) = marked_in line a ++ marked_lines rest

abbrev pub program_lines : List Procedure → List ℕ
program_lines [] = []
program_lines (u ∷ us) = marked_lines u.body ++ program_lines us

abbrev pub has_line : ℕ → List ℕ → Bool
has_line line [] = false
has_line line (l ∷ ls) = (line == l) || has_line line ls

-- no line stands twice
abbrev pub AreLinesApart : List ℕ → Type 0
AreLinesApart [] = Unit {0}
AreLinesApart (l ∷ ls) = (has_line l ls ≡ false) × AreLinesApart ls

-- ---- what they tell
