-- Which calls marks may split: adjointed ones, but not the step call of a loop that is reversed by a schedule.
use Rattle.std.specs.Prelude.{◌≡◌, ℕ, suc, List, [], ◌∷◌, Bool, true, false}
use Rattle.adj_tree.specs.Code.{Act, assign, choose, loop, during, call, runtime, Code, stop, step, Procedure}
use Rattle.def_names.specs.Numbers.{next, behind}
use Rattle.def_sweep.specs.Plan.{Schedules, reversed_by, ByStep}
use Rattle.def_sweep.specs.Marking.{ProgramMarks, first_statement}
use Rattle.def_sweep.specs.Program.{schedules_in}

abbrev mutual
  pub MaySplit' : Schedules → (ℕ → Bool) → (ℕ → Bool) → ℕ → Act → Type 0
  MaySplit' r adjointed split i (assign x subs e) = Unit {0}
  MaySplit' r adjointed split i (choose c a b) = MaySplit r adjointed split (suc i) a × MaySplit r adjointed split (behind (suc i) a) b
  MaySplit' r adjointed split i (loop x a b c body m) = ByStep (reversed_by r adjointed i body m) (Unit {0}) (λ s. split (suc i) ≡ false) × MaySplit r adjointed split (suc i) body
  MaySplit' r adjointed split i (during c body) = MaySplit r adjointed split (suc i) body
  MaySplit' r adjointed split i (call name args) = split i ≡ true → adjointed i ≡ true
  MaySplit' r adjointed split i (runtime o) = Unit {0}

  pub MaySplit : Schedules → (ℕ → Bool) → (ℕ → Bool) → ℕ → Code → Type 0
  MaySplit r adjointed split i stop = Unit {0}
  MaySplit r adjointed split i (step line a rest) = MaySplit' r adjointed split i a × MaySplit r adjointed split (next i a) rest

-- so in each of these units
abbrev pub AllMaySplit : Bool → ProgramMarks → List Procedure → List Procedure → Type 0
AllMaySplit schedules m ps [] = Unit {0}
AllMaySplit schedules m ps (u ∷ us) = MaySplit (schedules_in schedules ps) m.adjointed m.split (first_statement ps u.name) u.body × AllMaySplit schedules m ps us
