-- What runs of both sweeps take.
use Rattle.std.specs.Prelude.{◌≡◌, ℕ, ℤ, ◌+◌, ◌≤◌, List}
use Rattle.adj_tree.specs.Code.{Var, Code}
use Rattle.def_meaning.specs.Store.{Shape, Store}
use Rattle.def_meaning.specs.Scene.{Scene, Done}
use Rattle.def_meaning.specs.Run.{Calls, run}
use Rattle.def_names.specs.Numbers.{Vars}
use Rattle.law_sweep.specs.Pairs.{on_words}
use Rattle.law_sweep.specs.Scenes.{Course, scene}
use Rattle.law_sweep.specs.Runs.{SameOn}

-- A run of the forward sweep, from a store that has the values of u that are needed, and one of the backward sweep, from a store that
-- has the values at its end that are held there, take together at most so many statements.
pub record BothCost (q : Calls ℤ) (sh : Var → Shape) (level : ℕ) (forth back : Code) (needed held : Vars) (u : Store ℤ) (most : ℕ) : Type 0 where
  pub at : (base : Course) (f : Store ℤ) (t : List ℤ) → SameOn sh needed u f → (s : Scene ℤ) (k left : ℕ) → run q (on_words sh level) forth (scene base f t) k ≡ Done s left →
      (later : Course) (g : Store ℤ) → SameOn sh held s.store g → (e : Scene ℤ) (k1 left1 : ℕ) → run q (on_words sh level) back (scene later g s.tape) k1 ≡ Done e left1 → k + k1 ≤ left + left1 + most
