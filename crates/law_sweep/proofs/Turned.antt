-- The adjoint of an assignment turns the shadows as the transpose of its derivative, where only active variables have a tangent.
use Rattle.std.proofs.Common.{◌≡◌, ℕ, ◌<◌, ◌≤◌, List}
use Rattle.std.specs.Prelude.{ℤ}
use Rattle.adj_tree.specs.Code.{Var, helper, Role, role_code, Code}
use Rattle.adj_word.specs.Pairing.{pairing}
use Rattle.def_meaning.specs.Store.{Shape, Store}
use Rattle.def_meaning.specs.Run.{Calls}
use Rattle.law_meaning.specs.Leads.{Leads}
use Rattle.law_sweep.specs.Pairs.{Key, Words, shadows, SamePlain, on_words}
use Rattle.law_sweep.specs.Scenes.{Course, scene}

-- the helpers of the loops up to depth d are as they were
pub record SameDepth (d : ℕ) (s s' : Store ℤ) : Type 0 where
  pub at : (r : Role) (i c : ℕ) → 2 < role_code r → i ≤ d → s' (helper r i) c ≡ s (helper r i) c

-- the code turns the shadows as the transpose of `change`, and leaves the variables of the text
pub record Turns (q : Calls ℤ) (sh : Var → Shape) (level : ℕ) (base : Course) (xs : List Key) (d : ℕ) (c : Code) (s : Store ℤ) (t : List ℤ) (change : Words → Words) : Type 0 where
  pub after : Store ℤ
  pub runs : Leads q (on_words sh level) c (scene base s t) (scene base after t)
  pub plains : SamePlain s after
  pub pairs : (y : Words) → pairing xs (shadows after) y ≡ pairing xs (shadows s) (change y)
  pub depth : SameDepth d s after
