-- What the statements of `back` do: the transposed derivative of an expression.
use Rattle.std.proofs.Common.{◌≡◌, ℕ, ◌≤◌, List}
use Rattle.std.specs.Prelude.{ℤ}
use Rattle.adj_tree.specs.Code.{Var, helper, work, temp, Code}
use Rattle.adj_word.specs.Word.{add}
use Rattle.adj_word.specs.Pairing.{pairing}
use Rattle.def_meaning.specs.Store.{Shape, Store}
use Rattle.def_meaning.specs.Run.{Calls}
use Rattle.law_meaning.specs.Leads.{Leads}
use Rattle.law_sweep.specs.Pairs.{Key, Words, shadows, SamePlain, on_words}
use Rattle.law_sweep.specs.Scenes.{Course, scene}
use Rattle.law_sweep.proofs.Temps.{SameLoops}

-- the variables of the text, the temporaries, the helpers of loops and the work variables up to k are as they were
pub record SameUpTo (k : ℕ) (s s' : Store ℤ) : Type 0 where
  pub plains : SamePlain s s'
  pub temps : (i : ℕ) → s' (helper temp i) 0 ≡ s (helper temp i) 0
  pub works : (i : ℕ) → i ≤ k → s' (helper work i) 0 ≡ s (helper work i) 0
  pub loops : SameLoops s s'

-- the code adds g to the sum of the shadows' products with any tangents
pub record Adds (q : Calls ℤ) (sh : Var → Shape) (level : ℕ) (base : Course) (xs : List Key) (c : Code) (k : ℕ) (s : Store ℤ) (t : List ℤ) (g : Words → ℤ) : Type 0 where
  pub after : Store ℤ
  pub runs : Leads q (on_words sh level) c (scene base s t) (scene base after t)
  pub same : SameUpTo k s after
  pub pairs : (d : Words) → pairing xs (shadows after) d ≡ add (pairing xs (shadows s) d) (g d)
