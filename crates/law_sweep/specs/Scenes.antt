-- What it means that the sweeps of a list of statements transpose its derivative along a run. (docs/THEOREMS.md, "Adjoints")
use Rattle.std.specs.Prelude.{ℕ, ℤ, pos, List, if◌then◌else◌}
use Rattle.adj_tree.specs.Code.{plain}
use Rattle.def_meaning.specs.Event.{Event}
use Rattle.def_meaning.specs.Store.{Store}
use Rattle.def_meaning.specs.Scene.{Scene}
use Rattle.def_names.specs.Numbers.{Vars}
use Rattle.def_sweep.specs.Marks.{Marks}
use Rattle.law_sweep.specs.Pairs.{Words, shadows}

-- ---- scenes

-- what straight code leaves as it is: how many reversals are open, and what happened so far
pub record Course : Type 0 where
  pub opened : ℕ
  pub events : List Event

abbrev pub scene : {C : Type 0} → Course → Store C → List C → Scene C
scene base s t = record { store = s; tape = t; opened = base.opened; events = base.events }

-- ---- stores

-- words for the variables of the set alone
abbrev pub masked : Vars → Words → Words
masked on d = λ k. if on (plain k.0) then d k else pos 0

-- the shadows of a store, where a variable without a shadow counts as one whose shadow is 0
abbrev pub masked_shadows : Marks → Store ℤ → Words
masked_shadows m s = masked m.shadowed (shadows s)
