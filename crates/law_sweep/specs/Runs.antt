-- Runs of sweeps and of the program: what they do to stores and tapes, and what they tell of reversals and of marked loops.
use Rattle.std.specs.Prelude.{◌≡◌, ◌<◌, ℕ, ℤ, List, false}
use Rattle.adj_tree.specs.Code.{Var, plain, Act, Code}
use Rattle.def_meaning.specs.Store.{Shape, size_of, Store}
use Rattle.def_meaning.specs.Value.{Setting}
use Rattle.def_meaning.specs.Run.{Calls}
use Rattle.law_meaning.specs.Leads.{Leads, ActLeads}
use Rattle.def_names.specs.Numbers.{Vars}
use Rattle.def_sweep.specs.Facts.{In}
use Rattle.law_sweep.specs.Scenes.{Course, scene}
use Rattle.def_sweep.specs.Reversals.{Reversal, LoopRun, ReversedLines}
use Rattle.law_sweep.specs.Tells.{Tells, Marks}

-- the code comes from a store and a tape to others, and these are its reversals
pub record Comes {C : Type 0} (q : Calls C) (n : Setting C) (c : Code) (base : Course) (s s' : Store C) (t t' : List C) (rs : List Reversal) : Type 0 where
  pub later : Course
  pub tells : Tells n.level base later rs
  pub runs : Leads q n c (scene base s t) (scene later s' t')

-- the same of one statement that was counted
pub record ActComes {C : Type 0} (q : Calls C) (n : Setting C) (a : Act) (line : ℕ) (base : Course) (s s' : Store C) (t t' : List C) (rs : List Reversal) : Type 0 where
  pub later : Course
  pub tells : Tells n.level base later rs
  pub runs : ActLeads q n a line (scene base s t) (scene later s' t')

-- the program comes from a store to another: it begins no reversal, and these are its runs of the loops that are to be reversed, those
-- at the lines in a set, from the last to the first
pub record Passes {C : Type 0} (lines : ReversedLines) (q : Calls C) (n : Setting C) (c : Code) (base : Course) (s s' : Store C) (t : List C) (loops : List LoopRun) : Type 0 where
  pub later : Course
  pub tells : Marks lines n.level base later loops
  pub runs : Leads q n c (scene base s t) (scene later s' t)

-- the same of one statement
pub record ActPasses {C : Type 0} (lines : ReversedLines) (q : Calls C) (n : Setting C) (a : Act) (line : ℕ) (base : Course) (s s' : Store C) (t : List C) (loops : List LoopRun) : Type 0 where
  pub later : Course
  pub tells : Marks lines n.level base later loops
  pub runs : ActLeads q n a line (scene base s t) (scene later s' t)

-- stores with the same words in the cells of the text's variables of a set
pub record SameOn (sh : Var → Shape) (a : Vars) (s s' : Store ℤ) : Type 0 where
  pub at : (x : List ℕ) (j : ℕ) → j < size_of (sh (plain x)) → In (plain x) a → s' (plain x) j ≡ s (plain x) j

-- stores with the same words in the text's variables that aren't in a set
pub record SameOff (a : Vars) (s s' : Store ℤ) : Type 0 where
  pub at : (x : List ℕ) (j : ℕ) → a (plain x) ≡ false → s' (plain x) j ≡ s (plain x) j
