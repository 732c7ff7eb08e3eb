-- What the two units of a split call do, as their caller sees it.
use Rattle.std.specs.Prelude.{◌≡◌, ◌<◌, ℕ, ℤ, List, [], ◌++◌, false}
use Rattle.adj_tree.specs.Code.{Role, Var, plain, shadow, helper, call}
use Rattle.adj_word.specs.Pairing.{pairing}
use Rattle.def_meaning.specs.Store.{Shape, size_of, Store}
use Rattle.def_meaning.specs.Run.{Calls}
use Rattle.def_names.specs.Numbers.{Vars}
use Rattle.def_sweep.specs.Facts.{In, joined}
use Rattle.law_sweep.specs.Pairs.{Key, Words, shadows, on_words}
use Rattle.law_sweep.specs.Scenes.{Course}
use Rattle.def_sweep.specs.Plan.{IsActual, actuals_named, writes_actual}
use Rattle.def_sweep.specs.Callees.{CalleeFacts}
use Rattle.def_sweep.specs.Reversals.{Reversal, LoopRun, AreReversed}
use Rattle.law_sweep.specs.Runs.{ActComes, SameOff}
use Rattle.law_sweep.specs.Steps.{ActualsAgree}
use Rattle.def_sweep.specs.SplitRows.{back_call}

-- In a unit with these cells, of which the shadows are turned; the split unit, its actuals, and the names of its forward and backward unit.
module _ (q : Calls ℤ) (sh : Var → Shape) (level : ℕ) (xs : List Key) (g : CalleeFacts) (given : List (List ℕ)) (forth back : List ℕ) (line : ℕ) where
  -- the stores agree on the actuals of dummies that the unit reads and doesn't write
  abbrev pub KeepsRead : Store ℤ → Store ℤ → Type 0
  KeepsRead f g0 = (d a : List ℕ) → IsActual g.callee.dummies given d a → In (plain d) g.read → g.callee.written (plain d) ≡ false → (j : ℕ) → j < size_of (sh (plain a)) → g0 (plain a) j ≡ f (plain a) j

  -- The backward unit, called from the store g0 and the words that the forward unit left when it was called from f: it takes these words and no
  -- others, leaves each actual that the unit writes as the forward unit found it, and changes no other; the shadows are turned.
  pub record BackCalled (base : Course) (f g0 : Store ℤ) (trail t : List ℤ) (change : Words → Words) (loops : List LoopRun) : Type 0 where
    pub after : Store ℤ
    pub reversals : List Reversal
    pub reversed : AreReversed loops reversals
    pub runs : ActComes q (on_words sh level) (back_call back g.callee given) line base g0 after (trail ++ t) t reversals
    pub restores : (d a : List ℕ) → IsActual g.callee.dummies given d a → In (plain d) g.callee.written → (j : ℕ) → j < size_of (sh (plain a)) → after (plain a) j ≡ f (plain a) j
    pub off : SameOff (writes_actual g.callee given) g0 after
    pub helpers : (r : Role) (k c : ℕ) → after (helper r k) c ≡ g0 (helper r k) c
    pub pairs : (y : Words) → pairing xs (shadows after) y ≡ pairing xs (shadows g0) (change y)

  -- The forward unit, called from the store f, where the program's call leads to u': it leaves some words on the tape, and ends with the program's
  -- values in the actuals of the dummies of a set; from each store that has kept what the unit reads and doesn't write the backward unit goes back.
  pub record ForthCalled (also : Vars) (base : Course) (u' f : Store ℤ) (t : List ℤ) (change : Words → Words) (loops : List LoopRun) : Type 0 where
    pub after : Store ℤ
    pub trail : List ℤ
    pub runs : ActComes q (on_words sh level) (call forth (actuals_named given)) line base f after t (trail ++ t) []
    pub same : (d a : List ℕ) → IsActual g.callee.dummies given d a → In (plain d) (joined g.read also) → (j : ℕ) → j < size_of (sh (plain a)) → after (plain a) j ≡ u' (plain a) j
    pub off : SameOff (writes_actual g.callee given) f after
    pub shadows : (x : List ℕ) (j : ℕ) → after (shadow x) j ≡ f (shadow x) j
    pub helpers : (r : Role) (k c : ℕ) → after (helper r k) c ≡ f (helper r k) c
    pub returns : (b : Course) (g0 : Store ℤ) → KeepsRead after g0 → BackCalled b f g0 trail t change loops

-- A split pair, where the forward unit agrees with the program on the actuals of these dummies besides those that the unit reads.
abbrev pub SplitPair : (q : Calls ℤ) (sh : Var → Shape) (level : ℕ) (xs : List Key) (g : CalleeFacts) (given : List (List ℕ)) (forth back : List ℕ) (line : ℕ) (also : Vars) (u u' : Store ℤ) (change : Words → Words) (loops : List LoopRun) → Type 0
SplitPair q sh level xs g given forth back line also u u' change loops =
    (base : Course) (f : Store ℤ) (t : List ℤ) → ActualsAgree sh g.callee given (joined g.read also) u f → ForthCalled q sh level xs g given forth back line also base u' f t change loops

-- the same with the map that turns the shadows, and the runs of loops that are reversed
pub record SplitDone (q : Calls ℤ) (sh : Var → Shape) (level : ℕ) (xs : List Key) (g : CalleeFacts) (given : List (List ℕ)) (forth back : List ℕ) (line : ℕ) (also : Vars) (u u' : Store ℤ) : Type 0 where
  pub change : Words → Words
  pub loops : List LoopRun
  pub pair : SplitPair q sh level xs g given forth back line also u u' change loops
