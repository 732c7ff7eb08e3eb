-- What it means that the sweeps of a list of statements transpose its derivative along a run. (docs/THEOREMS.md, "Adjoints")
use Rattle.std.specs.Prelude.{◌≡◌, ℕ, ℤ, pos, List, [], ◌++◌, true, false}
use Rattle.adj_tree.specs.Code.{Var, plain, shadow, Code}
use Rattle.adj_word.specs.Pairing.{pairing, stands_in}
use Rattle.def_meaning.specs.Store.{Shape, Store}
use Rattle.def_meaning.specs.Run.{Calls}
use Rattle.def_names.specs.Numbers.{Vars}
use Rattle.def_sweep.specs.Marks.{Marks}
use Rattle.def_sweep.specs.Facts.{In, Facts}
use Rattle.law_sweep.specs.Pairs.{Key, key_eq, Words, with_tangents, on_words, on_duals}
use Rattle.law_sweep.specs.Scenes.{Course, masked_shadows}
use Rattle.def_sweep.specs.Plan.{Plan, Schedules}
use Rattle.def_sweep.specs.Emission.{forward_with, backward_with}
use Rattle.law_sweep.specs.Passing.{plainly}
use Rattle.def_sweep.specs.Reversals.{Reversal, LoopRun, AreReversed, ReversedLines}
use Rattle.law_sweep.specs.Runs.{Comes, Passes, SameOn}

-- tangents of the variables that are varied at a point, and of no others
abbrev pub AreVaried : Marks → ℕ → Words → Type 0
AreVaried m p y = (k : Key) → m.varied p (plain k.0) ≡ false → y k ≡ pos 0

-- the shadows of the variables that may be written, and that are varied and not useful at a point, are 0
abbrev pub AreReady : List Key → Marks → ℕ → Vars → Store ℤ → Type 0
AreReady xs m p written s =
    (k : Key) → stands_in key_eq k xs ≡ true → In (plain k.0) written → In (plain k.0) (m.varied p) → m.useful p (plain k.0) ≡ false → masked_shadows m s k ≡ pos 0

-- The list c was run from the values u to u'; its first statement has the number i, `from` leads to it, and its end leads to `to`.
-- Its sweeps stand in loops of depth d; `written` is what it may write, and xs are the cells of the unit's variables.
module _ (r : Schedules) (q : Calls ℤ) (lines : ReversedLines) (qd : Calls (ℤ × ℤ)) (sh : Var → Shape) (level : ℕ) (xs : List Key) (p : Plan) (w : Facts) (d : ℕ) (written : Vars) (i from to : ℕ) (c : Code) (u u' : Store ℤ) (derivative : Words → Words) (loops : List LoopRun) where
  -- the backward sweep from a store g and the tape to the tape t
  pub record SweepsBack (base : Course) (f g : Store ℤ) (trail t : List ℤ) : Type 0 where
    pub end : Store ℤ
    -- it reverses the loops that the program ran, from the last to the first
    pub reversals : List Reversal
    pub reversed : AreReversed loops reversals
    pub runs : Comes q (on_words sh level) (backward_with r p i d c) base g end (trail ++ t) t reversals
    -- it has the values that the forward sweep began with, as far as they are held there
    pub same : SameOn sh (w.held from) f end
    -- its shadows are those of g under the transposed derivative
    pub products : (y : Words) → AreVaried w.marks from y → AreReady xs w.marks to written g → pairing xs (masked_shadows w.marks end) y ≡ pairing xs (masked_shadows w.marks g) (derivative y)

  -- the forward sweep from a store f and a tape t: it reverses nothing
  pub record SweepsForth (base : Course) (f : Store ℤ) (t : List ℤ) : Type 0 where
    pub end : Store ℤ
    pub trail : List ℤ
    pub runs : Comes q (on_words sh level) (forward_with r p i d c) base f end t (trail ++ t) []
    -- it has the values that the program ends with, as far as they are needed there
    pub same : SameOn sh (w.needed to) u' end
    -- it leaves the shadows
    pub shadows : (x : List ℕ) (j : ℕ) → end (shadow x) j ≡ f (shadow x) j
    -- from each store that agrees on what is held there
    pub back : (b : Course) (g : Store ℤ) → SameOn sh (w.held to) end g → SweepsBack b f g trail t

-- the sweeps of the list transpose its derivative along the run
pub record TransposesList (r : Schedules) (q : Calls ℤ) (lines : ReversedLines) (qd : Calls (ℤ × ℤ)) (sh : Var → Shape) (level : ℕ) (xs : List Key) (p : Plan) (w : Facts) (d : ℕ) (written : Vars) (i from to : ℕ) (c : Code) (u u' : Store ℤ) : Type 0 where
  pub derivative : Words → Words
  -- the runs of loops that are to be reversed, from the last to the first
  pub loops : List LoopRun
  pub dual : (home : Course) (y : Words) (t : List (ℤ × ℤ)) → Passes lines qd (on_duals (plainly sh) level) c home (with_tangents u y) (with_tangents u' (derivative y)) t loops
  -- from each store that agrees on what is needed, and each tape
  pub forth : (base : Course) (f : Store ℤ) (t : List ℤ) → SameOn sh (w.needed from) u f → SweepsForth r q lines qd sh level xs p w d written i from to c u u' derivative loops base f t
