-- The steps of a marked loop that was run, and what it means that a reversal turns them. (docs/EMITTED.md, "Reversal of a marked loop")
use Rattle.std.specs.Prelude.{◌≡◌, ◌≤◌, ◌<◌, ℕ, zero, suc, ◌+◌, ℤ, pos, List, [], ◌∷◌, ◌++◌, length, false, Ok}
use Rattle.adj_tree.specs.Code.{Role, role_code, Var, plain, shadow, helper, first, stride, count, name_eq, Mark, Act, call, Code}
use Rattle.adj_word.specs.Word.{add, mul}
use Rattle.adj_word.specs.Pairing.{pairing}
use Rattle.def_meaning.specs.Append.{one}
use Rattle.def_meaning.specs.Store.{Shape, size_of, Store}
use Rattle.def_meaning.specs.Value.{Setting, value}
use Rattle.def_meaning.specs.Run.{Calls}
use Rattle.law_meaning.specs.Leads.{Leads, ActLeads}
use Rattle.def_names.specs.Numbers.{Vars}
use Rattle.def_sweep.specs.Facts.{In, joined}
use Rattle.def_meaning.specs.Apart.{AreApart}
use Rattle.law_sweep.specs.Pairs.{Key, Words, shadows, on_words}
use Rattle.law_sweep.specs.Scenes.{Course, scene}
use Rattle.def_sweep.specs.Plan.{Callee, Plan, IsActual, actuals_named, writes_actual, step_snapshot}
use Rattle.def_sweep.specs.Rows.{pushes, pops, adjoint_call}
use Rattle.def_sweep.specs.ReversalCode.{slots_of, reversal}
use Rattle.law_sweep.specs.Laws.{just}
use Rattle.def_sweep.specs.Callees.{CalleeFacts}
use Rattle.law_sweep.specs.Runs.{SameOff}
use Rattle.def_sweep.specs.Reversals.{Called, Reversal, LoopRun, words_taken, Reverses, AreReversed}
use Rattle.law_sweep.specs.Tells.{Tells, TellsCalls}
use Rattle.def_sweep.specs.StepUnits.{step_units, taken_behind, taken_in}

-- a statement that was counted comes from a store and a tape to others, and makes these calls and reversals
pub record ActGoes {C : Type 0} (q : Calls C) (n : Setting C) (a : Act) (line : ℕ) (base : Course) (s s' : Store C) (t t' : List C) (calls : List Called) (rs : List Reversal) : Type 0 where
  pub later : Course
  pub tells : TellsCalls n.level base later calls rs
  pub runs : ActLeads q n a line (scene base s t) (scene later s' t')

-- stores that agree on the actuals of some dummies
pub record ActualsAgree (sh : Var → Shape) (g : Callee) (given : List (List ℕ)) (dummies : Vars) (u f : Store ℤ) : Type 0 where
  pub at : (d a : List ℕ) → IsActual g.dummies given d a → In (plain d) dummies → (j : ℕ) → j < size_of (sh (plain a)) → f (plain a) j ≡ u (plain a) j

-- the derivatives of the steps from lo on, one after another
abbrev pub changes : (ℕ → Words → Words) → ℕ → ℕ → Words → Words
changes change lo zero y = y
changes change lo (suc n) y = changes change (suc lo) n (change lo y)

-- what the program's steps from lo on told of marked loops, the last step first
abbrev pub loops_of : (ℕ → List LoopRun) → ℕ → ℕ → List LoopRun
loops_of loops lo zero = []
loops_of loops lo (suc n) = loops_of loops (suc lo) n ++ loops lo

-- how many words variables have
abbrev pub words_of : (Var → Shape) → List (List ℕ) → ℕ
words_of sh [] = 0
words_of sh (x ∷ xs) = size_of (sh (plain x)) + words_of sh xs

-- the helpers of the loops up to depth d are as they were
abbrev pub LeavesHelpers : ℕ → Store ℤ → Store ℤ → Type 0
LeavesHelpers d f g = (r : Role) (k c : ℕ) → 2 < role_code r → k ≤ d → g (helper r k) c ≡ f (helper r k) c

-- ---- the units that are called

-- ---- the steps

-- The step call of a marked loop with variable x, in a unit with these cells.
module _ (q : Calls ℤ) (sh : Var → Shape) (level : ℕ) (cells : List Key) (line : ℕ) (x : List ℕ) (g : CalleeFacts) (given : List (List ℕ)) (name : List ℕ) where
  -- what is called for: the dummies that the adjoint of the step unit needs at its entry, and those that the step unit reads
  abbrev pub reach : Vars
  reach = joined g.callee.members g.read

  -- how many words a snapshot takes
  abbrev pub step_words : ℕ
  step_words = words_of sh (step_snapshot g.callee g.read given)

  -- the step unit is called from the store f, where the program's step takes u to u'
  pub record StepCalled (base : Course) (u u' f : Store ℤ) (t : List ℤ) : Type 0 where
    pub after : Store ℤ
    -- its dummies have these shapes, by which a snapshot has as many words as the actuals say
    pub shapes : List Shape
    pub takes : words_taken (taken_in g.callee g.read g.callee.dummies) shapes ≡ step_words
    pub runs : ActGoes q (on_words sh level) (call name (actuals_named given)) line base f after t t (record { unit = name; height = length t; shapes = shapes } ∷ []) []
    -- where a cell had the value of the program, it has it again
    pub same : (y : List ℕ) (j : ℕ) → f (plain y) j ≡ u (plain y) j → after (plain y) j ≡ u' (plain y) j
    pub off : SameOff (writes_actual g.callee given) f after
    pub shades : (y : List ℕ) (j : ℕ) → after (shadow y) j ≡ f (shadow y) j
    pub helpers : (r : Role) (k c : ℕ) → after (helper r k) c ≡ f (helper r k) c

  -- its adjoint is called, which turns the shadows and reverses these loops
  pub record AdjointStep (change : Words → Words) (loops : List LoopRun) (base : Course) (f : Store ℤ) (t : List ℤ) : Type 0 where
    pub after : Store ℤ
    pub rs : List Reversal
    pub shapes : List Shape
    pub takes : words_taken (taken_behind g.callee g.read g.callee.dummies) shapes ≡ step_words
    pub runs : ActGoes q (on_words sh level) (adjoint_call g.callee given) line base f after t t (record { unit = g.callee.adjoint; height = length t; shapes = shapes } ∷ []) rs
    pub reversed : AreReversed loops rs
    pub off : SameOff (writes_actual g.callee given) f after
    pub helpers : (r : Role) (k c : ℕ) → after (helper r k) c ≡ f (helper r k) c
    pub pairs : (y : Words) → pairing cells (shadows after) y ≡ pairing cells (shadows f) (change y)

  -- l steps that the program made, from the values U i to U' i: the loop's variable is a0 and then c0 more at each; the step unit takes
  -- them again from a store that agrees on what it reads, and its adjoint turns the shadows from one that agrees on its members
  pub record Steps (l : ℕ) (a0 c0 : ℤ) (change : ℕ → Words → Words) (loops : ℕ → List LoopRun) (U U' : ℕ → Store ℤ) : Type 0 where
    pub at_step : (i : ℕ) → i < l → U i (plain x) 0 ≡ add a0 (mul (pos i) c0)
    pub between : (i : ℕ) (y : List ℕ) (j : ℕ) → i < l → name_eq y x ≡ false → U (suc i) (plain y) j ≡ U' i (plain y) j
    pub off : (i : ℕ) → i < l → SameOff (writes_actual g.callee given) (U i) (U' i)
    pub again : (i : ℕ) (base : Course) (f : Store ℤ) (t : List ℤ) → i < l → ActualsAgree sh g.callee given g.read (U i) f → StepCalled base (U i) (U' i) f t
    pub back : (i : ℕ) (base : Course) (f : Store ℤ) (t : List ℤ) → i < l → ActualsAgree sh g.callee given g.callee.members (U i) f → AdjointStep (change i) (loops i) base f t

  -- the store has what is called for as before a step, besides the loop's variable
  abbrev pub HasStep : Store ℤ → Store ℤ → Type 0
  HasStep u f = (e a : List ℕ) → IsActual g.callee.dummies given e a → In (plain e) reach → name_eq a x ≡ false → (j : ℕ) → j < size_of (sh (plain a)) → f (plain a) j ≡ u (plain a) j

  -- what a reversal asks of the call: arrays are known, no name stands twice, the step doesn't write the loop's variable, a scalar, and
  -- its adjoint has another name
  pub record StepFits (p : Plan) : Type 0 where
    pub scalars : (y : List ℕ) → p.arrays (plain y) ≡ false → size_of (sh (plain y)) ≡ 1
    pub one_cell : size_of (sh (plain x)) ≡ 1
    pub dummies_apart : AreApart g.callee.dummies
    pub given_apart : AreApart given
    pub keeps_variable : writes_actual g.callee given (plain x) ≡ false
    pub other_name : name_eq name g.callee.adjoint ≡ false
    pub other_adjoint : name_eq g.callee.adjoint name ≡ false

  -- the code of the reversal of a loop of depth d with a directive
  abbrev pub step_reversal : Plan → ℕ → Mark → Code
  step_reversal p d mark =
      let snapshot = step_snapshot g.callee g.read given in
      reversal line d (plain x) (slots_of d mark) (pushes p line snapshot) (pops p line snapshot) (one line (call name (actuals_named given))) (one line (adjoint_call g.callee given))

  -- The code reverses the l steps with m snapshots, of a loop in others of depth d whose DO stands at a line, from the store f.
  pub record TurnsSteps (c : Code) (d l m at : ℕ) (change : ℕ → Words → Words) (loops : ℕ → List LoopRun) (base : Course) (f : Store ℤ) (t : List ℤ) : Type 0 where
    pub after : Store ℤ
    pub later : Course
    pub own : Reversal
    pub inner : List Reversal
    -- the tape is as it was
    pub runs : Leads q (on_words sh level) c (scene base f t) (scene later after t)
    -- one reversal was begun and ended, and within it those of the steps, from the last step to the first
    pub tells : Tells level base later (own ∷ inner)
    -- by as few step calls as any schedule, one call of the adjoint a step, and at most m snapshots above the tape
    pub reverses : Reverses (record { mark = record { line = at; turns = l; snapshots = m }; step = step_units name g.callee g.read }) own
    pub begins : own.start ≡ length t
    pub reversed : AreReversed (loops_of loops 0 l) inner
    -- the shadows are transposed through the steps
    pub pairs : (y : Words) → pairing cells (shadows after) y ≡ pairing cells (shadows f) (changes change 0 l y)
    -- the text's variables that the steps don't write, and the helpers of the loops around, are as they were
    pub off : SameOff (joined (just (plain x)) (writes_actual g.callee given)) f after
    pub depth : LeavesHelpers d f after

-- the code of a reversal turns the steps of its loop, from a store that has its first values, its number of snapshots and what the first
-- step calls for
abbrev pub ReversalsTurn : Type 0
ReversalsTurn =
    (q : Calls ℤ) (sh : Var → Shape) (level : ℕ) (cells : List Key) (line : ℕ) (x : List ℕ) (g : CalleeFacts) (given : List (List ℕ)) (name : List ℕ) (p : Plan) → StepFits q sh level cells line x g given name p →
    (d l m : ℕ) (mark : Mark) → l ≤ 1099511627776 → 0 < m → m ≤ 64 →
    (a0 c0 : ℤ) (change : ℕ → Words → Words) (loops : ℕ → List LoopRun) (U U' : ℕ → Store ℤ) → Steps q sh level cells line x g given name l a0 c0 change loops U U' →
    (at : ℕ) (base : Course) (f : Store ℤ) (t : List ℤ) → f (helper count (suc d)) 0 ≡ pos l → f (helper first (suc d)) 0 ≡ a0 → f (helper stride (suc d)) 0 ≡ c0 → value (on_words sh level) (slots_of (suc d) mark) f ≡ Ok (pos m) → HasStep q sh level cells line x g given name (U 0) f →
    TurnsSteps q sh level cells line x g given name (step_reversal q sh level cells line x g given name p (suc d) mark) d l m at change loops base f t
