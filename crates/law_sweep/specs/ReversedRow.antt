-- The row of a marked loop that is reversed by a schedule, and what it does in both sweeps. (docs/EMITTED.md, "Reversal of a marked loop")
use Rattle.std.specs.Prelude.{◌≡◌, ◌≤◌, ◌<◌, ℕ, suc, ℤ, List, [], ◌∷◌, ◌++◌, false, Ok, Some}
use Rattle.adj_tree.specs.Code.{Var, plain, shadow, name_eq, Mark, unmarked, Term, Code}
use Rattle.adj_word.specs.Word.{wrap, add}
use Rattle.adj_word.specs.Pairing.{pairing}
use Rattle.def_meaning.specs.Read.{reads_term}
use Rattle.def_meaning.specs.Store.{Shape, size_of, Store, set}
use Rattle.def_meaning.specs.Value.{value}
use Rattle.def_meaning.specs.Run.{Calls, trips, in_force}
use Rattle.def_names.specs.Numbers.{Vars}
use Rattle.def_names.specs.Numbering.{point_before, point_after}
use Rattle.def_sweep.specs.Facts.{In, joined, Facts}
use Rattle.law_sweep.specs.Pairs.{Key, Words, shadows, on_words}
use Rattle.law_sweep.specs.Scenes.{Course}
use Rattle.def_sweep.specs.Plan.{Step, writes_actual}
use Rattle.def_sweep.specs.ReversalCode.{row_forward, row_backward}
use Rattle.law_sweep.specs.Laws.{just, ReversedLaws}
use Rattle.def_sweep.specs.Callees.{CalleeFacts}
use Rattle.law_sweep.specs.Kernel.{AllText, HasSlots}
use Rattle.law_sweep.specs.Passing.{plainly}
use Rattle.law_sweep.specs.Runs.{Comes, SameOn, SameOff}
use Rattle.def_sweep.specs.Reversals.{Reversal, LoopRun, AreReversed}
use Rattle.law_sweep.specs.Steps.{LeavesHelpers, changes, loops_of, Steps, StepFits}
use Rattle.def_sweep.specs.StepUnits.{step_units}
use Rattle.law_sweep.specs.Theorem.{plan_of}

-- what comes back of the loop in the backward sweep, from the store g
pub record ReversedBack (q : Calls ℤ) (sh : Var → Shape) (level : ℕ) (xs : List Key) (d : ℕ) (x : List ℕ) (written held : Vars) (c : Code) (base : Course) (f g : Store ℤ) (t t' : List ℤ) (change : Words → Words) (loops : List LoopRun) : Type 0 where
  pub after : Store ℤ
  -- it reverses these runs of loops
  pub reversals : List Reversal
  pub reversed : AreReversed loops reversals
  pub runs : Comes q (on_words sh level) c base g after t t' reversals
  -- what is held has the values of f again, the loop's variable aside
  pub stays : (y : List ℕ) (j : ℕ) → j < size_of (sh (plain y)) → name_eq y x ≡ false → In (plain y) held → after (plain y) j ≡ f (plain y) j
  pub off : SameOff written g after
  pub pairs : (z : Words) → pairing xs (shadows after) z ≡ pairing xs (shadows g) (change z)
  pub depth : LeavesHelpers d g after

-- the loop in both sweeps, from the store f: the forward sweep comes to a store with the values of u' that are needed
pub record ReversedRow (q : Calls ℤ) (sh : Var → Shape) (level : ℕ) (xs : List Key) (d : ℕ) (x : List ℕ) (written needed held held' : Vars) (forth back : Code) (base : Course) (u' f : Store ℤ) (t : List ℤ) (change : Words → Words) (loops : List LoopRun) : Type 0 where
  pub to : Store ℤ
  pub trail : List ℤ
  pub runs : Comes q (on_words sh level) forth base f to t (trail ++ t) []
  pub same : SameOn sh needed u' to
  pub off : SameOff written f to
  pub shades : (y : List ℕ) (j : ℕ) → to (shadow y) j ≡ f (shadow y) j
  pub depth : LeavesHelpers d f to
  pub returns : (b : Course) (h : Store ℤ) → SameOn sh held to h → ReversedBack q sh level xs d x written held' back b f h (trail ++ t) t change loops

-- With facts that meet the laws, both sweeps of a marked loop that turned l times with m snapshots do so: from a store with the values that
-- are needed before it, where the program had u there and U i before its step i.
abbrev pub ReversedRowsTurn : Type 0
ReversedRowsTurn =
    (q : Calls ℤ) (sh : Var → Shape) (level : ℕ) (cells : List Key) (line : ℕ) (x : List ℕ) (gs : List ℕ → CalleeFacts) (given : List (List ℕ)) (name : List ℕ) (w : Facts) (arrays : Vars) →
    let g = gs name in
    let p = plan_of gs w arrays in
    StepFits q sh level cells line x g given name p →
    (i d : ℕ) (a b c : Term) (mark : Mark) → HasSlots mark → ReversedLaws w i x a b c mark g given → AllText (λ v. reads_term v a) → AllText (λ v. reads_term v b) → AllText (λ v. reads_term v c) →
    (l m : ℕ) → l ≤ 1099511627776 →
    (u : Store ℤ) (a0 b0 c0 : ℤ) → value (on_words (plainly sh) level) a u ≡ Ok a0 → value (on_words (plainly sh) level) b u ≡ Ok b0 → value (on_words (plainly sh) level) c u ≡ Ok c0 → trips unmarked a0 b0 c0 ≡ Ok l → in_force (on_words (plainly sh) level) mark u ≡ Some m →
    (change : ℕ → Words → Words) (loops : ℕ → List LoopRun) (U U' : ℕ → Store ℤ) →
    U 0 ≡ set u (plain x) 0 (wrap a0) → ((j : ℕ) → j < l → U (suc j) ≡ set (U' j) (plain x) 0 (add (U' j (plain x) 0) c0)) → Steps q sh level cells line x g given name l a0 c0 change loops U U' →
    (at : ℕ) (base : Course) (f : Store ℤ) (t : List ℤ) → SameOn sh (w.needed (point_before i)) u f →
    let s : Step = record { name = name; given = given; read = g.read; mark = mark } in
    let run : LoopRun = record { mark = record { line = at; turns = l; snapshots = m }; step = step_units name g.callee g.read } in
    ReversedRow q sh level cells d x (joined (just (plain x)) (writes_actual g.callee given)) (w.needed (point_after i)) (w.held (point_after i)) (w.held (point_before i))
    (row_forward p i (suc d) line x a b c s) (row_backward p i (suc d) line x s) base (U l) f t (changes change 0 l) (run ∷ loops_of loops 0 l)
