-- What the definitions say of the events of small runs, written out.
use Rattle.std.proofs.Common.{◌≡◌, inl, inr, ◌≤◌, ◌+◌, ◌*◌, ℕ, true, false, List, [], ◌∷◌, refl, arith}
use Rattle.std.specs.Prelude.{All}
use Rattle.std.proofs.lemmas.List.Elements.{All-head, All-tail}
use Rattle.adj_revolve.specs.Schedule.{schedule_of}
use Rattle.adj_revolve.proofs.PlayLemmas.{plays_least}
use Rattle.adj_revolve.proofs.ScheduleLemmas.{schedule_cost, schedule_plays}
use Rattle.adj_revolve.specs.LeastCost.{least_cost, greatest_up_to}
use Rattle.adj_revolve.specs.Binomial.{choose}
use Rattle.def_meaning.specs.Event.{Event, Enter, Begin, End}
use Rattle.def_sweep.specs.Reversals.{Called, Reversal, StepUnits, LoopRun, reversals_in, IsOfStep, Reverses}
use Rattle.def_meaning.specs.Store.{Shape, size_of}
use Rattle.law_sweep.proofs.Told.{IsBetween, between_all}

g : List ℕ
g = 71 ∷ []

gb : List ℕ
gb = 71 ∷ 66 ∷ []

abbrev call_of : List ℕ → ℕ → List Shape → Called
call_of name height shapes = record { unit = name; height = height; shapes = shapes }

-- the shape of an array with so many elements
abbrev row_of : ℕ → Shape
row_of n = record { rows = n; cols = 0 }

-- the one dummy of the step unit is in its snapshot
abbrev step_of : StepUnits
step_of = record { unit = g; adjoint = gb; taken = true ∷ []; taken_back = true ∷ false ∷ [] }

-- two steps with one snapshot of n words: a store, an advance, a turn, a drop and a turn. The adjoint of the upper step reverses a loop
-- of its own, of one step; the calls in that aren't direct in the outer reversal.
events : ℕ → List Event
unfolding g gb
events n =
    Enter (80 ∷ []) 1 0 []
    ∷ Begin 2 1 1 7
    ∷ Enter g 2 12 (row_of n ∷ [])
    ∷ Enter gb 2 12 (row_of n ∷ row_of n ∷ []) ∷ Begin 1 3 2 20 ∷ Enter (72 ∷ 66 ∷ []) 3 20 [] ∷ End 2
    ∷ Enter gb 2 7 (row_of n ∷ row_of n ∷ [])
    ∷ End 1
    ∷ Enter g 2 0 []
    ∷ []

-- two calls of the adjoint, the second by arrays of m elements
abbrev adjoints_of : ℕ → ℕ → List Called
adjoints_of n m = call_of gb 12 (row_of n ∷ row_of n ∷ []) ∷ call_of gb 7 (row_of m ∷ row_of m ∷ []) ∷ []

outer : ℕ → ℕ → Reversal
unfolding g gb
outer n m = record { steps = 2; snapshots = 1; start = 7; calls = call_of g 12 (row_of n ∷ []) ∷ adjoints_of n m; ended = true }

inner : Reversal
inner = record { steps = 1; snapshots = 3; start = 20; calls = call_of (72 ∷ 66 ∷ []) 20 [] ∷ []; ended = true }

as_said : (n : ℕ) → reversals_in (events n) ≡ outer n n ∷ inner ∷ []
unfolding events outer inner
as_said n = refl

abbrev two_turns : LoopRun
two_turns = record { mark = record { line = 3; turns = 2; snapshots = 1 }; step = step_of }

-- with 5 words it is the reversal of a run of two turns
right : Reverses two_turns (outer 5 5)
unfolding outer g gb least_cost greatest_up_to choose
right = record {
  steps = refl;
  snapshots = refl;
  ended = refl;
  fewest = λ actions plays. plays_least 2 1 actions (omega arith) plays;
  attained = (schedule_of 0 2 1, (schedule_plays 2 1 (omega arith), schedule_cost 0 2 1 (omega arith)));
  advances = refl;
  adjoints = refl;
  words = 5;
  within = between_all (IsOfStep step_of 5) 7 12 (outer 5 5).calls ((inl (refl, refl), (omega arith, omega arith)), ((inr (refl, refl), (omega arith, omega arith)), ((inr (refl, refl), (omega arith, omega arith)), tt)));
}

-- so many words has the snapshot of which a call speaks
words_said : (name : List ℕ) (height words n : ℕ) (shapes : List Shape) → IsOfStep step_of words (call_of name height (row_of n ∷ shapes)) → size_of (row_of n) ≡ words
words_said name height words n [] (inl k) = let e : size_of (row_of n) + 0 ≡ words = k.1 in omega (arith, e)
words_said name height words n [] (inr k) = let e : size_of (row_of n) + 0 ≡ words = k.1 in omega (arith, e)
words_said name height words n (s ∷ shapes) (inl k) = let e : size_of (row_of n) + 0 ≡ words = k.1 in omega (arith, e)
words_said name height words n (s ∷ shapes) (inr k) = let e : size_of (row_of n) + (0 + 0) ≡ words = k.1 in omega (arith, e)

-- with 4 words a snapshot the tape is too high
too_high : Reverses two_turns (outer 4 4) → ⊥
unfolding outer
too_high h =
    let first : IsBetween (IsOfStep step_of h.words) 7 (7 + 1 * h.words) (call_of g 12 (row_of 4 ∷ [])) = All-head (IsBetween (IsOfStep step_of h.words) 7 (7 + 1 * h.words)) (call_of g 12 (row_of 4 ∷ [])) (adjoints_of 4 4) h.within in
    let w : 4 ≡ h.words = words_said g 12 h.words 4 [] first.0 in
    let high : 12 ≤ 7 + 1 * h.words = first.1.1 in
    absurd (omega (arith, w, high))

-- and where the adjoint is called by a larger array, no number serves all calls
enlarged : Reverses two_turns (outer 5 6) → ⊥
unfolding outer
enlarged h =
    let P : Called → Type 0 = IsBetween (IsOfStep step_of h.words) 7 (7 + 1 * h.words) in
    let behind : All P (adjoints_of 5 6) = All-tail P (call_of g 12 (row_of 5 ∷ [])) (adjoints_of 5 6) h.within in
    let first : P (call_of gb 12 (row_of 5 ∷ row_of 5 ∷ [])) = All-head P (call_of gb 12 (row_of 5 ∷ row_of 5 ∷ [])) (call_of gb 7 (row_of 6 ∷ row_of 6 ∷ []) ∷ []) behind in
    let last : P (call_of gb 7 (row_of 6 ∷ row_of 6 ∷ [])) = All-head P (call_of gb 7 (row_of 6 ∷ row_of 6 ∷ [])) [] (All-tail P (call_of gb 12 (row_of 5 ∷ row_of 5 ∷ [])) (call_of gb 7 (row_of 6 ∷ row_of 6 ∷ []) ∷ []) behind) in
    let five : 5 ≡ h.words = words_said gb 12 h.words 5 (row_of 5 ∷ []) first.0 in
    let six : 6 ≡ h.words = words_said gb 7 h.words 6 (row_of 6 ∷ []) last.0 in
    absurd (omega (arith, five, six))

-- without its end it is no right reversal
unended : (r : LoopRun) → Reverses r (record { steps = 1; snapshots = 1; start = 0; calls = call_of gb 0 [] ∷ []; ended = false }) → ⊥
unended r h = let e : false ≡ true = h.ended in cc
