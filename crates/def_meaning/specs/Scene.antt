-- What a run has in hand, and how it ends. (docs/RUNNING.md, "Runs")
use Rattle.std.specs.Prelude.{ℕ, zero, suc, ℤ, List, [], ◌∷◌, length, map, reverse, nat_lt, Bool, true, Result, Ok, Err, Option, Some, None, if◌then◌else◌}
use Rattle.adj_tree.specs.Code.{Var}
use Rattle.def_meaning.specs.Trap.{Trap, tape_trap}
use Rattle.def_meaning.specs.Store.{Store, set}
use Rattle.def_meaning.specs.Value.{Setting}
use Rattle.def_meaning.specs.Event.{Event}

-- what a run has in hand within a unit
pub record Scene (C : Type 0) : Type 0 where
  -- the cells of the unit's variables
  pub store : Store C
  -- the tape, from its top down
  pub tape : List C
  -- how many reversals this entry of the unit has open
  pub opened : ℕ
  -- what happened so far, the last first
  pub events : List Event

-- what stands where a run stops
pub record Stand : Type 0 where
  -- the words on the tape, from its top down
  pub tape : List ℤ
  -- what happened up to there, in order of time
  pub events : List Event

-- what stands where a run stops in a scene
abbrev pub stand : {C : Type 0} → Setting C → Scene C → Stand
stand n s = record { tape = map n.numbers.shown s.tape; events = reverse s.events }

-- how a run ends
pub data Outcome (R : Type 0) : Type 0 where
  -- with a result, and the number of statements that are left; for the run of a whole unit, the number that was used
  Done : R → ℕ → Outcome R
  -- by a trap, at a line
  Trapped : Trap → ℕ → Stand → Outcome R
  -- all statements were used up, and there is more to do
  More : Stand → Outcome R
  -- a word is to be pushed, and the tape is full
  Full : Stand → Outcome R

-- what goes on from a scene with a number of statements
abbrev pub Go : Type 0 → Type 0
Go C = Scene C → ℕ → Outcome (Scene C)

-- goes on where the run is done
abbrev pub then_do : {A B : Type 0} → Outcome A → (A → ℕ → Outcome B) → Outcome B
then_do (Done a k) go = go a k
then_do (Trapped t line w) go = Trapped t line w
then_do (More w) go = More w
then_do (Full w) go = Full w

-- the run has more to do
abbrev pub IsMore : {R : Type 0} → Outcome R → Type 0
IsMore (Done a k) = ⊥
IsMore (Trapped t line w) = ⊥
IsMore (More w) = Unit {0}
IsMore (Full w) = ⊥

-- goes on with a value, or traps at the line of the statement that is being done
abbrev pub with_value : {A B : Type 0} → Result A Trap → ℕ → Stand → (A → Outcome B) → Outcome B
with_value (Ok a) line w go = go a
with_value (Err t) line w go = Trapped t line w

-- counts a statement before it is done; where none is left it isn't done
abbrev pub counted : {B : Type 0} → Stand → ℕ → (ℕ → Outcome B) → Outcome B
counted w zero go = More w
counted w (suc k) go = go k

-- ---- the tape

-- whether a tape with so many words has room for one more
abbrev pub has_room : Option ℕ → ℕ → Bool
has_room None m = true
has_room (Some most) m = nat_lt m most

-- one word more
abbrev pub pushed : {C : Type 0} → Setting C → C → Go C
pushed n c s k = if has_room n.room (length s.tape) then Done (record s { tape = c ∷ s.tape }) k else Full (stand n s)

-- some words more, one by one
abbrev pub pushed_all : {C : Type 0} → Setting C → List C → Go C
pushed_all n [] s k = Done s k
pushed_all n (c ∷ cs) s k = then_do (pushed n c s k) (pushed_all n cs)

-- goes on with the word on top and the tape below it
abbrev pub with_top : {B C : Type 0} → List C → ℕ → Stand → (C → List C → Outcome B) → Outcome B
with_top [] line w go = Trapped tape_trap line w
with_top (c ∷ cs) line w go = go c cs

-- the word on top goes into a cell
abbrev pub popped : {C : Type 0} → Setting C → Var → ℕ → ℕ → Go C
popped n x i line s k = with_top s.tape line (stand n s) (λ c cs. Done (record s { store = set s.store x i c; tape = cs }) k)

-- words from the top go into the cells below m, the last cell first
abbrev pub popped_all : {C : Type 0} → Setting C → Var → ℕ → ℕ → Go C
popped_all n x zero line s k = Done s k
popped_all n x (suc i) line s k = then_do (popped n x i line s k) (popped_all n x i line)
