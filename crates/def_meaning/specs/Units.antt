-- Units, calls, and what a program does. (docs/RUNNING.md, "Calls" and "Runs")
use Rattle.std.specs.Prelude.{ℕ, zero, suc, ◌-◌, ◌==◌, ℤ, pos, int_le, ◌*ℤ◌, List, [], ◌∷◌, map, reverse, length, Bool, true, false, ◌&&◌, ◌||◌, Result, Ok, Option, Some, None, if◌then◌else◌}
use Rattle.adj_tree.specs.Code.{Var, plain, var_eq, Term, lit, var, elem, neg, bin, pow, power_of, abs, Terms, none, more, Extent, fixed, given, Declaration, Procedure}
use Rattle.adj_word.specs.Word.{at_least_zero}
use Rattle.def_meaning.specs.Trap.{Trap, shape_trap, schedule_trap, then_ok}
use Rattle.def_meaning.specs.Numbers.{Numbers}
use Rattle.def_meaning.specs.Store.{Shape, scalar, size_of, Store, set, set_all, cells_from}
use Rattle.def_meaning.specs.Value.{Setting, value, values, cell_at}
use Rattle.def_meaning.specs.Event.{Event, Enter}
use Rattle.def_meaning.specs.Scene.{Scene, Stand, Go, Outcome, Done, Trapped, More, Full, stand, then_do, with_value}
use Rattle.def_meaning.specs.Run.{Calls, run}
use Rattle.def_meaning.specs.Written.{find_unit, handed_back}

-- ---- shapes

-- the extents that a unit declares for a variable, none for a scalar
abbrev pub declared : List Declaration → Var → List Extent
declared [] x = []
declared (d ∷ ds) x = if var_eq x (plain d.name) then d.extents else declared ds x

-- the word of an extent: a literal, or what a scalar dummy holds at the unit's entry
abbrev pub extent_in : {C : Type 0} → Numbers C → Store C → Extent → ℤ
extent_in n s (fixed z) = z
extent_in n s (given x) = n.shown (s (plain x) 0)

-- the extents of a variable at the unit's entry
abbrev pub extents_of : {C : Type 0} → Numbers C → Procedure → Store C → Var → List ℤ
extents_of n u s x = map (extent_in n s) (declared u.declarations x)

abbrev pub shape_of : List ℤ → Shape
shape_of [] = scalar
shape_of (a ∷ []) = record { rows = at_least_zero a; cols = 0 }
shape_of (a ∷ b ∷ _) = record { rows = at_least_zero a; cols = at_least_zero b }

-- each extent is at least 1
abbrev pub are_extents : List ℤ → Bool
are_extents [] = true
are_extents (a ∷ zs) = int_le (pos 1) a && are_extents zs

-- how many elements an array of these extents has
abbrev pub elements : List ℤ → ℤ
elements [] = pos 1
elements (a ∷ zs) = a *ℤ elements zs

-- the extents are at least 1, the elements at most 1048576, and the shape is theirs
abbrev pub shape_fits : List ℤ → Shape → Bool
shape_fits zs sh = are_extents zs && (int_le (elements zs) (pos 1048576) && ((shape_of zs).rows == sh.rows && (shape_of zs).cols == sh.cols))

-- ---- actuals

-- where a dummy is handed back to
pub data Place : Type 0 where
  -- a whole variable
  whole : Var → Place
  -- one cell of an array
  cell : Var → ℕ → Place
  -- an expression has no place
  nowhere : Place

-- what a dummy gets at a call
pub record Actual (C : Type 0) : Type 0 where
  pub shape : Shape
  pub cells : ℕ → C
  pub place : Place

-- one word as an actual
abbrev pub one_word : {C : Type 0} → C → Place → Actual C
one_word c p = record { shape = scalar; cells = λ j. c; place = p }

-- a name, an element whose subscripts are evaluated at the call, or a value
abbrev pub actual_of : {C : Type 0} → Setting C → Term → Store C → Result (Actual C) Trap
actual_of n (var x) s = Ok (record { shape = n.shape x; cells = s x; place = whole x })
actual_of n (elem x subs) s = then_ok (values n subs s) (λ is. then_ok (cell_at n x is) (λ i. Ok (one_word (s x i) (cell x i))))
actual_of n (lit z) s = then_ok (value n (lit z) s) (λ c. Ok (one_word c nowhere))
actual_of n (neg a) s = then_ok (value n (neg a) s) (λ c. Ok (one_word c nowhere))
actual_of n (bin op a b) s = then_ok (value n (bin op a b) s) (λ c. Ok (one_word c nowhere))
actual_of n (pow a k) s = then_ok (value n (pow a k) s) (λ c. Ok (one_word c nowhere))
actual_of n (power_of a b) s = then_ok (value n (power_of a b) s) (λ c. Ok (one_word c nowhere))
actual_of n (abs a) s = then_ok (value n (abs a) s) (λ c. Ok (one_word c nowhere))

-- the actuals of a call, from left to right
abbrev pub actuals : {C : Type 0} → Setting C → Terms → Store C → Result (List (Actual C)) Trap
actuals n none s = Ok []
actuals n (more e es) s = then_ok (actual_of n e s) (λ a. then_ok (actuals n es s) (λ got. Ok (a ∷ got)))

-- the cells at a place become others
abbrev pub put : {C : Type 0} → Place → (ℕ → C) → Store C → Store C
put (whole x) cs s = set_all s x cs
put (cell x i) cs s = set s x i (cs 0)
put nowhere cs s = s

-- ---- units

-- the store at a unit's entry: each dummy holds its actual, and every other variable 0
abbrev pub entry_store : {C : Type 0} → Numbers C → List (List ℕ) → List (Actual C) → Store C
entry_store n [] got = λ x j. n.of_word (pos 0)
entry_store n (d ∷ ds) [] = λ x j. n.of_word (pos 0)
entry_store n (d ∷ ds) (a ∷ got) = set_all (entry_store n ds got) (plain d) a.cells

-- whether each dummy array fits its actual
abbrev pub dummies_fit : {C : Type 0} → Numbers C → Procedure → Store C → List (List ℕ) → List (Actual C) → Bool
dummies_fit n u s [] got = true
dummies_fit n u s (d ∷ ds) [] = true
dummies_fit n u s (d ∷ ds) (a ∷ got) =
    (length (declared u.declarations (plain d)) == 0 || shape_fits (extents_of n u s (plain d)) a.shape) && dummies_fit n u s ds got

-- the caller's store with each dummy that is written copied out to its place, in order; `t` is the unit's store at its end
abbrev pub copied_out : {C : Type 0} → List (List ℕ) → List Bool → List (Actual C) → Store C → Store C → Store C
copied_out [] ws got t s = s
copied_out (d ∷ ds) [] got t s = s
copied_out (d ∷ ds) (w ∷ ws) [] t s = s
copied_out (d ∷ ds) (w ∷ ws) (a ∷ got) t s = copied_out ds ws got t (if w then put a.place (t (plain d)) s else s)

-- the setting within a unit that was entered with a store
abbrev pub setting_in : {C : Type 0} → Setting C → Procedure → Store C → Setting C
setting_in n u s = record n { shape = λ x. shape_of (extents_of n.numbers u s x); level = suc n.level }

-- the shapes of a unit's dummies in the setting within it, in order
abbrev pub dummy_shapes : {C : Type 0} → Setting C → Procedure → List Shape
dummy_shapes n u = map (λ d. n.shape (plain d)) u.dummies

-- the scene at a unit's entry
abbrev pub entered : {C : Type 0} → Setting C → Procedure → Scene C → Scene C
entered n u s = record s { opened = 0; events = Enter u.name (suc n.level) (length s.tape) (dummy_shapes (setting_in n u s.store) u) ∷ s.events }

-- a unit from its entry to its end, where no reversal may be open; it was called at the line
abbrev pub unit_run : {C : Type 0} → Calls C → Setting C → Procedure → ℕ → Go C
unit_run calls n u line s k =
    then_do (run calls (setting_in n u s.store) u.body (entered n u s) k) (λ s1 j. if s1.opened == 0 then Done s1 j else Trapped schedule_trap line (stand n s1))

-- ---- calls

-- a call of a unit that was found, where `inner` says what calls within it do, and `ws` which of its dummies are written.
-- (A program whose calls were checked has no call of a unit that isn't there.)
abbrev pub call_in : {C : Type 0} → Calls C → Setting C → List Bool → Option Procedure → Terms → ℕ → Go C
call_in inner n ws None args line s k = Trapped shape_trap line (stand n s)
call_in inner n ws (Some u) args line s k =
    with_value (actuals n args s.store) line (stand n s) (λ got.
    if dummies_fit n.numbers u (entry_store n.numbers u.dummies got) u.dummies got
    then then_do (unit_run inner n u line (record s { store = entry_store n.numbers u.dummies got }) k)
    (λ s1 j. Done (record s { store = copied_out u.dummies ws got s1.store s.store; tape = s1.tape; events = s1.events }) j)
    else Trapped shape_trap line (stand n s))

-- the calls of a program's units, at most `depth` within one another
abbrev pub calls_of : {C : Type 0} → List Procedure → ℕ → Calls C
calls_of units zero n name args line s k = More (stand n s)
calls_of units (suc depth) n name args line s k = call_in (calls_of units depth) n (handed_back units name) (find_unit units name) args line s k

-- ---- a run of a unit of a program

-- what a dummy holds: its rows and columns, and its cells in storage order
pub record Slot (C : Type 0) : Type 0 where
  pub shape : Shape
  pub cells : List C

-- the cell of a list, and 0 past its end
abbrev pub nth_cell : {C : Type 0} → Numbers C → List C → ℕ → C
nth_cell n [] j = n.of_word (pos 0)
nth_cell n (c ∷ cs) zero = c
nth_cell n (c ∷ cs) (suc j) = nth_cell n cs j

-- a slot as what a dummy gets
abbrev pub from_slot : {C : Type 0} → Numbers C → Slot C → Actual C
from_slot n v = record { shape = v.shape; cells = nth_cell n v.cells; place = nowhere }

-- what a variable of that shape holds
abbrev pub slot_of : {C : Type 0} → Shape → (ℕ → C) → Slot C
slot_of sh cs = record { shape = sh; cells = cells_from cs 0 (size_of sh) }

-- the store of a unit that gets these slots
abbrev pub input_store : {C : Type 0} → Numbers C → Procedure → List (Slot C) → Store C
input_store n u input = entry_store n u.dummies (map (from_slot n) input)

-- whether a slot is one of these extents
abbrev pub slot_fits : {C : Type 0} → List ℤ → Slot C → Bool
slot_fits zs v = shape_fits zs v.shape && (length v.cells == size_of v.shape)

abbrev pub slots_fit : {C : Type 0} → Numbers C → Procedure → Store C → List (List ℕ) → List (Slot C) → Bool
slots_fit n u s [] [] = true
slots_fit n u s [] (v ∷ vs) = false
slots_fit n u s (d ∷ ds) [] = false
slots_fit n u s (d ∷ ds) (v ∷ vs) = slot_fits (extents_of n u s (plain d)) v && slots_fit n u s ds vs

-- an input fits a unit: one slot for each dummy, and each as declared, with extents that the input's own scalars give
abbrev pub fits : {C : Type 0} → Numbers C → Procedure → List (Slot C) → Bool
fits n u input = slots_fit n u (input_store n u input) u.dummies input

-- what a run that is done gives: the dummies in order, the tape from its top down, and the events in order of time
pub record Output (C : Type 0) : Type 0 where
  pub slots : List (Slot C)
  pub tape : List C
  pub events : List Event

-- the slots of the dummies, where the shapes are those at entry
abbrev pub dummy_slots : {C : Type 0} → Setting C → Procedure → Store C → List (Slot C)
dummy_slots n u s = map (λ d. slot_of (n.shape (plain d)) (s (plain d))) u.dummies

-- the run of a unit of a program on an input that fits, from a tape, with a room or none and at most k statements.
-- Each call costs a statement, so no chain of calls is longer than k.
abbrev pub run_unit : {C : Type 0} → Numbers C → List Procedure → Procedure → List (Slot C) → List C → Option ℕ → ℕ → Outcome (Output C)
run_unit n units u input tape room k =
    let outside : Setting _ = record { numbers = n; shape = λ x. scalar; room = room; level = 0 } in
    let start : Scene _ = record { store = input_store n u input; tape = tape; opened = 0; events = [] } in
    then_do (unit_run (calls_of units k) outside u u.line start k) (λ s left.
    Done (record { slots = dummy_slots (setting_in outside u start.store) u s.store; tape = s.tape; events = reverse s.events }) (k - left))

-- the tape and the events of a run on words, whether it was done or stopped
abbrev pub left_standing : Outcome (Output ℤ) → Stand
left_standing (Done out used) = record { tape = out.tape; events = out.events }
left_standing (Trapped t line w) = w
left_standing (More w) = w
left_standing (Full w) = w
