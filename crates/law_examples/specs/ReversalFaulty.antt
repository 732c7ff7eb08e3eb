-- Emitted programs whose reversals have a fault: each is what is emitted by some marks, but for one thing. (docs/THEOREMS.md, "Reversals of marked loops")
use Rattle.std.specs.Prelude.{ℕ, pos, List, [], ◌∷◌, map, Bool, true, codes, if◌then◌else◌}
use Rattle.adj_tree.specs.Code.{Var, plain, name_eq, var_eq, minus, lit, var, neg, bin, none, assign, loop, call, runtime, push_word, pop_word, begin_reversal, count_actions, give_action, end_reversal, stop, step, Procedure}
use Rattle.def_sweep.specs.Adjoint.{IsAdjointWith}
use Rattle.def_sweep.specs.Marking.{ProgramMarks}
use Rattle.def_sweep.specs.Plan.{actuals_named}
use Rattle.def_sweep.specs.Program.{emitted_program_with}
use Rattle.def_sweep.specs.ReversalCode.{as_slots}
use Rattle.def_sweep.specs.Reversals.{ReversedLines}
use Rattle.law_examples.specs.Faulty.{Change, with_change}

-- what is emitted by marks, where marked loops are reversed by schedules or aren't, with its statements changed
abbrev pub faulty_program : (schedules : Bool) → Change → ProgramMarks → List Procedure → ℕ → List Bool → List Bool → List Procedure
faulty_program schedules f m ps head vars outvars = map (with_change f) (emitted_program_with schedules m ps head vars outvars)

-- it is an adjoint that reverses the loops at these lines
abbrev pub Serve : (schedules : Bool) → Change → ReversedLines → ProgramMarks → List Procedure → ℕ → List Bool → List Bool → Type 0
Serve schedules f lines m ps head vars outvars = IsAdjointWith true lines m ps head vars outvars (faulty_program schedules f m ps head vars outvars)

-- ---- changes

-- the snapshot that was pushed before the loop stays on the tape
abbrev pub unpopped : Change
unpopped line (runtime (pop_word x subs)) (step at (runtime (begin_reversal l s)) rest) = step at (runtime (begin_reversal l s)) rest
unpopped line a rest = step line a rest

-- what is popped for another advance isn't pushed again
abbrev pub unkept : Change
unkept line (runtime (pop_word x subs)) (step at (runtime (push_word y others)) stop) = step line (runtime (pop_word x subs)) stop
unkept line a rest = step line a rest

-- an advance makes one step more
abbrev pub farther : Change
farther line (loop x first (bin minus last (lit z)) by body m) rest = step line (loop x first last by body m) rest
farther line a rest = step line a rest

-- nothing ends the reversal
abbrev pub unended : Change
unended line (runtime end_reversal) rest = rest
unended line a rest = step line a rest

-- turns that are gone through backward stand in a reversal of two steps with one snapshot
abbrev pub enclosed : Change
enclosed line (loop x first last (neg e) body m) rest =
    step line (runtime (begin_reversal (lit (pos 2)) (lit (pos 1)))) (step line (loop x first last (neg e) body m) (step line (runtime end_reversal) rest))
enclosed line a rest = step line a rest

-- the helper that has the number of snapshots of a loop
abbrev held : Var
held = plain (codes "ADS1")

-- it isn't pushed and popped
abbrev pub unheld : Change
unheld line (runtime (push_word x subs)) rest = if var_eq x held then rest else step line (runtime (push_word x subs)) rest
unheld line (runtime (pop_word x subs)) rest = if var_eq x held then rest else step line (runtime (pop_word x subs)) rest
unheld line a rest = step line a rest

-- it gets the value of a variable behind the loop
abbrev pub late : List ℕ → Change
late x line (runtime (push_word y subs)) rest = if var_eq y held then step line (assign held none (as_slots (plain x))) (step line (runtime (push_word y subs)) rest) else step line (runtime (push_word y subs)) rest
late x line a rest = step line a rest

-- a variable itself stands in the place of it
abbrev pub unbounded : List ℕ → Change
unbounded x line (runtime (begin_reversal l s)) rest = step line (runtime (begin_reversal l (var (plain x)))) rest
unbounded x line (runtime (count_actions l s n)) rest = step line (runtime (count_actions l (var (plain x)) n)) rest
unbounded x line (runtime (give_action l s k a f t)) rest = step line (runtime (give_action l (var (plain x)) k a f t)) rest
unbounded x line a rest = step line a rest

-- the adjoint of the step unit gets the larger array C with its extent M in place of A with N
abbrev pub enlarged : Change
enlarged line (call name args) rest =
    if name_eq name (codes "S_B") then step line (call name (actuals_named (codes "X" ∷ codes "XB" ∷ codes "C" ∷ codes "CB" ∷ codes "M" ∷ codes "MB" ∷ []))) rest else step line (call name args) rest
enlarged line a rest = step line a rest
