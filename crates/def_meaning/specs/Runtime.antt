-- What the runtime calls do. (docs/RUNNING.md, "Runtime calls")
use Rattle.std.specs.Prelude.{ℕ, zero, suc, ◌+◌, ℤ, pos, List, ◌∷◌, length, slice_get, Result, Ok, Err}
use Rattle.adj_tree.specs.Code.{Runtime, push_word, pop_word, push_array, pop_array, push_control, pop_control, zero_array, begin_reversal, count_actions, give_action, end_reversal}
use Rattle.adj_revolve.specs.declared.machine.Action.{Action}
use Rattle.adj_revolve.specs.declared.machine.Action.TheVariants.{Store, Advance, Turn, Keep, Drop}
use Rattle.adj_revolve.specs.Schedule.{schedule_of}
use Rattle.def_meaning.specs.Trap.{Trap, schedule_trap, then_ok, or_trap, number_in}
use Rattle.def_meaning.specs.Store.{set, set_all, size_of, cells_from}
use Rattle.def_meaning.specs.Value.{Setting, value, target}
use Rattle.def_meaning.specs.Event.{Begin, End}
use Rattle.def_meaning.specs.Scene.{Scene, Go, Done, Trapped, stand, with_value, pushed, pushed_all, popped, popped_all}

-- a number of steps from 0 to 2 ^ 40
abbrev pub steps_of : ℤ → Result ℕ Trap
steps_of z = or_trap schedule_trap (number_in 0 1099511627776 z)

-- a number of snapshots from 1 to 64
abbrev pub snapshots_of : ℤ → Result ℕ Trap
snapshots_of z = or_trap schedule_trap (number_in 1 64 z)

-- the schedule of so many steps and snapshots
abbrev pub actions_of : ℤ → ℤ → Result (List Action) Trap
actions_of l m = then_ok (steps_of l) (λ steps. then_ok (snapshots_of m) (λ snapshots. Ok (schedule_of 0 steps snapshots)))

-- one action of a list, counted from 1
abbrev pub action_at : ℤ → List Action → Result Action Trap
action_at (pos (suc i)) list = or_trap schedule_trap (slice_get list i)
action_at z list = Err schedule_trap

-- the number by which a program knows a kind of action
abbrev pub kind_of : Action → ℕ
kind_of (Store p) = 1
kind_of (Advance p q) = 2
kind_of (Turn p) = 3
kind_of (Keep p) = 4
kind_of (Drop p) = 5

-- the place at which an action begins
abbrev pub lower_of : Action → ℕ
lower_of (Store p) = p
lower_of (Advance p q) = p
lower_of (Turn p) = p
lower_of (Keep p) = p
lower_of (Drop p) = p

-- the place at which it ends
abbrev pub upper_of : Action → ℕ
upper_of (Store p) = p
upper_of (Advance p q) = q
upper_of (Turn p) = p + 1
upper_of (Keep p) = p
upper_of (Drop p) = p

-- a number of the program for a natural number
abbrev pub number : {C : Type 0} → Setting C → ℕ → C
number n m = n.numbers.of_word (pos m)

-- the scene with a reversal more that is open
abbrev pub begun : {C : Type 0} → Setting C → ℕ → ℕ → Scene C → Scene C
begun n l m s = record s { opened = suc s.opened; events = Begin l m n.level (length s.tape) ∷ s.events }

-- the innermost open reversal ends
abbrev pub ended : {C : Type 0} → Setting C → ℕ → ℕ → Go C
ended n zero line s k = Trapped schedule_trap line (stand n s)
ended n (suc m) line s k = Done (record s { opened = m; events = End n.level ∷ s.events }) k

-- one runtime call, which was counted
abbrev pub runtime_act : {C : Type 0} → Setting C → Runtime → ℕ → Go C
runtime_act n (push_word x subs) line s k = with_value (target n x subs s.store) line (stand n s) (λ i. pushed n (s.store x i) s k)
runtime_act n (pop_word x subs) line s k = with_value (target n x subs s.store) line (stand n s) (λ i. popped n x i line s k)
runtime_act n (push_array x) line s k = pushed_all n (cells_from (s.store x) 0 (size_of (n.shape x))) s k
runtime_act n (pop_array x) line s k = popped_all n x (size_of (n.shape x)) line s k
runtime_act n (push_control e) line s k = with_value (value n e s.store) line (stand n s) (λ c. pushed n c s k)
runtime_act n (pop_control x) line s k = popped n x 0 line s k
runtime_act n (zero_array x) line s k = Done (record s { store = set_all s.store x (λ j. number n 0) }) k
runtime_act n (begin_reversal l m) line s k =
    with_value (value n l s.store) line (stand n s) (λ u. with_value (value n m s.store) line (stand n s) (λ v.
    with_value (steps_of (n.numbers.shown u)) line (stand n s) (λ steps. with_value (snapshots_of (n.numbers.shown v)) line (stand n s) (λ snapshots.
    Done (begun n steps snapshots s) k))))
runtime_act n (count_actions l m x) line s k =
    with_value (value n l s.store) line (stand n s) (λ u. with_value (value n m s.store) line (stand n s) (λ v.
    with_value (actions_of (n.numbers.shown u) (n.numbers.shown v)) line (stand n s) (λ list.
    Done (record s { store = set s.store x 0 (number n (length list)) }) k)))
runtime_act n (give_action l m e x y z) line s k =
    with_value (value n l s.store) line (stand n s) (λ u. with_value (value n m s.store) line (stand n s) (λ v. with_value (value n e s.store) line (stand n s) (λ w.
    with_value (actions_of (n.numbers.shown u) (n.numbers.shown v)) line (stand n s) (λ list. with_value (action_at (n.numbers.shown w) list) line (stand n s) (λ a.
    Done (record s { store = set (set (set s.store x 0 (number n (kind_of a))) y 0 (number n (lower_of a))) z 0 (number n (upper_of a)) }) k)))))
runtime_act n end_reversal line s k = ended n s.opened line s k
