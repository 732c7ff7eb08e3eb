-- The row of a marked loop whose steps are reversed by a schedule. (docs/EMITTED.md, "Sweeps")
-- Rows take codes: `save` and `keep` push the two groups of the step call, `unsave` and `back` pop them, `plain_call` calls the step unit,
-- and `adjoint` its adjoint.
use Rattle.std.specs.Prelude.{ℕ, suc, List, not}
use Rattle.adj_tree.specs.Code.{Var, helper, first, stride, count, turn, Role, entry, entries, kind, lower, upper, slots, plus, minus, times, greater, lesser, is_same, Mark, unmarked, with_count, count_from, Term, var, bin, none, plain, compare, assign, choose, loop, call, runtime, begin_reversal, count_actions, give_action, end_reversal, Code, stop, step}
use Rattle.def_meaning.specs.Append.{◌+++◌, one}
use Rattle.def_sweep.specs.Marked.{code_if}
use Rattle.def_sweep.specs.Plan.{Plan, actuals_named, save_group, step_snapshot, Step}
use Rattle.def_sweep.specs.Rows.{is_empty, pushes, pops, push_own, pop_own, set_own, literal, adjoint_call}

-- the variable of a loop of depth d gets its value at the turn whose number a helper holds
abbrev pub at_turn : ℕ → ℕ → Var → Role → Code → Code
at_turn line d x r rest = set_own line x (bin plus (var (helper first d)) (bin times (var (helper r d)) (var (helper stride d)))) rest

-- what is done for the actions of one kind; an empty arm is left out
abbrev pub arm : ℕ → ℕ → ℕ → Code → Code
arm line d k c = code_if (not (is_empty c)) (one line (choose (compare is_same (var (helper kind d)) (literal k)) c stop))

-- the turns of an advance
abbrev pub advance : ℕ → ℕ → Var → Code → Code
advance line d x plain_call = one line (loop (helper turn d) (var (helper lower d)) (bin minus (var (helper upper d)) (literal 1)) (literal 1) (at_turn line d x turn plain_call) unmarked)

abbrev pub arms : ℕ → ℕ → Var → Code → Code → Code → Code → Code
arms line d x keep back plain_call adjoint =
    arm line d 1 keep
    +++ (arm line d 2 (advance line d x plain_call)
    +++ (arm line d 3 (at_turn line d x lower adjoint)
    +++ (arm line d 4 (back +++ keep)
    +++ arm line d 5 back)))

-- one action of the schedule, where the term m is the number of snapshots
abbrev pub one_action : ℕ → ℕ → Var → Term → Code → Code → Code → Code → Code
one_action line d x m keep back plain_call adjoint =
    step line (runtime (give_action (var (helper count d)) m (var (helper entry d)) (helper kind d) (helper lower d) (helper upper d)))
    (arms line d x keep back plain_call adjoint)

-- all of them in order
abbrev pub reversal : ℕ → ℕ → Var → Term → Code → Code → Code → Code → Code
reversal line d x m keep back plain_call adjoint =
    step line (runtime (begin_reversal (var (helper count d)) m))
    (step line (runtime (count_actions (var (helper count d)) m (helper entries d)))
    (step line (loop (helper entry d) (literal 1) (var (helper entries d)) (literal 1) (one_action line d x m keep back plain_call adjoint) unmarked)
    (one line (runtime end_reversal))))

-- ---- the number of snapshots of a loop of depth d, by its directive

-- a variable's value as one: 1 where it is below 1, and 64 where it is above 64
abbrev pub as_slots : Var → Term
as_slots x = bin lesser (bin greater (var x) (literal 1)) (literal 64)

-- the number in the reversal: that of the directive, or what a helper holds
abbrev pub slots_of : ℕ → Mark → Term
slots_of d unmarked = literal 0
slots_of d (with_count n) = literal n
slots_of d (count_from x) = var (helper slots d)

-- the helper gets it before the loop, and is pushed and popped with the loop's other helpers
abbrev pub set_slots : ℕ → ℕ → Mark → Code → Code
set_slots line d unmarked rest = rest
set_slots line d (with_count n) rest = rest
set_slots line d (count_from x) rest = set_own line (helper slots d) (as_slots x) rest

abbrev pub push_slots : ℕ → ℕ → Mark → Code → Code
push_slots line d unmarked rest = rest
push_slots line d (with_count n) rest = rest
push_slots line d (count_from x) rest = push_own line (helper slots d) rest

abbrev pub pop_slots : ℕ → ℕ → Mark → Code → Code
pop_slots line d unmarked rest = rest
pop_slots line d (with_count n) rest = rest
pop_slots line d (count_from x) rest = pop_own line (helper slots d) rest

-- the row: forward as other DO, but with the number of snapshots, with the groups pushed before the loop, and the step call only where it
-- is kept
abbrev pub reversed_forward : ℕ → ℕ → Var → Term → Term → Term → Mark → Code → Code → Code → Code
reversed_forward d line x a b c mark save keep plain_call =
    set_own line (helper first d) a
    (set_own line (helper stride d) c
    (set_slots line d mark
    (set_own line (helper count d) (literal 0)
    (save +++ (keep +++
    step line (loop x (var (helper first d)) b (var (helper stride d)) (plain_call +++ one line (assign (helper count d) none (bin plus (var (helper count d)) (literal 1)))) unmarked)
    (push_own line (helper first d)
    (push_own line (helper stride d)
    (push_slots line d mark
    (push_own line (helper count d) stop)))))))))

abbrev pub reversed_backward : ℕ → ℕ → Var → Mark → Code → Code → Code → Code → Code → Code
reversed_backward d line x mark keep back unsave plain_call adjoint =
    pop_own line (helper count d)
    (pop_slots line d mark
    (pop_own line (helper stride d)
    (pop_own line (helper first d)
    (back +++ (reversal line d x (slots_of d mark) keep back plain_call adjoint +++ unsave)))))

-- ---- the rows by a plan

-- in the forward sweep of the i-th statement, whose step call is the statement after it
abbrev pub row_forward : Plan → ℕ → ℕ → ℕ → List ℕ → Term → Term → Term → Step → Code
row_forward p i d line x a b c s =
    let g = p.callees s.name in
    reversed_forward d line (plain x) a b c s.mark (pushes p line (save_group p.marks i g s.given)) (pushes p line (step_snapshot g s.read s.given))
    (code_if (p.marks.kept (suc i)) (one line (call s.name (actuals_named s.given))))

-- and in the backward sweep
abbrev pub row_backward : Plan → ℕ → ℕ → ℕ → List ℕ → Step → Code
row_backward p i d line x s =
    let g = p.callees s.name in
    let snapshot = step_snapshot g s.read s.given in
    reversed_backward d line (plain x) s.mark (pushes p line snapshot) (pops p line snapshot) (pops p line (save_group p.marks i g s.given))
    (one line (call s.name (actuals_named s.given))) (one line (adjoint_call g s.given))
