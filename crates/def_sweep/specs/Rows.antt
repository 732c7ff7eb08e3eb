-- The rows of the sweeps, one for each kind of statement. (docs/EMITTED.md, "Sweeps")
-- Variables are told apart by what they hold; names come by one renaming of the whole.
use Rattle.std.specs.Prelude.{ℕ, pos, List, [], ◌∷◌, Bool, true, false, ◌&&◌, if◌then◌else◌}
use Rattle.adj_tree.specs.Code.{Var, plain, shadow, helper, control, first, stride, count, turn, plus, minus, times, is_same, Term, lit, var, neg, bin, Terms, none, more, Test, compare, unmarked, Act, assign, choose, loop, during, call, runtime, push_word, pop_word, push_array, pop_array, push_control, pop_control, Code, stop, step}
use Rattle.def_meaning.specs.Append.{◌+++◌, one}
use Rattle.def_names.specs.Numbers.{Vars}
use Rattle.def_sweep.specs.Marks.{Marks}
use Rattle.def_names.specs.Numbering.{point_before}
use Rattle.def_sweep.specs.Marked.{code_if}
use Rattle.def_sweep.specs.Plan.{Callee, Plan}

-- no statement
abbrev pub is_empty : Code → Bool
is_empty stop = true
is_empty (step line a c) = false

-- ---- variables pushed and popped: an array whole

abbrev pub push : Plan → ℕ → List ℕ → Code
push p line x = one line (runtime (if p.arrays (plain x) then push_array (plain x) else push_word (plain x) none))

abbrev pub pop : Plan → ℕ → List ℕ → Code
pop p line x = one line (runtime (if p.arrays (plain x) then pop_array (plain x) else pop_word (plain x) none))

-- in order
abbrev pub pushes : Plan → ℕ → List (List ℕ) → Code
pushes p line [] = stop
pushes p line (x ∷ xs) = push p line x +++ pushes p line xs

-- in the opposite order
abbrev pub pops : Plan → ℕ → List (List ℕ) → Code
pops p line [] = stop
pops p line (x ∷ xs) = pops p line xs +++ pop p line x

-- the words of loops and branches, in scalars of their own
abbrev pub push_own : ℕ → Var → Code → Code
push_own line x rest = step line (runtime (push_word x none)) rest

abbrev pub pop_own : ℕ → Var → Code → Code
pop_own line x rest = step line (runtime (pop_word x none)) rest

abbrev pub set_own : ℕ → Var → Term → Code → Code
set_own line x e rest = step line (assign x none e) rest

abbrev pub literal : ℕ → Term
literal n = lit (pos n)

-- ---- the rows of the table

-- the forward sweep of a part of an IF; where a part has a backward sweep, each part tells that it ran
abbrev pub told_forward : Bool → ℕ → Code → ℕ → Code
told_forward true line c n = c
told_forward false line c n = c +++ one line (runtime (push_control (literal n)))

-- the backward sweep of an IF: of the part that ran
abbrev pub told_backward : Bool → ℕ → Code → Code → Code
told_backward true line a b = stop
told_backward false line a b =
    step line (runtime (pop_control (helper control 0)))
    (one line (choose (compare is_same (var (helper control 0)) (literal 1)) a b))

-- a DO of depth d whose body has this forward sweep; `idle` where the body has no backward sweep
abbrev pub loop_forward : Bool → ℕ → ℕ → Var → Term → Term → Term → Code → Code
loop_forward true d line x a b c body = one line (loop x a b c body unmarked)
loop_forward false d line x a b c body =
    set_own line (helper first d) a
    (set_own line (helper stride d) c
    (set_own line (helper count d) (literal 0)
    (step line (loop x (var (helper first d)) b (var (helper stride d)) (body +++ one line (assign (helper count d) none (bin plus (var (helper count d)) (literal 1)))) unmarked)
    (push_own line (helper first d)
    (push_own line (helper stride d)
    (push_own line (helper count d) stop))))))

-- its turns from the last to the first
abbrev pub loop_backward : Bool → ℕ → ℕ → Var → Code → Code
loop_backward true d line x body = stop
loop_backward false d line x body =
    pop_own line (helper count d)
    (pop_own line (helper stride d)
    (pop_own line (helper first d)
    (one line (loop (helper turn d) (bin minus (var (helper count d)) (literal 1)) (literal 0) (neg (literal 1))
    (set_own line x (bin plus (var (helper first d)) (bin times (var (helper turn d)) (var (helper stride d)))) body) unmarked))))

-- a DO WHILE of depth d whose body has this forward sweep
abbrev pub while_forward : Bool → ℕ → ℕ → Test → Code → Code
while_forward true d line c body = one line (during c body)
while_forward false d line c body =
    set_own line (helper count d) (literal 0)
    (step line (during c (body +++ one line (assign (helper count d) none (bin plus (var (helper count d)) (literal 1)))))
    (push_own line (helper count d) stop))

-- its turns from the last to the first
abbrev pub while_backward : Bool → ℕ → ℕ → Code → Code
while_backward true d line body = stop
while_backward false d line body =
    pop_own line (helper count d)
    (one line (loop (helper turn d) (bin minus (var (helper count d)) (literal 1)) (literal 0) (neg (literal 1)) body unmarked))

-- a DO sets the shadow of its variable to 0 where that has one and is varied before it
abbrev pub resets : Marks → ℕ → List ℕ → Bool
resets m i x = m.shadowed (plain x) && m.varied (point_before i) (plain x)

abbrev pub reset : Marks → ℕ → ℕ → List ℕ → Code
reset m i line x = code_if (resets m i x) (one line (assign (shadow x) none (literal 0)))

-- the actuals of the call of an adjoint: each followed by its shadow where the dummy has one
abbrev pub with_shadows : Vars → List (List ℕ) → List (List ℕ) → Terms
with_shadows shadowed [] given = none
with_shadows shadowed (d ∷ ds) [] = none
with_shadows shadowed (d ∷ ds) (a ∷ given) =
    if shadowed (plain d) then more (var (plain a)) (more (var (shadow a)) (with_shadows shadowed ds given)) else more (var (plain a)) (with_shadows shadowed ds given)

-- the call of the adjoint of a unit
abbrev pub adjoint_call : Callee → List (List ℕ) → Act
adjoint_call g given = call g.adjoint (with_shadows g.shadowed g.dummies given)
