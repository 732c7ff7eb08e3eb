-- Emitted programs with a fault: each is what is emitted by some marks, but for one thing. (docs/THEOREMS.md, "Sweeps of every statement")
use Rattle.std.specs.Prelude.{ℕ, nat_lt, pos, List, map, Bool, if◌then◌else◌, None}
use Rattle.adj_tree.specs.Code.{plain, name_eq, plus, times, greater, lit, var, neg, bin, power_of, none, Act, assign, choose, loop, during, call, runtime, push_control, push_word, pop_word, begin_reversal, end_reversal, Code, stop, step, Procedure}
use Rattle.def_sweep.specs.Marking.{ProgramMarks}
use Rattle.def_sweep.specs.Program.{emitted_program}
use Rattle.def_sweep.specs.Adjoint.{IsAdjoint}

-- what becomes of a statement at a line and of what follows it
abbrev pub Change : Type 0
Change = ℕ → Act → Code → Code

-- changes at each statement: what stands in it and behind it is changed first
abbrev mutual
  pub changed_act : Change → Act → Act
  changed_act f (assign x subs e) = assign x subs e
  changed_act f (choose c a b) = choose c (changed f a) (changed f b)
  changed_act f (loop x first last by body m) = loop x first last by (changed f body) m
  changed_act f (during c body) = during c (changed f body)
  changed_act f (call name args) = call name args
  changed_act f (runtime r) = runtime r

  pub changed : Change → Code → Code
  changed f stop = stop
  changed f (step line a rest) = f line (changed_act f a) (changed f rest)

abbrev pub with_change : Change → Procedure → Procedure
with_change f u = record u { body = changed f u.body }

-- what is emitted by marks, with its statements changed
abbrev pub faulty_program : Change → ProgramMarks → List Procedure → ℕ → List Bool → List Bool → List Procedure
faulty_program f m ps head vars outvars = map (with_change f) (emitted_program m ps head vars outvars)

-- with that change it is an adjoint
abbrev pub Serve : Change → ProgramMarks → List Procedure → ℕ → List Bool → List Bool → Type 0
Serve f m ps head vars outvars = IsAdjoint (λ line. None) m ps head vars outvars (faulty_program f m ps head vars outvars)

-- what is emitted by marks is no adjoint
abbrev pub Fail : ProgramMarks → List Procedure → ℕ → List Bool → List Bool → Type 0
Fail m ps head vars outvars = IsAdjoint (λ line. None) m ps head vars outvars (emitted_program m ps head vars outvars) → ⊥

-- ---- changes

-- none
abbrev pub unchanged : Change
unchanged line a rest = step line a rest

-- assignment: a value is pushed after it
abbrev pub pushed_after : Change
pushed_after line (runtime (push_word x subs)) (step at (assign y others e) rest) = step at (assign y others e) (step line (runtime (push_word x subs)) rest)
pushed_after line a rest = step line a rest

-- assignments: statements stand by their lines, so that the adjoints of assignments come in the order of the text
abbrev pub unreversed : Change
unreversed line a stop = step line a stop
unreversed line a (step at b rest) = if nat_lt at line then step at b (unreversed line a rest) else step line a (step at b rest)

-- assignment: a shadow is set to what it is to grow by
abbrev pub assigned : Change
assigned line (assign (plain x) none (bin plus (var (plain y)) b)) rest = if name_eq x y then step line (assign (plain x) none b) rest else step line (assign (plain x) none (bin plus (var (plain y)) b)) rest
assigned line a rest = step line a rest

-- assignment: the sign of an operand's adjoint is lost
abbrev pub unsigned : Change
unsigned line (assign x subs (neg e)) rest = step line (assign x subs e) rest
unsigned line a rest = step line a rest

-- assignment: the shadow of its target isn't set to 0
abbrev pub uncleared : Change
uncleared line (assign x subs (lit z)) rest = rest
uncleared line a rest = step line a rest

-- assignment: nothing is popped
abbrev pub unpopped : Change
unpopped line (runtime (pop_word x subs)) rest = rest
unpopped line a rest = step line a rest

-- assignment: before a value is pushed a reversal of no steps is begun and ended
abbrev pub replayed : Change
replayed line (runtime (push_word x subs)) rest = step line (runtime (begin_reversal (lit (pos 0)) (lit (pos 1)))) (step line (runtime end_reversal) (step line (runtime (push_word x subs)) rest))
replayed line a rest = step line a rest

-- IF: the control word that tells which part ran is forgotten
abbrev pub untold : Change
untold line (runtime (push_control e)) rest = rest
untold line a rest = step line a rest

-- DO: the turns are gone through from the first to the last
abbrev pub unturned : Change
unturned line (loop x first last (neg e) body m) rest = step line (loop x last first (lit (pos 1)) body m) rest
unturned line a rest = step line a rest

-- DO: a scalar, its variable, is neither pushed nor popped
abbrev pub unrestored : List ℕ → Change
unrestored x line (runtime (push_word (plain y) subs)) rest = if name_eq x y then rest else step line (runtime (push_word (plain y) subs)) rest
unrestored x line (runtime (pop_word (plain y) subs)) rest = if name_eq x y then rest else step line (runtime (pop_word (plain y) subs)) rest
unrestored x line a rest = step line a rest

-- DO: a shadow isn't set to 0 where that comes right behind a pop
abbrev pub unreset : Change
unreset line (runtime (pop_word x subs)) (step at (assign y none (lit z)) rest) = step line (runtime (pop_word x subs)) rest
unreset line a rest = step line a rest

-- DO WHILE: a scalar, the count of its turns, isn't raised
abbrev pub uncounted : List ℕ → Change
uncounted x line (assign (plain y) none (bin plus a b)) rest = if name_eq x y then rest else step line (assign (plain y) none (bin plus a b)) rest
uncounted x line a rest = step line a rest

-- CALL: there is no snapshot, so that one of the two pushes before it is left out, and the pop before the call of the adjoint
abbrev pub unsnapped : Change
unsnapped line (runtime (push_word x subs)) (step at (runtime (push_word y others)) (step to (call name args) rest)) = step at (runtime (push_word y others)) (step to (call name args) rest)
unsnapped line (runtime (pop_word x subs)) (step at (call name args) rest) = step at (call name args) rest
unsnapped line a rest = step line a rest

-- CALL: what was saved is popped before the adjoint is called
abbrev pub popped_before : Change
popped_before line (call name args) (step at (runtime (pop_word x subs)) rest) = step at (runtime (pop_word x subs)) (step line (call name args) rest)
popped_before line a rest = step line a rest

-- power: its exponent is lowered by 1 without a guard
abbrev pub unguarded : Change
unguarded line (assign x subs (bin times w (power_of b (bin greater e z)))) rest = step line (assign x subs (bin times w (power_of b e))) rest
unguarded line a rest = step line a rest
