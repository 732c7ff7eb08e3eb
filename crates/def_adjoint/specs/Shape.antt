-- What an emitted program looks like: which units it has, and what each adjoint, forward and backward unit keeps, saves, pushes and sets. It is told of the text
-- alone, statement by statement, whatever its helpers are; its line numbers count for nothing. (docs/EMITTED.md, "What the text looks like")
use Rattle.std.specs.Prelude.{◌≡◌, ℕ, suc, nat_lt, ◌-◌, pos, List, [], ◌∷◌, ◌++◌, map, flat_map, Bool, true, false, not, ◌&&◌, ◌||◌, Option, Some, None, if◌then◌else◌}
use Rattle.std.specs.List.{list_any, list_all}
use Rattle.adj_tree.specs.Code.{Var, plain, shadow, helper, name_eq, var_eq, lit, var, is_same, Terms, none, more, Test, compare, Runtime, push_word, pop_word, push_array, pop_array, push_control, zero_array, begin_reversal, count_actions, give_action, end_reversal, Mark, unmarked, with_count, count_from, Term, Act, assign, choose, loop, during, call, runtime, Code, stop, step, Procedure}
use Rattle.adj_tree.specs.Lines.{unlined_procedure, unlined}
use Rattle.def_meaning.specs.Append.{◌+++◌, one}
use Rattle.def_meaning.specs.Written.{find_unit}
use Rattle.def_meaning.specs.Units.{declared}
use Rattle.def_names.specs.Statements.{At, statements}
use Rattle.def_names.specs.Variables.{variables}
use Rattle.def_meaning.specs.Apart.{has_name}
use Rattle.def_sweep.specs.Callees.{nothing}
use Rattle.def_sweep.specs.Naming.{Named, unit_names, name_in}
use Rattle.def_names.specs.Numbers.{Vars, next, behind}
use Rattle.def_sweep.specs.Marks.{Marks}
use Rattle.def_sweep.specs.Marked.{names_in}
use Rattle.def_sweep.specs.MarkedProgram.{shadows_behind}
use Rattle.def_sweep.specs.Declared.{unit_name, unmarked as unlisted}
use Rattle.def_sweep.specs.Plan.{Plan, is_emitted, names_of, actuals_named, found_or, save_group, snapshot_group, step_snapshot, Schedules, Step, reversed_by}
use Rattle.def_sweep.specs.Names.{adjoint_name, forth_name, back_name}
use Rattle.def_sweep.specs.Marking.{ProgramMarks, first_statement, arrays_of, plan_in}
use Rattle.def_sweep.specs.Program.{has_adjoint, has_pair, all_units, left_by, split_plan, schedules_in}

-- ---- statements, at any depth, in text order

-- what a function gives of each
abbrev pub gathered : {X : Type 0} → (Act → List X) → Code → List X
gathered f c = flat_map (λ s. f s.1) (statements c)

-- the same by the numbers of the statements, of which the first is i
abbrev pub gathered_from : {X : Type 0} → (ℕ → Act → List X) → ℕ → List (At Act) → List X
gathered_from f i [] = []
gathered_from f i (s ∷ ss) = f i s.1 ++ gathered_from f (suc i) ss

-- The same of a list, of which the first statement is i, where some marked loops are reversed by schedules: of the one call in such a loop
-- another function gives what it does.
abbrev mutual
  pub gathered_act : {X : Type 0} → Schedules → (ℕ → Bool) → (ℕ → Act → List X) → (ℕ → Step → List X) → ℕ → Act → List X
  gathered_act r adjointed f g i (assign x subs e) = f i (assign x subs e)
  gathered_act r adjointed f g i (choose c a b) = f i (choose c a b) ++ (gathered_list r adjointed f g (suc i) a ++ gathered_list r adjointed f g (behind (suc i) a) b)
  gathered_act r adjointed f g i (loop x first last by body m) = f i (loop x first last by body m) ++ found_or (reversed_by r adjointed i body m) (gathered_list r adjointed f g (suc i) body) (g i)
  gathered_act r adjointed f g i (during c body) = f i (during c body) ++ gathered_list r adjointed f g (suc i) body
  gathered_act r adjointed f g i (call name args) = f i (call name args)
  gathered_act r adjointed f g i (runtime c) = f i (runtime c)

  pub gathered_list : {X : Type 0} → Schedules → (ℕ → Bool) → (ℕ → Act → List X) → (ℕ → Step → List X) → ℕ → Code → List X
  gathered_list r adjointed f g i stop = []
  gathered_list r adjointed f g i (step line a rest) = gathered_act r adjointed f g i a ++ gathered_list r adjointed f g (next i a) rest

-- ---- the names in an adjoint and in a backward unit

-- the names of the unit's variables and of their shadows
abbrev pub shadow_table : ProgramMarks → List Procedure → Procedure → Procedure → List Named
shadow_table m ps head u = unit_names (variables u) (all_units m ps head) (map shadow (names_in (m.shadowed u.name) (variables u)))

-- a variable of the kernel unit
abbrev pub is_own : Procedure → Vars
is_own u (plain x) = has_name x (variables u)
is_own u (shadow x) = false
is_own u (helper r k) = false

-- the shadow of one
abbrev pub is_shadow : ProgramMarks → List Procedure → Procedure → Procedure → Vars
is_shadow m ps head u (plain x) = has_name x (map (λ y. name_in (shadow_table m ps head u) (shadow y)) (names_in (m.shadowed u.name) (variables u)))
is_shadow m ps head u (shadow x) = false
is_shadow m ps head u (helper r k) = false

-- ---- what the forward sweep keeps

-- the statements of the unit's own: assignments to its variables, calls, and IFs and loops without what stands in them. The first value and
-- the step of a DO may be held by helpers, and its mark is dropped.
abbrev pub primal : Vars → Act → List Act
primal own (assign x subs e) = if own x then assign x subs e ∷ [] else []
primal own (choose c a b) = choose c stop stop ∷ []
primal own (loop x first last by body m) = loop x (lit (pos 0)) last (lit (pos 0)) stop unmarked ∷ []
primal own (during c body) = during c stop ∷ []
primal own (call name args) = call name args ∷ []
primal own (runtime r) = []

-- an assignment or a call stays where it is kept; an IF or a loop where it is kept or adjointed
abbrev pub stays : Marks → ℕ → Act → Bool
stays m i (assign x subs e) = m.kept i
stays m i (choose c a b) = is_emitted m i
stays m i (loop x first last by body n) = is_emitted m i
stays m i (during c body) = is_emitted m i
stays m i (call name args) = m.kept i
stays m i (runtime r) = false

-- a split call stays as the call of the forward unit
abbrev pub own_call : Plan → ℕ → Act → Act
own_call p i (call name args) = if p.marks.split i then call (p.callees name).forth args else call name args
own_call p i a = a

abbrev pub kept_of : Plan → Vars → ℕ → Act → List Act
kept_of p own i a = if stays p.marks i a then primal own (own_call p i a) else []

-- ---- what it pushes

-- the pushes of the unit's variables, of their elements and of its arrays
abbrev pub pushed : Vars → Act → List Runtime
pushed own (runtime (push_word x subs)) = if own x then push_word x subs ∷ [] else []
pushed own (runtime (push_array x)) = if own x then push_array x ∷ [] else []
pushed own _ = []

-- a variable whole
abbrev pub push_whole : Vars → List ℕ → Runtime
push_whole arrays x = if arrays (plain x) then push_array (plain x) else push_word (plain x) none

-- those that are due for a statement of the unit: its target or its variable, where that is saved, and the groups of a call that isn't split
abbrev pub due : Plan → ℕ → Act → List Runtime
due p i (assign x subs e) = if p.marks.kept i && p.marks.saved i x then push_word x subs ∷ [] else []
due p i (choose c a b) = []
due p i (loop x first last by body m) = if is_emitted p.marks i && p.marks.saved i x then push_word x none ∷ [] else []
due p i (during c body) = []
due p i (call name args) =
    let g = p.callees name in
    let given = names_of args in
    if is_emitted p.marks i && not (p.marks.split i)
    then map (push_whole p.arrays) (save_group p.marks i g given) ++ (if p.marks.adjointed i then map (push_whole p.arrays) (snapshot_group g given) else [])
    else []
due p i (runtime r) = []

-- and for the one call in a loop that is reversed by a schedule: the groups of its step, which are pushed before the loop
abbrev pub due_turns : Plan → ℕ → Step → List Runtime
due_turns p i s =
    let g = p.callees s.name in
    map (push_whole p.arrays) (save_group p.marks i g s.given) ++ map (push_whole p.arrays) (step_snapshot g s.read s.given)

-- nothing follows
abbrev pub is_last : Code → Bool
is_last stop = true
is_last (step line a rest) = false

abbrev pub is_bare : Terms → Bool
is_bare none = true
is_bare (more e es) = false

-- Whether any other push is of one word: of a control word that ends a part of an IF, or of one of at most four helpers behind a loop. `part`
-- tells whether the list is a part of an IF, and `room` how many helpers may be pushed before its first statement.
abbrev pub is_sparing : Vars → Vars → Bool → ℕ → Code → Bool
is_sparing own made part room stop = true
is_sparing own made part room (step line (assign x subs e) rest) = is_sparing own made part 0 rest
is_sparing own made part room (step line (choose c a b) rest) = is_sparing own made true 0 a && (is_sparing own made true 0 b && is_sparing own made part 0 rest)
is_sparing own made part room (step line (loop x first last by body m) rest) = is_sparing own made false 0 body && is_sparing own made part 4 rest
is_sparing own made part room (step line (during c body) rest) = is_sparing own made false 0 body && is_sparing own made part 4 rest
is_sparing own made part room (step line (call name args) rest) = is_sparing own made part 0 rest
is_sparing own made part room (step line (runtime (push_word x subs)) rest) =
    if own x then is_sparing own made part 0 rest else (not (made x) && is_bare subs) && (nat_lt 0 room && is_sparing own made part (room - 1) rest)
is_sparing own made part room (step line (runtime (push_array x)) rest) = own x && is_sparing own made part 0 rest
is_sparing own made part room (step line (runtime (push_control e)) rest) = part && is_last rest
is_sparing own made part room (step line (runtime r) rest) = is_sparing own made part 0 rest

-- the calls of the runtime
abbrev pub ran : Act → List Runtime
ran (runtime c) = c ∷ []
ran a = []

abbrev pub is_push : Runtime → Bool
is_push (push_word x subs) = true
is_push (push_array x) = true
is_push (push_control e) = true
is_push c = false

-- ---- what the sweeps set and call

-- the variables that a statement assigns, as an assignment, as a DO, by what a schedule is asked for, or as an array that is set to 0
abbrev pub assigned : Act → List Var
assigned (assign x subs e) = x ∷ []
assigned (loop x first last by body m) = x ∷ []
assigned (runtime (count_actions l s n)) = n ∷ []
assigned (runtime (give_action l s k a f t)) = a ∷ f ∷ t ∷ []
assigned (runtime (zero_array x)) = x ∷ []
assigned a = []

-- the variables of DOs
abbrev pub turned : Act → List Var
turned (loop x first last by body m) = x ∷ []
turned a = []

-- Whether a list assigns variables of the unit in bodies of loops alone, and there those in a set alone; `inside` says whether the list stands
-- in such a body.
abbrev mutual
  pub restores_act : Vars → Vars → Bool → Act → Bool
  restores_act own counts inside (assign x subs e) = list_all (λ v. not (own v) || (inside && counts v)) (assigned (assign x subs e))
  restores_act own counts inside (choose c a b) = restores own counts inside a && restores own counts inside b
  restores_act own counts inside (loop x first last by body m) = list_all (λ v. not (own v) || (inside && counts v)) (assigned (loop x first last by body m)) && restores own counts true body
  restores_act own counts inside (during c body) = restores own counts true body
  restores_act own counts inside (call name args) = true
  restores_act own counts inside (runtime r) = list_all (λ v. not (own v) || (inside && counts v)) (assigned (runtime r))

  pub restores : Vars → Vars → Bool → Code → Bool
  restores own counts inside stop = true
  restores own counts inside (step line a rest) = restores_act own counts inside a && restores own counts inside rest

-- the names of the units that are called
abbrev pub called : Act → List (List ℕ)
called (call name args) = name ∷ []
called a = []

-- ---- reversals

-- The variable that tells the turns of a DO their actions, where it goes through those of a schedule: each turn begins by asking for the
-- action that has the number of the turn.
abbrev pub told_in : Act → Option Var
told_in (loop x (lit z) last by (step line (runtime (give_action l s (var k) a f t)) rest) m) = if var_eq x k then Some a else None
told_in a = None

-- the action in which the first part of an IF is done: that of the number for which it tests this variable, else that of the IF
abbrev pub action_of : Option Var → ℕ → Test → ℕ
action_of (Some a) k (compare is_same (var x) (lit (pos n))) = if var_eq a x then n else k
action_of told k c = k

-- What a function gives of each statement of a list, at any depth and in text order, by the action of a reversal in which it is done; in
-- none this is 0. `told` is the variable that tells the action, where the list is what is done for one.
abbrev mutual
  pub done_act : {X : Type 0} → (ℕ → Act → List X) → Option Var → ℕ → Act → List X
  done_act f told k (assign x subs e) = f k (assign x subs e)
  done_act f told k (choose c a b) = f k (choose c a b) ++ (done_list f None (action_of told k c) a ++ done_list f None k b)
  done_act f told k (loop x first last by body m) = f k (loop x first last by body m) ++ done_list f (told_in (loop x first last by body m)) k body
  done_act f told k (during c body) = f k (during c body) ++ done_list f None k body
  done_act f told k (call name args) = f k (call name args)
  done_act f told k (runtime r) = f k (runtime r)

  pub done_list : {X : Type 0} → (ℕ → Act → List X) → Option Var → ℕ → Code → List X
  done_list f told k stop = []
  done_list f told k (step line a rest) = done_act f told k a ++ done_list f told k rest

-- a number of snapshots as it stands, or 0 where a variable that isn't the unit's holds it
abbrev pub number_told : Vars → Term → Term
number_told own (var x) = if own x then var x else lit (pos 0)
number_told own e = e

-- pushes, calls of the units of a set, and where a reversal begins, with its number of snapshots, and ends; each with its action. The
-- number of steps may be held by a helper.
abbrev pub deeds : Vars → (List ℕ → Bool) → ℕ → Act → List (ℕ × Act)
deeds own units k (runtime (push_word x subs)) = (k, runtime (push_word x subs)) ∷ []
deeds own units k (runtime (push_array x)) = (k, runtime (push_array x)) ∷ []
deeds own units k (runtime (push_control e)) = (k, runtime (push_control e)) ∷ []
deeds own units k (runtime (begin_reversal l s)) = (k, runtime (begin_reversal (lit (pos 0)) (number_told own s))) ∷ []
deeds own units k (runtime end_reversal) = (k, runtime end_reversal) ∷ []
deeds own units k (call name args) = if units name then (k, call name args) ∷ [] else []
deeds own units k a = []

-- the number of snapshots of a directive, or 0 where a helper holds it: that which its variable had before the loop
abbrev pub number_due : Mark → Term
number_due unmarked = lit (pos 0)
number_due (with_count n) = lit (pos n)
number_due (count_from x) = lit (pos 0)

-- those of a reversal: the members of a step's snapshot are pushed where a snapshot is taken, in action 1, and where one is read and kept,
-- in action 4; and the step unit is called where steps are made, in action 2
abbrev pub deeds_of : Plan → Step → List (ℕ × Act)
deeds_of p s =
    let snapshot = map (push_whole p.arrays) (step_snapshot (p.callees s.name) s.read s.given) in
    (0, runtime (begin_reversal (lit (pos 0)) (number_due s.mark)))
    ∷ (map (λ c. (1, runtime c)) snapshot ++ ((2, call s.name (actuals_named s.given)) ∷ (map (λ c. (4, runtime c)) snapshot ++ ((0, runtime end_reversal) ∷ []))))

-- those of all loops of a list that are reversed by schedules, from the last statement to the first; the parts of an IF stay in order
abbrev mutual
  pub deeds_act : Schedules → Plan → ℕ → Act → List (ℕ × Act)
  deeds_act r p i (assign x subs e) = []
  deeds_act r p i (choose c a b) = deeds_back r p (suc i) a ++ deeds_back r p (behind (suc i) a) b
  deeds_act r p i (loop x first last by body m) = found_or (reversed_by r p.marks.adjointed i body m) (deeds_back r p (suc i) body) (deeds_of p)
  deeds_act r p i (during c body) = deeds_back r p (suc i) body
  deeds_act r p i (call name args) = []
  deeds_act r p i (runtime c) = []

  pub deeds_back : Schedules → Plan → ℕ → Code → List (ℕ × Act)
  deeds_back r p i stop = []
  deeds_back r p i (step line a rest) = deeds_back r p (next i a) rest ++ deeds_act r p i a

-- ---- the sweeps of a unit, by a plan

-- the forward sweep of a unit u
pub record IsForward (r : Schedules) (p : Plan) (i : ℕ) (u : Procedure) (shadows : Vars) (forth : Code) : Type 0 where
  -- the statements of u that stay, in text order, and no others of its own
  pub keeps : gathered (primal (is_own u)) forth ≡ gathered_from (kept_of p (is_own u)) i (statements u.body)
  -- no shadow is assigned
  pub spares : list_any shadows (gathered assigned forth) ≡ false
  -- and of the runtime's calls there are pushes alone
  pub pushes_alone : list_all is_push (gathered ran forth) ≡ true
  -- the pushes that are due, in text order, and besides them single words
  pub saves : gathered (pushed (is_own u)) forth ≡ gathered_list r p.marks.adjointed (due p) (due_turns p) i u.body
  pub sparing : is_sparing (is_own u) shadows false 0 forth ≡ true

-- the backward sweep; `units` are those of the kernel
pub record IsBackward (r : Schedules) (p : Plan) (i : ℕ) (units : List ℕ → Bool) (u : Procedure) (back : Code) : Type 0 where
  -- the loops that are reversed by schedules are reversed, and besides nothing is pushed and no kernel unit is called
  pub reverses : done_list (deeds (is_own u) units) None 0 back ≡ deeds_back r p i u.body
  -- and a variable of u is assigned in the body of a loop alone, where it is that of a DO of u
  pub assigns : restores (is_own u) (λ v. list_any (var_eq v) (gathered turned u.body)) false back ≡ true

-- whether the name is that of a unit
abbrev pub is_among : List Procedure → List ℕ → Bool
is_among ps x = has_name x (map unit_name ps)

-- ---- an adjoint unit

-- the shadows of these set to 0
abbrev pub cleared : Vars → List Named → List (List ℕ) → Code
cleared arrays table [] = stop
cleared arrays table (x ∷ xs) =
    let y = plain (name_in table (shadow x)) in
    step 0 (if arrays (plain x) then runtime (zero_array y) else assign y none (lit (pos 0))) (cleared arrays table xs)

-- the head's adjoint sets shadows of dummies to 0 at the turn, those of all that aren't dependent, and at the end, those of all that aren't independent
abbrev pub cleared_dummies : ProgramMarks → Procedure → Procedure → List Bool → List (List ℕ)
cleared_dummies m head u listed = if name_eq head.name u.name then names_in (m.shadowed u.name) (unlisted u.dummies listed) else []

-- what the adjoint unit a of the kernel unit u looks like, of which the line numbers are 0; whether marked loops are reversed by schedules
pub record IsAdjointUnit (schedules : Bool) (m : ProgramMarks) (ps : List Procedure) (head : Procedure) (vars outvars : List Bool) (u a : Procedure) : Type 0 where
  pub name : a.name ≡ adjoint_name ps u
  -- its dummies are those of u, each followed by its shadow, if it has one
  pub dummies : a.dummies ≡ shadows_behind (m.shadowed u.name) (shadow_table m ps head u) u.dummies
  -- a variable that is neither one of u nor a shadow is a scalar
  pub scalars : (v : Var) → is_own u v ≡ false → is_shadow m ps head u v ≡ false → declared a.declarations v ≡ []
  -- its body is a forward sweep, shadows that are cleared, a backward sweep, and shadows that are cleared
  pub forth : Code
  pub back : Code
  pub body : let p = plan_in m ps u in a.body ≡ forth +++ (cleared p.arrays (shadow_table m ps head u) (cleared_dummies m head u outvars) +++ (back +++ cleared p.arrays (shadow_table m ps head u) (cleared_dummies m head u vars)))
  pub forward : IsForward (schedules_in schedules ps) (plan_in m ps u) (first_statement ps u.name) u (is_shadow m ps head u) forth
  pub backward : IsBackward (schedules_in schedules ps) (plan_in m ps u) (first_statement ps u.name) (is_among ps) u back

-- ---- a forward and a backward unit

-- what a forward unit leaves on the tape at its end: in the order of the variables, those that are no dummies and the dummies that are written
abbrev pub left_pushed : Vars → List (List ℕ) → Code
left_pushed arrays [] = stop
left_pushed arrays (x ∷ xs) = step 0 (runtime (push_whole arrays x)) (left_pushed arrays xs)

abbrev pub pop_whole : Vars → List ℕ → Runtime
pop_whole arrays x = if arrays (plain x) then pop_array (plain x) else pop_word (plain x) none

-- a backward unit takes it in the opposite order
abbrev pub left_popped : Vars → List (List ℕ) → Code
left_popped arrays [] = stop
left_popped arrays (x ∷ xs) = left_popped arrays xs +++ one 0 (runtime (pop_whole arrays x))

-- Their sweeps are those by the marks by which each statement of u is kept, and each variable saved. The forward unit has no shadows.
pub record IsForthUnit (schedules : Bool) (m : ProgramMarks) (ps : List Procedure) (u a : Procedure) : Type 0 where
  pub name : a.name ≡ forth_name ps u
  pub dummies : a.dummies ≡ u.dummies
  -- a variable that isn't one of u is a scalar
  pub scalars : (v : Var) → is_own u v ≡ false → declared a.declarations v ≡ []
  -- its body is a forward sweep, and then the pushes of what is left
  pub forth : Code
  pub body : a.body ≡ forth +++ left_pushed (arrays_of u) (left_by ps u)
  pub forward : IsForward (schedules_in schedules ps) (split_plan m ps u) (first_statement ps u.name) u nothing forth

pub record IsBackUnit (schedules : Bool) (m : ProgramMarks) (ps : List Procedure) (head u a : Procedure) : Type 0 where
  pub name : a.name ≡ back_name ps u
  -- its dummies are those of the adjoint unit of u
  pub dummies : a.dummies ≡ shadows_behind (m.shadowed u.name) (shadow_table m ps head u) u.dummies
  pub scalars : (v : Var) → is_own u v ≡ false → is_shadow m ps head u v ≡ false → declared a.declarations v ≡ []
  -- its body is the pops of what was left, and then a backward sweep
  pub back : Code
  pub body : a.body ≡ left_popped (arrays_of u) (left_by ps u) +++ back
  pub backward : IsBackward (schedules_in schedules ps) (split_plan m ps u) (first_statement ps u.name) (is_among ps) u back

-- ---- the program

-- whether a unit calls the one of a name
abbrev pub is_called : List Procedure → List ℕ → Bool
is_called qs name = has_name name (flat_map (λ v. gathered called v.body) qs)

-- what the emitted program qs of the kernel ps looks like by some marks, of which the line numbers are 0
pub record IsShaped (schedules : Bool) (m : ProgramMarks) (ps : List Procedure) (head : Procedure) (vars outvars : List Bool) (qs : List Procedure) : Type 0 where
  pub made : Procedure → Procedure
  pub forth : Procedure → Procedure
  pub back : Procedure → Procedure
  -- Its units are, in the order of the kernel and for each kernel unit in this order: the kernel unit where a unit of it calls it; its adjoint unit where it is the
  -- head, or an adjointed call that isn't split names it; and its forward and its backward unit where a split call names it. There are no others.
  pub units : qs ≡ flat_map (λ u. (if is_called qs u.name then unlined_procedure u ∷ [] else []) ++ ((if has_adjoint m ps head u.name then made u ∷ [] else []) ++ (if has_pair m ps head u.name then forth u ∷ back u ∷ [] else []))) ps
  pub adjoints : (u : Procedure) → find_unit ps u.name ≡ Some u → has_adjoint m ps head u.name ≡ true → IsAdjointUnit schedules m ps head vars outvars u (made u)
  pub pairs : (u : Procedure) → find_unit ps u.name ≡ Some u → has_pair m ps head u.name ≡ true → IsForthUnit schedules m ps u (forth u) × IsBackUnit schedules m ps head u (back u)

-- the same of a program with its line numbers
abbrev pub HasShape : (schedules : Bool) → ProgramMarks → List Procedure → Procedure → List Bool → List Bool → List Procedure → Type 0
HasShape schedules m ps head vars outvars qs = IsShaped schedules m ps head vars outvars (unlined qs)
