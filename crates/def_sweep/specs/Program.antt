-- The program that is emitted for a kernel and its head, by marks. (docs/EMITTED.md)
use Rattle.std.specs.Prelude.{ℕ, zero, suc, List, [], ◌∷◌, ◌++◌, map, length, max, Bool, true, false, ◌&&◌, ◌||◌, not, ◌==◌, Some, None, if◌then◌else◌}
use Rattle.adj_tree.specs.Code.{Role, Var, shadow, helper, work, temp, control, first, stride, count, turn, entry, entries, kind, lower, upper, slots, name_eq, Act, assign, choose, loop, during, call, runtime, Code, stop, step, Procedure}
use Rattle.def_meaning.specs.Written.{find_unit, is_written}
use Rattle.def_meaning.specs.Rename.{rename}
use Rattle.def_sweep.specs.Naming.{Derived, adjoint_text, Named, unit_names_for, unit_names, naming}
use Rattle.def_sweep.specs.Callees.{nothing}
use Rattle.def_sweep.specs.SplitMarks.{split_marks}
use Rattle.def_sweep.specs.SplitRows.{left_of, forth_body, back_body}
use Rattle.def_names.specs.Numbers.{Vars, next, behind}
use Rattle.def_sweep.specs.Marks.{Marks, active_at}
use Rattle.def_sweep.specs.Marked.{names_in}
use Rattle.def_names.specs.Variables.{variables}
use Rattle.def_sweep.specs.Declared.{unit_name, helpers_from, unmarked, declared_helpers, unit_at}
use Rattle.def_sweep.specs.AdjointOf.{works_in_where, temps_in_where}
use Rattle.def_sweep.specs.Names.{adjoint_name, forth_name, back_name}
use Rattle.def_sweep.specs.MarkedProgram.{shadows_behind, declared_behind}
use Rattle.def_sweep.specs.Plan.{Plan, found_or, Schedules, schedules_from, Step, is_from_variable, reversed_by}
use Rattle.def_sweep.specs.Rows.{is_empty}
use Rattle.def_sweep.specs.Emission.{backward_with, adjoint_body_with}
use Rattle.def_sweep.specs.Marking.{ProgramMarks, first_statement, plan_in, dummy_set, read_by}

-- ---- helpers that a body uses

-- the greatest number of work variables, and of temporaries, that the adjoint of an assignment uses
abbrev mutual
  pub works_act : Marks → ℕ → Act → ℕ
  works_act m i (assign x subs e) = if m.adjointed i then works_in_where (active_at m i) e 1 else 0
  works_act m i (choose c a b) = max (works_used m (suc i) a) (works_used m (behind (suc i) a) b)
  works_act m i (loop x a b c body n) = works_used m (suc i) body
  works_act m i (during c body) = works_used m (suc i) body
  works_act m i (call name args) = 0
  works_act m i (runtime r) = 0

  pub works_used : Marks → ℕ → Code → ℕ
  works_used m i stop = 0
  works_used m i (step line a rest) = max (works_act m i a) (works_used m (next i a) rest)

abbrev mutual
  pub temps_act : Marks → ℕ → Act → ℕ
  temps_act m i (assign x subs e) = if m.adjointed i then temps_in_where (active_at m i) e else 0
  temps_act m i (choose c a b) = max (temps_used m (suc i) a) (temps_used m (behind (suc i) a) b)
  temps_act m i (loop x a b c body n) = temps_used m (suc i) body
  temps_act m i (during c body) = temps_used m (suc i) body
  temps_act m i (call name args) = 0
  temps_act m i (runtime r) = 0

  pub temps_used : Marks → ℕ → Code → ℕ
  temps_used m i stop = 0
  temps_used m i (step line a rest) = max (temps_act m i a) (temps_used m (next i a) rest)

-- how deep the loops are whose turns are gone through backward
abbrev mutual
  pub depth_act_with : Schedules → Plan → ℕ → ℕ → Act → ℕ
  depth_act_with r p i d (assign x subs e) = 0
  depth_act_with r p i d (choose c a b) = max (depth_used_with r p (suc i) d a) (depth_used_with r p (behind (suc i) a) d b)
  depth_act_with r p i d (loop x a b c body n) = found_or (reversed_by r p.marks.adjointed i body n) (if is_empty (backward_with r p (suc i) (suc d) body) then 0 else max (suc d) (depth_used_with r p (suc i) (suc d) body)) (λ s. suc d)
  depth_act_with r p i d (during c body) = if is_empty (backward_with r p (suc i) (suc d) body) then 0 else max (suc d) (depth_used_with r p (suc i) (suc d) body)
  depth_act_with r p i d (call name args) = 0
  depth_act_with r p i d (runtime c) = 0

  pub depth_used_with : Schedules → Plan → ℕ → ℕ → Code → ℕ
  depth_used_with r p i d stop = 0
  depth_used_with r p i d (step line a rest) = max (depth_act_with r p i d a) (depth_used_with r p (next i a) d rest)

-- whether an IF tells which part ran
abbrev mutual
  pub tells_act_with : Schedules → Plan → ℕ → ℕ → Act → Bool
  tells_act_with r p i d (assign x subs e) = false
  tells_act_with r p i d (choose c a b) = not (is_empty (backward_with r p (suc i) d a) && is_empty (backward_with r p (behind (suc i) a) d b))
  tells_act_with r p i d (loop x a b c body n) = tells_some_with r p (suc i) (suc d) body
  tells_act_with r p i d (during c body) = tells_some_with r p (suc i) (suc d) body
  tells_act_with r p i d (call name args) = false
  tells_act_with r p i d (runtime c) = false

  pub tells_some_with : Schedules → Plan → ℕ → ℕ → Code → Bool
  tells_some_with r p i d stop = false
  tells_some_with r p i d (step line a rest) = tells_act_with r p i d a || tells_some_with r p (next i a) d rest

-- whether a loop of depth k that is of a kind has turns that are gone through backward
abbrev mutual
  pub goes_back_act_with : Schedules → (Act → Bool) → ℕ → Plan → ℕ → ℕ → Act → Bool
  goes_back_act_with r sort k p i d (assign x subs e) = false
  goes_back_act_with r sort k p i d (choose c a b) = goes_back_with r sort k p (suc i) d a || goes_back_with r sort k p (behind (suc i) a) d b
  goes_back_act_with r sort k p i d (loop x a b c body n) =
      found_or (reversed_by r p.marks.adjointed i body n)
      ((sort (loop x a b c body n) && ((k == suc d) && not (is_empty (backward_with r p (suc i) (suc d) body)))) || goes_back_with r sort k p (suc i) (suc d) body)
      (λ s. sort (loop x a b c body n) && (k == suc d))
  goes_back_act_with r sort k p i d (during c body) =
      (sort (during c body) && ((k == suc d) && not (is_empty (backward_with r p (suc i) (suc d) body)))) || goes_back_with r sort k p (suc i) (suc d) body
  goes_back_act_with r sort k p i d (call name args) = false
  goes_back_act_with r sort k p i d (runtime c) = false

  pub goes_back_with : Schedules → (Act → Bool) → ℕ → Plan → ℕ → ℕ → Code → Bool
  goes_back_with r sort k p i d stop = false
  goes_back_with r sort k p i d (step line a rest) = goes_back_act_with r sort k p i d a || goes_back_with r sort k p (next i a) d rest

-- whether a loop of depth k is reversed by a schedule with a step of a kind
abbrev mutual
  pub reverses_act_by : Schedules → (Step → Bool) → ℕ → Plan → ℕ → ℕ → Act → Bool
  reverses_act_by r sort k p i d (assign x subs e) = false
  reverses_act_by r sort k p i d (choose c a b) = reverses_by r sort k p (suc i) d a || reverses_by r sort k p (behind (suc i) a) d b
  reverses_act_by r sort k p i d (loop x a b c body n) = found_or (reversed_by r p.marks.adjointed i body n) (reverses_by r sort k p (suc i) (suc d) body) (λ s. sort s && (k == suc d))
  reverses_act_by r sort k p i d (during c body) = reverses_by r sort k p (suc i) (suc d) body
  reverses_act_by r sort k p i d (call name args) = false
  reverses_act_by r sort k p i d (runtime c) = false

  pub reverses_by : Schedules → (Step → Bool) → ℕ → Plan → ℕ → ℕ → Code → Bool
  reverses_by r sort k p i d stop = false
  reverses_by r sort k p i d (step line a rest) = reverses_act_by r sort k p i d a || reverses_by r sort k p (next i a) d rest

abbrev pub any_step : Step → Bool
any_step s = true

-- its number of snapshots is the value of a variable
abbrev pub has_slots : Step → Bool
has_slots s = is_from_variable s.mark

-- where no loop is reversed by a schedule
abbrev pub depth_act : Plan → ℕ → ℕ → Act → ℕ
depth_act p i d a = depth_act_with None p i d a

abbrev pub depth_used : Plan → ℕ → ℕ → Code → ℕ
depth_used p i d c = depth_used_with None p i d c

abbrev pub tells_act : Plan → ℕ → ℕ → Act → Bool
tells_act p i d a = tells_act_with None p i d a

abbrev pub tells_some : Plan → ℕ → ℕ → Code → Bool
tells_some p i d c = tells_some_with None p i d c

abbrev pub goes_back_act : (Act → Bool) → ℕ → Plan → ℕ → ℕ → Act → Bool
goes_back_act sort k p i d a = goes_back_act_with None sort k p i d a

abbrev pub goes_back : (Act → Bool) → ℕ → Plan → ℕ → ℕ → Code → Bool
goes_back sort k p i d c = goes_back_with None sort k p i d c

-- the kinds of loops
abbrev pub is_do : Act → Bool
is_do (assign x subs e) = false
is_do (choose c a b) = false
is_do (loop x a b c body n) = true
is_do (during c body) = false
is_do (call name args) = false
is_do (runtime r) = false

abbrev pub is_loop : Act → Bool
is_loop (assign x subs e) = false
is_loop (choose c a b) = false
is_loop (loop x a b c body n) = true
is_loop (during c body) = true
is_loop (call name args) = false
is_loop (runtime r) = false

-- the helpers of a role with the numbers of a set, of the n from k on
abbrev pub helpers_among : (ℕ → Bool) → Role → ℕ → ℕ → List Var
helpers_among f r k zero = []
helpers_among f r k (suc n) = if f k then helper r k ∷ helpers_among f r (suc k) n else helpers_among f r (suc k) n

-- the helpers of loops of a kind
abbrev pub loop_helpers_with : Schedules → (Act → Bool) → Role → Plan → ℕ → Code → List Var
loop_helpers_with r sort o p i c = helpers_among (λ k. goes_back_with r sort k p i 0 c) o 1 (depth_used_with r p i 0 c)

abbrev pub loop_helpers : (Act → Bool) → Role → Plan → ℕ → Code → List Var
loop_helpers sort o p i c = loop_helpers_with None sort o p i c

-- those of loops that are reversed by a schedule
abbrev pub reversal_helpers : Schedules → (Step → Bool) → Role → Plan → ℕ → Code → List Var
reversal_helpers r sort o p i c = helpers_among (λ k. reverses_by r sort k p i 0 c) o 1 (depth_used_with r p i 0 c)

abbrev pub all_reversal_helpers : Schedules → Plan → ℕ → Code → List Var
all_reversal_helpers None p i c = []
all_reversal_helpers (Some reads) p i c =
    let r = Some reads in
    reversal_helpers r any_step entry p i c ++ (reversal_helpers r any_step entries p i c ++ (reversal_helpers r any_step kind p i c ++ (reversal_helpers r any_step lower p i c
    ++ (reversal_helpers r any_step upper p i c ++ reversal_helpers r has_slots slots p i c))))

-- the helpers, in the order of their declarations
abbrev pub helpers_used_with : Schedules → Plan → ℕ → Code → List Var
helpers_used_with r p i c =
    (if tells_some_with r p i 0 c then helper control 0 ∷ [] else [])
    ++ (loop_helpers_with r is_loop count p i c ++ (loop_helpers_with r is_do first p i c ++ (loop_helpers_with r is_do stride p i c ++ (loop_helpers_with r is_loop turn p i c
    ++ (all_reversal_helpers r p i c ++ (helpers_from work 1 (works_used p.marks i c) ++ helpers_from temp 1 (temps_used p.marks i c)))))))

abbrev pub helpers_used : Plan → ℕ → Code → List Var
helpers_used p i c = helpers_used_with None p i c

-- ---- the adjoint unit

-- what is reversed by schedules in a program: no loop, or each marked one whose step call is adjointed
abbrev pub schedules_in : Bool → List Procedure → Schedules
schedules_in b ps = schedules_from b (λ name. dummy_set (read_by ps (find_unit ps name)))

-- the variables that it has besides those of u: a shadow of each that has one, and helpers
abbrev pub made_for_with : Bool → ProgramMarks → List Procedure → Procedure → List Var
made_for_with b m ps u = map shadow (names_in (m.shadowed u.name) (variables u)) ++ helpers_used_with (schedules_in b ps) (plan_in m ps u) (first_statement ps u.name) u.body

abbrev pub made_for : ProgramMarks → List Procedure → Procedure → List Var
made_for m ps u = made_for_with false m ps u

-- the names of its variables; `units` are the names of all units of the source and of all that are made
abbrev pub adjoint_names_with : Bool → ProgramMarks → List Procedure → List (List ℕ) → Procedure → List Named
adjoint_names_with b m ps units u = unit_names (variables u) units (made_for_with b m ps u)

abbrev pub adjoint_names : ProgramMarks → List Procedure → List (List ℕ) → Procedure → List Named
adjoint_names m ps units u = adjoint_names_with false m ps units u

-- The adjoint of u, in which these shadows are cleared between the sweeps, and these at the end. Each variable of u has a declaration in
-- it, a scalar where u has none.
abbrev pub adjoint_unit_with : Bool → ProgramMarks → List Procedure → List (List ℕ) → Procedure → List (List ℕ) → List (List ℕ) → Procedure
adjoint_unit_with b m ps units u at_turn at_end =
    let ns = adjoint_names_with b m ps units u in
    let p = plan_in m ps u in
    let i = first_statement ps u.name in
    record {
      line = u.line;
      name = adjoint_name ps u;
      dummies = shadows_behind (m.shadowed u.name) ns u.dummies;
      is_none = false;
      declarations = declared_behind (m.shadowed u.name) ns u (variables u) ++ declared_helpers ns u.line (helpers_used_with (schedules_in b ps) p i u.body);
      body = rename (naming ns) (adjoint_body_with (schedules_in b ps) p i u.line u.body at_turn at_end);
    }

abbrev pub adjoint_unit : ProgramMarks → List Procedure → List (List ℕ) → Procedure → List (List ℕ) → List (List ℕ) → Procedure
adjoint_unit m ps units u at_turn at_end = adjoint_unit_with false m ps units u at_turn at_end

-- ---- the forward and the backward unit

-- the plan by which they are written: each statement is kept, and each variable saved
abbrev pub split_plan : ProgramMarks → List Procedure → Procedure → Plan
split_plan m ps u = let p = plan_in m ps u in record { marks = split_marks p.marks; arrays = p.arrays; callees = p.callees }

-- what the forward unit leaves on the tape at its end
abbrev pub left_by : List Procedure → Procedure → List (List ℕ)
left_by ps u = left_of (dummy_set (is_written ps u)) u.dummies (variables u)

-- the helpers that a forward sweep uses
abbrev pub forth_slots : Schedules → Plan → ℕ → Code → List Var
forth_slots None p i c = []
forth_slots (Some reads) p i c = reversal_helpers (Some reads) has_slots slots p i c

abbrev pub helpers_forth : Schedules → Plan → ℕ → Code → List Var
helpers_forth r p i c = loop_helpers_with r is_loop count p i c ++ (loop_helpers_with r is_do first p i c ++ (loop_helpers_with r is_do stride p i c ++ forth_slots r p i c))

-- a unit that is made from u, where the variables in a set have shadows, with these helpers and this code
abbrev pub made_unit_for : Derived → List ℕ → Vars → List (List ℕ) → Procedure → List Var → Code → Procedure
made_unit_for o name a units u helpers code =
    let ns = unit_names_for o (variables u) units (map shadow (names_in a (variables u)) ++ helpers) in
    record {
      line = u.line;
      name = name;
      dummies = shadows_behind a ns u.dummies;
      is_none = false;
      declarations = declared_behind a ns u (variables u) ++ declared_helpers ns u.line helpers;
      body = rename (naming ns) code;
    }

abbrev pub made_unit : List ℕ → Vars → List (List ℕ) → Procedure → List Var → Code → Procedure
made_unit name a units u helpers code = made_unit_for adjoint_text name a units u helpers code

abbrev pub forth_unit : Bool → ProgramMarks → List Procedure → List (List ℕ) → Procedure → Procedure
forth_unit b m ps units u =
    let p = split_plan m ps u in
    let i = first_statement ps u.name in
    made_unit (forth_name ps u) nothing units u (helpers_forth (schedules_in b ps) p i u.body) (forth_body (schedules_in b ps) p i u.line (left_by ps u) u.body)

abbrev pub back_unit : Bool → ProgramMarks → List Procedure → List (List ℕ) → Procedure → Procedure
back_unit b m ps units u =
    let p = split_plan m ps u in
    let i = first_statement ps u.name in
    made_unit (back_name ps u) (m.shadowed u.name) units u (helpers_used_with (schedules_in b ps) p i u.body) (back_body (schedules_in b ps) p i u.line (left_by ps u) u.body)

-- ---- which units are emitted

-- whether a list calls the unit of a name in a statement whose number is in a set
abbrev mutual
  pub calls_act : (ℕ → Bool) → List ℕ → ℕ → Act → Bool
  calls_act f name i (assign x subs e) = false
  calls_act f name i (choose c a b) = calls_in f name (suc i) a || calls_in f name (behind (suc i) a) b
  calls_act f name i (loop x a b c body n) = calls_in f name (suc i) body
  calls_act f name i (during c body) = calls_in f name (suc i) body
  calls_act f name i (call other args) = f i && name_eq name other
  calls_act f name i (runtime r) = false

  pub calls_in : (ℕ → Bool) → List ℕ → ℕ → Code → Bool
  calls_in f name i stop = false
  calls_in f name i (step line a rest) = calls_act f name i a || calls_in f name (next i a) rest

-- whether one of the units, of those in a set, does
abbrev pub calls_some : (List ℕ → Bool) → (ℕ → Bool) → List ℕ → ℕ → List Procedure → Bool
calls_some among f name i [] = false
calls_some among f name i (u ∷ us) = (among u.name && calls_in f name i u.body) || calls_some among f name (behind i u.body) us

-- the units of a set, and those that a call of one of them names in a statement whose number is in a set, in some rounds
abbrev pub reached_after : (List ℕ → Bool) → (ℕ → Bool) → List Procedure → ℕ → List ℕ → Bool
reached_after roots f ps zero name = false
reached_after roots f ps (suc k) name = roots name || calls_some (reached_after roots f ps k) f name 0 ps

-- in as many rounds as there are units: no more are found
abbrev pub is_reached : (List ℕ → Bool) → (ℕ → Bool) → List Procedure → List ℕ → Bool
is_reached roots f ps name = reached_after roots f ps (length ps) name

-- the units that take part: the head, and those that an adjointed call of one of them names
abbrev pub takes_part : ProgramMarks → List Procedure → Procedure → List ℕ → Bool
takes_part m ps head name = is_reached (name_eq head.name) m.adjointed ps name

-- the units whose adjoint is called: an adjointed call that isn't split names them
abbrev pub answers : ProgramMarks → List Procedure → Procedure → List ℕ → Bool
answers m ps head name = calls_some (takes_part m ps head) (λ i. m.adjointed i && not (m.split i)) name 0 ps

-- those whose adjoint is emitted: these, and the head
abbrev pub has_adjoint : ProgramMarks → List Procedure → Procedure → List ℕ → Bool
has_adjoint m ps head name = name_eq head.name name || answers m ps head name

-- those that have a forward and a backward unit: a split call names them
abbrev pub has_pair : ProgramMarks → List Procedure → Procedure → List ℕ → Bool
has_pair m ps head name = calls_some (takes_part m ps head) (λ i. m.adjointed i && m.split i) name 0 ps

-- whether a list has a loop that is reversed by a schedule and whose turns call the unit of a name
abbrev mutual
  pub turns_act : Schedules → (ℕ → Bool) → List ℕ → ℕ → Act → Bool
  turns_act r adjointed name i (assign x subs e) = false
  turns_act r adjointed name i (choose c a b) = turns_in r adjointed name (suc i) a || turns_in r adjointed name (behind (suc i) a) b
  turns_act r adjointed name i (loop x a b c body n) = found_or (reversed_by r adjointed i body n) (turns_in r adjointed name (suc i) body) (λ s. name_eq name s.name)
  turns_act r adjointed name i (during c body) = turns_in r adjointed name (suc i) body
  turns_act r adjointed name i (call other args) = false
  turns_act r adjointed name i (runtime c) = false

  pub turns_in : Schedules → (ℕ → Bool) → List ℕ → ℕ → Code → Bool
  turns_in r adjointed name i stop = false
  turns_in r adjointed name i (step line a rest) = turns_act r adjointed name i a || turns_in r adjointed name (next i a) rest

-- whether one of the units, of those in a set, does
abbrev pub turns_some : Schedules → (List ℕ → Bool) → (ℕ → Bool) → List ℕ → ℕ → List Procedure → Bool
turns_some r among adjointed name i [] = false
turns_some r among adjointed name i (u ∷ us) = (among u.name && turns_in r adjointed name i u.body) || turns_some r among adjointed name (behind i u.body) us

-- those that these units call as they are: an adjoint by a kept call, a forward unit by each call, but for split calls; or in the turns of a
-- loop that is reversed by a schedule
abbrev pub kept_calls : ProgramMarks → List Procedure → Procedure → List ℕ → Bool
kept_calls m ps head name = calls_some (has_adjoint m ps head) (λ i. m.kept i && not (m.split i)) name 0 ps || calls_some (has_pair m ps head) (λ i. not (m.split i)) name 0 ps

abbrev pub is_kept_with : Bool → ProgramMarks → List Procedure → Procedure → List ℕ → Bool
is_kept_with false m ps head name = kept_calls m ps head name
is_kept_with true m ps head name = kept_calls m ps head name || turns_some (schedules_in true ps) (λ n. has_adjoint m ps head n || has_pair m ps head n) m.adjointed name 0 ps

abbrev pub is_kept : ProgramMarks → List Procedure → Procedure → List ℕ → Bool
is_kept m ps head name = is_kept_with false m ps head name

-- the units that are emitted as they are: those, and what they call
abbrev pub is_carried_with : Bool → ProgramMarks → List Procedure → Procedure → List ℕ → Bool
is_carried_with b m ps head name = is_reached (is_kept_with b m ps head) (λ i. true) ps name

abbrev pub is_carried : ProgramMarks → List Procedure → Procedure → List ℕ → Bool
is_carried m ps head name = is_carried_with false m ps head name

-- the names of the adjoints that are emitted
abbrev pub made_names : ProgramMarks → List Procedure → Procedure → List Procedure → List (List ℕ)
made_names m ps head [] = []
made_names m ps head (u ∷ us) =
    (if has_adjoint m ps head u.name then adjoint_name ps u ∷ [] else [])
    ++ ((if has_pair m ps head u.name then forth_name ps u ∷ back_name ps u ∷ [] else []) ++ made_names m ps head us)

-- the names of all units, of the source and made
abbrev pub all_units : ProgramMarks → List Procedure → Procedure → List (List ℕ)
all_units m ps head = map unit_name ps ++ made_names m ps head ps

-- the adjoint of a unit as it is emitted: only the head's clears shadows
abbrev pub emitted_adjoint_with : Bool → ProgramMarks → List Procedure → Procedure → List Bool → List Bool → Procedure → Procedure
emitted_adjoint_with b m ps head vars outvars u =
    let shadows = names_in (m.shadowed u.name) in
    if name_eq head.name u.name
    then adjoint_unit_with b m ps (all_units m ps head) u (shadows (unmarked u.dummies outvars)) (shadows (unmarked u.dummies vars))
    else adjoint_unit_with b m ps (all_units m ps head) u [] []

abbrev pub emitted_adjoint : ProgramMarks → List Procedure → Procedure → List Bool → List Bool → Procedure → Procedure
emitted_adjoint m ps head vars outvars u = emitted_adjoint_with false m ps head vars outvars u

-- what is emitted for a unit: it as it is, where it is carried, then its adjoint, where it has one, and its forward and backward unit
abbrev pub emitted_group : Bool → ProgramMarks → List Procedure → Procedure → List Bool → List Bool → Procedure → List Procedure
emitted_group b m ps head vars outvars u =
    (if is_carried_with b m ps head u.name then u ∷ [] else [])
    ++ ((if has_adjoint m ps head u.name then emitted_adjoint_with b m ps head vars outvars u ∷ [] else [])
    ++ (if has_pair m ps head u.name then forth_unit b m ps (all_units m ps head) u ∷ back_unit b m ps (all_units m ps head) u ∷ [] else []))

abbrev pub emitted_units_with : Bool → ProgramMarks → List Procedure → Procedure → List Bool → List Bool → List Procedure → List Procedure
emitted_units_with b m ps head vars outvars [] = []
emitted_units_with b m ps head vars outvars (u ∷ us) = emitted_group b m ps head vars outvars u ++ emitted_units_with b m ps head vars outvars us

abbrev pub emitted_units : ProgramMarks → List Procedure → Procedure → List Bool → List Bool → List Procedure → List Procedure
emitted_units m ps head vars outvars us = emitted_units_with false m ps head vars outvars us

-- what is emitted for a head, if there is one
abbrev pub emitted_for_with : Bool → ProgramMarks → List Procedure → List Bool → List Bool → List Procedure → List Procedure
emitted_for_with b m ps vars outvars [] = []
emitted_for_with b m ps vars outvars (u ∷ us) = emitted_units_with b m ps u vars outvars ps

abbrev pub emitted_for : ProgramMarks → List Procedure → List Bool → List Bool → List Procedure → List Procedure
emitted_for m ps vars outvars us = emitted_for_with false m ps vars outvars us

-- the program that is emitted for the head of this number, of which the flags tell the independents and the dependents; whether marked
-- loops are reversed by schedules
abbrev pub emitted_program_with : Bool → ProgramMarks → List Procedure → ℕ → List Bool → List Bool → List Procedure
emitted_program_with b m ps head vars outvars = emitted_for_with b m ps vars outvars (unit_at head ps)

abbrev pub emitted_program : ProgramMarks → List Procedure → ℕ → List Bool → List Bool → List Procedure
emitted_program m ps head vars outvars = emitted_program_with false m ps head vars outvars
