-- The three units that are made of a unit: its adjoint, and its forward and its backward unit.
use Rattle.std.proofs.Common.{◌≡◌, ℕ, Bool, true, false, List, [], refl, if◌then◌else◌}
use Rattle.adj_tree.specs.Code.{Var, plain, name_eq, Terms, Code, Procedure}
use Rattle.def_meaning.specs.Apart.{has_name}
use Rattle.def_names.specs.Numbers.{Vars, everything}
use Rattle.def_names.specs.Variables.{variables}
use Rattle.def_sweep.specs.Callees.{nothing}
use Rattle.def_sweep.specs.Declared.{unmarked}
use Rattle.def_sweep.specs.Emission.{adjoint_body_with}
use Rattle.def_sweep.specs.Marked.{names_in}
use Rattle.def_sweep.specs.Marking.{ProgramMarks, first_statement, callee_in, arrays_of}
use Rattle.def_sweep.specs.Names.{adjoint_name, forth_name, back_name}
use Rattle.def_sweep.specs.Plan.{Plan}
use Rattle.def_sweep.specs.Program.{helpers_used_with, helpers_forth, schedules_in, left_by, made_unit, has_adjoint, has_pair, all_units, adjoint_unit_with, emitted_adjoint_with}
use Rattle.def_sweep.specs.SplitRows.{forth_body, back_body}
use Rattle.law_sweep.proofs.HeadNames.{unmarked_in}
use Rattle.law_sweep.proofs.Variables.{dummy_among}
use Rattle.law_emitted.proofs.Lists.{Each}
use Rattle.law_emitted.proofs.Sources.{each_name}
use Rattle.law_emitted.proofs.Units.{each_marked}

-- which of them; an adjoint clears the shadows of some variables between its sweeps, and of some at its end
pub data Making : Type 0 where
  as_adjoint : List (List ℕ) → List (List ℕ) → Making
  as_forth : Making
  as_back : Making

abbrev pub its_name : List Procedure → Procedure → Making → List ℕ
its_name ps u (as_adjoint at_turn at_end) = adjoint_name ps u
its_name ps u as_forth = forth_name ps u
its_name ps u as_back = back_name ps u

-- the variables that have a shadow in it
abbrev pub its_shadows : ProgramMarks → Procedure → Making → Vars
its_shadows m u (as_adjoint at_turn at_end) = m.shadowed u.name
its_shadows m u as_forth = nothing
its_shadows m u as_back = m.shadowed u.name

-- the statements that its sweeps keep, and what they save: a forward and a backward unit keep and save everything
abbrev pub its_kept : ProgramMarks → Making → ℕ → Bool
its_kept m (as_adjoint at_turn at_end) = m.kept
its_kept m as_forth = λ i. true
its_kept m as_back = λ i. true

abbrev pub its_saved : ProgramMarks → Making → ℕ → Vars
its_saved m (as_adjoint at_turn at_end) = m.saved
its_saved m as_forth = λ i. everything
its_saved m as_back = λ i. everything

-- the plan of a unit where these statements are kept and these variables saved
abbrev pub plan_with : ProgramMarks → List Procedure → Procedure → (ℕ → Bool) → (ℕ → Vars) → Plan
plan_with m ps u kept saved = record {
  marks = record { kept = kept; adjointed = m.adjointed; split = m.split; saved = saved; varied = m.varied; useful = m.useful; shadowed = m.shadowed u.name };
  arrays = arrays_of u;
  callees = callee_in m ps;
}

-- that by which its sweeps are written
abbrev pub its_plan : ProgramMarks → List Procedure → Procedure → Making → Plan
its_plan m ps u k = plan_with m ps u (its_kept m k) (its_saved m k)

abbrev pub its_helpers : Bool → ProgramMarks → List Procedure → Procedure → Making → List Var
its_helpers sb m ps u (as_adjoint at_turn at_end) = helpers_used_with (schedules_in sb ps) (plan_with m ps u m.kept m.saved) (first_statement ps u.name) u.body
its_helpers sb m ps u as_forth = helpers_forth (schedules_in sb ps) (plan_with m ps u (λ i. true) (λ i. everything)) (first_statement ps u.name) u.body
its_helpers sb m ps u as_back = helpers_used_with (schedules_in sb ps) (plan_with m ps u (λ i. true) (λ i. everything)) (first_statement ps u.name) u.body

abbrev pub its_code : Bool → ProgramMarks → List Procedure → Procedure → Making → Code
its_code sb m ps u (as_adjoint at_turn at_end) = adjoint_body_with (schedules_in sb ps) (plan_with m ps u m.kept m.saved) (first_statement ps u.name) u.line u.body at_turn at_end
its_code sb m ps u as_forth = forth_body (schedules_in sb ps) (plan_with m ps u (λ i. true) (λ i. everything)) (first_statement ps u.name) u.line (left_by ps u) u.body
its_code sb m ps u as_back = back_body (schedules_in sb ps) (plan_with m ps u (λ i. true) (λ i. everything)) (first_statement ps u.name) u.line (left_by ps u) u.body

-- the unit itself; `units` are the names of all units
abbrev pub made : Bool → ProgramMarks → List Procedure → List (List ℕ) → Procedure → Making → Procedure
made sb m ps units u k = made_unit (its_name ps u k) (its_shadows m u k) units u (its_helpers sb m ps u k) (its_code sb m ps u k)

-- what is asked of its CALLs with shadows, where C is asked of each CALL: a forward unit has none
abbrev pub its_turns : Making → (List ℕ → Terms → Type 0) → List ℕ → Terms → Type 0
its_turns (as_adjoint at_turn at_end) C = C
its_turns as_forth C = λ name args. Unit {0}
its_turns as_back C = C

-- ---- in the emitted program

-- whether it is emitted
abbrev pub is_made : ProgramMarks → List Procedure → Procedure → Procedure → Making → Bool
is_made m ps head u (as_adjoint at_turn at_end) = has_adjoint m ps head u.name
is_made m ps head u as_forth = has_pair m ps head u.name
is_made m ps head u as_back = has_pair m ps head u.name

-- what an adjoint clears are variables of the unit with a shadow
abbrev pub Cleared : ProgramMarks → Procedure → List (List ℕ) → Type 0
Cleared m u xs = Each (λ x. (has_name x (variables u) ≡ true) × (m.shadowed u.name (plain x) ≡ true)) xs

abbrev pub ClearsOwn : ProgramMarks → Procedure → Making → Type 0
ClearsOwn m u (as_adjoint at_turn at_end) = Cleared m u at_turn × Cleared m u at_end
ClearsOwn m u as_forth = Unit {0}
ClearsOwn m u as_back = Unit {0}

-- the adjoint that is emitted: only the head's clears shadows
abbrev pub emitted_making : ProgramMarks → Procedure → List Bool → List Bool → Procedure → Making
emitted_making m head vars outvars u = if name_eq head.name u.name then as_adjoint (names_in (m.shadowed u.name) (unmarked u.dummies outvars)) (names_in (m.shadowed u.name) (unmarked u.dummies vars)) else as_adjoint [] []

pub emitted_is_made : (sb : Bool) (m : ProgramMarks) (ps : List Procedure) (head : Procedure) (vars outvars : List Bool) (u : Procedure) → emitted_adjoint_with sb m ps head vars outvars u ≡ made sb m ps (all_units m ps head) u (emitted_making m head vars outvars u)
emitted_is_made sb m ps head vars outvars u = go (name_eq head.name u.name)
  where
    go : (b : Bool) → (if b then adjoint_unit_with sb m ps (all_units m ps head) u (names_in (m.shadowed u.name) (unmarked u.dummies outvars)) (names_in (m.shadowed u.name) (unmarked u.dummies vars)) else adjoint_unit_with sb m ps (all_units m ps head) u [] [])
        ≡ made sb m ps (all_units m ps head) u (if b then as_adjoint (names_in (m.shadowed u.name) (unmarked u.dummies outvars)) (names_in (m.shadowed u.name) (unmarked u.dummies vars)) else as_adjoint [] [])
    go true = refl
    go false = refl

-- marked dummies are variables with a shadow
pub cleared : (m : ProgramMarks) (u : Procedure) (marks : List Bool) → Cleared m u (names_in (m.shadowed u.name) (unmarked u.dummies marks))
cleared m u marks =
    each_marked (λ x. has_name x (variables u) ≡ true) (m.shadowed u.name) (unmarked u.dummies marks)
    (each_name (λ x. has_name x (variables u) ≡ true) (unmarked u.dummies marks) (λ x h. dummy_among u x (unmarked_in x u.dummies marks h)))

pub emitted_clears : (m : ProgramMarks) (head : Procedure) (vars outvars : List Bool) (u : Procedure) → ClearsOwn m u (emitted_making m head vars outvars u)
emitted_clears m head vars outvars u = go (name_eq head.name u.name)
  where
    go : (b : Bool) → ClearsOwn m u (if b then as_adjoint (names_in (m.shadowed u.name) (unmarked u.dummies outvars)) (names_in (m.shadowed u.name) (unmarked u.dummies vars)) else as_adjoint [] [])
    go true = (cleared m u outvars, cleared m u vars)
    go false = (tt, tt)

-- it is an adjoint
pub emitted_there : (m : ProgramMarks) (ps : List Procedure) (head : Procedure) (vars outvars : List Bool) (u : Procedure) → is_made m ps head u (emitted_making m head vars outvars u) ≡ has_adjoint m ps head u.name
emitted_there m ps head vars outvars u = go _ _ (name_eq head.name u.name)
  where
    go : (xs ys : List (List ℕ)) (b : Bool) → is_made m ps head u (if b then as_adjoint xs ys else as_adjoint [] []) ≡ has_adjoint m ps head u.name
    go xs ys true = refl
    go xs ys false = refl

pub emitted_named : (m : ProgramMarks) (ps : List Procedure) (head : Procedure) (vars outvars : List Bool) (u : Procedure) → its_name ps u (emitted_making m head vars outvars u) ≡ adjoint_name ps u
emitted_named m ps head vars outvars u = go _ _ (name_eq head.name u.name)
  where
    go : (xs ys : List (List ℕ)) (b : Bool) → its_name ps u (if b then as_adjoint xs ys else as_adjoint [] []) ≡ adjoint_name ps u
    go xs ys true = refl
    go xs ys false = refl

pub emitted_shadows : (m : ProgramMarks) (head : Procedure) (vars outvars : List Bool) (u : Procedure) → its_shadows m u (emitted_making m head vars outvars u) ≡ m.shadowed u.name
emitted_shadows m head vars outvars u = go _ _ (name_eq head.name u.name)
  where
    go : (xs ys : List (List ℕ)) (b : Bool) → its_shadows m u (if b then as_adjoint xs ys else as_adjoint [] []) ≡ m.shadowed u.name
    go xs ys true = refl
    go xs ys false = refl
