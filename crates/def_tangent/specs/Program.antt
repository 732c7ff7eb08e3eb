-- The program that is emitted for the tangent of a kernel's head: names, helpers, the tangent of a unit, and which units are emitted.
use Rattle.std.specs.Prelude.{ℕ, zero, suc, List, [], ◌∷◌, ◌++◌, map, length, max, Bool, true, false, ◌&&◌, ◌||◌, not, codes, pos, if◌then◌else◌}
use Rattle.adj_tree.specs.Code.{Var, plain, shadow, work, temp, name_eq, lit, none, Act, assign, choose, loop, during, call, runtime, zero_array, Code, stop, step, Procedure}
use Rattle.def_meaning.specs.Append.{◌+++◌, one}
use Rattle.def_names.specs.Variables.{variables}
use Rattle.def_names.specs.HeadFaults.{unit_number}
use Rattle.def_kernel.specs.Stepped.{kernel_of}
use Rattle.def_sweep.specs.Naming.{tangent_text, Named, unit_names_for}
use Rattle.def_names.specs.Numbers.{Vars}
use Rattle.def_sweep.specs.Marked.{names_in}
use Rattle.def_sweep.specs.Declared.{unit_name, helpers_from, unmarked, unit_at}
use Rattle.def_sweep.specs.Occurrences.{is_active_where}
use Rattle.def_sweep.specs.AdjointOf.{temps_in_where}
use Rattle.def_sweep.specs.Names.{source_names, named_after}
use Rattle.def_sweep.specs.Marking.{arrays_of}
use Rattle.def_sweep.specs.Program.{calls_some, is_reached, made_unit_for}
use Rattle.def_tangent.specs.TangentOf.{parts_in_where}
use Rattle.def_tangent.specs.Forward.{Callee, Plan, takes_some, tangents}

-- ---- names

-- the name of the tangent of the unit of a name: no name of the source has it, and no tangent of a unit before it
abbrev pub tangent_name : List Procedure → List ℕ → List ℕ
tangent_name ps name = named_after (codes "_D") (source_names ps) ps name

-- ---- what carries a tangent, by units

-- the variables of the unit of a name that carry one
abbrev pub Carried : Type 0
Carried = List ℕ → Vars

-- the dummies of the unit of a name
abbrev pub dummies_of : List Procedure → List ℕ → List (List ℕ)
dummies_of [] name = []
dummies_of (u ∷ us) name = if name_eq u.name name then u.dummies else dummies_of us name

-- what calls know of the unit of a name
abbrev pub callee_in : Carried → List Procedure → List ℕ → Callee
callee_in c ps name = record { tangent = tangent_name ps name; dummies = dummies_of ps name; carried = c name }

-- what the tangent of the unit of a name goes by
abbrev pub plan_in : Carried → List Procedure → List ℕ → Plan
plan_in c ps name = record { carried = c name; callees = callee_in c ps }

-- ---- helpers

-- the greatest number of parts, and of temporaries, before an assignment that carries a tangent
abbrev mutual
  pub parts_act : Vars → Act → ℕ
  parts_act on (assign x subs e) = if on x then parts_in_where on e else 0
  parts_act on (choose c a b) = max (parts_used on a) (parts_used on b)
  parts_act on (loop x a b c body m) = parts_used on body
  parts_act on (during c body) = parts_used on body
  parts_act on (call name args) = 0
  parts_act on (runtime r) = 0

  pub parts_used : Vars → Code → ℕ
  parts_used on stop = 0
  parts_used on (step line a rest) = max (parts_act on a) (parts_used on rest)

abbrev mutual
  pub temps_act : Vars → Act → ℕ
  temps_act on (assign x subs e) = if on x && is_active_where on e then temps_in_where on e else 0
  temps_act on (choose c a b) = max (temps_used on a) (temps_used on b)
  temps_act on (loop x a b c body m) = temps_used on body
  temps_act on (during c body) = temps_used on body
  temps_act on (call name args) = 0
  temps_act on (runtime r) = 0

  pub temps_used : Vars → Code → ℕ
  temps_used on stop = 0
  temps_used on (step line a rest) = max (temps_act on a) (temps_used on rest)

-- the helpers, in the order of their declarations
abbrev pub helpers_used : Vars → Code → List Var
helpers_used on c = helpers_from work 1 (parts_used on c) ++ helpers_from temp 1 (temps_used on c)

-- ---- the tangent of a unit

-- the code that sets the tangents of these variables to 0
abbrev pub cleared : Vars → ℕ → List (List ℕ) → Code
cleared arrays line [] = stop
cleared arrays line (x ∷ xs) = (if arrays (plain x) then one line (runtime (zero_array (shadow x))) else one line (assign (shadow x) none (lit (pos 0)))) +++ cleared arrays line xs

-- the names of its variables; `units` are the names of all units
abbrev pub names_of_unit : Vars → List (List ℕ) → Procedure → List Named
names_of_unit on units u = unit_names_for tangent_text (variables u) units (map shadow (names_in on (variables u)) ++ helpers_used on u.body)

-- the tangent of u, which first clears the tangents of these variables
abbrev pub tangent_unit : Carried → List Procedure → List (List ℕ) → Procedure → List (List ℕ) → Procedure
tangent_unit c ps units u at_first =
    made_unit_for tangent_text (tangent_name ps u.name) (c u.name) units u (helpers_used (c u.name) u.body) (cleared (arrays_of u) u.line at_first +++ tangents (plan_in c ps u.name) u.body)

-- ---- the units that are emitted

-- whether one of the unit's dummies carries a tangent
abbrev pub takes : Carried → List Procedure → List ℕ → Bool
takes c ps name = takes_some (c name) (dummies_of ps name)

-- the units whose tangent is emitted: the head, and those with such a dummy that one of them calls, in some rounds
abbrev pub made_after : Carried → List Procedure → List ℕ → ℕ → List ℕ → Bool
made_after c ps head zero name = false
made_after c ps head (suc k) name = name_eq head name || (takes c ps name && calls_some (made_after c ps head k) (λ i. true) name 0 ps)

-- in as many rounds as there are units no more are found
abbrev pub has_tangent : Carried → List Procedure → List ℕ → List ℕ → Bool
has_tangent c ps head name = made_after c ps head (length ps) name

-- the units that are emitted as they are: those without such a dummy that an emitted tangent calls, and what these call
abbrev pub stays : Carried → List Procedure → List ℕ → List ℕ → Bool
stays c ps head name = is_reached (λ n. not (takes c ps n) && calls_some (has_tangent c ps head) (λ i. true) n 0 ps) (λ i. true) ps name

-- the names of the tangents that are emitted
abbrev pub made_names : Carried → List Procedure → List ℕ → List Procedure → List (List ℕ)
made_names c ps head [] = []
made_names c ps head (u ∷ us) = if has_tangent c ps head u.name then tangent_name ps u.name ∷ made_names c ps head us else made_names c ps head us

-- What is emitted for each unit in turn: it as it is, where it stays, and its tangent, where it has one. The head's clears the tangents of its
-- dummies that carry one and aren't independent.
abbrev pub emitted_units : Carried → List Procedure → Procedure → List Bool → List Procedure → List Procedure
emitted_units c ps head vars [] = []
emitted_units c ps head vars (u ∷ us) =
    let units = map unit_name ps ++ made_names c ps head.name ps in
    let at_first = if name_eq head.name u.name then names_in (c u.name) (unmarked u.dummies vars) else [] in
    (if stays c ps head.name u.name then u ∷ [] else [])
    ++ ((if has_tangent c ps head.name u.name then tangent_unit c ps units u at_first ∷ [] else []) ++ emitted_units c ps head vars us)

-- for a head, if there is one
abbrev pub emitted_for : Carried → List Procedure → List Bool → List Procedure → List Procedure
emitted_for c ps vars [] = []
emitted_for c ps vars (u ∷ us) = emitted_units c ps u vars ps

-- for the head of this number, of which the flags tell the independents
abbrev pub tangent_program : Carried → List Procedure → ℕ → List Bool → List Procedure
tangent_program c ps head vars = emitted_for c ps vars (unit_at head ps)

-- for the kernel of a program of a user, with the unit of a name as the head
abbrev pub tangent_for : Carried → List Procedure → List ℕ → List Bool → List Procedure
tangent_for c ps name vars = tangent_program c (kernel_of ps) (unit_number (kernel_of ps) name) vars
