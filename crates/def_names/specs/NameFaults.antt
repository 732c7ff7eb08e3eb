-- Faults of the names in units. (docs/REFUSALS.md, "Names")
use Rattle.std.specs.Prelude.{ℕ, ◌==◌, ℤ, pos, ◌*ℤ◌, int_lt, List, [], ◌∷◌, ◌++◌, map, length, flat_map, drop, Bool, true, false, not, ◌&&◌, ◌||◌, Option, Some, None, is_some, if◌then◌else◌}
use Rattle.std.specs.List.{list_any}
use Rattle.adj_tree.specs.Code.{Var, Terms, none, more, Runtime, push_word, pop_word, push_array, pop_array, push_control, pop_control, zero_array, begin_reversal, count_actions, give_action, end_reversal, Act, assign, choose, loop, during, call, runtime, Extent, fixed, given, Declaration, Procedure}
use Rattle.adj_tree.specs.declared.fault.Refusal.{Refusal}
use Rattle.def_meaning.specs.Written.{find_unit}
use Rattle.def_names.specs.Statements.{At, statements}
use Rattle.def_names.specs.Reserved.{is_runtime, is_reserved}
use Rattle.def_names.specs.Standing.{Standing, standing, whole, count_of, in_terms, in_actual, in_act}
use Rattle.def_names.specs.Variables.{Name, places, dummy_places, declared_places, first_places, is_integer, rank, is_scalar, is_dummy}
use Rattle.def_names.specs.Fault.{Rules, fault, passed, faults_if, again}

-- ---- 7: names that aren't declared

-- the names among some extents
abbrev pub extent_names : List Extent → List Name
extent_names [] = []
extent_names (fixed z ∷ es) = extent_names es
extent_names (given x ∷ es) = x ∷ extent_names es

abbrev pub extent_places : Procedure → List (At Name)
extent_places u = flat_map (λ d. map (λ x. (d.line, x)) (extent_names d.extents)) u.declarations

abbrev pub undeclared : Procedure → List Refusal
undeclared u = flat_map (λ p. faults_if (not (is_integer u p.1)) (fault 7 p.0)) (places u ++ extent_places u)

-- ---- 8: names that are declared twice, or twice a dummy

abbrev pub declared_twice : Procedure → List Refusal
declared_twice u = again 8 [] (dummy_places u) ++ again 8 [] (declared_places u)

-- ---- 9: another number of subscripts than extents, an array's name where a value or a target stands

-- whether a variable of that rank may stand with these subscripts
abbrev pub is_rank_for : Option ℕ → ℕ → Bool
is_rank_for None n = true
is_rank_for (Some k) n = k == n

abbrev pub has_rank : Procedure → Standing → Bool
has_rank u s = is_rank_for s.subscripts (rank u s.name)

-- where calls of the runtime aren't taken, their arguments are looked at like those of any CALL
abbrev pub place_as_actual : Var → Terms → List Standing
place_as_actual x none = whole x
place_as_actual x (more e es) = standing (Some (count_of (more e es))) x ++ in_terms (more e es)

abbrev pub runtime_as_call : Runtime → List Standing
runtime_as_call (push_word x subs) = place_as_actual x subs
runtime_as_call (pop_word x subs) = place_as_actual x subs
runtime_as_call (push_array x) = whole x
runtime_as_call (pop_array x) = whole x
runtime_as_call (push_control e) = in_actual e
runtime_as_call (pop_control x) = whole x
runtime_as_call (zero_array x) = whole x
runtime_as_call (begin_reversal l s) = in_actual l ++ in_actual s
runtime_as_call (count_actions l s n) = in_actual l ++ (in_actual s ++ whole n)
runtime_as_call (give_action l s k a f t) = in_actual l ++ (in_actual s ++ (in_actual k ++ (whole a ++ (whole f ++ whole t))))
runtime_as_call end_reversal = []

abbrev pub taken_in : Bool → Act → List Standing
taken_in takes_runtime (assign x subs e) = in_act (assign x subs e)
taken_in takes_runtime (choose c a b) = in_act (choose c a b)
taken_in takes_runtime (loop x first last by body m) = in_act (loop x first last by body m)
taken_in takes_runtime (during c body) = in_act (during c body)
taken_in takes_runtime (call name args) = in_act (call name args)
taken_in takes_runtime (runtime r) = if takes_runtime then in_act (runtime r) else runtime_as_call r

abbrev pub misused : Rules → Procedure → List Refusal
misused m u = flat_map (λ s. flat_map (λ n. faults_if (not (has_rank u n)) (fault 9 s.0)) (taken_in m.takes_runtime s.1)) (statements u.body)

-- ---- 12: extents

-- the product of those that are literals
abbrev pub literal_product : List Extent → ℤ
literal_product [] = pos 1
literal_product (fixed z ∷ es) = z *ℤ literal_product es
literal_product (given x ∷ es) = literal_product es

abbrev pub is_bad_extent : Procedure → Extent → Bool
is_bad_extent u (fixed z) = int_lt z (pos 1)
is_bad_extent u (given x) = not (is_dummy u x && is_scalar u x)

-- a literal below 1, a name that isn't a scalar dummy, literals with too great a product, or a name in a local's
abbrev pub has_bad_extents : Procedure → Declaration → Bool
has_bad_extents u d =
    list_any (is_bad_extent u) d.extents
    || (int_lt (pos 1048576) (literal_product d.extents)
    || (not (is_dummy u d.name) && not (length (extent_names d.extents) == 0)))

abbrev pub bad_extents : Procedure → List Refusal
bad_extents u = flat_map (λ d. faults_if (has_bad_extents u d) (fault 12 d.line)) u.declarations

-- ---- 18: a variable named like an intrinsic, a runtime call or a unit; a CALL of a runtime name where none is taken

abbrev pub reserved_variables : List Procedure → Procedure → List Refusal
reserved_variables ps u = flat_map (λ p. faults_if (is_reserved p.1 || is_some (find_unit ps p.1)) (fault 18 p.0)) (places u)

abbrev pub calls_runtime : Act → Bool
calls_runtime (assign x subs e) = false
calls_runtime (choose c a b) = false
calls_runtime (loop x first last by body m) = false
calls_runtime (during c body) = false
calls_runtime (call name args) = is_runtime name
calls_runtime (runtime r) = true

abbrev pub runtime_calls : Rules → Procedure → List Refusal
runtime_calls m u = flat_map (λ s. faults_if (not m.takes_runtime && calls_runtime s.1) (fault 18 s.0)) (statements u.body)

-- ---- 21: more variables than a unit may have

-- a limit is passed where the first of those behind it stands
abbrev pub passed_by : ℕ → List (At Name) → List Refusal
passed_by limit [] = []
passed_by limit (p ∷ ps) = passed limit p.0 ∷ []

abbrev pub passed_in : Option ℕ → List (At Name) → List Refusal
passed_in None ps = []
passed_in (Some limit) ps = passed_by limit (drop limit ps)

abbrev pub too_many_variables : Rules → Procedure → List Refusal
too_many_variables m u = passed_in m.variables (first_places (places u))

-- ---- all

abbrev pub faults_of_names : Rules → List Procedure → Procedure → List Refusal
faults_of_names m ps u =
    undeclared u ++ (declared_twice u ++ (misused m u ++ (bad_extents u ++ (reserved_variables ps u ++ (runtime_calls m u ++ too_many_variables m u)))))

abbrev pub name_faults : Rules → List Procedure → List Refusal
name_faults m ps = flat_map (faults_of_names m ps) ps
