-- Faults of calls: units that aren't there, and actuals that don't fit dummies. (docs/REFUSALS.md, "Calls")
use Rattle.std.specs.Prelude.{ℕ, ◌==◌, List, [], ◌∷◌, flat_map, Bool, true, false, not, ◌&&◌, Option, Some, None, if◌then◌else◌}
use Rattle.adj_tree.specs.Code.{Var, plain, shadow, helper, Term, lit, var, elem, neg, bin, pow, power_of, abs, Terms, none, more, Runtime, push_word, pop_word, push_array, pop_array, push_control, pop_control, zero_array, begin_reversal, count_actions, give_action, end_reversal, Act, assign, choose, loop, during, call, runtime, Procedure}
use Rattle.adj_tree.specs.declared.fault.Refusal.{Refusal}
use Rattle.def_meaning.specs.Written.{find_unit}
use Rattle.def_names.specs.Statements.{statements}
use Rattle.def_names.specs.Reserved.{is_runtime}
use Rattle.def_names.specs.Variables.{Name, rank}
use Rattle.def_names.specs.Fault.{fault, faults_if}

-- ---- 15: actuals and dummies

abbrev pub variable_rank : Procedure → Var → ℕ
variable_rank u (plain x) = rank u x
variable_rank u (shadow x) = 0
variable_rank u (helper r k) = 0

-- whether an actual of the caller may stand for a dummy of that rank: a name of the same rank; another for a scalar
abbrev pub is_actual_for : Procedure → ℕ → Term → Bool
is_actual_for caller n (var x) = variable_rank caller x == n
is_actual_for caller n (elem x subs) = n == 0
is_actual_for caller n (lit z) = n == 0
is_actual_for caller n (neg a) = n == 0
is_actual_for caller n (bin op a b) = n == 0
is_actual_for caller n (pow a k) = n == 0
is_actual_for caller n (power_of a b) = n == 0
is_actual_for caller n (abs a) = n == 0

-- one for each dummy
abbrev pub are_actuals_for : Procedure → Procedure → List Name → Terms → Bool
are_actuals_for caller called [] none = true
are_actuals_for caller called [] (more e es) = false
are_actuals_for caller called (d ∷ ds) none = false
are_actuals_for caller called (d ∷ ds) (more e es) = is_actual_for caller (rank called d) e && are_actuals_for caller called ds es

-- the array argument of a runtime call
abbrev pub array_arguments : Runtime → List Var
array_arguments (push_word x subs) = []
array_arguments (pop_word x subs) = []
array_arguments (push_array x) = x ∷ []
array_arguments (pop_array x) = x ∷ []
array_arguments (push_control e) = []
array_arguments (pop_control x) = []
array_arguments (zero_array x) = x ∷ []
array_arguments (begin_reversal l s) = []
array_arguments (count_actions l s n) = []
array_arguments (give_action l s k a f t) = []
array_arguments end_reversal = []

-- ---- faults

-- a CALL of a unit: 14 where there is none of that name, 15 where its actuals don't fit
abbrev pub faults_of_unit_call : Procedure → Option Procedure → ℕ → Terms → List Refusal
faults_of_unit_call caller None line args = fault 14 line ∷ []
faults_of_unit_call caller (Some u) line args = faults_if (not (are_actuals_for caller u u.dummies args)) (fault 15 line)

-- a CALL of a runtime name is none of a unit; what isn't that runtime call has other arguments than it
abbrev pub faults_of_call : List Procedure → Procedure → ℕ → Act → List Refusal
faults_of_call ps u line (assign x subs e) = []
faults_of_call ps u line (choose c a b) = []
faults_of_call ps u line (loop x first last by body m) = []
faults_of_call ps u line (during c body) = []
faults_of_call ps u line (call name args) = if is_runtime name then fault 15 line ∷ [] else faults_of_unit_call u (find_unit ps name) line args
faults_of_call ps u line (runtime r) = flat_map (λ x. faults_if (variable_rank u x == 0) (fault 15 line)) (array_arguments r)

abbrev pub call_faults : List Procedure → List Refusal
call_faults ps = flat_map (λ u. flat_map (λ s. faults_of_call ps u s.0 s.1) (statements u.body)) ps
