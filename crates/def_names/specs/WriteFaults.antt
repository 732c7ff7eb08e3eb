-- Faults of what statements may write. (docs/REFUSALS.md, "Writes")
use Rattle.std.specs.Prelude.{List, [], ◌∷◌, ◌++◌, flat_map, Bool, false, not, ◌&&◌, ◌||◌, ◌==◌, Option, Some, None, is_none}
use Rattle.std.specs.List.{list_any}
use Rattle.adj_tree.specs.Code.{Var, plain, var_eq, Term, lit, var, elem, neg, bin, pow, power_of, abs, Terms, none, more, Act, assign, choose, loop, during, call, runtime, Procedure}
use Rattle.adj_tree.specs.declared.fault.Refusal.{Refusal}
use Rattle.def_meaning.specs.LeastSet.{Dummies}
use Rattle.def_meaning.specs.Written.{is_place_of, is_handed_back, runtime_writes, handed_back}
use Rattle.def_meaning.specs.Read.{is_extent}
use Rattle.def_names.specs.Statements.{statements}
use Rattle.def_names.specs.Calls.{calls}
use Rattle.def_names.specs.CallFaults.{variable_rank}
use Rattle.def_names.specs.Fault.{fault, faults_if}

-- whether a statement may write the variable itself, those in it left aside: its target, its DO variable, an actual of a dummy
-- that is written, or what its runtime call changes
abbrev pub may_write : Dummies → Var → Act → Bool
may_write handed x (assign y subs e) = var_eq x y
may_write handed x (choose c a b) = false
may_write handed x (loop y first last by body m) = var_eq x y
may_write handed x (during c body) = false
may_write handed x (call name args) = is_handed_back x (handed name) args
may_write handed x (runtime r) = runtime_writes x r

-- ---- 11: statements in the body of a DO that may write its variable

abbrev pub writes_of_variable : Dummies → Act → List Refusal
writes_of_variable handed (assign x subs e) = []
writes_of_variable handed (choose c a b) = []
writes_of_variable handed (loop x first last by body m) = flat_map (λ s. faults_if (may_write handed x s.1) (fault 11 s.0)) (statements body)
writes_of_variable handed (during c body) = []
writes_of_variable handed (call name args) = []
writes_of_variable handed (runtime r) = []

abbrev pub written_variables : Dummies → Procedure → List Refusal
written_variables handed u = flat_map (λ s. writes_of_variable handed s.1) (statements u.body)

-- ---- 13: statements that may write a dummy which is an extent

abbrev pub written_extents : Dummies → Procedure → List Refusal
written_extents handed u = flat_map (λ s. faults_if (list_any (λ d. is_extent d u.declarations && may_write handed (plain d) s.1) u.dummies) (fault 13 s.0)) (statements u.body)

-- ---- 17: one variable as two actuals

-- the variable that an actual names, whole or by an element
abbrev pub named_by : Term → Option Var
named_by (var x) = Some x
named_by (elem x subs) = Some x
named_by (lit z) = None
named_by (neg a) = None
named_by (bin op a b) = None
named_by (pow a k) = None
named_by (power_of a b) = None
named_by (abs a) = None

-- whether both name one variable
abbrev pub is_named_by : Option Var → Term → Bool
is_named_by None f = false
is_named_by (Some x) f = is_place_of x f

abbrev pub name_one : Term → Term → Bool
name_one e f = is_named_by (named_by e) f

-- whether an actual is a whole array
abbrev pub is_whole_array : Procedure → Term → Bool
is_whole_array u (var x) = not (variable_rank u x == 0)
is_whole_array u (elem x subs) = false
is_whole_array u (lit z) = false
is_whole_array u (neg a) = false
is_whole_array u (bin op a b) = false
is_whole_array u (pow a k) = false
is_whole_array u (power_of a b) = false
is_whole_array u (abs a) = false

-- whether two actuals clash, where it is said of each whether its dummy is written: they name one variable, and one of the
-- dummies is written or both are whole arrays
abbrev pub clash : Procedure → Bool → Term → Bool → Term → Bool
clash u v e w f = name_one e f && ((v || w) || (is_whole_array u e && is_whole_array u f))

-- an actual and one of those behind it
abbrev pub clashes : Procedure → Bool → Term → List Bool → Terms → Bool
clashes u v e [] es = false
clashes u v e (w ∷ ws) none = false
clashes u v e (w ∷ ws) (more f fs) = clash u v e w f || clashes u v e ws fs

-- some two actuals
abbrev pub have_clash : Procedure → List Bool → Terms → Bool
have_clash u [] es = false
have_clash u (w ∷ ws) none = false
have_clash u (w ∷ ws) (more e es) = clashes u w e ws es || have_clash u ws es

abbrev pub shared_variables : Dummies → Procedure → List Refusal
shared_variables handed u = flat_map (λ c. faults_if (have_clash u (handed (c.1).0) (c.1).1) (fault 17 c.0)) (calls u)

-- ---- 24: an actual that is neither a name nor an element for a dummy that may be written

abbrev pub has_no_place : Term → Bool
has_no_place e = is_none (named_by e)

abbrev pub hands_back_values : List Bool → Terms → Bool
hands_back_values [] es = false
hands_back_values (w ∷ ws) none = false
hands_back_values (w ∷ ws) (more e es) = (w && has_no_place e) || hands_back_values ws es

abbrev pub written_values : Dummies → Procedure → List Refusal
written_values handed u = flat_map (λ c. faults_if (hands_back_values (handed (c.1).0) (c.1).1) (fault 24 c.0)) (calls u)

-- ---- all

abbrev pub faults_of_writes : Dummies → Procedure → List Refusal
faults_of_writes handed u = written_variables handed u ++ (written_extents handed u ++ (shared_variables handed u ++ written_values handed u))

abbrev pub write_faults : List Procedure → List Refusal
write_faults ps = flat_map (faults_of_writes (handed_back ps)) ps
