-- The variables that a unit writes or reads without its calls.
use Rattle.std.specs.Prelude.{List, [], ◌∷◌, ◌++◌, map, flat_map}
use Rattle.adj_tree.specs.Code.{Var, plain, shadow, helper, Runtime, push_word, pop_word, push_array, pop_array, push_control, pop_control, zero_array, begin_reversal, count_actions, give_action, end_reversal, Act, assign, choose, loop, during, call, runtime, Declaration, Procedure}
use Rattle.def_meaning.specs.LeastSet.{Rule}
use Rattle.def_meaning.specs.Read.{read_rule}
use Rattle.def_meaning.specs.Written.{write_rule}
use Rattle.def_names.specs.NameFaults.{extent_names}
use Rattle.def_names.specs.Statements.{statements}
use Rattle.def_names.specs.Variables.{Name}
use Rattle.def_names.specs.VariableLists.{vars_in, vars_in_terms, vars_in_test, vars_in_mark, read_in_actuals}
use Rattle.adj_symbols_writes.specs.declared.side.Side.{Side}
use Rattle.adj_symbols_writes.specs.declared.side.Side.TheVariants.{Written, Read}

-- the name of a variable of the text
abbrev pub var_names : Var → List Name
var_names (plain x) = x ∷ []
var_names (shadow x) = []
var_names (helper r k) = []

-- the names of those of the text
abbrev pub names_among : List Var → List Name
names_among vs = flat_map var_names vs

-- ---- what is written

-- what a runtime call changes
abbrev pub changed_by : Runtime → List Var
changed_by (push_word x subs) = []
changed_by (pop_word x subs) = x ∷ []
changed_by (push_array x) = []
changed_by (pop_array x) = x ∷ []
changed_by (push_control e) = []
changed_by (pop_control x) = x ∷ []
changed_by (zero_array x) = x ∷ []
changed_by (begin_reversal l s) = []
changed_by (count_actions l s n) = n ∷ []
changed_by (give_action l s k a f t) = a ∷ f ∷ t ∷ []
changed_by end_reversal = []

-- what a statement writes itself, those in it and the unit that it calls left aside
abbrev pub own_written : Act → List Var
own_written (assign x subs e) = x ∷ []
own_written (choose c a b) = []
own_written (loop x first last by body m) = x ∷ []
own_written (during c body) = []
own_written (call name args) = []
own_written (runtime r) = changed_by r

-- ---- what is read

-- what a runtime call reads
abbrev pub looked_in : Runtime → List Var
looked_in (push_word x subs) = x ∷ vars_in_terms subs
looked_in (pop_word x subs) = vars_in_terms subs
looked_in (push_array x) = x ∷ []
looked_in (pop_array x) = []
looked_in (push_control e) = vars_in e
looked_in (pop_control x) = []
looked_in (zero_array x) = []
looked_in (begin_reversal l s) = vars_in l ++ vars_in s
looked_in (count_actions l s n) = vars_in l ++ vars_in s
looked_in (give_action l s k a f t) = vars_in l ++ (vars_in s ++ vars_in k)
looked_in end_reversal = []

-- what a statement reads itself, those in it and the unit that it calls left aside
abbrev pub own_read : Act → List Var
own_read (assign x subs e) = vars_in e ++ vars_in_terms subs
own_read (choose c a b) = vars_in_test c
own_read (loop x first last by body m) = vars_in first ++ (vars_in last ++ (vars_in by ++ vars_in_mark m))
own_read (during c body) = vars_in_test c
own_read (call name args) = read_in_actuals [] args
own_read (runtime r) = looked_in r

abbrev pub extents_read : List Declaration → List Var
extents_read ds = flat_map (λ d. map plain (extent_names d.extents)) ds

-- ---- both

abbrev pub own : Side → Act → List Var
own Written a = own_written a
own Read a = own_read a

abbrev pub declared_read : Side → List Declaration → List Var
declared_read Written ds = []
declared_read Read ds = extents_read ds

-- the names of what a unit writes or reads without its calls
abbrev pub direct : Side → Procedure → List Name
direct side u = names_among (flat_map (λ s. own side s.1) (statements u.body) ++ declared_read side u.declarations)

-- the rule by which the dummies are found that units write or read
abbrev pub rule_of : Side → Rule
rule_of Written = write_rule
rule_of Read = read_rule
