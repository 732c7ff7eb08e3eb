-- The names in a unit's text, as they are gone through.
use Rattle.std.specs.Prelude.{ℕ, List, [], ◌∷◌, ◌++◌, map, flat_map}
use Rattle.adj_tree.specs.Code.{Var, plain, Runtime, push_word, pop_word, push_array, pop_array, push_control, pop_control, zero_array, begin_reversal, count_actions, give_action, end_reversal, Act, assign, choose, loop, during, call, runtime, Declaration}
use Rattle.adj_tree.specs.Common.{Common, Shared}
use Rattle.def_names.specs.Statements.{statements}
use Rattle.def_names.specs.NameFaults.{extent_names}
use Rattle.def_names.specs.VariableLists.{vars_in, vars_in_terms, vars_in_test, vars_in_mark}

abbrev pub vars_in_runtime : Runtime → List Var
vars_in_runtime (push_word x subs) = x ∷ vars_in_terms subs
vars_in_runtime (pop_word x subs) = x ∷ vars_in_terms subs
vars_in_runtime (push_array x) = x ∷ []
vars_in_runtime (pop_array x) = x ∷ []
vars_in_runtime (push_control e) = vars_in e
vars_in_runtime (pop_control x) = x ∷ []
vars_in_runtime (zero_array x) = x ∷ []
vars_in_runtime (begin_reversal l s) = vars_in l ++ vars_in s
vars_in_runtime (count_actions l s n) = vars_in l ++ (vars_in s ++ n ∷ [])
vars_in_runtime (give_action l s k a f t) = vars_in l ++ (vars_in s ++ (vars_in k ++ (a ∷ f ∷ t ∷ [])))
vars_in_runtime end_reversal = []

-- those in a statement itself
abbrev pub vars_in_act : Act → List Var
vars_in_act (assign x subs e) = x ∷ (vars_in_terms subs ++ vars_in e)
vars_in_act (choose c a b) = vars_in_test c
vars_in_act (loop x first last by body m) = vars_in_mark m ++ (x ∷ (vars_in first ++ (vars_in last ++ vars_in by)))
vars_in_act (during c body) = vars_in_test c
vars_in_act (call name args) = vars_in_terms args
vars_in_act (runtime r) = vars_in_runtime r

abbrev pub vars_of_names : List (List ℕ) → List Var
vars_of_names xs = map plain xs

abbrev pub vars_declared : List Declaration → List Var
vars_declared ds = map (λ d. plain d.name) ds

abbrev pub vars_in_extents : List Declaration → List Var
vars_in_extents ds = flat_map (λ d. map plain (extent_names d.extents)) ds

abbrev pub vars_of_items : List Common → List Var
vars_of_items cs = flat_map (λ c. vars_declared c.items) cs

-- all names, those of members and of extents too
abbrev pub text_vars : Shared → List Var
text_vars s =
    vars_of_names s.unit.dummies
    ++ (vars_declared s.unit.declarations
    ++ (flat_map (λ t. vars_in_act t.1) (statements s.unit.body)
    ++ (vars_of_items s.commons ++ vars_in_extents s.unit.declarations)))
