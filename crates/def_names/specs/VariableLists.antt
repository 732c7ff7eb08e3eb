-- The variables of terms and statements as lists, in the order of the text.
use Rattle.std.specs.Prelude.{zero, suc, List, [], ◌∷◌, ◌++◌, Bool, true, false, ◌||◌}
use Rattle.adj_tree.specs.Code.{Var, var_eq, plus, minus, times, quot, modulo, greater, lesser, Term, lit, var, elem, neg, bin, pow, power_of, abs, Terms, none, more, Test, compare, negation, conjunction, disjunction, Mark, unmarked, with_count, count_from, Act, assign, choose, loop, during, call, runtime, Procedure}
use Rattle.def_meaning.specs.Read.{looked_at}
use Rattle.def_meaning.specs.Written.{handed_back}
use Rattle.def_names.specs.Numbers.{Vars}

-- the variable is among these
abbrev pub has : List Var → Vars
has [] v = false
has (x ∷ xs) v = var_eq v x || has xs v

-- a list where b holds, and else nothing
abbrev pub list_if : {X : Type 0} → Bool → List X → List X
list_if true xs = xs
list_if false xs = []

abbrev mutual
  -- those that stand in a term
  pub vars_in : Term → List Var
  vars_in (lit z) = []
  vars_in (var x) = x ∷ []
  vars_in (elem x subs) = x ∷ vars_in_terms subs
  vars_in (neg a) = vars_in a
  vars_in (bin op a b) = vars_in a ++ vars_in b
  vars_in (pow a k) = vars_in a
  vars_in (power_of a b) = vars_in a ++ vars_in b
  vars_in (abs a) = vars_in a

  pub vars_in_terms : Terms → List Var
  vars_in_terms none = []
  vars_in_terms (more e es) = vars_in e ++ vars_in_terms es

abbrev pub vars_in_test : Test → List Var
vars_in_test (compare r a b) = vars_in a ++ vars_in b
vars_in_test (negation c) = vars_in_test c
vars_in_test (conjunction c d) = vars_in_test c ++ vars_in_test d
vars_in_test (disjunction c d) = vars_in_test c ++ vars_in_test d

abbrev pub vars_in_mark : Mark → List Var
vars_in_mark unmarked = []
vars_in_mark (with_count m) = []
vars_in_mark (count_from x) = x ∷ []

-- those at a differentiable occurrence
abbrev pub occurring_in : Term → List Var
occurring_in (lit z) = []
occurring_in (var x) = x ∷ []
occurring_in (elem x subs) = x ∷ []
occurring_in (neg a) = occurring_in a
occurring_in (bin plus a b) = occurring_in a ++ occurring_in b
occurring_in (bin minus a b) = occurring_in a ++ occurring_in b
occurring_in (bin times a b) = occurring_in a ++ occurring_in b
occurring_in (bin quot a b) = []
occurring_in (bin modulo a b) = []
occurring_in (bin greater a b) = []
occurring_in (bin lesser a b) = []
occurring_in (pow a zero) = []
occurring_in (pow a (suc k)) = occurring_in a
occurring_in (power_of a b) = occurring_in a
occurring_in (abs a) = []

-- all of a list, or else a part of it
abbrev pub whole_or : Bool → List Var → List Var → List Var
whole_or true whole part = whole
whole_or false whole part = part

-- what is read of an actual: the actual of a dummy that is read, and what stands in it
abbrev pub read_in_actual : Bool → Term → List Var
read_in_actual w (lit z) = []
read_in_actual w (var x) = list_if w (x ∷ [])
read_in_actual w (elem x subs) = list_if w (x ∷ []) ++ vars_in_terms subs
read_in_actual w (neg a) = vars_in a
read_in_actual w (bin op a b) = vars_in a ++ vars_in b
read_in_actual w (pow a k) = vars_in a
read_in_actual w (power_of a b) = vars_in a ++ vars_in b
read_in_actual w (abs a) = vars_in a

abbrev pub read_in_actuals : List Bool → Terms → List Var
read_in_actuals ws none = []
read_in_actuals [] (more e es) = read_in_actual false e ++ read_in_actuals [] es
read_in_actuals (w ∷ ws) (more e es) = read_in_actual w e ++ read_in_actuals ws es

-- the variable that an actual is, or has as its element
abbrev pub place_of_actual : Term → List Var
place_of_actual (lit z) = []
place_of_actual (var x) = x ∷ []
place_of_actual (elem x subs) = x ∷ []
place_of_actual (neg a) = []
place_of_actual (bin op a b) = []
place_of_actual (pow a k) = []
place_of_actual (power_of a b) = []
place_of_actual (abs a) = []

-- the actuals of the dummies that are written
abbrev pub handed_in_actuals : List Bool → Terms → List Var
handed_in_actuals [] args = []
handed_in_actuals (w ∷ ws) none = []
handed_in_actuals (w ∷ ws) (more e es) = list_if w (place_of_actual e) ++ handed_in_actuals ws es

-- those that a kept statement uses
abbrev pub used_in : List Procedure → Act → List Var
used_in units (assign x subs e) = vars_in e ++ vars_in_terms subs
used_in units (choose c a b) = vars_in_test c
used_in units (loop x first last by body m) = vars_in first ++ (vars_in last ++ (vars_in by ++ vars_in_mark m))
used_in units (during c body) = vars_in_test c
used_in units (call name args) = read_in_actuals (looked_at units name) args
used_in units (runtime r) = []

-- those that a call may write
abbrev pub handed_in : List Procedure → Act → List Var
handed_in units (assign x subs e) = []
handed_in units (choose c a b) = []
handed_in units (loop x first last by body m) = []
handed_in units (during c body) = []
handed_in units (call name args) = handed_in_actuals (handed_back units name) args
handed_in units (runtime r) = []

-- those that stand in a statement itself, without those in it; a call of the runtime isn't analysed
abbrev pub standing_in : Act → List Var
standing_in (assign x subs e) = x ∷ (vars_in_terms subs ++ vars_in e)
standing_in (choose c a b) = vars_in_test c
standing_in (loop x first last by body m) = x ∷ (vars_in first ++ (vars_in last ++ (vars_in by ++ vars_in_mark m)))
standing_in (during c body) = vars_in_test c
standing_in (call name args) = vars_in_terms args
standing_in (runtime r) = []
