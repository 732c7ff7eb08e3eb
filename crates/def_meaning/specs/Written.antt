-- Which variables statements may write, and so which dummies a unit hands back. (docs/RUNNING.md, "Calls")
use Rattle.std.specs.Prelude.{ℕ, List, [], ◌∷◌, Bool, false, ◌&&◌, ◌||◌, Option, Some, None, if◌then◌else◌}
use Rattle.adj_tree.specs.Code.{Var, plain, name_eq, var_eq, Term, lit, var, elem, neg, bin, pow, power_of, abs, Terms, none, more, Runtime, push_word, pop_word, push_array, pop_array, push_control, pop_control, zero_array, begin_reversal, count_actions, give_action, end_reversal, Act, assign, choose, loop, during, call, runtime, Code, stop, step, Procedure}
use Rattle.def_meaning.specs.LeastSet.{Dummies, Rule, in_least}

-- the unit of a name
abbrev pub find_unit : List Procedure → List ℕ → Option Procedure
find_unit [] name = None
find_unit (u ∷ us) name = if name_eq u.name name then Some u else find_unit us name

-- whether an actual is the variable or one of its elements
abbrev pub is_place_of : Var → Term → Bool
is_place_of x (var y) = var_eq x y
is_place_of x (elem y subs) = var_eq x y
is_place_of x (lit z) = false
is_place_of x (neg a) = false
is_place_of x (bin op a b) = false
is_place_of x (pow a k) = false
is_place_of x (power_of a b) = false
is_place_of x (abs a) = false

-- whether the variable is an actual of a dummy that is written
abbrev pub is_handed_back : Var → List Bool → Terms → Bool
is_handed_back x [] args = false
is_handed_back x (w ∷ ws) none = false
is_handed_back x (w ∷ ws) (more e es) = (w && is_place_of x e) || is_handed_back x ws es

-- whether a runtime call changes the variable
abbrev pub runtime_writes : Var → Runtime → Bool
runtime_writes x (push_word y subs) = false
runtime_writes x (pop_word y subs) = var_eq x y
runtime_writes x (push_array y) = false
runtime_writes x (pop_array y) = var_eq x y
runtime_writes x (push_control e) = false
runtime_writes x (pop_control y) = var_eq x y
runtime_writes x (zero_array y) = var_eq x y
runtime_writes x (begin_reversal l m) = false
runtime_writes x (count_actions l m y) = var_eq x y
runtime_writes x (give_action l m e a f t) = var_eq x a || (var_eq x f || var_eq x t)
runtime_writes x end_reversal = false

abbrev mutual
  -- whether a statement may write the variable, where `handed` says which dummies of a unit are written:
  -- its target, the variable of a DO, an actual of a dummy that is written, and what a runtime call changes
  pub act_writes : Dummies → Var → Act → Bool
  act_writes handed x (assign y subs e) = var_eq x y
  act_writes handed x (choose c a b) = writes handed x a || writes handed x b
  act_writes handed x (loop y first last by body m) = var_eq x y || writes handed x body
  act_writes handed x (during c body) = writes handed x body
  act_writes handed x (call name args) = is_handed_back x (handed name) args
  act_writes handed x (runtime r) = runtime_writes x r

  -- the same of a list
  pub writes : Dummies → Var → Code → Bool
  writes handed x stop = false
  writes handed x (step line a rest) = act_writes handed x a || writes handed x rest

-- ---- the dummies that units write

-- a unit writes the dummies that its statements may write
abbrev pub write_rule : Rule
write_rule handed u d = writes handed (plain d) u.body

-- which dummies of the unit of a name are written, and so handed back at the end of a call: the least set by that rule
abbrev pub handed_back : List Procedure → Dummies
handed_back units name = in_least write_rule units name

-- whether the unit writes its dummy
abbrev pub is_written : List Procedure → Procedure → List ℕ → Bool
is_written units u d = write_rule (handed_back units) u d
