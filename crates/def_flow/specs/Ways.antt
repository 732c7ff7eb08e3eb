-- How the points of a unit lead to each other. (docs/ANALYSES.md, "Points and ways")
use Rattle.std.specs.Prelude.{ℕ, suc, List, [], ◌∷◌, ◌++◌, Bool, false, ◌||◌}
use Rattle.adj_tree.specs.Code.{Var, var_eq, Term, lit, var, elem, neg, bin, pow, power_of, abs, Terms, none, more, Act, assign, choose, loop, during, call, runtime, Code, stop, step}
use Rattle.def_names.specs.Numbers.{Vars, next, behind}
use Rattle.def_names.specs.Numbering.{point_before, point_after, point_inside}

-- what is done on a way, as far as it matters to the values of variables
pub data Deed : Type 0 where
  -- nothing that assigns a whole variable
  passing : Deed
  -- the i-th statement assigns the whole variable: an assignment to a scalar, or the entry or a step of a DO
  assigning : ℕ → Var → Deed
  -- a unit is called with these actuals
  calling : Terms → Deed

pub record Way : Type 0 where
  pub from : ℕ
  pub to : ℕ
  pub deed : Deed

abbrev pub way : ℕ → ℕ → Deed → Way
way p q d = record { from = p; to = q; deed = d }

abbrev mutual
  -- the ways of the i-th statement
  pub act_ways : ℕ → Act → List Way
  act_ways i (assign x none e) = way (point_before i) (point_after i) (assigning i x) ∷ []
  act_ways i (assign x (more j js) e) = way (point_before i) (point_after i) passing ∷ []
  -- the point before an IF leads into each part, and each part to the point after it
  act_ways i (choose c a b) = ways (suc i) (point_before i) (point_after i) passing a ++ ways (behind (suc i) a) (point_before i) (point_after i) passing b
  -- the point inside a DO: the entry leads there, then the body, then a step back to it, or the way out
  act_ways i (loop x first last by body m) =
      way (point_before i) (point_inside i) (assigning i x) ∷ way (point_inside i) (point_after i) passing ∷ ways (suc i) (point_inside i) (point_inside i) (assigning i x) body
  -- the point inside a DO WHILE, its test: the way there, the way out, and the body back to it
  act_ways i (during c body) = way (point_before i) (point_inside i) passing ∷ way (point_inside i) (point_after i) passing ∷ ways (suc i) (point_inside i) (point_inside i) passing body
  act_ways i (call name args) = way (point_before i) (point_after i) (calling args) ∷ []
  act_ways i (runtime r) = way (point_before i) (point_after i) passing ∷ []

  -- the ways of a list whose first statement has the number i: p leads to its first point, and its last point leads to q, on which `last` is done
  pub ways : ℕ → ℕ → ℕ → Deed → Code → List Way
  ways i p q last stop = way p q last ∷ []
  ways i p q last (step line a rest) = way p (point_before i) passing ∷ (act_ways i a ++ ways (next i a) (point_after i) q last rest)

-- ---- variables on a way

-- the variable that is assigned whole
abbrev pub assigned_on : Deed → Vars
assigned_on passing v = false
assigned_on (assigning i x) v = var_eq v x
assigned_on (calling args) v = false

-- whether an actual is this variable
abbrev pub is_name : Var → Term → Bool
is_name v (var y) = var_eq v y
is_name v (lit z) = false
is_name v (elem y subs) = false
is_name v (neg a) = false
is_name v (bin op a b) = false
is_name v (pow a k) = false
is_name v (power_of a b) = false
is_name v (abs a) = false

abbrev pub is_actual : Var → Terms → Bool
is_actual v none = false
is_actual v (more e es) = is_name v e || is_actual v es

-- the actuals of the call
abbrev pub passed_on : Deed → Vars
passed_on passing v = false
passed_on (assigning i x) v = false
passed_on (calling args) v = is_actual v args
