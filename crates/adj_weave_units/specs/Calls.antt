-- What units get in their order: numbers of statements, and the calls between them.
use Rattle.std.specs.Prelude.{ℕ, suc, List, [], ◌∷◌, ◌++◌, Bool, true, false, Option, Some, None, if◌then◌else◌, position}
use Rattle.adj_tree.specs.Code.{name_eq, Mark, unmarked, with_count, count_from, Act, assign, choose, loop, during, call, runtime, Code, stop, step, Procedure}
use Rattle.def_names.specs.Numbers.{next, behind}
use Rattle.def_sweep.specs.Plan.{found_or}
use Rattle.adj_reach.specs.Edges.{Edges, flag}
use Rattle.adj_weave_units.specs.declared.calls.Call.{Call}

-- the numbers of the first statements of units, where that of the first unit is i
abbrev pub numbers_from : ℕ → List Procedure → List ℕ
numbers_from i [] = []
numbers_from i (u ∷ us) = i ∷ numbers_from (behind i u.body) us

-- ---- calls

-- what a list calls, if a call is all that it is
abbrev pub only_called : Code → Option (List ℕ)
only_called (step line (call name args) stop) = Some name
only_called body = None

-- what the turns of a marked loop call, if a call is all that they do
abbrev pub turned : Mark → Code → Option (List ℕ)
turned unmarked body = None
turned (with_count n) body = only_called body
turned (count_from x) body = only_called body

-- a call in the i-th statement, from a unit to one that is found; whether it is all that the turns of a marked loop do
abbrev pub call_to : ℕ → ℕ → Bool → Option ℕ → List Call
call_to i k turns None = []
call_to i k turns (Some j) = record { number = i; from = k; to = j; turns = turns } ∷ []

-- the calls in the i-th statement, or in a list that begins with it, of the k-th unit, where the units have these names
abbrev mutual
  pub listed_act : List (List ℕ) → ℕ → ℕ → Act → List Call
  listed_act names k i (assign x subs e) = []
  listed_act names k i (choose c a b) = listed_in names k (suc i) a ++ listed_in names k (behind (suc i) a) b
  listed_act names k i (loop x a b c body m) = found_or (turned m body) (listed_in names k (suc i) body) (λ name. call_to (suc i) k true (position (name_eq name) names))
  listed_act names k i (during c body) = listed_in names k (suc i) body
  listed_act names k i (call name args) = call_to i k false (position (name_eq name) names)
  listed_act names k i (runtime r) = []

  pub listed_in : List (List ℕ) → ℕ → ℕ → Code → List Call
  listed_in names k i stop = []
  listed_in names k i (step line a rest) = listed_act names k i a ++ listed_in names k (next i a) rest

-- those of units of which the first is the k-th and begins with the i-th statement
abbrev pub listed_from : List (List ℕ) → ℕ → ℕ → List Procedure → List Call
listed_from names k i [] = []
listed_from names k i (u ∷ us) = listed_in names k i u.body ++ listed_from names (suc k) (behind i u.body) us

-- an edge for each call of a set
abbrev pub edges_of : (ℕ → Bool → Bool) → List Call → Edges
edges_of f [] = []
edges_of f (c ∷ cs) = if f c.number c.turns then (c.from, c.to) ∷ edges_of f cs else edges_of f cs

-- the ends of the edges that come from flagged nodes
abbrev pub ends_of : List Bool → Edges → List ℕ
ends_of flags [] = []
ends_of flags (e ∷ es) = if flag flags e.0 then e.1 ∷ ends_of flags es else ends_of flags es

-- the names that are flagged
abbrev pub flagged : List Bool → List (List ℕ) → List (List ℕ)
flagged [] xs = []
flagged (f ∷ fs) [] = []
flagged (f ∷ fs) (x ∷ xs) = if f then x ∷ flagged fs xs else flagged fs xs
