-- The calls of a program by the numbers of units: what `taking_part` goes over.
use Rattle.std.specs.Prelude.{ℕ, suc, List, [], ◌∷◌, ◌++◌, flat_map, Option, Some, None}
use Rattle.adj_tree.specs.Code.{Act, assign, choose, loop, during, call, runtime, Procedure}
use Rattle.def_names.specs.Numbers.{behind}
use Rattle.def_flow.specs.Standing.{outermost, Standing, standing}
use Rattle.adj_flow.specs.Rows.{Row}

-- the number of the unit that a statement calls, where names give these numbers
abbrev pub called_by : (List ℕ → Option ℕ) → Act → Option ℕ
called_by find (assign x subs e) = None
called_by find (choose c a b) = None
called_by find (loop x first last by body m) = None
called_by find (during c body) = None
called_by find (call name args) = find name
called_by find (runtime r) = None

abbrev pub with_call : ℕ → Option ℕ → List (ℕ × ℕ) → List (ℕ × ℕ)
with_call u None rest = rest
with_call u (Some n) rest = (u, n) ∷ rest

-- from the u-th unit to each unit that these statements of it call
abbrev pub calls_in : (List ℕ → Option ℕ) → ℕ → List Standing → List (ℕ × ℕ)
calls_in find u [] = []
calls_in find u (s ∷ ss) = with_call u (called_by find s.act) (calls_in find u ss)

-- the same of all units from the u-th on, whose first statement has the number i
abbrev pub calls_from : (List ℕ → Option ℕ) → ℕ → ℕ → List Procedure → List (ℕ × ℕ)
calls_from find u i [] = []
calls_from find u i (q ∷ qs) = calls_in find u (standing outermost i q.body) ++ calls_from find (suc u) (behind i q.body) qs

-- and of units with their statements
abbrev pub calls_of : (List ℕ → Option ℕ) → List Row → List (ℕ × ℕ)
calls_of find rs = flat_map (λ r. calls_in find r.part.number r.statements) rs
