-- Which blocks units use, by searches along calls.
use Rattle.std.specs.Prelude.{ℕ, ◌+◌, ◌↔◌, List, [], ◌∷◌, ◌++◌, flat_map, Bool, Option, Some, None, IsTrue, if◌then◌else◌}
use Rattle.adj_tree.specs.Code.{Act, assign, choose, loop, during, call, runtime}
use Rattle.adj_tree.specs.Common.{Shared}
use Rattle.def_names.specs.Statements.{statements}
use Rattle.adj_reach.specs.Edges.{Edges, ReachedBack, flag}
use Rattle.adj_symbols_writes.specs.Table.{value_of, with_value}
use Rattle.adj_common.specs.Layouts.{units_of_row}

-- the numbers of units by their names, the first of a name counting
abbrev pub numbered_from : List (List ℕ × ℕ) → ℕ → List Shared → List (List ℕ × ℕ)
numbered_from es k [] = es
numbered_from es k (s ∷ ss) = numbered_from (with_value es s.unit.name k) (k + 1) ss

abbrev pub unit_numbers : List Shared → List (List ℕ × ℕ)
unit_numbers ss = numbered_from [] 0 ss

-- ---- calls, from the calling unit to the called one

abbrev pub edge_to : ℕ → Option ℕ → Edges
edge_to u None = []
edge_to u (Some j) = (u, j) ∷ []

abbrev pub act_edges : List (List ℕ × ℕ) → ℕ → Act → Edges
act_edges ns u (assign x subs e) = []
act_edges ns u (choose c a b) = []
act_edges ns u (loop x first last by body m) = []
act_edges ns u (during c body) = []
act_edges ns u (call name args) = edge_to u (value_of name ns)
act_edges ns u (runtime r) = []

abbrev pub unit_edges : List (List ℕ × ℕ) → ℕ → Shared → Edges
unit_edges ns u s = flat_map (λ t. act_edges ns u t.1) (statements s.unit.body)

abbrev pub edges_from : List (List ℕ × ℕ) → ℕ → List Shared → Edges
edges_from ns u [] = []
edges_from ns u (s ∷ ss) = unit_edges ns u s ++ edges_from ns (u + 1) ss

-- ---- which units use each block

-- the flags of a block are of the units that lead to one of those that declare it
abbrev pub AreReached : Edges → List ℕ → List (List ℕ) → List (List Bool) → Type 0
AreReached es owners [] [] = Unit {0}
AreReached es owners [] (f ∷ fs) = ⊥
AreReached es owners (row ∷ rows) [] = ⊥
AreReached es owners (row ∷ rows) (f ∷ fs) = ((u : ℕ) → IsTrue (flag f u) ↔ ReachedBack es (units_of_row owners row) u) × AreReached es owners rows fs

-- the numbers of the blocks whose flags a unit has, blocks being numbered from one on
abbrev pub row_from : ℕ → List (List Bool) → ℕ → List ℕ
row_from k [] u = []
row_from k (f ∷ fs) u = (if flag f u then k ∷ [] else []) ++ row_from (k + 1) fs u

abbrev pub rows_from : List (List Bool) → ℕ → List Shared → List (List ℕ)
rows_from fs u [] = []
rows_from fs u (s ∷ ss) = row_from 0 fs u ∷ rows_from fs (u + 1) ss
