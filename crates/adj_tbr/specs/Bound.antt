-- Dummies with their places and actuals, and which of them are in a set.
use Rattle.std.specs.Prelude.{ℕ, ◌+◌, List, [], ◌∷◌, map, Bool, Option, Some, None, slice_index_or}
use Rattle.std.specs.Borrow.{Bor}
use Rattle.adj_tree.specs.Code.{Var, plain, Terms, none, more}
use Rattle.def_flow.specs.Problem.{name_of}
use Rattle.adj_flow.specs.Rows.{Row}
use Rattle.adj_tbr.specs.declared.bound.Bound.{Bound}

-- a dummy by its place, its name, and its actual
abbrev pub Passed : Type 0
Passed = ℕ × List ℕ × Var

abbrev pub passed_of : Bound → Passed
passed_of b = (b.place, b.dummy.now, plain b.actual.now)

abbrev pub with_place : ℕ → List ℕ → Option Var → List Passed → List Passed
with_place k d None rest = rest
with_place k d (Some y) rest = (k, d, y) ∷ rest

-- each dummy with its actual, where that is a variable, the first dummy having the place k
abbrev pub bound_from : ℕ → List (List ℕ) → Terms → List Passed
bound_from k [] args = []
bound_from k (d ∷ ds) none = []
bound_from k (d ∷ ds) (more e es) = with_place k d (name_of e) (bound_from (k + 1) ds es)

-- which dummies of each unit are in a set
abbrev pub seen : List (Bor (List Bool)) → List (List Bool)
seen bs = map (λ b. b.now) bs

-- which of its dummies a unit has in the set
abbrev pub dummies_at : List (Bor (List Bool)) → Row → List Bool
dummies_at side g = slice_index_or (seen side) g.part.number []
