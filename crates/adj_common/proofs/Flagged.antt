-- Flags of blocks, with those of one more.
use Rattle.std.proofs.Common.{ℕ, List, [], ◌∷◌, ◌++◌}
use Rattle.std.specs.Prelude.{◌↔◌, Bool, IsTrue}
use Rattle.adj_reach.specs.Edges.{Edges, ReachedBack, flag}
use Rattle.adj_common.specs.Layouts.{units_of_row}
use Rattle.adj_common.specs.Using.{AreReached}

pub reached_more : (es : Edges) (owners : List ℕ) (rows : List (List ℕ)) (fs : List (List Bool)) (row : List ℕ) (f : List Bool) → AreReached es owners rows fs → ((u : ℕ) → IsTrue (flag f u) ↔ ReachedBack es (units_of_row owners row) u) → AreReached es owners (rows ++ row ∷ []) (fs ++ f ∷ [])
reached_more es owners [] [] row f h g = (g, tt)
reached_more es owners [] (k ∷ fs) row f h g = absurd h
reached_more es owners (r ∷ rows) [] row f h g = absurd h
reached_more es owners (r ∷ rows) (k ∷ fs) row f h g = (h.0, reached_more es owners rows fs row f h.1 g)
