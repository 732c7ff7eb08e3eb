-- Graphs of units, with what is known of which of their nodes lead to which.
use Rattle.std.specs.Prelude.{ℕ, ◌+◌, ◌<◌, ◌≤◌, ◌^◌, List, [], ◌∷◌, Bool, Option, Some, None, All, IsTrue, slice_index}
use Rattle.std.specs.List.{flat_map}
use Rattle.adj_tree.specs.Code.{Procedure}
use Rattle.def_names.specs.Statements.{At}
use Rattle.def_names.specs.Calls.{Call, calls_from}
use Rattle.adj_reach.specs.Edges.{Edges, ReachedFrom, AreBelow, flag}
use Rattle.adj_symbols_writes.specs.Graph.{number_from}

pub record Links : Type 0 where
  pub nodes : ℕ
  pub edges : Edges

-- the edge of a call, where both units are there
abbrev pub edge_of : Option ℕ → Option ℕ → Edges
edge_of None to = []
edge_of (Some i) None = []
edge_of (Some i) (Some j) = (i, j) ∷ []

-- from the unit of a number to those of its calls
abbrev pub edges_from : List Procedure → Option ℕ → List (At Call) → Edges
edges_from ps number cs = flat_map (λ c. edge_of number (number_from 0 ps (c.1).0)) cs

-- from each unit to those that it calls
abbrev pub call_edges : List Procedure → Edges
call_edges ps = flat_map (λ u. edges_from ps (number_from 0 ps u.name) (calls_from ps u.name)) ps

-- ---- what is known

-- no edge leads to a node with a greater label
abbrev pub AreSinking : List ℕ → Edges → Type 0
AreSinking labels edges = All (λ e. slice_index labels e.1 ≤ slice_index labels e.0) edges

-- the root of the label of a node
abbrev pub root_at : List ℕ → List ℕ → ℕ → ℕ
root_at labels roots x = slice_index roots (slice_index labels x)

-- the root of its label leads to a node that is ahead, and a node that is behind leads to the root
pub record AreKnown (nodes : ℕ) (edges : Edges) (labels roots : List ℕ) (ahead behind : List Bool) : Type 0 where
  pub room : nodes + 1 < 2 ^ 64
  pub below : AreBelow nodes edges
  pub sinking : AreSinking labels edges
  pub ahead_known : (x : ℕ) → IsTrue (flag ahead x) → ReachedFrom edges (root_at labels roots x ∷ []) x
  pub behind_known : (x : ℕ) → IsTrue (flag behind x) → ReachedFrom edges (x ∷ []) (root_at labels roots x)
