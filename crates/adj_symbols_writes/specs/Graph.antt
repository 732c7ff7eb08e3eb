-- Dummies as nodes of a graph: those of all units are numbered one after another, and an edge leads from a dummy of a called unit to its actual.
use Rattle.std.specs.Prelude.{◌≡◌, ℕ, zero, suc, ◌+◌, ◌<◌, ◌^◌, List, [], ◌∷◌, ◌++◌, length, map, flat_map, Bool, Option, Some, None, if◌then◌else◌}
use Rattle.std.specs.List.{slice_get}
use Rattle.adj_tree.specs.Code.{Var, plain, shadow, helper, name_eq, Terms, none, more, Act, assign, choose, loop, during, call, runtime, Procedure}
use Rattle.adj_tree.specs.View.{procedure_of}
use Rattle.adj_tree.specs.declared.unit.Unit.{Unit}
use Rattle.def_names.specs.Statements.{statements}
use Rattle.def_names.specs.Variables.{Name}
use Rattle.def_names.specs.WriteFaults.{named_by}
use Rattle.adj_reach.specs.Edges.{Edges}
use Rattle.adj_symbols_writes.specs.Table.{value_of}

-- ---- nodes

-- a unit with the node of its first dummy
pub record Placed : Type 0 where
  pub unit : Unit
  pub first : ℕ

abbrev pub Unit' : Type 0
Unit' = ℕ × Procedure

abbrev pub placed_of : Placed → Unit'
placed_of p = (p.first, procedure_of p.unit)

-- the units, the first dummy having the node k
abbrev pub numbered : ℕ → List Procedure → List Unit'
numbered k [] = []
numbered k (u ∷ us) = (k, u) ∷ numbered (k + length u.dummies) us

-- the place of the first of these names that is x, the first place being k: for dummies their node
abbrev pub place_from : ℕ → List Name → Name → Option ℕ
place_from k [] x = None
place_from k (y ∷ ys) x = if name_eq x y then Some k else place_from (suc k) ys x

-- the number of the first unit of a name, where they are numbered from k on
abbrev pub number_from : ℕ → List Procedure → Name → Option ℕ
number_from k us x = place_from k (map (λ u. u.name) us) x

-- the nodes of the dummies of a unit, and room for one more number
pub record AreNodes (first : ℕ) (ds : List Name) (nodes : List (Name × ℕ)) : Type 0 where
  pub room : first + length ds < 2 ^ 64
  pub known : (x : Name) → value_of x nodes ≡ place_from first ds x

-- ---- where a search starts

abbrev pub list_of : Option ℕ → List ℕ
list_of None = []
list_of (Some n) = n ∷ []

-- the nodes of these names
abbrev pub nodes_of : Unit' → List Name → List ℕ
nodes_of p xs = flat_map (λ x. list_of (place_from p.0 (p.1).dummies x)) xs

-- the nodes of the names that are in the set outright
abbrev pub starts : (Procedure → List Name) → List Unit' → List ℕ
starts direct ps = flat_map (λ p. nodes_of p (direct p.1)) ps

-- ---- edges

-- an edge to a node
abbrev pub edge_to : ℕ → Option ℕ → Edges
edge_to i None = []
edge_to i (Some n) = (i, n) ∷ []

-- an edge from a node
abbrev pub edge_from : Option ℕ → ℕ → Edges
edge_from None j = []
edge_from (Some n) j = (n, j) ∷ []

-- from the first dummy of each name to all of that name, those that are left having the nodes from j on
abbrev pub same_edges : Unit' → ℕ → List Name → Edges
same_edges p j [] = []
same_edges p j (d ∷ ds) = edge_from (place_from p.0 (p.1).dummies d) j ++ same_edges p (suc j) ds

abbrev pub var_place : Unit' → Var → Option ℕ
var_place p (plain x) = place_from p.0 (p.1).dummies x
var_place p (shadow x) = None
var_place p (helper r k) = None

-- the node of the dummy that an actual names, whole or by an element
abbrev pub place_in : Unit' → Option Var → Option ℕ
place_in p None = None
place_in p (Some x) = var_place p x

-- from each of some dummies, which have the nodes from i on, to its actual
abbrev pub actual_edges : Unit' → ℕ → List Name → Terms → Edges
actual_edges p i [] args = []
actual_edges p i (d ∷ ds) none = []
actual_edges p i (d ∷ ds) (more e es) = edge_to i (place_in p (named_by e)) ++ actual_edges p (suc i) ds es

-- from the dummies of a unit that is called, where it is there
abbrev pub call_edges : Unit' → Option Unit' → Terms → Edges
call_edges p None args = []
call_edges p (Some q) args = actual_edges p q.0 (q.1).dummies args

-- the unit of a number, where there is one
abbrev pub found_at : List Unit' → Option ℕ → Option Unit'
found_at ps None = None
found_at ps (Some n) = slice_get ps n

abbrev pub act_edges : (Name → Option Unit') → Unit' → Act → Edges
act_edges find p (assign x subs e) = []
act_edges find p (choose c a b) = []
act_edges find p (loop x first last by body m) = []
act_edges find p (during c body) = []
act_edges find p (call name args) = call_edges p (find name) args
act_edges find p (runtime r) = []

abbrev pub unit_edges : (Name → Option Unit') → Unit' → Edges
unit_edges find p = same_edges p p.0 (p.1).dummies ++ flat_map (λ s. act_edges find p s.1) (statements (p.1).body)

abbrev pub edges : (Name → Option Unit') → List Unit' → Edges
edges find ps = flat_map (unit_edges find) ps

-- ---- which dummies are found

-- what is said of the n nodes from i on
abbrev pub bits : (ℕ → Bool) → ℕ → ℕ → List Bool
bits is_in i zero = []
bits is_in i (suc n) = is_in i ∷ bits is_in (suc i) n

-- of the dummies of a unit
abbrev pub row : (ℕ → Bool) → Unit' → List Bool
row is_in p = bits is_in p.0 (length (p.1).dummies)
