-- Steps between variables at points, where arcs carry whole rows of them. The node of variable j at point p is p * width + j.
use Rattle.std.specs.Prelude.{◌≡◌, ℕ, ◌+◌, ◌*◌, ◌<◌, ◌⊎◌, List, Option, Some, None, Bool, false, ◌==◌, Contains}
use Rattle.adj_reach.specs.Reached.{Reached}
use Rattle.adj_reach.specs.Edges.{Edges}
use Rattle.adj_reach_rows.specs.Bits.{column}
use Rattle.adj_reach_rows.specs.declared.arc.Arc.{Arc}
use Rattle.adj_reach_rows.specs.declared.bits.Rows.{Rows}

-- the bit of a column in the row of a number
abbrev pub bit_in : Rows → ℕ → ℕ → ℕ
bit_in r row j = column r.bits.items r.words row j

-- whether it is the variable that is left behind
abbrev pub is_left : Option ℕ → ℕ → Bool
is_left None j = false
is_left (Some v) j = v == j

-- an arc leads from the one node to the other: it carries the variable
pub record Carries (width : ℕ) (rows : Rows) (a : Arc) (x y : ℕ) : Type 0 where
  pub variable : ℕ
  pub within : variable < width
  pub kept : bit_in rows a.kept variable ≡ 1
  pub stays : is_left a.left variable ≡ false
  pub from : x ≡ a.from * width + variable
  pub to : y ≡ a.to * width + variable

-- an edge or an arc leads from the one node to the other
abbrev pub Leads : ℕ → Rows → List Arc → Edges → ℕ → ℕ → Type 0
Leads width rows arcs edges x y = Contains edges (x, y) ⊎ ((a : Arc) × Contains arcs a × Carries width rows a x y)

-- what edges and arcs reach
abbrev pub ReachedByRows : ℕ → Rows → List Arc → Edges → List ℕ → ℕ → Type 0
ReachedByRows width rows arcs edges start = Reached (λ x. Contains start x) (Leads width rows arcs edges)
