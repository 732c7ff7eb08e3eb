-- What is reached against arcs and edges.
use Rattle.std.specs.Prelude.{ℕ, List, Contains}
use Rattle.adj_reach.specs.Reached.{Reached}
use Rattle.adj_reach.specs.Edges.{Edges}
use Rattle.adj_reach_rows.specs.Arcs.{Leads}
use Rattle.adj_reach_rows.specs.declared.arc.Arc.{Arc}
use Rattle.adj_reach_rows.specs.declared.bits.Rows.{Rows}

-- the nodes from which edges and arcs reach one of these
abbrev pub ReachedBackByRows : ℕ → Rows → List Arc → Edges → List ℕ → ℕ → Type 0
ReachedBackByRows width rows arcs edges start = Reached (λ x. Contains start x) (λ x y. Leads width rows arcs edges y x)

-- the same steps turned round
abbrev pub turned_arc : Arc → Arc
turned_arc a = record { from = a.to; to = a.from; kept = a.kept; left = a.left }

abbrev pub turned_edge : ℕ × ℕ → ℕ × ℕ
turned_edge e = (e.1, e.0)
