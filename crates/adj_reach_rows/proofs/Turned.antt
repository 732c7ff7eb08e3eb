-- Arcs and edges turned round lead the other way.
use Rattle.std.proofs.Common.{inl, inr, ℕ, List, map, sym, subst}
use Rattle.std.specs.Prelude.{◌↔◌, Contains}
use Rattle.adj_reach.specs.Edges.{Edges}
use Rattle.adj_reach.proofs.Members.{map_has, map_only}
use Rattle.adj_reach.proofs.Reaching.{reached_seen}
use Rattle.adj_reach_rows.specs.Arcs.{Carries, Leads, ReachedByRows}
use Rattle.adj_reach_rows.specs.Against.{ReachedBackByRows, turned_arc, turned_edge}
use Rattle.adj_reach_rows.specs.declared.arc.Arc.{Arc}
use Rattle.adj_reach_rows.specs.declared.bits.Rows.{Rows}

module _ (width : ℕ) (rows : Rows) (arcs : List Arc) (edges : Edges) where
  there : (a : Arc) (x y : ℕ) → Carries width rows a y x → Carries width rows (turned_arc a) x y
  there a x y c = record { variable = c.variable; within = c.within; kept = c.kept; stays = c.stays; from = c.to; to = c.from }

  back : (a : Arc) (x y : ℕ) → Carries width rows (turned_arc a) x y → Carries width rows a y x
  back a x y c = record { variable = c.variable; within = c.within; kept = c.kept; stays = c.stays; from = c.to; to = c.from }

  to : (x y : ℕ) → Leads width rows (map turned_arc arcs) (map turned_edge edges) x y → Leads width rows arcs edges y x
  to x y (inl c) = let o = map_only turned_edge edges (x, y) c in inl (subst (λ (z : ℕ × ℕ). Contains edges (z.1, z.0)) o.2 o.1)
  to x y (inr (a, c, h)) = let o = map_only turned_arc arcs a c in inr (o.0, o.1, back o.0 x y (subst (λ b. Carries width rows b x y) (sym o.2) h))

  from : (x y : ℕ) → Leads width rows arcs edges y x → Leads width rows (map turned_arc arcs) (map turned_edge edges) x y
  from x y (inl c) = inl (map_has turned_edge edges (y, x) c)
  from x y (inr (a, c, h)) = inr (turned_arc a, map_has turned_arc arcs a c, there a x y h)

  pub turned_reached : (start : List ℕ) (m : ℕ) → ReachedByRows width rows (map turned_arc arcs) (map turned_edge edges) start m ↔ ReachedBackByRows width rows arcs edges start m
  turned_reached start m = (reached_seen (λ x. x) (λ x b. b) to m, reached_seen (λ x. x) (λ x b. b) from m)
