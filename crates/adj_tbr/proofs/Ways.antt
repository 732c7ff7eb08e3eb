-- The edges of ways are the steps along which variables are held, by numbers.
use Rattle.std.proofs.Common.{inl, inr, ℕ, List, [], ◌∷◌, Bool, refl, sym, subst}
use Rattle.std.specs.Prelude.{Contains, not, flat_map}
use Rattle.def_names.specs.Numbers.{Vars}
use Rattle.def_flow.specs.Parts.{Part}
use Rattle.def_flow.specs.Ways.{Way}
use Rattle.def_flow.specs.Problem.{Problem, ways_of, TakesPart}
use Rattle.def_flow.specs.Activity.{IsPoint}
use Rattle.def_flow.specs.Flow.{Node}
use Rattle.def_flow.specs.Held.{replaced_on}
use Rattle.def_flow.specs.Rules.{Scope, Covers, held_stays, held_steps}
use Rattle.def_names.specs.VariableLists.{list_if}
use Rattle.def_flow.proofs.Points.{one_point}
use Rattle.adj_flow.specs.Nodes.{node_in, linked, IsWide}
use Rattle.adj_flow.specs.Rows.{row_in, rows}
use Rattle.adj_flow.specs.Scoped.{scope_by}
use Rattle.adj_flow.proofs.Images.{Images, images_flat, images_if}
use Rattle.adj_flow.proofs.Places.{IsEdge, link}
use Rattle.adj_flow.proofs.Scoping.{scoped}
use Rattle.adj_reach.specs.Edges.{flag}
use Rattle.adj_tbr.specs.View.{kept_by, way_edges, unit_edges, held_edges}
use Rattle.adj_tbr.specs.declared.found.Found.{Found}
use Rattle.adj_tbr.proofs.Given.{liveness_by}

module _ (k : Problem) (vss : List (List (List ℕ))) (taking : List Bool) (w : ℕ) (y : Covers k (scope_by vss (flag taking) k.units)) (wide : IsWide k (scope_by vss (flag taking) k.units) w) (f : Found) (needed : ℕ → Vars) where
  abbrev o : Scope
  o = scope_by vss (flag taking) k.units

  abbrev pub Edge : Node × Node → ℕ × ℕ → Type 0
  Edge = IsEdge k o w wide IsPoint (one_point k)

  on_way : (g : Part) (r : Way) → TakesPart k g → Contains (ways_of g) r → Images Edge (held_stays (liveness_by f needed o w) (o.variables g) r) (way_edges f w (row_in vss g) r)
  on_way g r t c =
      images_flat (λ v. list_if (not (replaced_on (kept_by f) r.deed v)) (((r.from, v), (r.to, v)) ∷ []))
      (λ v. list_if (not (replaced_on (kept_by f) r.deed v)) (linked (node_in w (o.variables g) (r.from, v)) (node_in w (o.variables g) (r.to, v)))) (o.variables g)
      (λ v m. images_if (not (replaced_on (kept_by f) r.deed v)) (link k o w wide IsPoint (one_point k) (r.from, v) (r.to, v) (g, t, (r, c, inl refl), m) (g, t, (r, c, inr refl), m)))

  pub way_images : Images Edge (held_steps (liveness_by f needed o w) o) (held_edges f (rows vss k.units) taking w)
  way_images =
      subst (λ z. Images Edge (held_steps (liveness_by f needed o w) o) z) (sym (scoped k vss taking (unit_edges f w) (λ g. unit_edges f w (row_in vss g)) (λ g c. refl)))
      (images_flat (λ g. flat_map (held_stays (liveness_by f needed o w) (o.variables g)) (ways_of g)) (λ g. unit_edges f w (row_in vss g)) o.parts
      (λ g c. images_flat (held_stays (liveness_by f needed o w) (o.variables g)) (way_edges f w (row_in vss g)) (ways_of g) (λ r m. on_way g r ((y.parts g).0 c) m)))
