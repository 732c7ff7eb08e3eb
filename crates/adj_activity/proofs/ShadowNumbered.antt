-- The edges between shadows are the steps by which shadows are lent, by numbers.
use Rattle.std.proofs.Common.{ℕ, List, [], ◌∷◌, ◌++◌, refl}
use Rattle.std.specs.Prelude.{Contains, ◌&&◌, map, flat_map}
use Rattle.adj_tree.specs.Code.{Var, plain, Terms}
use Rattle.def_names.specs.Numbers.{Vars}
use Rattle.def_sweep.specs.Facts.{In}
use Rattle.adj_reach.specs.Reached.{begins, leads}
use Rattle.def_flow.specs.Parts.{Part, parts}
use Rattle.def_flow.specs.Standing.{Standing}
use Rattle.def_names.specs.VariableLists.{list_if}
use Rattle.def_flow.specs.Problem.{Problem, statements_of, ways_of, CallsUnit, TakesPart, flagged, bound}
use Rattle.def_flow.specs.Flow.{Node}
use Rattle.def_flow.specs.Activity.{HasShadow, LendsShadow}
use Rattle.def_flow.specs.Rules.{Scope, Covers, list_of, called, at_actuals, head_parts, somewhere, shadow_starts, shadow_called, shadow_steps}
use Rattle.def_flow.proofs.Numbered.{IsListed}
use Rattle.def_flow.proofs.Scoped.{called_only, head_only, flagged_stands}
use Rattle.def_flow.proofs.FlowListed as flowing
use Rattle.def_flow.proofs.ShadowListed as shadowing
use Rattle.adj_flow.specs.Nodes.{node_in, IsWide, IsNumbered, HasVariable, linked}
use Rattle.adj_activity.specs.Edges.{head_shadows, active_shadows, shadow_nodes, lent_edges, unit_shadows, shadow_edges}
use Rattle.adj_flow.proofs.Images.{Images, images_append, images_flat, images_map, images_if, listed_along}
use Rattle.adj_flow.proofs.Places.{IsHere, IsEdge, one_number, own_number, here_has, has_here, link, single}
use Rattle.adj_flow.proofs.Telling.{one_unit}

module _ (k : Problem) (o : Scope) (y : Covers k o) (w : ℕ) (wide : IsWide k o w) (varied useful : ℕ → Vars) (within : (p : ℕ) (v : Var) → In v (varied p) → flowing.IsKnown k o y (p, v)) where
  -- a variable of a unit
  abbrev Of : (n : Node) → Type 0
  Of n = IsHere k o w wide IsNumbered (one_unit k) n

  abbrev pub Edge : Node × Node → ℕ × ℕ → Type 0
  Edge = IsEdge k o w wide IsNumbered (one_unit k)

  abbrev pub Has : Node → ℕ → Type 0
  Has = HasVariable k o w

  step : (n r : Node) (a : Of n) (b : Of r) → Images Edge ((n, r) ∷ []) (linked (node_in w (o.variables a.0) n) (node_in w (o.variables b.0) r))
  step = link k o w wide IsNumbered (one_unit k)

  start : (n : Node) (a : Of n) → Images Has (n ∷ []) (list_of (node_in w (o.variables a.0) n))
  start = single k o w wide IsNumbered (one_unit k)

  -- ---- outright

  of_head : (g : Part) → Contains (head_parts k) g →
      Images Has (map (λ d. (g.number, plain d)) (flagged k.vars g.unit.dummies) ++ map (λ d. (g.number, plain d)) (flagged k.outvars g.unit.dummies)) (head_shadows k o w g)
  of_head g c =
      let t : TakesPart k g = begins (head_only k g c) in
      images_append
      (images_map (λ d. (g.number, plain d)) (λ d. list_of (node_in w (o.variables g) (g.number, plain d))) (flagged k.vars g.unit.dummies) (λ d m. start (g.number, plain d) (g, t, refl, y.dummies g t d (flagged_stands k.vars g.unit.dummies d m))))
      (images_map (λ d. (g.number, plain d)) (λ d. list_of (node_in w (o.variables g) (g.number, plain d))) (flagged k.outvars g.unit.dummies) (λ d m. start (g.number, plain d) (g, t, refl, y.dummies g t d (flagged_stands k.outvars g.unit.dummies d m))))

  of_unit : (g : Part) → Contains o.parts g →
      Images Has (flat_map (λ v. list_if (somewhere (ways_of g) (λ p. varied p v) && somewhere (ways_of g) (λ p. useful p v)) ((g.number, v) ∷ [])) (o.variables g)) (active_shadows o w varied useful g)
  of_unit g c =
      images_flat (λ v. list_if (somewhere (ways_of g) (λ p. varied p v) && somewhere (ways_of g) (λ p. useful p v)) ((g.number, v) ∷ []))
      (λ v. list_if (somewhere (ways_of g) (λ p. varied p v) && somewhere (ways_of g) (λ p. useful p v)) (list_of (node_in w (o.variables g) (g.number, v)))) (o.variables g)
      (λ v m. images_if (somewhere (ways_of g) (λ p. varied p v) && somewhere (ways_of g) (λ p. useful p v)) (start (g.number, v) (g, (y.parts g).0 c, refl, m)))

  pub outright_images : Images Has (shadow_starts k o varied useful) (shadow_nodes k o w varied useful)
  outright_images =
      images_append
      (images_flat (λ g. map (λ d. (g.number, plain d)) (flagged k.vars g.unit.dummies) ++ map (λ d. (g.number, plain d)) (flagged k.outvars g.unit.dummies)) (head_shadows k o w) (head_parts k) of_head)
      (images_flat (λ g. flat_map (λ v. list_if (somewhere (ways_of g) (λ p. varied p v) && somewhere (ways_of g) (λ p. useful p v)) ((g.number, v) ∷ [])) (o.variables g)) (active_shadows o w varied useful) o.parts of_unit)

  -- ---- in calls

  at_call : (f g : Part) (s : Standing) (args : Terms) (d : List ℕ) (a : Var) → TakesPart k f → CallsUnit k f g s args → Contains (bound g.unit.dummies args) (d, a) →
      Images Edge (shadow_called f.number varied g d a) (lent_edges w (o.variables f) o.variables varied f.number g d a)
  at_call f g s args d a t c b =
      let u : TakesPart k g = leads t (s, args, c) in
      let actual : Contains (o.variables f) a = flowing.actual_stands k o y f g s args d a t c b in
      let dummy : Contains (o.variables g) (plain d) = flowing.dummy_stands k o y f g s args d a t c b in
      images_append {xs = ((g.number, plain d), (f.number, a)) ∷ []} {zs = list_if (varied g.entry (plain d)) (((f.number, a), (g.number, plain d)) ∷ [])}
      (step (g.number, plain d) (f.number, a) (g, u, refl, dummy) (f, t, refl, actual))
      (images_if (varied g.entry (plain d)) (step (f.number, a) (g.number, plain d) (f, t, refl, actual) (g, u, refl, dummy)))

  pub lent_images : Images Edge (shadow_steps k o varied) (shadow_edges k o w varied)
  lent_images =
      images_flat (λ f. flat_map (λ s. flat_map (at_actuals (shadow_called f.number varied)) (called (parts k.units) s.act)) (statements_of f)) (unit_shadows k o w varied) o.parts
      (λ f c. images_flat (λ s. flat_map (at_actuals (shadow_called f.number varied)) (called (parts k.units) s.act)) (λ s. flat_map (at_actuals (lent_edges w (o.variables f) o.variables varied f.number)) (called (parts k.units) s.act)) (statements_of f)
      (λ s m. images_flat (at_actuals (shadow_called f.number varied)) (at_actuals (lent_edges w (o.variables f) o.variables varied f.number)) (called (parts k.units) s.act)
      (λ x n. images_flat (λ b. shadow_called f.number varied x.0 b.0 b.1) (λ b. lent_edges w (o.variables f) o.variables varied f.number x.0 b.0 b.1) (bound x.0.unit.dummies x.1)
      (λ b q. at_call f x.0 s x.1 b.0 b.1 ((y.parts f).0 c) (called_only k f s x m n) q))))

  pub shadow_listed : IsListed (HasShadow k varied useful) (LendsShadow k varied) Has (λ n. Contains (shadow_nodes k o w varied useful) n) (λ m n. Contains (shadow_edges k o w varied) (m, n))
  shadow_listed =
      listed_along (one_number k o w wide IsNumbered (one_unit k)) (own_number k o w wide IsNumbered (one_unit k)) (here_has k o w wide IsNumbered (one_unit k)) (has_here k o w wide IsNumbered (one_unit k)) outright_images lent_images
      (shadowing.shadow_lists k o y varied useful within)
