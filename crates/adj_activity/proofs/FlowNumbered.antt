-- The edges are the steps of flow by numbers.
use Rattle.std.proofs.Common.{◌≡◌, inl, inr, ℕ, List, [], ◌∷◌, ◌++◌, refl, sym, subst}
use Rattle.std.specs.Prelude.{Contains, not, ◌&&◌, map, flat_map}
use Rattle.std.proofs.lemmas.List.Elements.{Contains-append_right}
use Rattle.adj_tree.specs.Code.{Var, plain, Terms, Act, assign, choose, loop, during, call, runtime}
use Rattle.def_names.specs.Numbering.{point_before, point_after}
use Rattle.adj_reach.specs.Reached.{begins, leads}
use Rattle.def_flow.specs.Parts.{Part, parts}
use Rattle.def_flow.specs.Ways.{Way, assigned_on, passed_on}
use Rattle.def_flow.specs.Standing.{Standing}
use Rattle.def_names.specs.VariableLists.{list_if, vars_in, vars_in_terms, occurring_in, standing_in}
use Rattle.def_flow.specs.Problem.{Problem, statements_of, ways_of, CallsUnit, TakesPart, flagged, bound}
use Rattle.def_flow.specs.Flow.{Node, AtEntry, AtEnd, Flows}
use Rattle.def_flow.specs.Activity.{IsPoint}
use Rattle.def_flow.specs.Rules.{Scope, Covers, list_of, called, at_actuals, head_parts, flow_stays, flow_assigned, flow_called, flow_at, flow_steps, varied_starts, useful_starts}
use Rattle.adj_reach.proofs.Members.{is_first, is_later}
use Rattle.def_flow.proofs.Numbered.{IsListed}
use Rattle.def_flow.proofs.Scoped.{called_only, head_only, flagged_stands}
use Rattle.def_flow.proofs.FlowListed as flowing
use Rattle.def_flow.proofs.Points.{one_point}
use Rattle.def_flow.proofs.OwnPoints.{entry_point, end_point, own_before, own_after}
use Rattle.def_names.proofs.VariableLists.{occurs_stands}
use Rattle.adj_flow.specs.Nodes.{node_in, IsWide, HasNode, linked}
use Rattle.adj_activity.specs.Edges.{way_edges, assigned_edges, called_edges, statement_edges, unit_edges, flow_edges, entry_nodes, end_nodes}
use Rattle.adj_flow.proofs.Images.{Images, images_none, images_append, images_flat, images_map, images_if, listed_along, listed_back}
use Rattle.adj_flow.proofs.Places.{IsHere, IsEdge, one_number, own_number, here_has, has_here, link, single}

module _ (k : Problem) (o : Scope) (y : Covers k o) (w : ℕ) (wide : IsWide k o w) where
  -- a variable of a unit at a point
  abbrev At : (n : Node) → Type 0
  At n = IsHere k o w wide IsPoint (one_point k) n

  abbrev pub Edge : Node × Node → ℕ × ℕ → Type 0
  Edge = IsEdge k o w wide IsPoint (one_point k)

  abbrev pub Has : Node → ℕ → Type 0
  Has = HasNode k o w

  step : (n r : Node) (a : At n) (b : At r) → Images Edge ((n, r) ∷ []) (linked (node_in w (o.variables a.0) n) (node_in w (o.variables b.0) r))
  step = link k o w wide IsPoint (one_point k)

  start : (n : Node) (a : At n) → Images Has (n ∷ []) (list_of (node_in w (o.variables a.0) n))
  start = single k o w wide IsPoint (one_point k)

  -- ---- ways

  on_way : (g : Part) (r : Way) → TakesPart k g → Contains (ways_of g) r → Images Edge (flow_stays (o.variables g) r) (way_edges w (o.variables g) r)
  on_way g r t c =
      images_flat (λ v. list_if (not (assigned_on r.deed v) && not (passed_on r.deed v)) (((r.from, v), (r.to, v)) ∷ []))
      (λ v. list_if (not (assigned_on r.deed v) && not (passed_on r.deed v)) (linked (node_in w (o.variables g) (r.from, v)) (node_in w (o.variables g) (r.to, v)))) (o.variables g)
      (λ v m. images_if (not (assigned_on r.deed v) && not (passed_on r.deed v)) (step (r.from, v) (r.to, v) ((g, t, (r, c, inl refl), m)) ((g, t, (r, c, inr refl), m))))

  -- ---- statements

  at_assignment : (g : Part) (s : Standing) → TakesPart k g → Contains (statements_of g) s → Images Edge (flow_assigned s.number s.act) (assigned_edges w (o.variables g) s.number s.act)
  at_assignment g s t c = go s.act refl
    where
      stands : (a : Act) → s.act ≡ a → (v : Var) → Contains (standing_in a) v → Contains (o.variables g) v
      stands a h v m = y.standing g t s c v (subst (λ b. Contains (standing_in b) v) (sym h) m)

      go : (a : Act) → s.act ≡ a → Images Edge (flow_assigned s.number a) (assigned_edges w (o.variables g) s.number a)
      go (assign x subs e) h =
          images_map (λ v. ((point_before s.number, v), (point_after s.number, x))) (λ v. linked (node_in w (o.variables g) (point_before s.number, v)) (node_in w (o.variables g) (point_after s.number, x))) (occurring_in e)
          (λ v m. step (point_before s.number, v) (point_after s.number, x)
          (g, t, own_before g s c, stands (assign x subs e) h v (is_later v x (vars_in_terms subs ++ vars_in e) (Contains-append_right (vars_in_terms subs) (vars_in e) v (occurs_stands v e m))))
          ((g, t, own_after g s c, stands (assign x subs e) h x (is_first x x (vars_in_terms subs ++ vars_in e) refl))))
      go (choose q a b) h = images_none
      go (loop x first last by body n) h = images_none
      go (during q body) h = images_none
      go (call name args) h = images_none
      go (runtime r) h = images_none

  at_call : (f g : Part) (s : Standing) (args : Terms) (d : List ℕ) (a : Var) → TakesPart k f → CallsUnit k f g s args → Contains (bound g.unit.dummies args) (d, a) → Images Edge (flow_called s.number g d a) (called_edges w (o.variables f) o.variables s.number g d a)
  at_call f g s args d a t c b =
      let u : TakesPart k g = leads t (s, args, c) in
      let actual : Contains (o.variables f) a = flowing.actual_stands k o y f g s args d a t c b in
      let dummy : Contains (o.variables g) (plain d) = flowing.dummy_stands k o y f g s args d a t c b in
      images_append {xs = ((point_before s.number, a), (g.entry, plain d)) ∷ []} {zs = ((g.end, plain d), (point_after s.number, a)) ∷ []}
      (step (point_before s.number, a) (g.entry, plain d) ((f, t, own_before f s c.stands, actual)) ((g, u, entry_point g, dummy)))
      (step (g.end, plain d) (point_after s.number, a) ((g, u, end_point g, dummy)) ((f, t, own_after f s c.stands, actual)))

  at_statement : (g : Part) (s : Standing) → TakesPart k g → Contains (statements_of g) s → Images Edge (flow_at k s) (statement_edges k o w g s)
  at_statement g s t c =
      images_append (at_assignment g s t c)
      (images_flat (at_actuals (flow_called s.number)) (at_actuals (called_edges w (o.variables g) o.variables s.number)) (called (parts k.units) s.act)
      (λ x m. images_flat (λ b. flow_called s.number x.0 b.0 b.1) (λ b. called_edges w (o.variables g) o.variables s.number x.0 b.0 b.1) (bound x.0.unit.dummies x.1)
      (λ b n. at_call g x.0 s x.1 b.0 b.1 t (called_only k g s x c m) n)))

  -- ---- all

  pub flow_images : Images Edge (flow_steps k o) (flow_edges k o w)
  flow_images =
      images_flat (λ g. flat_map (flow_stays (o.variables g)) (ways_of g) ++ flat_map (flow_at k) (statements_of g)) (unit_edges k o w) o.parts
      (λ g c. images_append (images_flat (flow_stays (o.variables g)) (way_edges w (o.variables g)) (ways_of g) (λ r m. on_way g r ((y.parts g).0 c) m))
      (images_flat (flow_at k) (statement_edges k o w g) (statements_of g) (λ s m. at_statement g s ((y.parts g).0 c) m)))

  pub entry_images : Images Has (varied_starts k) (entry_nodes k o w)
  entry_images =
      images_flat (λ g. map (λ d. (g.entry, plain d)) (flagged k.vars g.unit.dummies)) (λ g. flat_map (λ d. list_of (node_in w (o.variables g) (g.entry, plain d))) (flagged k.vars g.unit.dummies)) (head_parts k)
      (λ g c. images_map (λ d. (g.entry, plain d)) (λ d. list_of (node_in w (o.variables g) (g.entry, plain d))) (flagged k.vars g.unit.dummies)
      (λ d m. start (g.entry, plain d) ((g, begins (head_only k g c), entry_point g, y.dummies g (begins (head_only k g c)) d (flagged_stands k.vars g.unit.dummies d m)))))

  pub end_images : Images Has (useful_starts k) (end_nodes k o w)
  end_images =
      images_flat (λ g. map (λ d. (g.end, plain d)) (flagged k.outvars g.unit.dummies)) (λ g. flat_map (λ d. list_of (node_in w (o.variables g) (g.end, plain d))) (flagged k.outvars g.unit.dummies)) (head_parts k)
      (λ g c. images_map (λ d. (g.end, plain d)) (λ d. list_of (node_in w (o.variables g) (g.end, plain d))) (flagged k.outvars g.unit.dummies)
      (λ d m. start (g.end, plain d) ((g, begins (head_only k g c), end_point g, y.dummies g (begins (head_only k g c)) d (flagged_stands k.outvars g.unit.dummies d m)))))

  pub varied_listed : IsListed (AtEntry k) (Flows k) Has (λ n. Contains (entry_nodes k o w) n) (λ m n. Contains (flow_edges k o w) (m, n))
  varied_listed = listed_along (one_number k o w wide IsPoint (one_point k)) (own_number k o w wide IsPoint (one_point k)) (here_has k o w wide IsPoint (one_point k)) (has_here k o w wide IsPoint (one_point k)) entry_images flow_images (flowing.varied_lists k o y)

  pub useful_listed : IsListed (AtEnd k) (λ n m. Flows k m n) Has (λ n. Contains (end_nodes k o w) n) (λ m n. Contains (flow_edges k o w) (n, m))
  useful_listed = listed_back (one_number k o w wide IsPoint (one_point k)) (own_number k o w wide IsPoint (one_point k)) (here_has k o w wide IsPoint (one_point k)) (has_here k o w wide IsPoint (one_point k)) end_images flow_images (flowing.useful_lists k o y)
