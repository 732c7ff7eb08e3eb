-- An arc of a row of variables leads between the nodes that the edges of these variables join.
use Rattle.std.proofs.Common.{◌≡◌, inl, inr, ℕ, ◌+◌, ◌*◌, ◌<◌, ◌≤◌, List, [], ◌∷◌, Bool, true, false, length, refl, sym, ap, ◌∙◌, subst, arith, eqb-true, eq-eqb, true≢false}
use Rattle.std.specs.Prelude.{◌↔◌, Contains, Option, Some, None, not, ◌&&◌, ◌==◌, flat_map}
use Rattle.adj_tree.specs.Code.{Var, var_eq}
use Rattle.def_meaning.proofs.Variables.{var_refl, var_same}
use Rattle.def_flow.specs.Ways.{Deed, passing, assigning, calling, assigned_on}
use Rattle.def_flow.proofs.Sets.{both, and_both, isnt}
use Rattle.def_names.specs.VariableLists.{list_if}
use Rattle.def_names.proofs.Conditioned.{if_has, if_only}
use Rattle.adj_reach.specs.Edges.{Edges, ReachedFrom, ReachedBack}
use Rattle.adj_reach.proofs.Members.{is_first, is_none, is_only, flat_has, flat_only}
use Rattle.adj_reach.proofs.Reaching.{reached_seen}
use Rattle.adj_flow.specs.Nodes.{place_in, number_at, node_in, linked}
use Rattle.adj_flow.specs.NodeView.{vars_of}
use Rattle.adj_flow.specs.Rows.{Row}
use Rattle.adj_flow.specs.UnitRows.{assigned_at}
use Rattle.adj_flow.proofs.Places.{place_range, place_has, place_only, place_own}
use Rattle.adj_reach_rows.specs.Arcs.{bit_in, is_left, Carries, Leads, ReachedByRows}
use Rattle.adj_reach_rows.specs.Against.{ReachedBackByRows}
use Rattle.adj_reach_rows.specs.declared.arc.Arc.{Arc}
use Rattle.adj_reach_rows.specs.declared.bits.Rows.{Rows}

-- the edge of a variable with a place
linked_at : (w p q : ℕ) (vs : List Var) (v : Var) (j : ℕ) → place_in 0 vs v ≡ Some j → linked (node_in w vs (p, v)) (node_in w vs (q, v)) ≡ (p * w + j, q * w + j) ∷ []
linked_at w p q vs v j e = (λ i. linked (number_at w p (e i)) (number_at w q (e i)))

module _ (w : ℕ) (rows : Rows) (vs : List Var) (a : Arc) (narrow : length vs ≤ w) (among stays : Var → Bool)
    (row : (j : ℕ) → j < w → (bit_in rows a.kept j ≡ 1) ↔ ((v : Var) × (place_in 0 vs v ≡ Some j) × (among v ≡ true)))
    (left : (v : Var) (j : ℕ) → place_in 0 vs v ≡ Some j → stays v ≡ (among v && not (is_left a.left j))) where
  -- the edges of the variables that stay
  abbrev pub edges_of : Edges
  edges_of = flat_map (λ v. list_if (stays v) (linked (node_in w vs (a.from, v)) (node_in w vs (a.to, v)))) vs

  pub carried_edge : (x y : ℕ) → Carries w rows a x y → Contains edges_of (x, y)
  carried_edge x y c =
      let o = (row c.variable c.within).0 c.kept in
      let v = o.0 in
      let s : stays o.0 ≡ true = left v c.variable o.1 ∙ and_both o.2 (ap not c.stays) in
      let e : (a.from * w + c.variable, a.to * w + c.variable) ≡ (x, y) = (λ i. (sym c.from i, sym c.to i)) in
      flat_has (λ v. list_if (stays v) (linked (node_in w vs (a.from, v)) (node_in w vs (a.to, v)))) vs v (x, y) (place_only 0 vs v c.variable o.1)
      (if_has (stays v) (linked (node_in w vs (a.from, v)) (node_in w vs (a.to, v))) (x, y) s
      (subst (λ es. Contains es (x, y)) (sym (linked_at w a.from a.to vs v c.variable o.1)) (is_first (x, y) (a.from * w + c.variable, a.to * w + c.variable) [] e)))

  pub edge_carried : (x y : ℕ) → Contains edges_of (x, y) → Carries w rows a x y
  edge_carried x y c =
      let o = flat_only (λ v. list_if (stays v) (linked (node_in w vs (a.from, v)) (node_in w vs (a.to, v)))) vs (x, y) c in
      let v = o.0 in
      let s = if_only (stays v) (linked (node_in w vs (a.from, v)) (node_in w vs (a.to, v))) (x, y) o.2 in
      let j = place_has 0 vs v o.1 in
      let r = place_range 0 vs v j.0 j.1 in
      let b = both (among v) (not (is_left a.left j.0)) (sym (left v j.0 j.1) ∙ s.0) in
      let e : (a.from * w + j.0, a.to * w + j.0) ≡ (x, y) = is_only (x, y) (a.from * w + j.0, a.to * w + j.0) (subst (λ es. Contains es (x, y)) (linked_at w a.from a.to vs v j.0 j.1) s.1) in
      let l : j.0 < w = omega (arith, r.1, narrow) in
      record {
        variable = j.0;
        within = l;
        kept = (row j.0 l).1 (v, j.1, b.0);
        stays = isnt (is_left a.left j.0) b.1;
        from = sym (ap (λ (z : ℕ × ℕ). z.0) e);
        to = sym (ap (λ (z : ℕ × ℕ). z.1) e);
      }

-- ---- the variable that is left behind

-- a variable is one that has a place where the places are the same
pub same_place : (vs : List Var) (x v : Var) (j : ℕ) → place_in 0 vs v ≡ Some j → var_eq v x ≡ is_left (place_in 0 vs x) j
same_place vs x v j e = go (place_in 0 vs x) refl
  where
    unlike : (b : Bool) → var_eq v x ≡ b → (v ≡ x → ⊥) → b ≡ false
    unlike true p f = absurd (f (var_same v x p))
    unlike false p f = refl

    go : (o : Option ℕ) → place_in 0 vs x ≡ o → var_eq v x ≡ is_left o j
    go None q = unlike (var_eq v x) refl (λ p. absurd (let r : place_in 0 vs v ≡ place_in 0 vs x = ap (place_in 0 vs) p in cc))
    go (Some i) q = by (i == j) refl
      where
        by : (b : Bool) → (i == j) ≡ b → var_eq v x ≡ b
        by true r = let p : v ≡ x = place_own 0 vs v x j e (q ∙ ap (λ n. Some n) (eqb-true i j r)) in ap (λ z. var_eq v z) (sym p) ∙ var_refl v
        by false r = unlike (var_eq v x) refl (λ p. let m : place_in 0 vs v ≡ place_in 0 vs x = ap (place_in 0 vs) p in let n : i ≡ j = cc in absurd (true≢false (sym (eq-eqb i j n) ∙ r)))

-- a variable is assigned whole on a way where its place is
pub assigned_same : (r : Row) (d : Deed) (v : Var) (j : ℕ) → place_in 0 (vars_of r) v ≡ Some j → assigned_on d v ≡ is_left (assigned_at r d) j
assigned_same r passing v j e = refl
assigned_same r (assigning i x) v j e = same_place (vars_of r) x v j e
assigned_same r (calling es) v j e = refl

-- what arcs and edges reach is what some edges reach, where these are between the same nodes
pub reached_same : (w : ℕ) (rows : Rows) (arcs : List Arc) (edges all : Edges) (start : List ℕ) → ((x y : ℕ) → Leads w rows arcs edges x y → Contains all (x, y)) → ((x y : ℕ) → Contains all (x, y) → Leads w rows arcs edges x y) →
    (m : ℕ) → ReachedByRows w rows arcs edges start m ↔ ReachedFrom all start m
reached_same w rows arcs edges all start to from m = (reached_seen (λ x. x) (λ x b. b) to m, reached_seen (λ x. x) (λ x b. b) from m)

-- and so against them
pub reached_back_same : (w : ℕ) (rows : Rows) (arcs : List Arc) (edges all : Edges) (start : List ℕ) → ((x y : ℕ) → Leads w rows arcs edges x y → Contains all (x, y)) → ((x y : ℕ) → Contains all (x, y) → Leads w rows arcs edges x y) →
    (m : ℕ) → ReachedBackByRows w rows arcs edges start m ↔ ReachedBack all start m
reached_back_same w rows arcs edges all start to from m = (reached_seen (λ x. x) (λ x b. b) (λ x y. to y x) m, reached_seen (λ x. x) (λ x b. b) (λ x y. from y x) m)

-- with no arcs the edges alone lead on
pub reached_by_edges : (w : ℕ) (rows : Rows) (edges : Edges) (start : List ℕ) (m : ℕ) → ReachedByRows w rows [] edges start m ↔ ReachedFrom edges start m
reached_by_edges w rows edges start m = reached_same w rows [] edges edges start to (λ x y c. inl c) m
  where
    to : (x y : ℕ) → Leads w rows [] edges x y → Contains edges (x, y)
    to x y (inl c) = c
    to x y (inr (a, c, h)) = absurd (is_none a c)
