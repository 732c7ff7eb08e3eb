-- The arcs of ways lead between the nodes that their edges join.
use Rattle.std.proofs.Common.{◌≡◌, inl, inr, ℕ, ◌*◌, ◌<◌, ◌≤◌, List, [], Bool, true, false, length, max, refl, sym, ap, subst, arith}
use Rattle.std.specs.Prelude.{◌↔◌, Contains, Some, None, not, ◌&&◌, if◌then◌else◌, flat_map}
use Rattle.std.specs.List.Sorted.{IsPermutation}
use Rattle.std.proofs.lemmas.List.Sorted.{IsPermutation-sym, Contains-permutation}
use Rattle.adj_tree.specs.Code.{Var, var_eq}
use Rattle.def_flow.specs.Ways.{Deed, passing, assigning, calling, Way}
use Rattle.def_flow.specs.Held.{replaced_on}
use Rattle.def_names.specs.VariableLists.{list_if}
use Rattle.def_names.proofs.Conditioned.{if_has, if_only}
use Rattle.adj_reach.specs.Edges.{ReachedFrom, flag}
use Rattle.adj_reach.proofs.Members.{is_first, is_none, is_only, flat_has, flat_only}
use Rattle.adj_reach.proofs.Reaching.{reached_seen}
use Rattle.adj_flow.specs.Nodes.{place_in, node_in, linked}
use Rattle.adj_flow.specs.NodeView.{vars_of}
use Rattle.adj_flow.specs.Rows.{Row}
use Rattle.adj_flow.specs.UnitRows.{HoldPlaces}
use Rattle.adj_flow.proofs.UnitNumbers.{same_stride}
use Rattle.adj_flow.proofs.Carrying.{carried_edge, edge_carried, same_place, reached_same}
use Rattle.adj_reach_rows.specs.Arcs.{bit_in, is_left, Carries, Leads, ReachedByRows}
use Rattle.adj_reach_rows.specs.declared.arc.Arc.{Arc}
use Rattle.adj_reach_rows.specs.declared.bits.Rows.{Rows}
use Rattle.adj_tbr.specs.View.{kept_by, way_edges, unit_edges, held_edges, replaced_at, way_arc, unit_arcs, held_arcs}
use Rattle.adj_tbr.specs.declared.found.Found.{Found}

module _ (f : Found) (rs : List Row) (taking : List Bool) (w : ℕ) (rows : Rows) (narrow : (r : Row) → Contains rs r → length (vars_of r) ≤ w) (wide : max w 1 < 64 * rows.words) (holds : HoldPlaces rows rs) where
  -- a variable is replaced where its place is left behind
  replaced_same : (r : Row) (d : Deed) (v : Var) (j : ℕ) → place_in 0 (vars_of r) v ≡ Some j → replaced_on (kept_by f) d v ≡ is_left (replaced_at f r d) j
  replaced_same r passing v j e = refl
  replaced_same r (assigning i x) v j e = go (kept_by f i)
    where
      go : (b : Bool) → (b && var_eq v x) ≡ is_left (if b then place_in 0 (vars_of r) x else None) j
      go true = same_place (vars_of r) x v j e
      go false = refl
  replaced_same r (calling es) v j e = refl

  module _ (r : Row) (m : Contains rs r) (x : Way) where
    abbrev arc : Arc
    arc = record { from = x.from; to = x.to; kept = r.part.number; left = replaced_at f r x.deed }

    abbrev stays : Var → Bool
    stays v = not (replaced_on (kept_by f) x.deed v)

    abbrev any : Var → Bool
    any v = true

    among : (j : ℕ) → j < max w 1 → (bit_in rows r.part.number j ≡ 1) ↔ ((v : Var) × (place_in 0 (vars_of r) v ≡ Some j) × (any v ≡ true))
    among j l = let h = holds r m j (omega (arith, l, wide)) in ((λ b. let p = h.0 b in (p.0, p.1, refl)), (λ p. h.1 (p.0, p.1)))

    left : (v : Var) (j : ℕ) → place_in 0 (vars_of r) v ≡ Some j → stays v ≡ (any v && not (is_left (replaced_at f r x.deed) j))
    left v j e = ap not (replaced_same r x.deed v j e)

    at_most : length (vars_of r) ≤ max w 1
    at_most = let n : length (vars_of r) ≤ w = narrow r m in omega (arith, n)

    -- the edges with a stride that is never 0
    same_edges : flat_map (λ v. list_if (stays v) (linked (node_in (max w 1) (vars_of r) (x.from, v)) (node_in (max w 1) (vars_of r) (x.to, v)))) (vars_of r) ≡ way_edges f w r x
    same_edges = λ i. flat_map (λ v. list_if (stays v) (linked (same_stride w (vars_of r) (x.from, v) (narrow r m) i) (same_stride w (vars_of r) (x.to, v) (narrow r m) i))) (vars_of r)

    arc_edge : (a b : ℕ) → Carries (max w 1) rows arc a b → Contains (way_edges f w r x) (a, b)
    arc_edge a b c = subst (λ es. Contains es (a, b)) same_edges (carried_edge (max w 1) rows (vars_of r) arc at_most any stays among left a b c)

    edge_arc : (a b : ℕ) → Contains (way_edges f w r x) (a, b) → Carries (max w 1) rows arc a b
    edge_arc a b c = edge_carried (max w 1) rows (vars_of r) arc at_most any stays among left a b (subst (λ es. Contains es (a, b)) (sym same_edges) c)

  to_edges : (a b : ℕ) → Leads (max w 1) rows (held_arcs f rs taking) [] a b → Contains (held_edges f rs taking w) (a, b)
  to_edges a b (inl c) = absurd (is_none (a, b) c)
  to_edges a b (inr (z, c, h)) =
      let r = flat_only (λ r. list_if (flag taking r.part.number) (unit_arcs f r)) rs z c in
      let t = if_only (flag taking r.0.part.number) (unit_arcs f r.0) z r.2 in
      let x = flat_only (way_arc f r.0) r.0.ways z t.1 in
      let e : arc r.0 r.1 x.0 ≡ z = is_only z (arc r.0 r.1 x.0) x.2 in
      flat_has (λ r. list_if (flag taking r.part.number) (unit_edges f w r)) rs r.0 (a, b) r.1
      (if_has (flag taking r.0.part.number) (unit_edges f w r.0) (a, b) t.0 (flat_has (way_edges f w r.0) r.0.ways x.0 (a, b) x.1 (arc_edge r.0 r.1 x.0 a b (subst (λ u. Carries (max w 1) rows u a b) (sym e) h))))

  from_edges : (a b : ℕ) → Contains (held_edges f rs taking w) (a, b) → Leads (max w 1) rows (held_arcs f rs taking) [] a b
  from_edges a b c =
      let r = flat_only (λ r. list_if (flag taking r.part.number) (unit_edges f w r)) rs (a, b) c in
      let t = if_only (flag taking r.0.part.number) (unit_edges f w r.0) (a, b) r.2 in
      let x = flat_only (way_edges f w r.0) r.0.ways (a, b) t.1 in
      let z = arc r.0 r.1 x.0 in
      inr (z, flat_has (λ r. list_if (flag taking r.part.number) (unit_arcs f r)) rs r.0 z r.1 (if_has (flag taking r.0.part.number) (unit_arcs f r.0) z t.0 (flat_has (way_arc f r.0) r.0.ways x.0 z x.1 (is_first z z [] refl))), edge_arc r.0 r.1 x.0 a b x.2)

  -- so what they reach is what the edges reach
  pub held_reached : (start : List ℕ) (m : ℕ) → ReachedByRows (max w 1) rows (held_arcs f rs taking) [] start m ↔ ReachedFrom (held_edges f rs taking w) start m
  held_reached start m = reached_same (max w 1) rows (held_arcs f rs taking) [] (held_edges f rs taking w) start to_edges from_edges m

-- in whatever order the beginnings stand
pub reordered : (w : ℕ) (rows : Rows) (arcs : List Arc) (start back : List ℕ) → IsPermutation start back → (m : ℕ) → ReachedByRows w rows arcs [] back m ↔ ReachedByRows w rows arcs [] start m
reordered w rows arcs start back p m =
    (reached_seen (λ x. x) (λ x c. Contains-permutation back start x (IsPermutation-sym start back p) c) (λ x y l. l) m, reached_seen (λ x. x) (λ x c. Contains-permutation start back x p c) (λ x y l. l) m)
