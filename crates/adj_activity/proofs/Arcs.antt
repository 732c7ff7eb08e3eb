-- The arcs of ways and the other edges lead between the nodes that all edges of flow join.
use Rattle.std.proofs.Common.{◌≡◌, ◌⊎◌, inl, inr, ℕ, ◌*◌, ◌<◌, ◌≤◌, List, [], ◌∷◌, Bool, true, false, length, max, refl, sym, ap, ◌∙◌, subst, arith}
use Rattle.std.specs.Prelude.{◌↔◌, Contains, Option, Some, not, ◌&&◌, flat_map}
use Rattle.std.proofs.lemmas.List.Elements.{Contains-append_left, Contains-append_right, Contains-append_cases}
use Rattle.adj_tree.specs.Code.{Var, var_eq}
use Rattle.def_flow.specs.Ways.{Deed, passing, assigning, calling, Way, assigned_on, passed_on}
use Rattle.def_flow.proofs.Sets.{isnt}
use Rattle.def_names.specs.VariableLists.{list_if}
use Rattle.def_names.proofs.Conditioned.{if_has, if_only}
use Rattle.adj_reach.specs.Edges.{Edges, ReachedFrom, ReachedBack, flag}
use Rattle.adj_reach.proofs.Members.{is_first, is_only, flat_has, flat_only}
use Rattle.adj_symbols_writes.specs.Table.{value_of}
use Rattle.adj_flow.specs.Nodes.{place_in, node_in, linked}
use Rattle.adj_flow.specs.NodeView.{vars_of, found_at}
use Rattle.adj_flow.specs.Rows.{Row}
use Rattle.adj_flow.specs.UnitRows.{HoldPlaces, assigned_at}
use Rattle.adj_flow.proofs.UnitNumbers.{same_stride}
use Rattle.adj_flow.proofs.Carrying.{carried_edge, edge_carried, assigned_same, reached_same, reached_back_same}
use Rattle.adj_reach_rows.specs.Arcs.{bit_in, is_left, Carries, Leads, ReachedByRows}
use Rattle.adj_reach_rows.specs.Against.{ReachedBackByRows}
use Rattle.adj_reach_rows.specs.declared.bits.Rows.{Rows}
use Rattle.adj_activity.specs.Edges.{way_edges}
use Rattle.adj_activity.specs.View.{standing_edges, row_edges, flow_listed}
use Rattle.adj_activity.specs.Arcs.{is_calling, arc_of, way_arc, row_arcs, flow_arcs, call_way, other_edges, all_others}
use Rattle.adj_activity.specs.declared.steps.Steps.TheVariants.{Flow}

and_true : (b : Bool) → (b && true) ≡ b
and_true true = refl
and_true false = refl

-- where no unit is called, a variable stays unless its place is left behind
stays_same : (d : Deed) → is_calling d ≡ false → (r : Row) (v : Var) (j : ℕ) → place_in 0 (vars_of r) v ≡ Some j → (not (assigned_on d v) && not (passed_on d v)) ≡ (true && not (is_left (assigned_at r d) j))
stays_same passing out r v j e = refl
stays_same (assigning i y) out r v j e = and_true (not (var_eq v y)) ∙ ap not (assigned_same r (assigning i y) v j e)
stays_same (calling es) out r v j e = absurd cc

module _ (rs : List Row) (numbers : List (List ℕ × ℕ)) (taking : List Bool) (w : ℕ) (rows : Rows) (narrow : (r : Row) → Contains rs r → length (vars_of r) ≤ w) (wide : max w 1 < 64 * rows.words) (holds : HoldPlaces rows rs) where
  abbrev find : List ℕ → Option Row
  find x = found_at rs (value_of x numbers)

  module _ (r : Row) (m : Contains rs r) (x : Way) (out : is_calling x.deed ≡ false) where
    abbrev stays : Var → Bool
    stays v = not (assigned_on x.deed v) && not (passed_on x.deed v)

    abbrev any : Var → Bool
    any v = true

    among : (j : ℕ) → j < max w 1 → (bit_in rows r.part.number j ≡ 1) ↔ ((v : Var) × (place_in 0 (vars_of r) v ≡ Some j) × (any v ≡ true))
    among j l = let h = holds r m j (omega (arith, l, wide)) in ((λ b. let p = h.0 b in (p.0, p.1, refl)), (λ p. h.1 (p.0, p.1)))

    left : (v : Var) (j : ℕ) → place_in 0 (vars_of r) v ≡ Some j → stays v ≡ (any v && not (is_left (assigned_at r x.deed) j))
    left v j e = stays_same x.deed out r v j e

    at_most : length (vars_of r) ≤ max w 1
    at_most = let n : length (vars_of r) ≤ w = narrow r m in omega (arith, n)

    -- the edges with a stride that is never 0
    same_edges : flat_map (λ v. list_if (stays v) (linked (node_in (max w 1) (vars_of r) (x.from, v)) (node_in (max w 1) (vars_of r) (x.to, v)))) (vars_of r) ≡ way_edges w (vars_of r) x
    same_edges = λ i. flat_map (λ v. list_if (stays v) (linked (same_stride w (vars_of r) (x.from, v) (narrow r m) i) (same_stride w (vars_of r) (x.to, v) (narrow r m) i))) (vars_of r)

    arc_edge : (a b : ℕ) → Carries (max w 1) rows (arc_of r x) a b → Contains (way_edges w (vars_of r) x) (a, b)
    arc_edge a b c = subst (λ es. Contains es (a, b)) same_edges (carried_edge (max w 1) rows (vars_of r) (arc_of r x) at_most any stays among left a b c)

    edge_arc : (a b : ℕ) → Contains (way_edges w (vars_of r) x) (a, b) → Carries (max w 1) rows (arc_of r x) a b
    edge_arc a b c = edge_carried (max w 1) rows (vars_of r) (arc_of r x) at_most any stays among left a b (subst (λ es. Contains es (a, b)) (sym same_edges) c)

  -- the edges of the ways of a unit, and those of its statements
  abbrev ways_of_unit : Row → Edges
  ways_of_unit r = flat_map (way_edges w (vars_of r)) r.ways

  abbrev calls_of_unit : Row → Edges
  calls_of_unit r = flat_map (call_way w r) r.ways

  abbrev statements_of_unit : Row → Edges
  statements_of_unit r = flat_map (standing_edges Flow find w r) r.statements

  way_to : (r : Row) (x : Way) (e : ℕ × ℕ) → Contains r.ways x → Contains (way_edges w (vars_of r) x) e → Contains (row_edges Flow find w r) e
  way_to r x e c d = Contains-append_left (ways_of_unit r) (statements_of_unit r) e (flat_has (way_edges w (vars_of r)) r.ways x e c d)

  other_to : (r : Row) (e : ℕ × ℕ) → Contains (other_edges Flow find w r) e → Contains (row_edges Flow find w r) e
  other_to r e c = go (Contains-append_cases (calls_of_unit r) (statements_of_unit r) e c)
    where
      go : Contains (calls_of_unit r) e ⊎ Contains (statements_of_unit r) e → Contains (row_edges Flow find w r) e
      go (inl d) = let x = flat_only (call_way w r) r.ways e d in way_to r x.0 e x.1 (if_only (is_calling x.0.deed) (way_edges w (vars_of r) x.0) e x.2).1
      go (inr d) = Contains-append_right (ways_of_unit r) (statements_of_unit r) e d

  to_edges : (a b : ℕ) → Leads (max w 1) rows (flow_arcs rs taking) (all_others Flow rs numbers taking w) a b → Contains (flow_listed rs numbers taking w) (a, b)
  to_edges a b (inl c) =
      let r = flat_only (λ r. list_if (flag taking r.part.number) (other_edges Flow find w r)) rs (a, b) c in
      let t = if_only (flag taking r.0.part.number) (other_edges Flow find w r.0) (a, b) r.2 in
      flat_has (λ r. list_if (flag taking r.part.number) (row_edges Flow find w r)) rs r.0 (a, b) r.1 (if_has (flag taking r.0.part.number) (row_edges Flow find w r.0) (a, b) t.0 (other_to r.0 (a, b) t.1))
  to_edges a b (inr (z, c, h)) =
      let r = flat_only (λ r. list_if (flag taking r.part.number) (row_arcs r)) rs z c in
      let t = if_only (flag taking r.0.part.number) (row_arcs r.0) z r.2 in
      let x = flat_only (way_arc r.0) r.0.ways z t.1 in
      let o = if_only (not (is_calling x.0.deed)) (arc_of r.0 x.0 ∷ []) z x.2 in
      let e : arc_of r.0 x.0 ≡ z = is_only z (arc_of r.0 x.0) o.1 in
      flat_has (λ r. list_if (flag taking r.part.number) (row_edges Flow find w r)) rs r.0 (a, b) r.1
      (if_has (flag taking r.0.part.number) (row_edges Flow find w r.0) (a, b) t.0 (way_to r.0 x.0 (a, b) x.1 (arc_edge r.0 r.1 x.0 (isnt (is_calling x.0.deed) o.0) a b (subst (λ u. Carries (max w 1) rows u a b) (sym e) h))))

  module _ (r : Row) (m : Contains rs r) (t : flag taking r.part.number ≡ true) (a b : ℕ) where
    by_others : Contains (other_edges Flow find w r) (a, b) → Leads (max w 1) rows (flow_arcs rs taking) (all_others Flow rs numbers taking w) a b
    by_others d = inl (flat_has (λ r. list_if (flag taking r.part.number) (other_edges Flow find w r)) rs r (a, b) m (if_has (flag taking r.part.number) (other_edges Flow find w r) (a, b) t d))

    by_way : (x : Way) → Contains r.ways x → Contains (way_edges w (vars_of r) x) (a, b) → (c : Bool) → is_calling x.deed ≡ c → Leads (max w 1) rows (flow_arcs rs taking) (all_others Flow rs numbers taking w) a b
    by_way x n d true e = by_others (Contains-append_left (calls_of_unit r) (statements_of_unit r) (a, b) (flat_has (call_way w r) r.ways x (a, b) n (if_has (is_calling x.deed) (way_edges w (vars_of r) x) (a, b) e d)))
    by_way x n d false e =
        let z = arc_of r x in
        let o : Contains (way_arc r x) (arc_of r x) = if_has (not (is_calling x.deed)) (arc_of r x ∷ []) (arc_of r x) (ap not e) (is_first (arc_of r x) (arc_of r x) [] refl) in
        inr (z, flat_has (λ r. list_if (flag taking r.part.number) (row_arcs r)) rs r z m (if_has (flag taking r.part.number) (row_arcs r) z t (flat_has (way_arc r) r.ways x z n o)), edge_arc r m x e a b d)

    from_row : Contains (row_edges Flow find w r) (a, b) → Leads (max w 1) rows (flow_arcs rs taking) (all_others Flow rs numbers taking w) a b
    from_row c = go (Contains-append_cases (ways_of_unit r) (statements_of_unit r) (a, b) c)
      where
        go : Contains (ways_of_unit r) (a, b) ⊎ Contains (statements_of_unit r) (a, b) → Leads (max w 1) rows (flow_arcs rs taking) (all_others Flow rs numbers taking w) a b
        go (inl d) = let x = flat_only (way_edges w (vars_of r)) r.ways (a, b) d in by_way x.0 x.1 x.2 (is_calling x.0.deed) refl
        go (inr d) = by_others (Contains-append_right (calls_of_unit r) (statements_of_unit r) (a, b) d)

  from_edges : (a b : ℕ) → Contains (flow_listed rs numbers taking w) (a, b) → Leads (max w 1) rows (flow_arcs rs taking) (all_others Flow rs numbers taking w) a b
  from_edges a b c =
      let r = flat_only (λ r. list_if (flag taking r.part.number) (row_edges Flow find w r)) rs (a, b) c in
      let t = if_only (flag taking r.0.part.number) (row_edges Flow find w r.0) (a, b) r.2 in
      from_row r.0 r.1 t.0 a b t.1

  -- so what they reach is what the edges reach, along them and against them
  pub flow_reached : (start : List ℕ) (m : ℕ) → ReachedByRows (max w 1) rows (flow_arcs rs taking) (all_others Flow rs numbers taking w) start m ↔ ReachedFrom (flow_listed rs numbers taking w) start m
  flow_reached start m = reached_same (max w 1) rows (flow_arcs rs taking) (all_others Flow rs numbers taking w) (flow_listed rs numbers taking w) start to_edges from_edges m

  pub flow_reached_back : (start : List ℕ) (m : ℕ) → ReachedBackByRows (max w 1) rows (flow_arcs rs taking) (all_others Flow rs numbers taking w) start m ↔ ReachedBack (flow_listed rs numbers taking w) start m
  flow_reached_back start m = reached_back_same (max w 1) rows (flow_arcs rs taking) (all_others Flow rs numbers taking w) (flow_listed rs numbers taking w) start to_edges from_edges m
