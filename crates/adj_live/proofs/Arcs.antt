-- The arcs of ways and the other edges lead between the numbers that all edges join.
use Rattle.std.proofs.Common.{◌≡◌, ◌⊎◌, inl, inr, ℕ, ◌+◌, ◌*◌, ◌<◌, ◌≤◌, List, [], ◌++◌, Bool, true, length, refl, sym, ap, subst, arith}
use Rattle.std.specs.Prelude.{◌↔◌, Contains, Some, not, ◌&&◌, flat_map}
use Rattle.std.proofs.lemmas.List.Elements.{Contains-append_left, Contains-append_right, Contains-append_cases}
use Rattle.adj_tree.specs.Code.{Var}
use Rattle.def_flow.specs.Ways.{Way, assigned_on}
use Rattle.def_names.specs.VariableLists.{list_if}
use Rattle.def_names.proofs.Conditioned.{if_has, if_only}
use Rattle.adj_reach.specs.Edges.{ReachedFrom, flag}
use Rattle.adj_reach.proofs.Members.{is_first, is_only, flat_has, flat_only}
use Rattle.adj_flow.specs.Nodes.{place_in}
use Rattle.adj_flow.specs.NodeView.{vars_of}
use Rattle.adj_flow.specs.Rows.{Row}
use Rattle.adj_flow.specs.UnitRows.{HoldPlaces, assigned_at}
use Rattle.adj_flow.proofs.Carrying.{carried_edge, edge_carried, assigned_same, reached_same}
use Rattle.adj_reach_rows.specs.Arcs.{bit_in, is_left, Carries, Leads, ReachedByRows}
use Rattle.adj_reach_rows.specs.declared.arc.Arc.{Arc}
use Rattle.adj_reach_rows.specs.declared.bits.Rows.{Rows}
use Rattle.adj_live.specs.Listed.{Here, entry_edges, way_edges, statement_edges, unit_edges, all_edges, way_arc, row_arcs, other_edges, all_arcs, all_others}
use Rattle.adj_live.specs.View.{here_in}
use Rattle.adj_live.specs.declared.known.Known.{Known}

module _ (k : Known) (rs : List Row) (taking : List Bool) (rows : Rows) (narrow : (r : Row) → Contains rs r → length (vars_of r) ≤ k.width) (wide : k.width + 2 < 64 * rows.words) (holds : HoldPlaces rows rs) where
  abbrev here : Row → Here
  here = here_in k

  abbrev w : ℕ
  w = k.width + 2

  module _ (r : Row) (m : Contains rs r) (x : Way) where
    abbrev arc : Arc
    arc = record { from = x.to; to = x.from; kept = r.part.number; left = assigned_at r x.deed }

    abbrev stays : Var → Bool
    stays v = not (assigned_on x.deed v)

    abbrev any : Var → Bool
    any v = true

    among : (j : ℕ) → j < k.width + 2 → (bit_in rows r.part.number j ≡ 1) ↔ ((v : Var) × (place_in 0 (vars_of r) v ≡ Some j) × (any v ≡ true))
    among j l = let h = holds r m j (omega (arith, l, wide)) in ((λ b. let p = h.0 b in (p.0, p.1, refl)), (λ p. h.1 (p.0, p.1)))

    left : (v : Var) (j : ℕ) → place_in 0 (vars_of r) v ≡ Some j → stays v ≡ (any v && not (is_left (assigned_at r x.deed) j))
    left v j e = ap not (assigned_same r x.deed v j e)

    at_most : length (vars_of r) ≤ k.width + 2
    at_most = let n : length (vars_of r) ≤ k.width = narrow r m in omega (arith, n)

    arc_edge : (a b : ℕ) → Carries w rows arc a b → Contains (way_edges (here r) x) (a, b)
    arc_edge a b c = carried_edge w rows (vars_of r) arc at_most any stays among left a b c

    edge_arc : (a b : ℕ) → Contains (way_edges (here r) x) (a, b) → Carries w rows arc a b
    edge_arc a b c = edge_carried w rows (vars_of r) arc at_most any stays among left a b c

  -- the edges of ways of a unit, and its others
  abbrev ways_of_unit : Row → List (ℕ × ℕ)
  ways_of_unit r = flat_map (way_edges (here r)) r.ways

  abbrev statements_of_unit : Row → List (ℕ × ℕ)
  statements_of_unit r = flat_map (statement_edges (here r)) r.statements

  other_to : (r : Row) (e : ℕ × ℕ) → Contains (other_edges (here r)) e → Contains (unit_edges (here r)) e
  other_to r e c = go (Contains-append_cases (entry_edges (here r)) (statements_of_unit r) e c)
    where
      go : Contains (entry_edges (here r)) e ⊎ Contains (statements_of_unit r) e → Contains (unit_edges (here r)) e
      go (inl d) = Contains-append_left (entry_edges (here r)) (ways_of_unit r ++ statements_of_unit r) e d
      go (inr d) = Contains-append_right (entry_edges (here r)) (ways_of_unit r ++ statements_of_unit r) e (Contains-append_right (ways_of_unit r) (statements_of_unit r) e d)

  way_to : (r : Row) (e : ℕ × ℕ) → Contains (ways_of_unit r) e → Contains (unit_edges (here r)) e
  way_to r e d = Contains-append_right (entry_edges (here r)) (ways_of_unit r ++ statements_of_unit r) e (Contains-append_left (ways_of_unit r) (statements_of_unit r) e d)

  from_unit : (r : Row) (e : ℕ × ℕ) → Contains (unit_edges (here r)) e → Contains (other_edges (here r)) e ⊎ Contains (ways_of_unit r) e
  from_unit r e c = go (Contains-append_cases (entry_edges (here r)) (ways_of_unit r ++ statements_of_unit r) e c)
    where
      rest : Contains (ways_of_unit r) e ⊎ Contains (statements_of_unit r) e → Contains (other_edges (here r)) e ⊎ Contains (ways_of_unit r) e
      rest (inl d) = inr d
      rest (inr d) = inl (Contains-append_right (entry_edges (here r)) (statements_of_unit r) e d)

      go : Contains (entry_edges (here r)) e ⊎ Contains (ways_of_unit r ++ statements_of_unit r) e → Contains (other_edges (here r)) e ⊎ Contains (ways_of_unit r) e
      go (inl d) = inl (Contains-append_left (entry_edges (here r)) (statements_of_unit r) e d)
      go (inr d) = rest (Contains-append_cases (ways_of_unit r) (statements_of_unit r) e d)

  to_edges : (a b : ℕ) → Leads w rows (all_arcs here rs taking) (all_others here rs taking) a b → Contains (all_edges here rs taking) (a, b)
  to_edges a b (inl c) =
      let r = flat_only (λ r. list_if (flag taking r.part.number) (other_edges (here r))) rs (a, b) c in
      let t = if_only (flag taking r.0.part.number) (other_edges (here r.0)) (a, b) r.2 in
      flat_has (λ r. list_if (flag taking r.part.number) (unit_edges (here r))) rs r.0 (a, b) r.1 (if_has (flag taking r.0.part.number) (unit_edges (here r.0)) (a, b) t.0 (other_to r.0 (a, b) t.1))
  to_edges a b (inr (z, c, h)) =
      let r = flat_only (λ r. list_if (flag taking r.part.number) (row_arcs (here r))) rs z c in
      let t = if_only (flag taking r.0.part.number) (row_arcs (here r.0)) z r.2 in
      let x = flat_only (way_arc (here r.0)) r.0.ways z t.1 in
      let e : arc r.0 r.1 x.0 ≡ z = is_only z (arc r.0 r.1 x.0) x.2 in
      flat_has (λ r. list_if (flag taking r.part.number) (unit_edges (here r))) rs r.0 (a, b) r.1
      (if_has (flag taking r.0.part.number) (unit_edges (here r.0)) (a, b) t.0 (way_to r.0 (a, b) (flat_has (way_edges (here r.0)) r.0.ways x.0 (a, b) x.1 (arc_edge r.0 r.1 x.0 a b (subst (λ u. Carries w rows u a b) (sym e) h)))))

  from_edges : (a b : ℕ) → Contains (all_edges here rs taking) (a, b) → Leads w rows (all_arcs here rs taking) (all_others here rs taking) a b
  from_edges a b c =
      let r = flat_only (λ r. list_if (flag taking r.part.number) (unit_edges (here r))) rs (a, b) c in
      let t = if_only (flag taking r.0.part.number) (unit_edges (here r.0)) (a, b) r.2 in
      go r.0 r.1 t.0 (from_unit r.0 (a, b) t.1)
    where
      go : (r : Row) → Contains rs r → flag taking r.part.number ≡ true → Contains (other_edges (here r)) (a, b) ⊎ Contains (ways_of_unit r) (a, b) → Leads w rows (all_arcs here rs taking) (all_others here rs taking) a b
      go r m t (inl d) = inl (flat_has (λ r. list_if (flag taking r.part.number) (other_edges (here r))) rs r (a, b) m (if_has (flag taking r.part.number) (other_edges (here r)) (a, b) t d))
      go r m t (inr d) =
          let x = flat_only (way_edges (here r)) r.ways (a, b) d in
          let z = arc r m x.0 in
          inr (z, flat_has (λ r. list_if (flag taking r.part.number) (row_arcs (here r))) rs r z m (if_has (flag taking r.part.number) (row_arcs (here r)) z t (flat_has (way_arc (here r)) r.ways x.0 z x.1 (is_first z z [] refl))), edge_arc r m x.0 a b x.2)

  -- so what they reach is what the edges reach
  pub all_reached : (start : List ℕ) (m : ℕ) → ReachedByRows w rows (all_arcs here rs taking) (all_others here rs taking) start m ↔ ReachedFrom (all_edges here rs taking) start m
  all_reached start m = reached_same w rows (all_arcs here rs taking) (all_others here rs taking) (all_edges here rs taking) start to_edges from_edges m
