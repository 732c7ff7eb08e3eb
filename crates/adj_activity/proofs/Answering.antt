-- Flags of what the listed edges reach from the listed beginnings tell the activity, and what carries a tangent.
use Rattle.std.proofs.Common.{◌≡◌, ℕ, zero, suc, ◌<◌, ◌≤◌, List, [], ◌∷◌, ◌++◌, Bool, map, length, get_or, refl, sym, ap, ◌∙◌, subst, arith, false}
use Rattle.std.specs.Prelude.{◌↔◌, IsTrue, All, Contains, Some, None, slice_get}
use Rattle.std.specs.Borrow.{Bor}
use Rattle.std.specs.Option.{option_map}
use Rattle.std.proofs.lemmas.List.{length-map}
use Rattle.std.proofs.Math.ListN.{get_or-map}
use Rattle.std.proofs.lemmas.Option.{slice_get-map, get_or_from_slice_get}
use Rattle.adj_tree.specs.Code.{Procedure}
use Rattle.adj_tree.specs.View.{procedure_of}
use Rattle.def_names.specs.Numbers.{everything, behind}
use Rattle.def_flow.specs.Carried.{IsCarrying}
use Rattle.def_flow.specs.Parts.{Part, parts, parts_from, find_part}
use Rattle.def_names.specs.StatementsIn.{statements_in}
use Rattle.def_flow.specs.Problem.{Problem, TakesPart}
use Rattle.def_flow.specs.Activity.{IsActivity}
use Rattle.def_flow.specs.Rules.{Scope, Covers}
use Rattle.adj_symbols_writes.specs.Graph.{number_from}
use Rattle.adj_symbols_writes.specs.Table.{value_of}
use Rattle.adj_flow.specs.Rows.{Row, row_of, row_in, rows}
use Rattle.adj_flow.specs.declared.units.Flow.{Flow}
use Rattle.adj_flow.specs.declared.row.Part as made
use Rattle.adj_flow.specs.Asked.{units_of, variables_of}
use Rattle.adj_reach.specs.Edges.{Edges, ReachedFrom, ReachedBack, flag}
use Rattle.adj_flow.specs.Nodes.{IsWide}
use Rattle.adj_activity.specs.Edges.{flow_edges, entry_nodes, end_nodes, shadow_edges, shadow_nodes, adjoint_edges, adjoint_nodes}
use Rattle.adj_flow.specs.Told.{told, told_of}
use Rattle.adj_activity.specs.Searched.{activity_searched}
use Rattle.adj_flow.specs.NodeView.{found_at}
use Rattle.adj_activity.specs.View.{flow_listed, shadows_listed, adjoints_listed}
use Rattle.adj_flow.specs.Scoped.{scope_by, HoldVariables}
use Rattle.adj_activity.specs.Starts.{point_nodes, all_active, all_outright}
use Rattle.adj_activity.specs.declared.found.Found.{Found}
use Rattle.adj_flow.proofs.Covering.{flags_cover, scope_wide}
use Rattle.adj_flow.proofs.Scoping.{found_unit}
use Rattle.adj_activity.proofs.Rowed.{all_flow, all_shadows, all_adjoints}
use Rattle.adj_activity.proofs.Started.{entry_same, end_same, shadows_same, outright_same}
use Rattle.adj_activity.proofs.Told.{is_activity, is_carrying}

-- a place of a list has a member
got : {X : Type 0} (xs : List X) (i : ℕ) → i < length xs → (x : X) × (slice_get xs i ≡ Some x)
got [] i l = absurd (omega arith)
got (x ∷ xs) zero l = (x, refl)
got (x ∷ xs) (suc i) l = got xs i (omega arith)

-- each unit of a flow has its variables
pub same_lengths : (f : Flow) → length (variables_of f) ≡ length (units_of f)
same_lengths f = length-map f.parts.items (λ p. p.variables.now) ∙ sym (length-map f.parts.items (λ p. procedure_of p.unit.now))

-- what is at a place of the rows is the row of what is at that place
pub row_there : (f : Flow) (i : ℕ) (p : made.Part) → p ≡ get_or f.parts.items i p → row_of p ≡ get_or (map row_of f.parts.items) i (row_of p)
row_there f i p e = sym (get_or-map row_of f.parts.items i p ∙ ap row_of (sym e))

-- flags of what some edges reach are those of what the same edges reach, by other words
pub moved : (flags : List Bool) (es fs : Edges) (ns ms : List ℕ) → es ≡ fs → ns ≡ ms → ((m : ℕ) → IsTrue (flag flags m) ↔ ReachedFrom es ns m) → (m : ℕ) → IsTrue (flag flags m) ↔ ReachedFrom fs ms m
moved flags es fs ns ms e n h m = subst (λ z. IsTrue (flag flags m) ↔ ReachedFrom z ms m) e (subst (λ z. IsTrue (flag flags m) ↔ ReachedFrom es z m) n (h m))

parts_length : (t u i : ℕ) (ps : List Procedure) → length (parts_from t u i ps) ≡ length ps
parts_length t u i [] = refl
parts_length t u i (p ∷ ps) = ap suc (parts_length t (suc u) (behind i p.body) ps)

module _ (k : Problem) (vss : List (List (List ℕ))) (numbers : List (List ℕ × ℕ)) (taking : List Bool) (w : ℕ) (known : (x : List ℕ) → value_of x numbers ≡ number_from 0 k.units x)
    (takes : (g : Part) → Contains (parts k.units) g → IsTrue (flag taking g.number) ↔ TakesPart (record { units = k.units; head = k.head; vars = []; outvars = []; split = λ n. false }) g) (lengths : length vss ≡ length k.units) (narrow : All (λ vs. length vs ≤ w) vss)
    (hold : HoldVariables vss k.units) (rs : List Row) (same : rs ≡ rows vss k.units) where
  abbrev o : Scope
  o = scope_by vss (flag taking) k.units

  finds : (x : List ℕ) → found_at (rows vss k.units) (value_of x numbers) ≡ option_map (row_in vss) (find_part (parts k.units) x)
  finds x = ap (found_at (rows vss k.units)) (known x) ∙ found_unit vss k.units x

  covers : Covers k o
  covers = flags_cover k vss taking hold takes

  wide : IsWide k o w
  wide = scope_wide k vss (flag taking) w lengths narrow

  -- the head, and its row
  head_part : k.head < length k.units → (g : Part) × (slice_get (parts k.units) k.head ≡ Some g)
  head_part l = got (parts k.units) k.head (subst (λ n. k.head < n) (sym (parts_length (statements_in 0 k.units) 0 0 k.units)) l)

  head_row : (r : Row) (g : Part) → slice_get (parts k.units) k.head ≡ Some g → r ≡ get_or rs k.head r → r ≡ row_in vss g
  head_row r g is e =
      let s : slice_get (rows vss k.units) k.head ≡ Some (row_in vss g) = slice_get-map (row_in vss) (parts k.units) k.head ∙ ap (option_map (row_in vss)) is in
      e ∙ ap (λ z. get_or z k.head r) same ∙ get_or_from_slice_get (rows vss k.units) k.head (row_in vss g) r s

  -- the activity
  module _ (r : Row) (f : Found) (adjointed : List Bool) (a : (m : ℕ) → IsTrue (flag f.varied.now m) ↔ ReachedFrom (flow_listed rs numbers taking w) (point_nodes w r r.part.entry k.vars) m)
      (b : (m : ℕ) → IsTrue (flag f.useful.now m) ↔ ReachedBack (flow_listed rs numbers taking w) (point_nodes w r r.part.end k.outvars) m)
      (c : (m : ℕ) → IsTrue (flag f.shadowed.now m) ↔ ReachedFrom (shadows_listed f.varied rs numbers taking w) ((point_nodes w r r.part.number k.vars ++ point_nodes w r r.part.number k.outvars) ++ all_active f.varied.now (Some f.useful) rs taking w) m)
      (d : (m : ℕ) → IsTrue (flag adjointed m) ↔ ReachedFrom (adjoints_listed rs numbers taking w) (all_outright f rs taking w) m) where
    told_at_head : (g : Part) → slice_get (parts k.units) k.head ≡ Some g → r ≡ row_in vss g → IsActivity k (activity_searched f.varied.now f.useful.now f.shadowed.now adjointed o w)
    told_at_head g is q =
        let find = λ (x : List ℕ). found_at (rows vss k.units) (value_of x numbers) in
        let flow : flow_listed rs numbers taking w ≡ flow_edges k o w = ap (λ z. flow_listed z numbers taking w) same ∙ all_flow k vss taking w find finds covers in
        let shadows : shadows_listed f.varied rs numbers taking w ≡ shadow_edges k o w (told f.varied.now o w) = ap (λ z. shadows_listed f.varied z numbers taking w) same ∙ all_shadows k vss taking w find finds covers f.varied in
        let adjoints : adjoints_listed rs numbers taking w ≡ adjoint_edges k o = ap (λ z. adjoints_listed z numbers taking w) same ∙ all_adjoints k vss taking w find finds in
        let entry : point_nodes w r r.part.entry k.vars ≡ entry_nodes k o w = ap (λ z. point_nodes w z z.part.entry k.vars) q ∙ entry_same k vss taking w covers g is in
        let end : point_nodes w r r.part.end k.outvars ≡ end_nodes k o w = ap (λ z. point_nodes w z z.part.end k.outvars) q ∙ end_same k vss taking w covers g is in
        let lent : (point_nodes w r r.part.number k.vars ++ point_nodes w r r.part.number k.outvars) ++ all_active f.varied.now (Some f.useful) rs taking w ≡ shadow_nodes k o w (told f.varied.now o w) (told f.useful.now o w) =
        (λ i. (point_nodes w (q i) (q i).part.number k.vars ++ point_nodes w (q i) (q i).part.number k.outvars) ++ all_active f.varied.now (Some f.useful) (same i) taking w) ∙ shadows_same k vss taking w covers g is f.varied.now (Some f.useful) in
        let made : all_outright f rs taking w ≡ adjoint_nodes (activity_searched f.varied.now f.useful.now f.shadowed.now adjointed o w) o = ap (λ z. all_outright f z taking w) same ∙ outright_same k vss taking w covers f adjointed in
        is_activity k o w f.varied.now f.useful.now f.shadowed.now adjointed covers wide
        (record {
          varied_by = moved f.varied.now _ _ _ _ flow entry a;
          useful_by = λ m. subst (λ z. IsTrue (flag f.useful.now m) ↔ ReachedBack z (end_nodes k o w) m) flow (subst (λ z. IsTrue (flag f.useful.now m) ↔ ReachedBack (flow_listed rs numbers taking w) z m) end (b m));
          shadowed_by = moved f.shadowed.now _ _ _ _ shadows lent c;
          adjointed_by = moved adjointed _ _ _ _ adjoints made d;
        })

    pub told_activity : k.head < length k.units → r ≡ get_or rs k.head r → IsActivity k (activity_searched f.varied.now f.useful.now f.shadowed.now adjointed o w)
    told_activity l e = let g = head_part l in told_at_head g.0 g.1 (head_row r g.0 g.1 e)

  -- what carries a tangent
  module _ (r : Row) (varied : Bor (List Bool)) (carried : List Bool) (a : (m : ℕ) → IsTrue (flag varied.now m) ↔ ReachedFrom (flow_listed rs numbers taking w) (point_nodes w r r.part.entry k.vars) m)
      (b : (m : ℕ) → IsTrue (flag carried m) ↔ ReachedFrom (shadows_listed varied rs numbers taking w) ((point_nodes w r r.part.number k.vars ++ point_nodes w r r.part.number k.outvars) ++ all_active varied.now None rs taking w) m) where
    carrying_at_head : (g : Part) → slice_get (parts k.units) k.head ≡ Some g → r ≡ row_in vss g → IsCarrying k (told varied.now o w) (told_of carried o w)
    carrying_at_head g is q =
        let find = λ (x : List ℕ). found_at (rows vss k.units) (value_of x numbers) in
        let flow : flow_listed rs numbers taking w ≡ flow_edges k o w = ap (λ z. flow_listed z numbers taking w) same ∙ all_flow k vss taking w find finds covers in
        let lends : shadows_listed varied rs numbers taking w ≡ shadow_edges k o w (told varied.now o w) = ap (λ z. shadows_listed varied z numbers taking w) same ∙ all_shadows k vss taking w find finds covers varied in
        let entry : point_nodes w r r.part.entry k.vars ≡ entry_nodes k o w = ap (λ z. point_nodes w z z.part.entry k.vars) q ∙ entry_same k vss taking w covers g is in
        let outright : (point_nodes w r r.part.number k.vars ++ point_nodes w r r.part.number k.outvars) ++ all_active varied.now None rs taking w ≡ shadow_nodes k o w (told varied.now o w) (λ p. everything) =
        (λ i. (point_nodes w (q i) (q i).part.number k.vars ++ point_nodes w (q i) (q i).part.number k.outvars) ++ all_active varied.now None (same i) taking w) ∙ shadows_same k vss taking w covers g is varied.now None in
        is_carrying k o w varied.now carried covers wide (record { varied_by = moved varied.now _ _ _ _ flow entry a; carried_by = moved carried _ _ _ _ lends outright b })

    pub told_carrying : k.head < length k.units → r ≡ get_or rs k.head r → IsCarrying k (told varied.now o w) (told_of carried o w)
    told_carrying l e = let g = head_part l in carrying_at_head g.0 g.1 (head_row r g.0 g.1 e)
