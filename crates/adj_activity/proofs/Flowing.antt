-- What the flow of a program is made with is what is known of it.
use Rattle.std.proofs.Common.{◌≡◌, ℕ, suc, ◌≤◌, List, [], ◌∷◌, map, length, refl, sym, ap, ◌∙◌, subst, false}
use Rattle.std.specs.Prelude.{◌↔◌, ◌<◌, IsTrue, All, Contains, slice_index_or}
use Rattle.std.proofs.lemmas.Simd.{map-map}
use Rattle.adj_tree.specs.Code.{Procedure}
use Rattle.def_text.specs.Written.{IsWritten}
use Rattle.def_names.specs.Variables.{variables}
use Rattle.def_names.specs.Numbers.{behind}
use Rattle.def_flow.specs.Parts.{Part, parts, parts_from}
use Rattle.def_names.specs.StatementsIn.{statements_in}
use Rattle.def_flow.specs.Problem.{TakesPart}
use Rattle.adj_reach.proofs.Members.{is_first, is_later}
use Rattle.adj_symbols_writes.specs.Graph.{number_from}
use Rattle.adj_symbols_writes.specs.Table.{value_of}
use Rattle.adj_flow.specs.Rows.{Row, row_of, row_in, rows}
use Rattle.adj_flow.specs.declared.units.Flow.{Flow}
use Rattle.adj_reach.specs.Edges.{flag}
use Rattle.adj_flow.specs.Asked.{IsFlow, units_of, variables_of}
use Rattle.adj_flow.specs.Scoped.{HoldVariables}
use Rattle.adj_activity.proofs.Holding.{numbered_variables, written_hold}

-- two views that agree on the members
seen_same : {X Y : Type 0} (f g : X → Y) (xs : List X) → ((x : X) → Contains xs x → f x ≡ g x) → map f xs ≡ map g xs
seen_same f g [] h = refl
seen_same f g (x ∷ xs) h =
    let first : f x ≡ g x = h x (is_first x x xs refl) in
    let later : map f xs ≡ map g xs = seen_same f g xs (λ z c. h z (is_later z x xs c)) in
    λ i. first i ∷ later i

parts_units : (t u i : ℕ) (ps : List Procedure) → map (λ (g : Part). g.unit) (parts_from t u i ps) ≡ ps
parts_units t u i [] = refl
parts_units t u i (p ∷ ps) = ap (λ z. p ∷ z) (parts_units t (suc u) (behind i p.body) ps)

module _ (f : Flow) (h : ℕ) (ps : List Procedure) (vss : List (List (List ℕ))) (same : vss ≡ map variables ps) (listed : map row_of f.parts.items ≡ rows vss ps) where
  pub units_are : units_of f ≡ ps
  units_are =
      sym (map-map (λ (r : Row). r.part.unit) row_of f.parts.items) ∙ ap (map (λ (r : Row). r.part.unit)) listed ∙ map-map (λ (r : Row). r.part.unit) (row_in vss) (parts ps)
      ∙ parts_units (statements_in 0 ps) 0 0 ps

  variables_are : variables_of f ≡ vss
  variables_are =
      sym (map-map (λ (r : Row). r.variables) row_of f.parts.items) ∙ ap (map (λ (r : Row). r.variables)) listed ∙ map-map (λ (r : Row). r.variables) (row_in vss) (parts ps)
      ∙ ap (λ z. map (λ (g : Part). slice_index_or z g.number []) (parts ps)) same
      ∙ seen_same (λ (g : Part). slice_index_or (map variables ps) g.number []) (λ (g : Part). variables g.unit) (parts ps) (λ g c. numbered_variables ps g c)
      ∙ sym (map-map variables (λ (g : Part). g.unit) (parts ps)) ∙ ap (map variables) (parts_units (statements_in 0 ps) 0 0 ps)
      ∙ sym same

  pub flow_is : IsWritten ps → h < length ps → ((x : List ℕ) → value_of x f.numbers ≡ number_from 0 ps x) →
      ((g : Part) → Contains (parts ps) g → IsTrue (flag f.taking g.number) ↔ TakesPart (record { units = ps; head = h; vars = []; outvars = []; split = λ n. false }) g) → All (λ vs. length vs ≤ f.width) vss → IsFlow f h
  flow_is written inside known takes narrow = record {
    head = subst (λ z. h < length z) (sym units_are) inside;
    rows = listed ∙ (λ i. rows (sym variables_are i) (sym units_are i));
    numbers = λ x. known x ∙ ap (λ z. number_from 0 z x) (sym units_are);
    taking = subst (λ z. (g : Part) → Contains (parts z) g → IsTrue (flag f.taking g.number) ↔ TakesPart (record { units = z; head = h; vars = []; outvars = []; split = λ n. false }) g) (sym units_are) takes;
    width = subst (λ z. All (λ vs. length vs ≤ f.width) z) (sym variables_are) narrow;
    variables = subst (λ z. HoldVariables z (units_of f)) (sym (variables_are ∙ same)) (subst (λ z. HoldVariables (map variables ps) z) (sym units_are) (written_hold ps written));
  }
