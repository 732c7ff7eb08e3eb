-- The edges of the rows of units that take part are those of the definitions.
use Rattle.std.proofs.Common.{◌≡◌, ℕ, ◌+◌, ◌*◌, List, [], ◌∷◌, ◌++◌, Bool, map, refl, sym, ap, ◌∙◌, append-nil}
use Rattle.std.specs.Prelude.{Contains, Option, Some, None, flat_map, slice_index_or}
use Rattle.std.specs.Borrow.{Bor}
use Rattle.std.specs.Option.{option_map}
use Rattle.std.proofs.lemmas.List.Concat.{flat_map-cons}
use Rattle.adj_tree.specs.Code.{Var, plain, Terms, Act, assign, choose, loop, during, call, runtime}
use Rattle.adj_reach.specs.Reached.{leads}
use Rattle.def_flow.specs.Parts.{Part, parts, find_part}
use Rattle.def_flow.specs.Standing.{Standing}
use Rattle.def_names.specs.VariableLists.{list_if}
use Rattle.def_flow.specs.Problem.{Problem, statements_of, ways_of, TakesPart, bound}
use Rattle.def_flow.specs.Activity.{Adjoint, statement, unit}
use Rattle.def_flow.specs.Rules.{Scope, Covers, with_args, called, at_actuals, holders, adjoint_steps_at}
use Rattle.def_flow.proofs.OwnPoints.{entry_point}
use Rattle.adj_flow.specs.Rows.{Row, row_in, rows}
use Rattle.adj_reach.specs.Edges.{Edges, flag}
use Rattle.adj_flow.specs.Nodes.{node_in, linked}
use Rattle.adj_activity.specs.Edges.{way_edges, assigned_edges, called_edges, statement_edges, unit_edges, flow_edges, lent_edges, unit_shadows, shadow_edges, adjoint_number, adjoint_edges}
use Rattle.adj_flow.specs.Told.{told}
use Rattle.adj_activity.specs.View.{pair_edges, found_edges, call_edges, maker_edge, maker_edges, made_edges, standing_edges, row_edges}
use Rattle.adj_flow.specs.Scoped.{scope_by}
use Rattle.adj_activity.specs.declared.steps.Steps.{Steps}
use Rattle.adj_activity.specs.declared.steps.Steps.TheVariants.{Flow, Shadows, Adjoints}
use Rattle.adj_flow.proofs.Scoping.{flat_same, map_flat, scoped, told_there}

-- ---- edges

module _ (k : Problem) (vss : List (List (List ℕ))) (flags : List Bool) (w : ℕ) (find : List ℕ → Option Row) (finds : (x : List ℕ) → find x ≡ option_map (row_in vss) (find_part (parts k.units) x)) where
  abbrev o : Scope
  o = scope_by vss (flag flags) k.units

  -- ---- calls, by what is said of a dummy with its actual

  module _ (t : Steps) (f : Part) (s : Standing) (F : Part → List ℕ → Var → Edges) (taking : TakesPart k f) (stands : Contains (statements_of f) s)
      (same : (g : Part) → TakesPart k g → (d : List ℕ) (a : Var) → pair_edges t w (row_in vss f) s.number (row_in vss g) d a ≡ F g d a) where
    found_same : (name : List ℕ) (args : Terms) → s.act ≡ call name args → (g : Option Part) → find_part (parts k.units) name ≡ g → found_edges t w (row_in vss f) s.number args (option_map (row_in vss) g) ≡ flat_map (at_actuals F) (with_args args g)
    found_same name args e None p = refl
    found_same name args e (Some g) p =
        let u : TakesPart k g = leads taking (s, args, record { name = name; stands = stands; act = e; finds = p }) in
        flat_same (λ (b : List ℕ × Var). pair_edges t w (row_in vss f) s.number (row_in vss g) b.0 b.1) (λ (b : List ℕ × Var). F g b.0 b.1) (bound g.unit.dummies args) (λ b c. same g u b.0 b.1)
        ∙ sym (append-nil (at_actuals F (g, args))) ∙ sym (flat_map-cons (at_actuals F) (g, args) [])

    act_same : (a : Act) → s.act ≡ a → call_edges t find w (row_in vss f) s.number a ≡ flat_map (at_actuals F) (called (parts k.units) a)
    act_same (assign x subs e) p = refl
    act_same (choose c a b) p = refl
    act_same (loop x first last by body m) p = refl
    act_same (during c body) p = refl
    act_same (call name args) p = ap (found_edges t w (row_in vss f) s.number args) (finds name) ∙ found_same name args p (find_part (parts k.units) name) refl
    act_same (runtime r) p = refl

    call_same : call_edges t find w (row_in vss f) s.number s.act ≡ flat_map (at_actuals F) (called (parts k.units) s.act)
    call_same = act_same s.act refl

  -- ---- flow, and shadows

  module _ (y : Covers k o) where
    flow_same : (g : Part) → TakesPart k g → row_edges Flow find w (row_in vss g) ≡ unit_edges k o w g
    flow_same g u =
        ap (λ z. flat_map (way_edges w (o.variables g)) (ways_of g) ++ z)
        (flat_same (standing_edges Flow find w (row_in vss g)) (statement_edges k o w g) (statements_of g)
        (λ s c. ap (λ z. assigned_edges w (o.variables g) s.number s.act ++ z) (call_same Flow g s (called_edges w (o.variables g) o.variables s.number) u c (λ q v d a. refl))))

    pub all_flow : flat_map (λ r. list_if (flag flags r.part.number) (row_edges Flow find w r)) (rows vss k.units) ≡ flow_edges k o w
    all_flow = scoped k vss flags (row_edges Flow find w) (unit_edges k o w) (λ g c. flow_same g ((y.parts g).0 c))

    shadow_same : (varied : Bor (List Bool)) (g : Part) → TakesPart k g → row_edges (Shadows varied) find w (row_in vss g) ≡ unit_shadows k o w (told varied.now o w) g
    shadow_same varied g u =
        flat_same (standing_edges (Shadows varied) find w (row_in vss g)) (λ s. flat_map (at_actuals (lent_edges w (o.variables g) o.variables (told varied.now o w) g.number)) (called (parts k.units) s.act)) (statements_of g)
        (λ s c. call_same (Shadows varied) g s (lent_edges w (o.variables g) o.variables (told varied.now o w) g.number) u c
        (λ q v d a. ap (λ b. linked (node_in w (o.variables q) (q.number, plain d)) (node_in w (o.variables g) (g.number, a)) ++ list_if b (linked (node_in w (o.variables g) (g.number, a)) (node_in w (o.variables q) (q.number, plain d)))) (told_there k o y varied.now w (slice_index_or vss q.number []) q q.entry v (entry_point q) refl (plain d))))

    pub all_shadows : (varied : Bor (List Bool)) → flat_map (λ r. list_if (flag flags r.part.number) (row_edges (Shadows varied) find w r)) (rows vss k.units) ≡ shadow_edges k o w (told varied.now o w)
    all_shadows varied = scoped k vss flags (row_edges (Shadows varied) find w) (unit_shadows k o w (told varied.now o w)) (λ g c. shadow_same varied g ((y.parts g).0 c))

  -- ---- adjoints

  abbrev by_number : Adjoint × Adjoint → ℕ × ℕ
  by_number e = (adjoint_number e.0, adjoint_number e.1)

  one_maker : (n : ℕ) (args : Terms) (g : Option Part) → maker_edge (2 * n) (option_map (row_in vss) g) ≡ map by_number (map (λ (c : Part × Terms). (unit c.0.number, statement n)) (with_args args g))
  one_maker n args None = refl
  one_maker n args (Some g) = refl

  maker_same : (n : ℕ) (a : Act) → maker_edges find (2 * n) a ≡ map by_number (map (λ (c : Part × Terms). (unit c.0.number, statement n)) (called (parts k.units) a))
  maker_same n (assign x subs e) = refl
  maker_same n (choose c a b) = refl
  maker_same n (loop x first last by body m) = refl
  maker_same n (during c body) = refl
  maker_same n (call name args) = ap (maker_edge (2 * n)) (finds name) ∙ one_maker n args (find_part (parts k.units) name)
  maker_same n (runtime r) = refl

  held_same : (n : ℕ) (hs : List ℕ) (es : Edges) (xs : List (Adjoint × Adjoint)) → es ≡ map by_number xs → map (λ i. (2 * n, 2 * i)) hs ++ es ≡ map by_number (map (λ i. (statement n, statement i)) hs ++ xs)
  held_same n [] es xs e = e
  held_same n (h ∷ hs) es xs e = ap (λ z. (2 * n, 2 * h) ∷ z) (held_same n hs es xs e)

  made_same : (u : ℕ) (s : Standing) → made_edges find u s ≡ map by_number (adjoint_steps_at k u s)
  made_same u s =
      held_same s.number (holders s.place) ((2 * s.number, 2 * u + 1) ∷ maker_edges find (2 * s.number) s.act) ((statement s.number, unit u) ∷ map (λ c. (unit c.0.number, statement s.number)) (called (parts k.units) s.act))
      (ap (λ z. (2 * s.number, 2 * u + 1) ∷ z) (maker_same s.number s.act))

  unit_made : (g : Part) → row_edges Adjoints find w (row_in vss g) ≡ map by_number (flat_map (adjoint_steps_at k g.number) (statements_of g))
  unit_made g =
      flat_same (standing_edges Adjoints find w (row_in vss g)) (λ s. map by_number (adjoint_steps_at k g.number s)) (statements_of g) (λ s c. made_same g.number s)
      ∙ map_flat by_number (adjoint_steps_at k g.number) (statements_of g)

  pub all_adjoints : flat_map (λ r. list_if (flag flags r.part.number) (row_edges Adjoints find w r)) (rows vss k.units) ≡ adjoint_edges k o
  all_adjoints =
      scoped k vss flags (row_edges Adjoints find w) (λ g. map by_number (flat_map (adjoint_steps_at k g.number) (statements_of g))) (λ g c. unit_made g)
      ∙ map_flat by_number (λ (g : Part). flat_map (adjoint_steps_at k g.number) (statements_of g)) o.parts
