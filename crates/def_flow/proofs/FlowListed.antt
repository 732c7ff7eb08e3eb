-- The lists have the steps of flow, and what is independent and dependent.
use Rattle.std.proofs.Common.{◌≡◌, ◌⊎◌, inl, inr, ℕ, List, ◌∷◌, [], ◌++◌, false, refl, sym, ap, ◌∙◌, subst}
use Rattle.std.specs.Prelude.{Contains, not, ◌&&◌, map, flat_map}
use Rattle.std.proofs.lemmas.List.Elements.{Contains-append_left, Contains-append_right, Contains-append_cases}
use Rattle.adj_tree.specs.Code.{Var, plain, Terms, Term, Act, assign, choose, loop, during, call, runtime}
use Rattle.def_names.specs.Numbering.{point_before, point_after}
use Rattle.adj_reach.specs.Reached.{begins, leads}
use Rattle.def_flow.specs.Parts.{Part, parts}
use Rattle.def_flow.specs.Ways.{Way, assigned_on, passed_on}
use Rattle.def_flow.specs.Standing.{Standing}
use Rattle.def_names.specs.VariableLists.{list_if, vars_in, vars_in_terms, occurring_in, standing_in}
use Rattle.def_flow.specs.Problem.{Problem, statements_of, ways_of, CallsUnit, TakesPart, flagged, bound}
use Rattle.def_flow.specs.Flow as flow
use Rattle.def_flow.specs.Flow.{Node}
use Rattle.def_flow.specs.Activity.{IsPoint}
use Rattle.def_flow.specs.Rules.{Scope, Covers, against, called, at_actuals, head_parts, flow_stays, flow_assigned, flow_called, flow_at, flow_steps, varied_starts, useful_starts}
use Rattle.adj_reach.proofs.Members.{is_first, is_later, is_among, is_none, is_only, map_has, map_only, flat_has, flat_only}
use Rattle.def_names.proofs.Conditioned.{if_has, if_only}
use Rattle.def_flow.proofs.AsLists.{AreLists}
use Rattle.def_flow.proofs.Scoped.{called_has, called_only, actuals_have, actuals_only, bound_stands, head_has, head_only, flagged_stands}
use Rattle.def_flow.proofs.Sets.{both, and_both, isnt}
use Rattle.def_names.proofs.VariableLists.{has_only, has_it, occurs_stands}
use Rattle.def_flow.proofs.AdjointReads.{has_occurring}
use Rattle.def_flow.proofs.Points.{one_point}
use Rattle.def_flow.proofs.OwnPoints.{entry_point, end_point, own_before, own_after}

module _ (k : Problem) (o : Scope) (y : Covers k o) where
  -- a variable of the unit at one of its points
  abbrev pub IsKnown : Node → Type 0
  IsKnown n = (g : Part) × TakesPart k g × IsPoint g n.0 × Contains (o.variables g) n.1

  -- ---- a step is listed

  in_unit : (g : Part) (e : Node × Node) → TakesPart k g → Contains (flat_map (flow_stays (o.variables g)) (ways_of g) ++ flat_map (flow_at k) (statements_of g)) e → Contains (flow_steps k o) e
  in_unit g e p c = flat_has (λ h. flat_map (flow_stays (o.variables h)) (ways_of h) ++ flat_map (flow_at k) (statements_of h)) o.parts g e ((y.parts g).1 p) c

  on_way : (g : Part) (w : Way) (v : Var) → TakesPart k g → Contains (ways_of g) w → Contains (o.variables g) v → assigned_on w.deed v ≡ false → passed_on w.deed v ≡ false → Contains (flow_steps k o) ((w.from, v), (w.to, v))
  on_way g w v p c m a b =
      let e : Node × Node = ((w.from, v), (w.to, v)) in
      in_unit g e p (Contains-append_left (flat_map (flow_stays (o.variables g)) (ways_of g)) (flat_map (flow_at k) (statements_of g)) e
      (flat_has (flow_stays (o.variables g)) (ways_of g) w e c
      (flat_has (λ u. list_if (not (assigned_on w.deed u) && not (passed_on w.deed u)) (((w.from, u), (w.to, u)) ∷ [])) (o.variables g) v e m
      (if_has (not (assigned_on w.deed v) && not (passed_on w.deed v)) (e ∷ []) e (and_both (ap not a) (ap not b)) (is_first e e [] refl)))))

  at_statement : (g : Part) (s : Standing) (e : Node × Node) → TakesPart k g → Contains (statements_of g) s → Contains (flow_at k s) e → Contains (flow_steps k o) e
  at_statement g s e p c m = in_unit g e p (Contains-append_right (flat_map (flow_stays (o.variables g)) (ways_of g)) (flat_map (flow_at k) (statements_of g)) e (flat_has (flow_at k) (statements_of g) s e c m))

  at_assignment : (g : Part) (s : Standing) (x : Var) (subs : Terms) (e : Term) (v : Var) → TakesPart k g → Contains (statements_of g) s → s.act ≡ assign x subs e → Contains (occurring_in e) v →
      Contains (flow_steps k o) ((point_before s.number, v), (point_after s.number, x))
  at_assignment g s x subs e v p c a m =
      let f : Node × Node = ((point_before s.number, v), (point_after s.number, x)) in
      at_statement g s f p c (Contains-append_left (flow_assigned s.number s.act) (flat_map (at_actuals (flow_called s.number)) (called (parts k.units) s.act)) f
      (subst (λ b. Contains (flow_assigned s.number b) f) (sym a) (map_has (λ u. ((point_before s.number, u), (point_after s.number, x))) (occurring_in e) v m)))

  at_call : (f g : Part) (s : Standing) (args : Terms) (d : List ℕ) (a : Var) (e : Node × Node) → TakesPart k f → CallsUnit k f g s args → Contains (bound g.unit.dummies args) (d, a) → Contains (flow_called s.number g d a) e → Contains (flow_steps k o) e
  at_call f g s args d a e p c b m =
      at_statement f s e p c.stands (Contains-append_right (flow_assigned s.number s.act) (flat_map (at_actuals (flow_called s.number)) (called (parts k.units) s.act)) e
      (flat_has (at_actuals (flow_called s.number)) (called (parts k.units) s.act) (g, args) e (called_has k f g s args c) (actuals_have (flow_called s.number) g args d a e b m)))

  -- ---- where variables stand

  target_stands : (g : Part) (s : Standing) (x : Var) (subs : Terms) (e : Term) → TakesPart k g → Contains (statements_of g) s → s.act ≡ assign x subs e → Contains (o.variables g) x
  target_stands g s x subs e p c a = y.standing g p s c x (subst (λ b. Contains (standing_in b) x) (sym a) (is_first x x (vars_in_terms subs ++ vars_in e) refl))

  right_stands : (g : Part) (s : Standing) (x : Var) (subs : Terms) (e : Term) (v : Var) → TakesPart k g → Contains (statements_of g) s → s.act ≡ assign x subs e → Contains (vars_in e) v → Contains (o.variables g) v
  right_stands g s x subs e v p c a m = y.standing g p s c v (subst (λ b. Contains (standing_in b) v) (sym a) (is_later v x (vars_in_terms subs ++ vars_in e) (Contains-append_right (vars_in_terms subs) (vars_in e) v m)))

  pub actual_stands : (f g : Part) (s : Standing) (args : Terms) (d : List ℕ) (a : Var) → TakesPart k f → CallsUnit k f g s args → Contains (bound g.unit.dummies args) (d, a) → Contains (o.variables f) a
  actual_stands f g s args d a p c b = y.standing f p s c.stands a (subst (λ z. Contains (standing_in z) a) (sym c.act) (bound_stands g.unit.dummies args (d, a) b).1)

  pub dummy_stands : (f g : Part) (s : Standing) (args : Terms) (d : List ℕ) (a : Var) → TakesPart k f → CallsUnit k f g s args → Contains (bound g.unit.dummies args) (d, a) → Contains (o.variables g) (plain d)
  dummy_stands f g s args d a p c b = y.dummies g (leads p (s, args, c)) d (bound_stands g.unit.dummies args (d, a) b).0

  -- a known variable at a point of a unit is one of that unit
  pub known_here : (g : Part) (p : ℕ) (v : Var) → TakesPart k g → IsPoint g p → IsKnown (p, v) → Contains (o.variables g) v
  known_here g p v t i q = subst (λ h. Contains (o.variables h) v) (one_point k q.0 g p q.1 t q.2 i) q.3

  -- ---- both ways

  led : (n m : Node) → IsKnown n → flow.Flows k n m → IsKnown m × Contains (flow_steps k o) (n, m)
  led n m q (flow.stays {g = g} {w = w} {v = v} p c a b) =
      let u : Contains (o.variables g) v = known_here g w.from v p (w, c, inl refl) q in
      ((g, p, (w, c, inr refl), u), on_way g w v p c u a b)
  led n m q (flow.assigned {g = g} {s = s} {x = x} {subs = subs} {e = e} {v = v} p c a h) =
      ((g, p, own_after g s c, target_stands g s x subs e p c a), at_assignment g s x subs e v p c a (has_only (occurring_in e) v (has_occurring v e ∙ h)))
  led n m q (flow.passed {f = f} {g = g} {s = s} {args = args} {d = d} {a = a} p c b) =
      let e1 : Node × Node = ((point_before s.number, a), (g.entry, plain d)) in
      let e2 : Node × Node = ((g.end, plain d), (point_after s.number, a)) in
      ((g, leads p (s, args, c), entry_point g, dummy_stands f g s args d a p c b), at_call f g s args d a e1 p c b (is_first e1 e1 (e2 ∷ []) refl))
  led n m q (flow.handed {f = f} {g = g} {s = s} {args = args} {d = d} {a = a} p c b) =
      let e1 : Node × Node = ((point_before s.number, a), (g.entry, plain d)) in
      let e2 : Node × Node = ((g.end, plain d), (point_after s.number, a)) in
      ((f, p, own_after f s c.stands, actual_stands f g s args d a p c b), at_call f g s args d a e2 p c b (is_later e2 e1 (e2 ∷ []) (is_first e2 e2 [] refl)))

  -- against the steps
  led_back : (n m : Node) → IsKnown n → flow.Flows k m n → IsKnown m × Contains (flow_steps k o) (m, n)
  led_back n m q (flow.stays {g = g} {w = w} {v = v} p c a b) =
      let u : Contains (o.variables g) v = known_here g w.to v p (w, c, inr refl) q in
      ((g, p, (w, c, inl refl), u), on_way g w v p c u a b)
  led_back n m q (flow.assigned {g = g} {s = s} {x = x} {subs = subs} {e = e} {v = v} p c a h) =
      let i : Contains (occurring_in e) v = has_only (occurring_in e) v (has_occurring v e ∙ h) in
      ((g, p, own_before g s c, right_stands g s x subs e v p c a (occurs_stands v e i)), at_assignment g s x subs e v p c a i)
  led_back n m q (flow.passed {f = f} {g = g} {s = s} {args = args} {d = d} {a = a} p c b) =
      let e1 : Node × Node = ((point_before s.number, a), (g.entry, plain d)) in
      let e2 : Node × Node = ((g.end, plain d), (point_after s.number, a)) in
      ((f, p, own_before f s c.stands, actual_stands f g s args d a p c b), at_call f g s args d a e1 p c b (is_first e1 e1 (e2 ∷ []) refl))
  led_back n m q (flow.handed {f = f} {g = g} {s = s} {args = args} {d = d} {a = a} p c b) =
      let e1 : Node × Node = ((point_before s.number, a), (g.entry, plain d)) in
      let e2 : Node × Node = ((g.end, plain d), (point_after s.number, a)) in
      ((g, leads p (s, args, c), end_point g, dummy_stands f g s args d a p c b), at_call f g s args d a e2 p c b (is_later e2 e1 (e2 ∷ []) (is_first e2 e2 [] refl)))

  -- ---- what is listed is a step

  stays_only : (g : Part) (e : Node × Node) → TakesPart k g → Contains (flat_map (flow_stays (o.variables g)) (ways_of g)) e → flow.Flows k e.0 e.1
  stays_only g e p c =
      let w = flat_only (flow_stays (o.variables g)) (ways_of g) e c in
      let v = flat_only (λ u. list_if (not (assigned_on w.0.deed u) && not (passed_on w.0.deed u)) (((w.0.from, u), (w.0.to, u)) ∷ [])) (o.variables g) e w.2 in
      let h = if_only (not (assigned_on w.0.deed v.0) && not (passed_on w.0.deed v.0)) (((w.0.from, v.0), (w.0.to, v.0)) ∷ []) e v.2 in
      let t = both (not (assigned_on w.0.deed v.0)) (not (passed_on w.0.deed v.0)) h.0 in
      let q : ((w.0.from, v.0), (w.0.to, v.0)) ≡ e = is_only e ((w.0.from, v.0), (w.0.to, v.0)) h.1 in
      subst (λ z. flow.Flows k z.0 z.1) q (flow.stays p w.1 (isnt (assigned_on w.0.deed v.0) t.0) (isnt (passed_on w.0.deed v.0) t.1))

  assigned_only : (g : Part) (s : Standing) (e : Node × Node) → TakesPart k g → Contains (statements_of g) s → Contains (flow_assigned s.number s.act) e → flow.Flows k e.0 e.1
  assigned_only g s e p c = go s.act refl
    where
      go : (a : Act) → s.act ≡ a → Contains (flow_assigned s.number a) e → flow.Flows k e.0 e.1
      go (assign x subs r) h m =
          let v = map_only (λ u. ((point_before s.number, u), (point_after s.number, x))) (occurring_in r) e m in
          subst (λ z. flow.Flows k z.0 z.1) v.2 (flow.assigned p c h (sym (has_occurring v.0 r) ∙ has_it (occurring_in r) v.0 v.1))
      go (choose q a b) h m = absurd (is_none e m)
      go (loop x first last by body n) h m = absurd (is_none e m)
      go (during q body) h m = absurd (is_none e m)
      go (call name args) h m = absurd (is_none e m)
      go (runtime r) h m = absurd (is_none e m)

  called_steps : (f : Part) (s : Standing) (e : Node × Node) → TakesPart k f → Contains (statements_of f) s → Contains (flat_map (at_actuals (flow_called s.number)) (called (parts k.units) s.act)) e → flow.Flows k e.0 e.1
  called_steps f s e p c m = go (is_among e e1 (e2 ∷ []) b.2)
    where
      g : (x : Part × Terms) × Contains (called (parts k.units) s.act) x × Contains (at_actuals (flow_called s.number) x) e
      g = flat_only (at_actuals (flow_called s.number)) (called (parts k.units) s.act) e m

      b : (x : List ℕ × Var) × Contains (bound g.0.0.unit.dummies g.0.1) x × Contains (flow_called s.number g.0.0 x.0 x.1) e
      b = actuals_only (flow_called s.number) g.0 e g.2

      u : CallsUnit k f g.0.0 s g.0.1
      u = called_only k f s g.0 c g.1

      e1 : Node × Node
      e1 = ((point_before s.number, b.0.1), (g.0.0.entry, plain b.0.0))

      e2 : Node × Node
      e2 = ((g.0.0.end, plain b.0.0), (point_after s.number, b.0.1))

      go : (e1 ≡ e) ⊎ Contains (e2 ∷ []) e → flow.Flows k e.0 e.1
      go (inl q) = subst (λ z. flow.Flows k z.0 z.1) q (flow.passed p u b.1)
      go (inr d) = subst (λ z. flow.Flows k z.0 z.1) (is_only e e2 d) (flow.handed p u b.1)

  steps_only : (e : Node × Node) → Contains (flow_steps k o) e → flow.Flows k e.0 e.1
  steps_only e c = go (Contains-append_cases (flat_map (flow_stays (o.variables g.0)) (ways_of g.0)) (flat_map (flow_at k) (statements_of g.0)) e g.2)
    where
      g : (h : Part) × Contains o.parts h × Contains (flat_map (flow_stays (o.variables h)) (ways_of h) ++ flat_map (flow_at k) (statements_of h)) e
      g = flat_only (λ h. flat_map (flow_stays (o.variables h)) (ways_of h) ++ flat_map (flow_at k) (statements_of h)) o.parts e c

      p : TakesPart k g.0
      p = (y.parts g.0).0 g.1

      at : (s : Standing) → Contains (statements_of g.0) s → Contains (flow_assigned s.number s.act) e ⊎ Contains (flat_map (at_actuals (flow_called s.number)) (called (parts k.units) s.act)) e → flow.Flows k e.0 e.1
      at s d (inl m) = assigned_only g.0 s e p d m
      at s d (inr m) = called_steps g.0 s e p d m

      go : Contains (flat_map (flow_stays (o.variables g.0)) (ways_of g.0)) e ⊎ Contains (flat_map (flow_at k) (statements_of g.0)) e → flow.Flows k e.0 e.1
      go (inl m) = stays_only g.0 e p m
      go (inr m) = let s = flat_only (flow_at k) (statements_of g.0) e m in
          at s.0 s.1 (Contains-append_cases (flow_assigned s.0.number s.0.act) (flat_map (at_actuals (flow_called s.0.number)) (called (parts k.units) s.0.act)) e s.2)

  -- ---- the sets

  pub varied_lists : AreLists (flow.AtEntry k) (flow.Flows k) IsKnown (varied_starts k) (flow_steps k o)
  varied_lists = record { begun = begun; led = led; only_begun = only_begun; only_led = λ n m c. steps_only (n, m) c }
    where
      begun : (n : Node) → flow.AtEntry k n → IsKnown n × Contains (varied_starts k) n
      begun n (flow.independent {g = g} {d = d} h c) = (
        (g, begins h, entry_point g, y.dummies g (begins h) d (flagged_stands k.vars g.unit.dummies d c)),
        flat_has (λ f. map (λ z. (f.entry, plain z)) (flagged k.vars f.unit.dummies)) (head_parts k) g (g.entry, plain d) (head_has k g h) (map_has (λ z. (g.entry, plain z)) (flagged k.vars g.unit.dummies) d c),
      )

      only_begun : (n : Node) → Contains (varied_starts k) n → flow.AtEntry k n
      only_begun n c =
          let g = flat_only (λ f. map (λ z. (f.entry, plain z)) (flagged k.vars f.unit.dummies)) (head_parts k) n c in
          let d = map_only (λ z. (g.0.entry, plain z)) (flagged k.vars g.0.unit.dummies) n g.2 in
          subst (λ z. flow.AtEntry k z) d.2 (flow.independent (head_only k g.0 g.1) d.1)

  pub useful_lists : AreLists (flow.AtEnd k) (λ n m. flow.Flows k m n) IsKnown (useful_starts k) (against (flow_steps k o))
  useful_lists = record { begun = begun; led = λ n m q h. let r = led_back n m q h in (r.0, map_has (λ (z : Node × Node). (z.1, z.0)) (flow_steps k o) (m, n) r.1); only_begun = only_begun; only_led = only_led }
    where
      begun : (n : Node) → flow.AtEnd k n → IsKnown n × Contains (useful_starts k) n
      begun n (flow.dependent {g = g} {d = d} h c) = (
        (g, begins h, end_point g, y.dummies g (begins h) d (flagged_stands k.outvars g.unit.dummies d c)),
        flat_has (λ f. map (λ z. (f.end, plain z)) (flagged k.outvars f.unit.dummies)) (head_parts k) g (g.end, plain d) (head_has k g h) (map_has (λ z. (g.end, plain z)) (flagged k.outvars g.unit.dummies) d c),
      )

      only_begun : (n : Node) → Contains (useful_starts k) n → flow.AtEnd k n
      only_begun n c =
          let g = flat_only (λ f. map (λ z. (f.end, plain z)) (flagged k.outvars f.unit.dummies)) (head_parts k) n c in
          let d = map_only (λ z. (g.0.end, plain z)) (flagged k.outvars g.0.unit.dummies) n g.2 in
          subst (λ z. flow.AtEnd k z) d.2 (flow.dependent (head_only k g.0 g.1) d.1)

      only_led : (n m : Node) → Contains {X = Node × Node} (against (flow_steps k o)) (n, m) → flow.Flows k m n
      only_led n m c =
          let e = map_only (λ (z : Node × Node). (z.1, z.0)) (flow_steps k o) (n, m) c in
          let q : e.0 ≡ (m, n) = (λ i. (ap (λ (z : Node × Node). z.1) e.2 i, ap (λ (z : Node × Node). z.0) e.2 i)) in
          subst (λ (z : Node × Node). flow.Flows k z.0 z.1) q (steps_only e.0 e.1)
