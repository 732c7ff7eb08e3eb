-- The lists have what has a shadow outright, and how shadows are lent.
use Rattle.std.proofs.Common.{◌≡◌, ◌⊎◌, inl, inr, ℕ, List, [], ◌∷◌, ◌++◌, Bool, true, refl, sym, ap, ◌∙◌, subst}
use Rattle.std.specs.Prelude.{Contains, ◌||◌, ◌&&◌, map, flat_map}
use Rattle.std.proofs.lemmas.Bool.{or_cases}
use Rattle.std.proofs.lemmas.List.Elements.{Contains-append_left, Contains-append_right, Contains-append_cases}
use Rattle.adj_tree.specs.Code.{Var, plain, Terms}
use Rattle.def_meaning.proofs.Booleans.{or_first, or_second}
use Rattle.def_names.specs.Numbers.{Vars}
use Rattle.def_sweep.specs.Facts.{In}
use Rattle.adj_reach.specs.Reached.{begins, leads}
use Rattle.def_flow.specs.Parts.{Part, parts}
use Rattle.def_flow.specs.Ways.{Way}
use Rattle.def_flow.specs.Standing.{Standing}
use Rattle.def_names.specs.VariableLists.{list_if}
use Rattle.def_flow.specs.Problem.{Problem, statements_of, ways_of, CallsUnit, IsHead, TakesPart, flagged, bound}
use Rattle.def_flow.specs.Activity as activity
use Rattle.def_flow.specs.Activity.{IsPoint}
use Rattle.def_flow.specs.Rules.{Scope, Covers, called, at_actuals, head_parts, somewhere, shadow_starts, shadow_called, shadow_steps}
use Rattle.adj_reach.proofs.Members.{is_first, is_later, is_among, is_none, is_only, map_has, map_only, flat_has, flat_only}
use Rattle.def_names.proofs.Conditioned.{if_has, if_only}
use Rattle.def_flow.proofs.AsLists.{AreLists}
use Rattle.def_flow.proofs.Scoped.{called_has, called_only, actuals_have, actuals_only, head_has, head_only, flagged_stands}
use Rattle.def_flow.proofs.Sets.{both, and_both}
use Rattle.def_flow.proofs.FlowListed as flowing

-- ---- at a point of some ways

somewhere_has : (ws : List Way) (f : ℕ → Bool) (w : Way) → Contains ws w → (f w.from ≡ true) ⊎ (f w.to ≡ true) → somewhere ws f ≡ true
somewhere_has [] f w c h = absurd (is_none w c)
somewhere_has (x ∷ xs) f w c h = go (is_among w x xs c) (λ d. somewhere_has xs f w d h)
  where
    here : (f w.from ≡ true) ⊎ (f w.to ≡ true) → (f w.from || (f w.to || somewhere xs f)) ≡ true
    here (inl e) = or_first (f w.from) (f w.to || somewhere xs f) e
    here (inr e) = or_second (f w.from) (f w.to || somewhere xs f) (or_first (f w.to) (somewhere xs f) e)

    go : (x ≡ w) ⊎ Contains xs w → (Contains xs w → somewhere xs f ≡ true) → (f x.from || (f x.to || somewhere xs f)) ≡ true
    go (inl p) r = subst (λ (z : Way). (f z.from || (f z.to || somewhere xs f)) ≡ true) (sym p) (here h)
    go (inr d) r = or_second (f x.from) (f x.to || somewhere xs f) (or_second (f x.to) (somewhere xs f) (r d))

somewhere_only : (ws : List Way) (f : ℕ → Bool) → somewhere ws f ≡ true → (w : Way) × Contains ws w × ((f w.from ≡ true) ⊎ (f w.to ≡ true))
somewhere_only [] f h = absurd cc
somewhere_only (x ∷ xs) f h = go (or_cases (f x.from) (f x.to || somewhere xs f) h) (somewhere_only xs f)
  where
    rest : (f x.to ≡ true) ⊎ (somewhere xs f ≡ true) → (somewhere xs f ≡ true → (w : Way) × Contains xs w × ((f w.from ≡ true) ⊎ (f w.to ≡ true))) → (w : Way) × Contains (x ∷ xs) w × ((f w.from ≡ true) ⊎ (f w.to ≡ true))
    rest (inl e) r = (x, is_first x x xs refl, inr e)
    rest (inr e) r = let q = r e in (q.0, is_later q.0 x xs q.1, q.2)

    go : (f x.from ≡ true) ⊎ ((f x.to || somewhere xs f) ≡ true) → (somewhere xs f ≡ true → (w : Way) × Contains xs w × ((f w.from ≡ true) ⊎ (f w.to ≡ true))) → (w : Way) × Contains (x ∷ xs) w × ((f w.from ≡ true) ⊎ (f w.to ≡ true))
    go (inl e) r = (x, is_first x x xs refl, inl e)
    go (inr e) r = rest (or_cases (f x.to) (somewhere xs f) e) r

point_somewhere : (g : Part) (p : ℕ) (f : ℕ → Bool) → IsPoint g p → f p ≡ true → somewhere (ways_of g) f ≡ true
point_somewhere g p f i h = somewhere_has (ways_of g) f i.0 i.1 (go i.2)
  where
    go : (i.0.from ≡ p) ⊎ (i.0.to ≡ p) → (f i.0.from ≡ true) ⊎ (f i.0.to ≡ true)
    go (inl e) = inl (ap f e ∙ h)
    go (inr e) = inr (ap f e ∙ h)

somewhere_point : (g : Part) (f : ℕ → Bool) → somewhere (ways_of g) f ≡ true → (p : ℕ) × IsPoint g p × (f p ≡ true)
somewhere_point g f h = go (somewhere_only (ways_of g) f h)
  where
    go : (w : Way) × Contains (ways_of g) w × ((f w.from ≡ true) ⊎ (f w.to ≡ true)) → (p : ℕ) × IsPoint g p × (f p ≡ true)
    go (w, c, inl e) = (w.from, (w, c, inl refl), e)
    go (w, c, inr e) = (w.to, (w, c, inr refl), e)

-- ---- shadows

module _ (k : Problem) (o : Scope) (y : Covers k o) (varied useful : ℕ → Vars) (within : (p : ℕ) (v : Var) → In v (varied p) → flowing.IsKnown k o y (p, v)) where
  -- a variable of a unit
  abbrev pub IsKnown : ℕ × Var → Type 0
  IsKnown n = (g : Part) × TakesPart k g × (g.number ≡ n.0) × Contains (o.variables g) n.1

  abbrev head_starts : Part → List (ℕ × Var)
  head_starts g = map (λ d. (g.number, plain d)) (flagged k.vars g.unit.dummies) ++ map (λ d. (g.number, plain d)) (flagged k.outvars g.unit.dummies)

  abbrev unit_starts : Part → List (ℕ × Var)
  unit_starts g = flat_map (λ v. list_if (somewhere (ways_of g) (λ p. varied p v) && somewhere (ways_of g) (λ p. useful p v)) ((g.number, v) ∷ [])) (o.variables g)

  of_head : (g : Part) (n : ℕ × Var) → IsHead k g → Contains (head_starts g) n → Contains (shadow_starts k o varied useful) n
  of_head g n h c = Contains-append_left (flat_map head_starts (head_parts k)) (flat_map unit_starts o.parts) n (flat_has head_starts (head_parts k) g n (head_has k g h) c)

  begun : (n : ℕ × Var) → activity.HasShadow k varied useful n → IsKnown n × Contains (shadow_starts k o varied useful) n
  begun n (activity.independent {g = g} {d = d} h c) = (
    (g, begins h, refl, y.dummies g (begins h) d (flagged_stands k.vars g.unit.dummies d c)),
    of_head g (g.number, plain d) h (Contains-append_left (map (λ z. (g.number, plain z)) (flagged k.vars g.unit.dummies)) (map (λ z. (g.number, plain z)) (flagged k.outvars g.unit.dummies)) (g.number, plain d)
        (map_has (λ z. (g.number, plain z)) (flagged k.vars g.unit.dummies) d c)),
  )
  begun n (activity.dependent {g = g} {d = d} h c) = (
    (g, begins h, refl, y.dummies g (begins h) d (flagged_stands k.outvars g.unit.dummies d c)),
    of_head g (g.number, plain d) h (Contains-append_right (map (λ z. (g.number, plain z)) (flagged k.vars g.unit.dummies)) (map (λ z. (g.number, plain z)) (flagged k.outvars g.unit.dummies)) (g.number, plain d)
        (map_has (λ z. (g.number, plain z)) (flagged k.outvars g.unit.dummies) d c)),
  )
  begun n (activity.active {g = g} {p = p} {q = q} {v = v} t i j a b) =
      let u : Contains (o.variables g) v = flowing.known_here k o y g p v t i (within p v a) in
      let e : ℕ × Var = (g.number, v) in (
        (g, t, refl, u),
        Contains-append_right (flat_map head_starts (head_parts k)) (flat_map unit_starts o.parts) e
            (flat_has unit_starts o.parts g e ((y.parts g).1 t)
            (flat_has (λ x. list_if (somewhere (ways_of g) (λ p. varied p x) && somewhere (ways_of g) (λ p. useful p x)) ((g.number, x) ∷ [])) (o.variables g) v e u
            (if_has (somewhere (ways_of g) (λ p. varied p v) && somewhere (ways_of g) (λ p. useful p v)) (e ∷ []) e (and_both (point_somewhere g p (λ z. varied z v) i a) (point_somewhere g q (λ z. useful z v) j b)) (is_first e e [] refl)))),
      )

  only_begun : (n : ℕ × Var) → Contains (shadow_starts k o varied useful) n → activity.HasShadow k varied useful n
  only_begun n c = go (Contains-append_cases (flat_map head_starts (head_parts k)) (flat_map unit_starts o.parts) n c)
    where
      head : (g : Part) → IsHead k g → Contains (map (λ d. (g.number, plain d)) (flagged k.vars g.unit.dummies)) n ⊎ Contains (map (λ d. (g.number, plain d)) (flagged k.outvars g.unit.dummies)) n → activity.HasShadow k varied useful n
      head g h (inl m) = let d = map_only (λ z. (g.number, plain z)) (flagged k.vars g.unit.dummies) n m in subst (λ z. activity.HasShadow k varied useful z) d.2 (activity.independent h d.1)
      head g h (inr m) = let d = map_only (λ z. (g.number, plain z)) (flagged k.outvars g.unit.dummies) n m in subst (λ z. activity.HasShadow k varied useful z) d.2 (activity.dependent h d.1)

      go : Contains (flat_map head_starts (head_parts k)) n ⊎ Contains (flat_map unit_starts o.parts) n → activity.HasShadow k varied useful n
      go (inl m) =
          let g = flat_only head_starts (head_parts k) n m in
          head g.0 (head_only k g.0 g.1) (Contains-append_cases (map (λ d. (g.0.number, plain d)) (flagged k.vars g.0.unit.dummies)) (map (λ d. (g.0.number, plain d)) (flagged k.outvars g.0.unit.dummies)) n g.2)
      go (inr m) =
          let g = flat_only unit_starts o.parts n m in
          let v = flat_only (λ x. list_if (somewhere (ways_of g.0) (λ p. varied p x) && somewhere (ways_of g.0) (λ p. useful p x)) ((g.0.number, x) ∷ [])) (o.variables g.0) n g.2 in
          let h = if_only (somewhere (ways_of g.0) (λ p. varied p v.0) && somewhere (ways_of g.0) (λ p. useful p v.0)) ((g.0.number, v.0) ∷ []) n v.2 in
          let t = both (somewhere (ways_of g.0) (λ p. varied p v.0)) (somewhere (ways_of g.0) (λ p. useful p v.0)) h.0 in
          let a = somewhere_point g.0 (λ p. varied p v.0) t.0 in
          let b = somewhere_point g.0 (λ p. useful p v.0) t.1 in
          subst (λ z. activity.HasShadow k varied useful z) (is_only n (g.0.number, v.0) h.1) (activity.active {p = a.0} {q = b.0} ((y.parts g.0).0 g.1) a.1 b.1 a.2 b.2)

  at_call : (f g : Part) (s : Standing) (args : Terms) (d : List ℕ) (a : Var) (e : (ℕ × Var) × (ℕ × Var)) → TakesPart k f → CallsUnit k f g s args → Contains (bound g.unit.dummies args) (d, a) →
      Contains (shadow_called f.number varied g d a) e → Contains (shadow_steps k o varied) e
  at_call f g s args d a e p c b m =
      flat_has (λ h. flat_map (λ t. flat_map (at_actuals (shadow_called h.number varied)) (called (parts k.units) t.act)) (statements_of h)) o.parts f e ((y.parts f).1 p)
      (flat_has (λ t. flat_map (at_actuals (shadow_called f.number varied)) (called (parts k.units) t.act)) (statements_of f) s e c.stands
      (flat_has (at_actuals (shadow_called f.number varied)) (called (parts k.units) s.act) (g, args) e (called_has k f g s args c) (actuals_have (shadow_called f.number varied) g args d a e b m)))

  led : (n m : ℕ × Var) → IsKnown n → activity.LendsShadow k varied n m → IsKnown m × Contains (shadow_steps k o varied) (n, m)
  led n m q (activity.handed {f = f} {g = g} {s = s} {args = args} {d = d} {a = a} p c b) =
      let e : (ℕ × Var) × (ℕ × Var) = ((g.number, plain d), (f.number, a)) in
      ((f, p, refl, flowing.actual_stands k o y f g s args d a p c b), at_call f g s args d a e p c b (is_first e e (list_if (varied g.entry (plain d)) (((f.number, a), (g.number, plain d)) ∷ [])) refl))
  led n m q (activity.passed {f = f} {g = g} {s = s} {args = args} {d = d} {a = a} p c b h) =
      let e : (ℕ × Var) × (ℕ × Var) = ((g.number, plain d), (f.number, a)) in
      let u : (ℕ × Var) × (ℕ × Var) = ((f.number, a), (g.number, plain d)) in
      ((g, leads p (s, args, c), refl, flowing.dummy_stands k o y f g s args d a p c b), at_call f g s args d a u p c b (is_later u e (list_if (varied g.entry (plain d)) (u ∷ [])) (if_has (varied g.entry (plain d)) (u ∷ []) u h (is_first u u [] refl))))

  only_led : (e : (ℕ × Var) × (ℕ × Var)) → Contains (shadow_steps k o varied) e → activity.LendsShadow k varied e.0 e.1
  only_led e c = go (is_among e e1 (list_if (varied g.0.0.entry (plain b.0.0)) (e2 ∷ [])) b.2)
    where
      f : (h : Part) × Contains o.parts h × Contains (flat_map (λ t. flat_map (at_actuals (shadow_called h.number varied)) (called (parts k.units) t.act)) (statements_of h)) e
      f = flat_only (λ h. flat_map (λ t. flat_map (at_actuals (shadow_called h.number varied)) (called (parts k.units) t.act)) (statements_of h)) o.parts e c

      s : (t : Standing) × Contains (statements_of f.0) t × Contains (flat_map (at_actuals (shadow_called f.0.number varied)) (called (parts k.units) t.act)) e
      s = flat_only (λ t. flat_map (at_actuals (shadow_called f.0.number varied)) (called (parts k.units) t.act)) (statements_of f.0) e f.2

      g : (x : Part × Terms) × Contains (called (parts k.units) s.0.act) x × Contains (at_actuals (shadow_called f.0.number varied) x) e
      g = flat_only (at_actuals (shadow_called f.0.number varied)) (called (parts k.units) s.0.act) e s.2

      b : (x : List ℕ × Var) × Contains (bound g.0.0.unit.dummies g.0.1) x × Contains (shadow_called f.0.number varied g.0.0 x.0 x.1) e
      b = actuals_only (shadow_called f.0.number varied) g.0 e g.2

      u : CallsUnit k f.0 g.0.0 s.0 g.0.1
      u = called_only k f.0 s.0 g.0 s.1 g.1

      e1 : (ℕ × Var) × (ℕ × Var)
      e1 = ((g.0.0.number, plain b.0.0), (f.0.number, b.0.1))

      e2 : (ℕ × Var) × (ℕ × Var)
      e2 = ((f.0.number, b.0.1), (g.0.0.number, plain b.0.0))

      go : (e1 ≡ e) ⊎ Contains (list_if (varied g.0.0.entry (plain b.0.0)) (e2 ∷ [])) e → activity.LendsShadow k varied e.0 e.1
      go (inl q) = subst (λ z. activity.LendsShadow k varied z.0 z.1) q (activity.handed ((y.parts f.0).0 f.1) u b.1)
      go (inr d) =
          let h = if_only (varied g.0.0.entry (plain b.0.0)) (e2 ∷ []) e d in
          subst (λ z. activity.LendsShadow k varied z.0 z.1) (is_only e e2 h.1) (activity.passed ((y.parts f.0).0 f.1) u b.1 h.0)

  pub shadow_lists : AreLists (activity.HasShadow k varied useful) (activity.LendsShadow k varied) IsKnown (shadow_starts k o varied useful) (shadow_steps k o varied)
  shadow_lists = record { begun = begun; led = led; only_begun = only_begun; only_led = λ n m c. only_led (n, m) c }
