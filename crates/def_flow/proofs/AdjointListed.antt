-- The lists have what is adjointed outright, and what that makes adjointed.
use Rattle.std.proofs.Common.{◌≡◌, ◌⊎◌, inl, inr, List, [], ◌∷◌, refl, sym, subst}
use Rattle.std.specs.Prelude.{Contains, map, flat_map}
use Rattle.std.proofs.lemmas.List.Elements.{Contains-append_left, Contains-append_right, Contains-append_cases}
use Rattle.adj_tree.specs.Code.{Act, assign, choose, loop, during, call, runtime}
use Rattle.def_sweep.specs.Facts.{is_adjointed}
use Rattle.def_flow.specs.Parts.{Part, parts}
use Rattle.def_flow.specs.Standing.{Standing}
use Rattle.def_flow.specs.Problem.{Problem, statements_of, TakesPart}
use Rattle.def_flow.specs.Activity as activity
use Rattle.def_flow.specs.Activity.{Adjoint, Activity, activity_marks, resets}
use Rattle.def_flow.specs.Rules.{Scope, Covers, called, holders, adjoint_starts_at, adjoint_starts, adjoint_steps_at, adjoint_steps}
use Rattle.adj_reach.proofs.Members.{is_first, is_later, is_among, is_none, is_only, map_has, map_only, flat_has, flat_only}
use Rattle.def_names.proofs.Conditioned.{if_has, if_only}
use Rattle.def_flow.proofs.AsLists.{AreLists}
use Rattle.def_flow.proofs.Scoped.{called_has, called_only, holders_have, holders_only}

module _ (k : Problem) (o : Scope) (y : Covers k o) (a : Activity) where
  -- nothing need be known of what is adjointed
  abbrev pub IsKnown : Adjoint → Type 0
  IsKnown x = Unit {0}

  starts_in : (g : Part) (s : Standing) (x : Adjoint) → TakesPart k g → Contains (statements_of g) s → Contains (adjoint_starts_at a g.number s.number s.act) x → Contains (adjoint_starts a o) x
  starts_in g s x p c m = flat_has (λ h. flat_map (λ t. adjoint_starts_at a h.number t.number t.act) (statements_of h)) o.parts g x ((y.parts g).1 p) (flat_has (λ t. adjoint_starts_at a g.number t.number t.act) (statements_of g) s x c m)

  begun : (x : Adjoint) → activity.IsAdjointed k a x → IsKnown x × Contains (adjoint_starts a o) x
  begun x (activity.assignment {g = g} {s = s} {x = v} {subs = subs} {e = e} p c h t) =
      let z : Adjoint = activity.statement s.number in
      (tt, starts_in g s z p c (subst (λ b. Contains (adjoint_starts_at a g.number s.number b) z) (sym h) (if_has (is_adjointed (activity_marks a g.number) s.number v subs) (z ∷ []) z t (is_first z z [] refl))))
  begun x (activity.reset {g = g} {s = s} {x = v} p c h t) =
      let z : Adjoint = activity.statement s.number in
      (tt, starts_in g s z p c (subst (λ b. Contains (adjoint_starts_at a g.number s.number b) z) (sym h) (if_has (resets a g.number s.number v) (z ∷ []) z t (is_first z z [] refl))))

  only_begun : (x : Adjoint) → Contains (adjoint_starts a o) x → activity.IsAdjointed k a x
  only_begun x c =
      let g = flat_only (λ h. flat_map (λ t. adjoint_starts_at a h.number t.number t.act) (statements_of h)) o.parts x c in
      let s = flat_only (λ t. adjoint_starts_at a g.0.number t.number t.act) (statements_of g.0) x g.2 in
      at g.0 s.0 ((y.parts g.0).0 g.1) s.1 s.0.act refl s.2
    where
      at : (g : Part) (s : Standing) → TakesPart k g → Contains (statements_of g) s → (b : Act) → s.act ≡ b → Contains (adjoint_starts_at a g.number s.number b) x → activity.IsAdjointed k a x
      at g s p c (assign v subs e) h m =
          let q = if_only (is_adjointed (activity_marks a g.number) s.number v subs) (activity.statement s.number ∷ []) x m in
          subst (λ z. activity.IsAdjointed k a z) (is_only x (activity.statement s.number) q.1) (activity.assignment p c h q.0)
      at g s p c (choose t d e) h m = absurd (is_none x m)
      at g s p c (loop v first last by body n) h m =
          let q = if_only (resets a g.number s.number v) (activity.statement s.number ∷ []) x m in
          subst (λ z. activity.IsAdjointed k a z) (is_only x (activity.statement s.number) q.1) (activity.reset p c h q.0)
      at g s p c (during t body) h m = absurd (is_none x m)
      at g s p c (call name args) h m = absurd (is_none x m)
      at g s p c (runtime r) h m = absurd (is_none x m)

  abbrev held_steps : Standing → List (Adjoint × Adjoint)
  held_steps s = map (λ i. (activity.statement s.number, activity.statement i)) (holders s.place)

  abbrev call_steps : Standing → List (Adjoint × Adjoint)
  call_steps s = map (λ c. (activity.unit c.0.number, activity.statement s.number)) (called (parts k.units) s.act)

  steps_in : (g : Part) (s : Standing) (e : Adjoint × Adjoint) → TakesPart k g → Contains (statements_of g) s → Contains (adjoint_steps_at k g.number s) e → Contains (adjoint_steps k o) e
  steps_in g s e p c m = flat_has (λ h. flat_map (adjoint_steps_at k h.number) (statements_of h)) o.parts g e ((y.parts g).1 p) (flat_has (adjoint_steps_at k g.number) (statements_of g) s e c m)

  led : (x z : Adjoint) → IsKnown x → activity.MakesAdjointed k x z → IsKnown z × Contains (adjoint_steps k o) (x, z)
  led x z q (activity.held {g = g} {s = s} {i = i} p c h) =
      let e : Adjoint × Adjoint = (activity.statement s.number, activity.statement i) in (
        tt,
        steps_in g s e p c (Contains-append_left (held_steps s) ((activity.statement s.number, activity.unit g.number) ∷ call_steps s) e
            (map_has (λ j. (activity.statement s.number, activity.statement j)) (holders s.place) i (holders_have i s.place h))),
      )
  led x z q (activity.inside {g = g} {s = s} p c) =
      let e : Adjoint × Adjoint = (activity.statement s.number, activity.unit g.number) in
      (tt, steps_in g s e p c (Contains-append_right (held_steps s) (e ∷ call_steps s) e (is_first e e (call_steps s) refl)))
  led x z q (activity.called {f = f} {g = g} {t = t} {args = args} p c) =
      let e : Adjoint × Adjoint = (activity.unit g.number, activity.statement t.number) in
      let u : Adjoint × Adjoint = (activity.statement t.number, activity.unit f.number) in (
        tt,
        steps_in f t e p c.stands (Contains-append_right (held_steps t) (u ∷ call_steps t) e
            (is_later e u (call_steps t) (map_has (λ d. (activity.unit d.0.number, activity.statement t.number)) (called (parts k.units) t.act) (g, args) (called_has k f g t args c)))),
      )

  only_led : (e : Adjoint × Adjoint) → Contains (adjoint_steps k o) e → activity.MakesAdjointed k e.0 e.1
  only_led e c = go (Contains-append_cases (held_steps s.0) (u ∷ call_steps s.0) e s.2)
    where
      g : (h : Part) × Contains o.parts h × Contains (flat_map (adjoint_steps_at k h.number) (statements_of h)) e
      g = flat_only (λ h. flat_map (adjoint_steps_at k h.number) (statements_of h)) o.parts e c

      s : (t : Standing) × Contains (statements_of g.0) t × Contains (adjoint_steps_at k g.0.number t) e
      s = flat_only (adjoint_steps_at k g.0.number) (statements_of g.0) e g.2

      p : TakesPart k g.0
      p = (y.parts g.0).0 g.1

      u : Adjoint × Adjoint
      u = (activity.statement s.0.number, activity.unit g.0.number)

      rest : (u ≡ e) ⊎ Contains (call_steps s.0) e → activity.MakesAdjointed k e.0 e.1
      rest (inl q) = subst (λ z. activity.MakesAdjointed k z.0 z.1) q (activity.inside p s.1)
      rest (inr m) =
          let d = map_only (λ x. (activity.unit x.0.number, activity.statement s.0.number)) (called (parts k.units) s.0.act) e m in
          subst (λ z. activity.MakesAdjointed k z.0 z.1) d.2 (activity.called p (called_only k g.0 s.0 d.0 s.1 d.1))

      go : Contains (held_steps s.0) e ⊎ Contains (u ∷ call_steps s.0) e → activity.MakesAdjointed k e.0 e.1
      go (inl m) =
          let i = map_only (λ j. (activity.statement s.0.number, activity.statement j)) (holders s.0.place) e m in
          subst (λ z. activity.MakesAdjointed k z.0 z.1) i.2 (activity.held p s.1 (holders_only i.0 s.0.place i.1))
      go (inr m) = rest (is_among e u (call_steps s.0) m)

  pub adjoint_lists : AreLists (activity.IsAdjointed k a) (activity.MakesAdjointed k) IsKnown (adjoint_starts a o) (adjoint_steps k o)
  adjoint_lists = record { begun = begun; led = led; only_begun = only_begun; only_led = λ x z c. only_led (x, z) c }
