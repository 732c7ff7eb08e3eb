-- What is held as a function: behind ways from points where the variable is held or read.
use Rattle.std.proofs.Common.{◌≡◌, ◌⊎◌, inl, inr, ℕ, List, [], ◌∷◌, Bool, true, false, refl, ap, ◌∙◌, subst}
use Rattle.std.specs.Prelude.{◌↔◌, Contains, Option, Some, None, not, ◌&&◌, ◌||◌, ◌==◌}
use Rattle.std.proofs.lemmas.Bool.{or_cases}
use borrow.Author.Tests.{eq-eqb, eqb-true}
use Rattle.adj_tree.specs.Code.{Var}
use Rattle.def_meaning.proofs.Booleans.{or_first, or_second}
use Rattle.def_names.specs.Numbers.{Vars}
use Rattle.def_sweep.specs.Facts.{In}
use Rattle.def_flow.specs.Parts.{Part}
use Rattle.def_flow.specs.Ways.{Way}
use Rattle.def_flow.specs.Problem.{Problem, ways_of}
use Rattle.def_flow.specs.Activity.{Activity}
use Rattle.def_flow.specs.Held.{Held, replaced_on}
use Rattle.def_flow.specs.Live.{Liveness}
use Rattle.def_flow.specs.Rules.{Scope, Covers}
use Rattle.adj_reach.proofs.Members.{is_first, is_later, is_among, is_none}
use Rattle.def_flow.proofs.Sets.{both, and_both, isnt}
use Rattle.adj_flow.specs.Told.{unit_at}
use Rattle.adj_flow.proofs.Telling.{point_found, point_finds}
use Rattle.adj_tbr.proofs.Standing.{Stands, held_from, held_way}

-- ---- one of some ways

abbrev some_way : (Way → Bool) → List Way → Bool
some_way f [] = false
some_way f (w ∷ ws) = f w || some_way f ws

way_has : (f : Way → Bool) (ws : List Way) (w : Way) → Contains ws w → f w ≡ true → some_way f ws ≡ true
way_has f [] w c h = absurd (is_none w c)
way_has f (x ∷ xs) w c h = go (is_among w x xs c) (λ d. way_has f xs w d h)
  where
    go : (x ≡ w) ⊎ Contains xs w → (Contains xs w → some_way f xs ≡ true) → (f x || some_way f xs) ≡ true
    go (inl e) r = or_first (f x) (some_way f xs) (ap f e ∙ h)
    go (inr d) r = or_second (f x) (some_way f xs) (r d)

way_only : (f : Way → Bool) (ws : List Way) → some_way f ws ≡ true → (w : Way) × Contains ws w × (f w ≡ true)
way_only f [] h = absurd cc
way_only f (x ∷ xs) h = go (or_cases (f x) (some_way f xs) h) (way_only f xs)
  where
    go : (f x ≡ true) ⊎ (some_way f xs ≡ true) → (some_way f xs ≡ true → (w : Way) × Contains xs w × (f w ≡ true)) → (w : Way) × Contains (x ∷ xs) w × (f w ≡ true)
    go (inl e) r = (x, is_first x x xs refl, e)
    go (inr e) r = let o = r e in (o.0, is_later o.0 x xs o.1, o.2)

-- ---- held

-- the way leads to the point, doesn't replace the variable, and comes from where it stands
abbrev is_onto : (ℕ → Bool) → (ℕ → Vars) → ℕ → Var → Way → Bool
is_onto kept stands p v w = (w.to == p) && (not (replaced_on kept w.deed v) && stands w.from v)

abbrev held_in : (ℕ → Bool) → (ℕ → Vars) → ℕ → Option Part → Vars
held_in kept stands p None v = false
held_in kept stands p (Some g) v = some_way (is_onto kept stands p v) (ways_of g)

abbrev pub held_by : (ℕ → Bool) → (ℕ → Vars) → Scope → ℕ → Vars
held_by kept stands o p = held_in kept stands p (unit_at o.parts p)

module _ (k : Problem) (a : Activity) (l : Liveness) (o : Scope) (y : Covers k o) (stands : ℕ → Vars) (exact : (p : ℕ) (v : Var) → In v (stands p) ↔ Stands k a l (p, v)) where
  pub held_exact : (p : ℕ) (v : Var) → In v (held_by l.kept stands o p) ↔ Held k a l (p, v)
  held_exact p v = (λ h. only (unit_at o.parts p) refl h, has)
    where
      only : (u : Option Part) → unit_at o.parts p ≡ u → held_in l.kept stands p u v ≡ true → Held k a l (p, v)
      only None e h = absurd cc
      only (Some g) e h =
          let w = way_only (is_onto l.kept stands p v) (ways_of g) h in
          let q = both (w.0.to == p) (not (replaced_on l.kept w.0.deed v) && stands w.0.from v) w.2 in
          let r = both (not (replaced_on l.kept w.0.deed v)) (stands w.0.from v) q.1 in
          subst (λ x. Held k a l (x, v)) (eqb-true w.0.to p q.0) (held_from k a l w.0 g v (point_finds k o y g p e).0 w.1 (isnt (replaced_on l.kept w.0.deed v) r.0) ((exact w.0.from v).0 r.1))

      has : Held k a l (p, v) → In v (held_by l.kept stands o p)
      has h =
          let w = held_way k a l (p, v) h in
          let e : unit_at o.parts p ≡ Some w.0 = point_found k o y w.0 p w.2 (w.1, w.3, inr w.4) in
          ap (λ u. held_in l.kept stands p u v) e
          ∙ way_has (is_onto l.kept stands p v) (ways_of w.0) w.1 w.3 (and_both (eq-eqb w.1.to p w.4) (and_both (ap not w.5) ((exact w.1.from v).1 w.6)))
