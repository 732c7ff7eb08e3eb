-- Flags of the numbers that are reached tell the set that is reached.
use Rattle.std.proofs.Common.{◌≡◌, ◌⊎◌, inl, inr, ℕ, ◌==◌, List, [], ◌∷◌, Bool, true, false, refl, sym, ap, ◌∙◌, subst}
use Rattle.std.specs.Prelude.{Contains, ◌↔◌, IsTrue, Option, Some, None, if◌then◌else◌}
use Rattle.adj_tree.specs.Code.{Var}
use Rattle.def_sweep.specs.Facts.{In}
use Rattle.adj_reach.specs.Reached.{Reached}
use Rattle.def_flow.specs.Closure.{is_in}
use Rattle.def_flow.specs.Scopes.{same_number}
use Rattle.def_flow.specs.Parts.{Part}
use Rattle.def_names.specs.StatementsIn.{statements_in}
use Rattle.def_flow.specs.Ways.{Way}
use Rattle.def_flow.specs.Problem.{Problem, ways_of, TakesPart}
use Rattle.def_flow.specs.Flow.{Node}
use Rattle.def_flow.specs.Activity.{IsPoint}
use Rattle.def_flow.specs.Rules.{Scope, Covers}
use Rattle.adj_reach.proofs.Members.{is_first, is_later, is_among, is_none, is_only, flat_has, flat_only}
use Rattle.def_flow.proofs.Closure.{in_only, in_it}
use Rattle.def_flow.proofs.NumbersSame.{numbers_same}
use Rattle.def_flow.proofs.Numbered.{IsListed, reached_has, exact_by_number}
use Rattle.def_flow.proofs.Numbers.{part_is_there}
use Rattle.def_flow.proofs.PartsListed.{part_own}
use Rattle.def_flow.proofs.Points.{one_point}
use Rattle.adj_reach.specs.Edges.{flag}
use Rattle.adj_flow.specs.Nodes.{node_in, IsNumbered, HasNumber}
use Rattle.adj_flow.specs.Told.{points_of, unit_at, unit_of, flag_at, told_in}

-- ---- the unit of a point

is_point : (g : Part) (p : ℕ) → is_in same_number (points_of g) p ≡ true → IsPoint g p
is_point g p h = at (flat_only (λ (w : Way). w.from ∷ w.to ∷ []) (ways_of g) p (in_only numbers_same (points_of g) p h))
  where
    of : (w : Way) → (w.from ≡ p) ⊎ Contains (w.to ∷ []) p → (w.from ≡ p) ⊎ (w.to ≡ p)
    of w (inl e) = inl e
    of w (inr c) = inr (is_only p w.to c)

    at : (w : Way) × Contains (ways_of g) w × Contains (w.from ∷ w.to ∷ []) p → IsPoint g p
    at w = (w.0, w.1, of w.0 (is_among p w.0.from (w.0.to ∷ []) w.2))

point_is : (g : Part) (p : ℕ) → IsPoint g p → is_in same_number (points_of g) p ≡ true
point_is g p h = in_it numbers_same (points_of g) p (flat_has (λ (w : Way). w.from ∷ w.to ∷ []) (ways_of g) h.0 p h.1 (of h.2))
  where
    of : (h.0.from ≡ p) ⊎ (h.0.to ≡ p) → Contains (h.0.from ∷ h.0.to ∷ []) p
    of (inl e) = is_first p h.0.from (h.0.to ∷ []) e
    of (inr e) = is_later p h.0.from (h.0.to ∷ []) (is_first p h.0.to [] e)

unit_only : (gs : List Part) (p : ℕ) (g : Part) → unit_at gs p ≡ Some g → Contains gs g × IsPoint g p
unit_only [] p g e = absurd cc
unit_only (f ∷ fs) p g e = go (is_in same_number (points_of f) p) refl e (unit_only fs p g)
  where
    go : (b : Bool) → is_in same_number (points_of f) p ≡ b → (if b then Some f else unit_at fs p) ≡ Some g → (unit_at fs p ≡ Some g → Contains fs g × IsPoint g p) → Contains (f ∷ fs) g × IsPoint g p
    go true h q r = let s : f ≡ g = cc in (is_first g f fs s, subst (λ z. IsPoint z p) s (is_point f p h))
    go false h q r = (is_later g f fs (r q).0, (r q).1)

unit_has : (gs : List Part) (p : ℕ) (g : Part) → Contains gs g → IsPoint g p → (f : Part) × (unit_at gs p ≡ Some f)
unit_has [] p g c i = absurd (is_none g c)
unit_has (f ∷ fs) p g c i = go (is_in same_number (points_of f) p) refl (is_among g f fs c) (λ d. unit_has fs p g d i)
  where
    go : (b : Bool) → is_in same_number (points_of f) p ≡ b → (f ≡ g) ⊎ Contains fs g → (Contains fs g → (h : Part) × (unit_at fs p ≡ Some h)) → (h : Part) × ((if b then Some f else unit_at fs p) ≡ Some h)
    go true q c r = (f, refl)
    go false q (inl e) r = absurd (let t : is_in same_number (points_of f) p ≡ true = point_is f p (subst (λ z. IsPoint z p) (sym e) i) in cc)
    go false q (inr d) r = r d

-- ---- the unit of a number

numbered_only : (gs : List Part) (u : ℕ) (g : Part) → unit_of gs u ≡ Some g → Contains gs g × (g.number ≡ u)
numbered_only [] u g e = absurd cc
numbered_only (f ∷ fs) u g e = go (f.number == u) refl e (numbered_only fs u g)
  where
    go : (b : Bool) → (f.number == u) ≡ b → (if b then Some f else unit_of fs u) ≡ Some g → (unit_of fs u ≡ Some g → Contains fs g × (g.number ≡ u)) → Contains (f ∷ fs) g × (g.number ≡ u)
    go true h q r = let s : f ≡ g = cc in (is_first g f fs s, ap (λ (z : Part). z.number) (sym s) ∙ numbers_same.same_is f.number u h)
    go false h q r = (is_later g f fs (r q).0, (r q).1)

numbered_has : (gs : List Part) (u : ℕ) (g : Part) → Contains gs g → g.number ≡ u → (f : Part) × (unit_of gs u ≡ Some f)
numbered_has [] u g c i = absurd (is_none g c)
numbered_has (f ∷ fs) u g c i = go (f.number == u) refl (is_among g f fs c) (λ d. numbered_has fs u g d i)
  where
    go : (b : Bool) → (f.number == u) ≡ b → (f ≡ g) ⊎ Contains fs g → (Contains fs g → (h : Part) × (unit_of fs u ≡ Some h)) → (h : Part) × ((if b then Some f else unit_of fs u) ≡ Some h)
    go true q c r = (f, refl)
    go false q (inl e) r = absurd (let t : (f.number == u) ≡ true = ap (λ (z : Part). z.number == u) e ∙ ap (λ z. z == u) i ∙ numbers_same.is_same u in cc)
    go false q (inr d) r = r d

-- units of one number are one
pub one_unit : (k : Problem) (f g : Part) (u : ℕ) → TakesPart k f → TakesPart k g → f.number ≡ u → g.number ≡ u → f ≡ g
one_unit k f g u t s e h = part_own (statements_in 0 k.units) 0 0 k.units f g (part_is_there k f t) (part_is_there k g s) (e ∙ sym h)

-- ---- the sets

module _ (k : Problem) (o : Scope) (w : ℕ) (At : Part → ℕ → Type 0) (find : ℕ → Option Part) (found : (g : Part) (p : ℕ) → TakesPart k g → At g p → find p ≡ Some g) (finds : (g : Part) (p : ℕ) → find p ≡ Some g → TakesPart k g × At g p)
    {Begins : Node → Type 0} {Leads : Node → Node → Type 0} {Starts : ℕ → Type 0} {Steps : ℕ → ℕ → Type 0} (l : IsListed Begins Leads (HasNumber k o w At) Starts Steps) (flags : List Bool) (exact : (m : ℕ) → IsTrue (flag flags m) ↔ Reached Starts Steps m) where
  -- what is told is in a unit, by its number
  told_only : (p : ℕ) (v : Var) (u : Option Part) → find p ≡ u → told_in flags o w p u v ≡ true → (m : ℕ) × HasNumber k o w At (p, v) m × (flag flags m ≡ true)
  told_only p v None e h = absurd cc
  told_only p v (Some g) e h = let q = finds g p e in go q.0 q.1 (node_in w (o.variables g) (p, v)) refl h
    where
      go : TakesPart k g → At g p → (x : Option ℕ) → node_in w (o.variables g) (p, v) ≡ x → flag_at flags x ≡ true → (m : ℕ) × HasNumber k o w At (p, v) m × (flag flags m ≡ true)
      go t i None n f = absurd cc
      go t i (Some m) n f = (m, record { unit = g; takes = t; at = i; number = n }, f)

  pub told_exact : (p : ℕ) (v : Var) → In v (told_in flags o w p (find p)) ↔ Reached Begins Leads (p, v)
  told_exact p v = (
    λ h. let q = told_only p v (find p) refl h in (exact_by_number l (p, v) q.0 q.1).1 ((exact q.0).0 q.2),
    λ r. let q = reached_has l (p, v) r in
        ap (λ u. told_in flags o w p u v) (found q.1.unit p q.1.takes q.1.at) ∙ ap (flag_at flags) q.1.number ∙ (exact q.0).1 q.2,
  )

module _ (k : Problem) (o : Scope) (y : Covers k o) where
  pub point_found : (g : Part) (p : ℕ) → TakesPart k g → IsPoint g p → unit_at o.parts p ≡ Some g
  point_found g p t i =
      let f = unit_has o.parts p g ((y.parts g).1 t) i in
      let q = unit_only o.parts p f.0 f.1 in
      f.1 ∙ ap (λ z. Some z) (one_point k f.0 g p ((y.parts f.0).0 q.0) t q.1 i)

  pub point_finds : (g : Part) (p : ℕ) → unit_at o.parts p ≡ Some g → TakesPart k g × IsPoint g p
  point_finds g p e = let q = unit_only o.parts p g e in ((y.parts g).0 q.0, q.1)

  pub number_found : (g : Part) (u : ℕ) → TakesPart k g → IsNumbered g u → unit_of o.parts u ≡ Some g
  number_found g u t i =
      let f = numbered_has o.parts u g ((y.parts g).1 t) i in
      let q = numbered_only o.parts u f.0 f.1 in
      f.1 ∙ ap (λ z. Some z) (one_unit k f.0 g u ((y.parts f.0).0 q.0) t q.1 i)

  pub number_finds : (g : Part) (u : ℕ) → unit_of o.parts u ≡ Some g → TakesPart k g × IsNumbered g u
  number_finds g u e = let q = numbered_only o.parts u g e in ((y.parts g).0 q.0, q.1)
