-- Which units calls lead to: a way of any length is found among those with as many calls as there are units.
use Rattle.std.proofs.Common.{◌≡◌, ℕ, zero, suc, ◌+◌, ◌<◌, ◌≤◌, ◌⊎◌, inl, inr, Bool, true, false, List, [], ◌∷◌, length, refl, sym, ap, ◌∙◌, subst, Some, None, arith, if◌then◌else◌}
use Rattle.std.specs.Prelude.{◌||◌}
use Rattle.std.specs.List.{list_any}
use Rattle.adj_tree.specs.Code.{name_eq, Procedure}
use Rattle.adj_tree.proofs.Names.{name_same, name_refl}
use Rattle.def_meaning.specs.Written.{find_unit}
use Rattle.def_names.specs.Variables.{Name}
use Rattle.def_names.specs.Calls.{calls_found, calls_from, leads, calls_lead}
use Rattle.def_names.specs.Laws.{IsIn}

-- ---- tests

or_left : (a b : Bool) → a ≡ true → (a || b) ≡ true
or_left true b h = refl
or_left false b h = absurd cc

or_right : (a b : Bool) → b ≡ true → (a || b) ≡ true
or_right true b h = refl
or_right false b h = h

-- what one of two tests says
or_cases : (a b : Bool) → (a || b) ≡ true → (a ≡ true) ⊎ (b ≡ true)
or_cases true b h = inl refl
or_cases false b h = inr h

-- a weaker test finds a member, too
pub any_more : {X : Type 0} (f g : X → Bool) (xs : List X) → ((x : X) → f x ≡ true → g x ≡ true) → list_any f xs ≡ true → list_any g xs ≡ true
any_more f g [] h e = e
any_more f g (x ∷ xs) h e = go (or_cases (f x) (list_any f xs) e) (λ b. any_more f g xs h b)
  where
    go : (f x ≡ true) ⊎ (list_any f xs ≡ true) → (list_any f xs ≡ true → list_any g xs ≡ true) → (g x || list_any g xs) ≡ true
    go (inl a) later = or_left (g x) (list_any g xs) (h x a)
    go (inr b) later = or_right (g x) (list_any g xs) (later b)

-- ---- how many members pass

abbrev how_many : {X : Type 0} → (X → Bool) → List X → ℕ
how_many f [] = 0
how_many f (x ∷ xs) = (if f x then 1 else 0) + how_many f xs

how_many_most : {X : Type 0} (f : X → Bool) (xs : List X) → how_many f xs ≤ length xs
how_many_most f [] = omega arith
how_many_most f (x ∷ xs) = go (f x) (how_many_most f xs)
  where
    go : (b : Bool) → how_many f xs ≤ length xs → (if b then 1 else 0) + how_many f xs ≤ suc (length xs)
    go true h = omega arith
    go false h = omega arith

-- two tests that pass the same members
abbrev AreSame : {X : Type 0} → (X → Bool) → (X → Bool) → List X → Type 0
AreSame f g xs = (x : _) → IsIn x xs → f x ≡ g x

-- a weaker test passes the same members or more
same_or_more : {X : Type 0} (f g : X → Bool) (xs : List X) → ((x : X) → f x ≡ true → g x ≡ true) → ((x : X) → IsIn x xs → f x ≡ g x) ⊎ (how_many f xs < how_many g xs)
same_or_more f g [] h = inl (λ x i. absurd i)
same_or_more f g (y ∷ xs) h = go (f y) (g y) refl refl (same_or_more f g xs h)
  where
    both : f y ≡ g y → ((x : _) → IsIn x xs → f x ≡ g x) → (x : _) → IsIn x (y ∷ xs) → f x ≡ g x
    both e r x (inl p) = ap f p ∙ e ∙ ap g (sym p)
    both e r x (inr i) = r x i

    fewer : how_many f xs ≤ how_many g xs
    fewer = most xs
      where
        most : (zs : List _) → how_many f zs ≤ how_many g zs
        most [] = omega arith
        most (z ∷ zs) = step (f z) (g z) (h z) (most zs)
          where
            step : (a b : Bool) → (a ≡ true → b ≡ true) → how_many f zs ≤ how_many g zs → (if a then 1 else 0) + how_many f zs ≤ (if b then 1 else 0) + how_many g zs
            step true true k l = omega arith
            step false true k l = omega arith
            step false false k l = omega arith
            step true false k l = absurd (let e : false ≡ true = k refl in cc)

    go : (a b : Bool) → f y ≡ a → g y ≡ b → ((x : _) → IsIn x xs → f x ≡ g x) ⊎ (how_many f xs < how_many g xs) → ((x : _) → IsIn x (y ∷ xs) → f x ≡ g x) ⊎ ((if a then 1 else 0) + how_many f xs < (if b then 1 else 0) + how_many g xs)
    go true true e d (inl r) = inl (both (e ∙ sym d) r)
    go true true e d (inr l) = inr (omega arith)
    go false false e d (inl r) = inl (both (e ∙ sym d) r)
    go false false e d (inr l) = inr (omega arith)
    go false true e d r = let l = fewer in inr (omega arith)
    go true false e d r = absurd (let p : g y ≡ true = h y e in cc)

-- ---- the units of names

-- a name has a unit, which is among all, or none
pub unit_cases : (ps : List Procedure) (x : Name) → (find_unit ps x ≡ None) ⊎ ((u : Procedure) × IsIn u ps × (u.name ≡ x) × (find_unit ps x ≡ Some u))
unit_cases [] x = inl refl
unit_cases (u ∷ us) x = go (name_eq u.name x) refl (unit_cases us x)
  where
    go : (b : Bool) → name_eq u.name x ≡ b → (find_unit us x ≡ None) ⊎ ((v : Procedure) × IsIn v us × (v.name ≡ x) × (find_unit us x ≡ Some v)) → ((if b then Some u else find_unit us x) ≡ None) ⊎ ((v : Procedure) × IsIn v (u ∷ us) × (v.name ≡ x) × ((if b then Some u else find_unit us x) ≡ Some v))
    go true e r = inr (u, inl refl, name_same u.name x e, refl)
    go false e (inl n) = inl n
    go false e (inr f) = inr (f.0, inr f.1, f.2, f.3)

module _ (ps : List Procedure) where
  -- a name without a unit leads to itself alone
  pub alone : (k : ℕ) (x t : Name) → find_unit ps x ≡ None → leads ps k x t ≡ name_eq x t
  alone zero x t h = refl
  alone (suc k) x t h = ap (λ u. name_eq x t || list_any (λ c. leads ps k (c.1).0 t) (calls_found u)) h ∙ or_false (name_eq x t)
    where
      or_false : (b : Bool) → (b || false) ≡ b
      or_false true = refl
      or_false false = refl

  -- with more calls as much is led to
  pub rises : (k : ℕ) (x t : Name) → leads ps k x t ≡ true → leads ps (suc k) x t ≡ true
  rises zero x t h = or_left (name_eq x t) (list_any (λ c. leads ps 0 (c.1).0 t) (calls_from ps x)) h
  rises (suc k) x t h = go (or_cases (name_eq x t) (list_any (λ c. leads ps k (c.1).0 t) (calls_from ps x)) h) (λ y e. rises k y t e)
    where
      go : (name_eq x t ≡ true) ⊎ (list_any (λ c. leads ps k (c.1).0 t) (calls_from ps x) ≡ true) → ((y : Name) → leads ps k y t ≡ true → leads ps (suc k) y t ≡ true) → (name_eq x t || list_any (λ c. leads ps (suc k) (c.1).0 t) (calls_from ps x)) ≡ true
      go (inl a) later = or_left (name_eq x t) (list_any (λ c. leads ps (suc k) (c.1).0 t) (calls_from ps x)) a
      go (inr b) later = or_right (name_eq x t) (list_any (λ c. leads ps (suc k) (c.1).0 t) (calls_from ps x)) (any_more (λ c. leads ps k (c.1).0 t) (λ c. leads ps (suc k) (c.1).0 t) (calls_from ps x) (λ c e. later (c.1).0 e) b)

  module _ (t : Name) where
    -- one call more leads to no more
    abbrev Stable : ℕ → Type 0
    Stable k = (x : Name) → leads ps k x t ≡ leads ps (suc k) x t

    next : (k : ℕ) → Stable k → Stable (suc k)
    next k h x = λ i. name_eq x t || list_any (λ c. h (c.1).0 i) (calls_from ps x)

    units_stable : (k : ℕ) → ((u : Procedure) → IsIn u ps → leads ps k u.name t ≡ leads ps (suc k) u.name t) → Stable k
    units_stable k h x = go (unit_cases ps x)
      where
        go : (find_unit ps x ≡ None) ⊎ ((u : Procedure) × IsIn u ps × (u.name ≡ x) × (find_unit ps x ≡ Some u)) → leads ps k x t ≡ leads ps (suc k) x t
        go (inl n) = alone k x t n ∙ sym (alone (suc k) x t n)
        go (inr f) = subst (λ z. leads ps k z t ≡ leads ps (suc k) z t) f.2 (h f.0 f.1)

    abbrev from_units : ℕ → ℕ
    from_units k = how_many (λ u. leads ps k u.name t) ps

    stable_or_many : (k : ℕ) → Stable k ⊎ (suc k ≤ from_units (suc k))
    stable_or_many zero = go (same_or_more (λ u. leads ps 0 u.name t) (λ u. leads ps 1 u.name t) ps (λ u e. rises 0 u.name t e))
      where
        go : ((u : Procedure) → IsIn u ps → leads ps 0 u.name t ≡ leads ps 1 u.name t) ⊎ (from_units 0 < from_units 1) → Stable 0 ⊎ (1 ≤ from_units 1)
        go (inl e) = inl (units_stable 0 e)
        go (inr l) = inr (omega arith)
    stable_or_many (suc k) = go (stable_or_many k) (same_or_more (λ u. leads ps (suc k) u.name t) (λ u. leads ps (suc (suc k)) u.name t) ps (λ u e. rises (suc k) u.name t e))
      where
        go : Stable k ⊎ (suc k ≤ from_units (suc k)) → ((u : Procedure) → IsIn u ps → leads ps (suc k) u.name t ≡ leads ps (suc (suc k)) u.name t) ⊎ (from_units (suc k) < from_units (suc (suc k))) → Stable (suc k) ⊎ (suc (suc k) ≤ from_units (suc (suc k)))
        go (inl s) r = inl (next k s)
        go (inr m) (inl e) = inl (units_stable (suc k) e)
        go (inr m) (inr l) = inr (omega arith)

    -- no way needs more calls than there are units
    stable : Stable (length ps)
    stable = go (stable_or_many (length ps))
      where
        go : Stable (length ps) ⊎ (suc (length ps) ≤ from_units (suc (length ps))) → Stable (length ps)
        go (inl s) = s
        go (inr m) = absurd (omega (arith, m, how_many_most (λ u. leads ps (suc (length ps)) u.name t) ps))

  -- whether the unit of a name calls that of another
  abbrev pub has_call : Name → Name → Bool
  has_call y z = list_any (λ c. name_eq (c.1).0 z) (calls_from ps y)

  -- a call behind a way
  goes_on : (k : ℕ) (x y z : Name) → leads ps k x y ≡ true → has_call y z ≡ true → leads ps (suc k) x z ≡ true
  goes_on zero x y z h e =
      let same : x ≡ y = name_same x y h in
      or_right (name_eq x z) (has_call x z) (subst (λ w. has_call w z ≡ true) (sym same) e)
  goes_on (suc k) x y z h e = go (or_cases (name_eq x y) (list_any (λ c. leads ps k (c.1).0 y) (calls_from ps x)) h) (λ w d. goes_on k w y z d e)
    where
      go : (name_eq x y ≡ true) ⊎ (list_any (λ c. leads ps k (c.1).0 y) (calls_from ps x) ≡ true) → ((w : Name) → leads ps k w y ≡ true → leads ps (suc k) w z ≡ true) → (name_eq x z || list_any (λ c. leads ps (suc k) (c.1).0 z) (calls_from ps x)) ≡ true
      go (inl a) later =
          let same : x ≡ y = name_same x y a in
          or_right (name_eq x z) (list_any (λ c. leads ps (suc k) (c.1).0 z) (calls_from ps x))
          (any_more (λ c. name_eq (c.1).0 z) (λ c. leads ps (suc k) (c.1).0 z) (calls_from ps x) (λ c d. or_left (name_eq (c.1).0 z) (list_any (λ b. leads ps k (b.1).0 z) (calls_from ps (c.1).0)) d) (subst (λ w. has_call w z ≡ true) (sym same) e))
      go (inr b) later =
          or_right (name_eq x z) (list_any (λ c. leads ps (suc k) (c.1).0 z) (calls_from ps x))
          (any_more (λ c. leads ps k (c.1).0 y) (λ c. leads ps (suc k) (c.1).0 z) (calls_from ps x) (λ c d. later (c.1).0 d) b)

  -- so calls lead on
  pub leads_on : (x y z : Name) → calls_lead ps x y ≡ true → has_call y z ≡ true → calls_lead ps x z ≡ true
  leads_on x y z h e = stable z x ∙ goes_on (length ps) x y z h e

  pub leads_itself : (x : Name) → calls_lead ps x x ≡ true
  leads_itself x = go (length ps)
    where
      go : (k : ℕ) → leads ps k x x ≡ true
      go zero = name_refl x
      go (suc k) = or_left (name_eq x x) (list_any (λ c. leads ps k (c.1).0 x) (calls_from ps x)) (name_refl x)
