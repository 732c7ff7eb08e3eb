-- What is computed in passes is what is reached, where no step leads out of it.
use Rattle.std.proofs.Common.{◌≡◌, ◌⊎◌, inl, inr, ℕ, zero, suc, List, [], ◌∷◌, Bool, true, false, refl, sym, ap, subst}
use Rattle.std.specs.Prelude.{Contains, ◌||◌, ◌&&◌, ◌↔◌, not, if◌then◌else◌}
use Rattle.std.proofs.lemmas.Bool.{or_cases}
use Rattle.def_meaning.proofs.Booleans.{or_first, or_second}
use Rattle.adj_reach.specs.Reached.{Reached, begins, leads}
use Rattle.def_flow.specs.Closure.{is_in, grown, closure, is_closed}
use Rattle.adj_reach.proofs.Members.{is_first, is_later, is_among, is_none}
use Rattle.adj_reach.proofs.Reaching.{reached_least}
use Rattle.def_flow.proofs.Sets.{both, isnt}

-- what the test calls the same is so
pub record IsSame {A : Type 0} (same : A → A → Bool) : Type 0 where
  pub same_is : (x y : A) → same x y ≡ true → x ≡ y
  pub is_same : (x : A) → same x x ≡ true

module _ {A : Type 0} {same : A → A → Bool} (q : IsSame same) where
  pub in_only : (xs : List A) (x : A) → is_in same xs x ≡ true → Contains xs x
  in_only [] x h = absurd cc
  in_only (y ∷ ys) x h = go (or_cases (same x y) (is_in same ys x) h) (in_only ys x)
    where
      go : (same x y ≡ true) ⊎ (is_in same ys x ≡ true) → (is_in same ys x ≡ true → Contains ys x) → Contains (y ∷ ys) x
      go (inl e) r = is_first x y ys (sym (q.same_is x y e))
      go (inr e) r = is_later x y ys (r e)

  pub in_it : (xs : List A) (x : A) → Contains xs x → is_in same xs x ≡ true
  in_it [] x c = absurd (is_none x c)
  in_it (y ∷ ys) x c = go (is_among x y ys c) (in_it ys x)
    where
      go : (y ≡ x) ⊎ Contains ys x → (Contains ys x → is_in same ys x ≡ true) → (same x y || is_in same ys x) ≡ true
      go (inl e) r = or_first (same x y) (is_in same ys x) (subst (λ z. same x z ≡ true) (sym e) (q.is_same x))
      go (inr d) r = or_second (same x y) (is_in same ys x) (r d)

  module _ (steps : List (A × A)) (starts : List A) where
    abbrev pub Here : A → Type 0
    Here x = Reached (λ y. Contains starts y) (λ y z. Contains steps (y, z)) x

    grown_sound : (es : List (A × A)) (set : List A) → ((e : A × A) → Contains es e → Contains steps e) → ((x : A) → Contains set x → Here x) → (x : A) → Contains (grown same es set) x → Here x
    grown_sound [] set w s = s
    grown_sound (e ∷ es) set w s =
        grown_sound es (if is_in same set e.0 && not (is_in same set e.1) then e.1 ∷ set else set) (λ z c. w z (is_later z e es c)) (go (is_in same set e.0 && not (is_in same set e.1)) refl)
      where
        more_of : is_in same set e.0 ≡ true → (x : A) → Contains (e.1 ∷ set) x → Here x
        more_of h x c = pick (is_among x e.1 set c)
          where
            pick : (e.1 ≡ x) ⊎ Contains set x → Here x
            pick (inl p) = subst (λ z. Here z) p (leads (s e.0 (in_only set e.0 h)) (w e (is_first e e es refl)))
            pick (inr d) = s x d

        go : (b : Bool) → (is_in same set e.0 && not (is_in same set e.1)) ≡ b → (x : A) → Contains (if b then e.1 ∷ set else set) x → Here x
        go true h = more_of (both (is_in same set e.0) (not (is_in same set e.1)) h).0
        go false h = s

    -- the set only grows
    grown_keeps : (es : List (A × A)) (set : List A) (x : A) → Contains set x → Contains (grown same es set) x
    grown_keeps [] set x c = c
    grown_keeps (e ∷ es) set x c = grown_keeps es (if is_in same set e.0 && not (is_in same set e.1) then e.1 ∷ set else set) x (go (is_in same set e.0 && not (is_in same set e.1)))
      where
        go : (b : Bool) → Contains (if b then e.1 ∷ set else set) x
        go true = is_later x e.1 set c
        go false = c

    closure_sound : (n : ℕ) (set : List A) → ((x : A) → Contains set x → Here x) → (x : A) → Contains (closure same steps n set) x → Here x
    closure_sound zero set s = s
    closure_sound (suc n) set s = closure_sound n (grown same steps set) (grown_sound steps set (λ e c. c) s)

    closure_keeps : (n : ℕ) (set : List A) (x : A) → Contains set x → Contains (closure same steps n set) x
    closure_keeps zero set x c = c
    closure_keeps (suc n) set x c = closure_keeps n (grown same steps set) x (grown_keeps steps set x c)

    closed_step : (es : List (A × A)) (set : List A) → is_closed same es set ≡ true → (x y : A) → is_in same set x ≡ true → Contains es (x, y) → is_in same set y ≡ true
    closed_step [] set h x y i c = absurd (is_none {X = A × A} (x, y) c)
    closed_step (e ∷ es) set h x y i c = go (is_among (x, y) e es c) (closed_step es set b.1 x y i)
      where
        b : ((not (is_in same set e.0) || is_in same set e.1) ≡ true) × (is_closed same es set ≡ true)
        b = both (not (is_in same set e.0) || is_in same set e.1) (is_closed same es set) h

        side : e.0 ≡ x → e.1 ≡ y → (not (is_in same set e.0) ≡ true) ⊎ (is_in same set e.1 ≡ true) → is_in same set y ≡ true
        side p r (inl f) = absurd (let g : is_in same set e.0 ≡ false = isnt (is_in same set e.0) f in let j : is_in same set e.0 ≡ true = subst (λ z. is_in same set z ≡ true) (sym p) i in cc)
        side p r (inr f) = subst (λ z. is_in same set z ≡ true) r f

        go : (e ≡ (x, y)) ⊎ Contains es (x, y) → (Contains es (x, y) → is_in same set y ≡ true) → is_in same set y ≡ true
        go (inl p) r = side (ap (λ z. z.0) p) (ap (λ z. z.1) p) (or_cases (not (is_in same set e.0)) (is_in same set e.1) b.0)
        go (inr d) r = r d

    -- so where no step leads out, it is what is reached
    pub closure_exact : (n : ℕ) → is_closed same steps (closure same steps n starts) ≡ true → (x : A) → (is_in same (closure same steps n starts) x ≡ true) ↔ Here x
    closure_exact n h x = (
      λ i. closure_sound n starts (λ y c. begins c) x (in_only (closure same steps n starts) x i),
      reached_least (record { holds = λ y c. in_it (closure same steps n starts) y (closure_keeps n starts y c); steps = λ y z i c. closed_step steps (closure same steps n starts) h y z i c }) x,
    )
