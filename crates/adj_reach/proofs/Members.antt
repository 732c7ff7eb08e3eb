-- Members of lists.
use Rattle.std.proofs.Common.{◌≡◌, zero, suc, ◌⊎◌, inl, inr, List, ◌∷◌, ◌++◌, Bool, true, false, arith, refl, sym, ap, ◌∙◌, subst}
use Rattle.std.specs.Prelude.{Contains, map, flat_map, filter, if◌then◌else◌, []}
use Rattle.std.proofs.lemmas.List.Concat.{flat_map-cons}
use Rattle.std.proofs.lemmas.List.Elements.{Contains-append_left, Contains-append_right, Contains-append_cases}

pub is_first : {X : Type 0} (x y : X) (xs : List X) → y ≡ x → Contains (y ∷ xs) x
is_first x y xs e = (0, omega arith, e)

pub is_later : {X : Type 0} (x y : X) (xs : List X) → Contains xs x → Contains (y ∷ xs) x
is_later x y xs c = (suc c.0, omega (arith, c.1), c.2)

pub is_among : {X : Type 0} (x y : X) (xs : List X) → Contains (y ∷ xs) x → (y ≡ x) ⊎ Contains xs x
is_among x y xs (zero, l, e) = inl e
is_among x y xs (suc k, l, e) = inr (k, omega arith, e)

pub is_none : {X : Type 0} (x : X) → Contains [] x → ⊥
is_none x c = omega (arith, c.1)

pub is_only : {X : Type 0} (x y : X) → Contains (y ∷ []) x → y ≡ x
is_only x y c = go (is_among x y [] c)
  where
    go : (y ≡ x) ⊎ Contains [] x → y ≡ x
    go (inl e) = e
    go (inr d) = absurd (is_none x d)

pub map_has : {X Y : Type 0} (f : X → Y) (xs : List X) (x : X) → Contains xs x → Contains (map f xs) (f x)
map_has f [] x c = absurd (is_none x c)
map_has f (y ∷ ys) x c = go (is_among x y ys c) (map_has f ys x)
  where
    go : (y ≡ x) ⊎ Contains ys x → (Contains ys x → Contains (map f ys) (f x)) → Contains (f y ∷ map f ys) (f x)
    go (inl e) r = is_first (f x) (f y) (map f ys) (ap f e)
    go (inr d) r = is_later (f x) (f y) (map f ys) (r d)

pub map_only : {X Y : Type 0} (f : X → Y) (xs : List X) (y : Y) → Contains (map f xs) y → (x : X) × Contains xs x × (f x ≡ y)
map_only f [] y c = absurd (is_none y c)
map_only f (x ∷ xs) y c = go (is_among y (f x) (map f xs) c) (map_only f xs y)
  where
    go : (f x ≡ y) ⊎ Contains (map f xs) y → (Contains (map f xs) y → (z : _) × Contains xs z × (f z ≡ y)) → (z : _) × Contains (x ∷ xs) z × (f z ≡ y)
    go (inl e) r = (x, is_first x x xs refl, e)
    go (inr d) r = let o = r d in (o.0, is_later o.0 x xs o.1, o.2)

pub flat_has : {X Y : Type 0} (f : X → List Y) (xs : List X) (x : X) (y : Y) → Contains xs x → Contains (f x) y → Contains (flat_map f xs) y
flat_has f [] x y c d = absurd (is_none x c)
flat_has f (z ∷ zs) x y c d = subst (λ l. Contains l y) (sym (flat_map-cons f z zs)) (go (is_among x z zs c) (λ e. flat_has f zs x y e d))
  where
    go : (z ≡ x) ⊎ Contains zs x → (Contains zs x → Contains (flat_map f zs) y) → Contains (f z ++ flat_map f zs) y
    go (inl e) r = Contains-append_left (f z) (flat_map f zs) y (subst (λ l. Contains (f l) y) (sym e) d)
    go (inr e) r = Contains-append_right (f z) (flat_map f zs) y (r e)

pub flat_only : {X Y : Type 0} (f : X → List Y) (xs : List X) (y : Y) → Contains (flat_map f xs) y → (x : X) × Contains xs x × Contains (f x) y
flat_only f [] y c = absurd (is_none y c)
flat_only f (z ∷ zs) y c = go (Contains-append_cases (f z) (flat_map f zs) y (subst (λ l. Contains l y) (flat_map-cons f z zs) c)) (flat_only f zs y)
  where
    go : Contains (f z) y ⊎ Contains (flat_map f zs) y → (Contains (flat_map f zs) y → (x : _) × Contains zs x × Contains (f x) y) → (x : _) × Contains (z ∷ zs) x × Contains (f x) y
    go (inl d) r = (z, is_first z z zs refl, d)
    go (inr d) r = let o = r d in (o.0, is_later o.0 z zs o.1, o.2)

pub filter_has : {X : Type 0} (f : X → Bool) (xs : List X) (x : X) → Contains xs x → f x ≡ true → Contains (filter f xs) x
filter_has f [] x c h = absurd (is_none x c)
filter_has f (y ∷ ys) x c h = go (f y) refl (is_among x y ys c) (λ d. filter_has f ys x d h)
  where
    go : (b : Bool) → f y ≡ b → (y ≡ x) ⊎ Contains ys x → (Contains ys x → Contains (filter f ys) x) → Contains (if b then y ∷ filter f ys else filter f ys) x
    go true e (inl p) r = is_first x y (filter f ys) p
    go true e (inr d) r = is_later x y (filter f ys) (r d)
    go false e (inl p) r = absurd (let q : f y ≡ true = ap f p ∙ h in cc)
    go false e (inr d) r = r d

pub filter_only : {X : Type 0} (f : X → Bool) (xs : List X) (x : X) → Contains (filter f xs) x → Contains xs x × (f x ≡ true)
filter_only f [] x c = absurd (is_none x c)
filter_only f (y ∷ ys) x c = go (f y) refl c (filter_only f ys x)
  where
    go : (b : Bool) → f y ≡ b → Contains (if b then y ∷ filter f ys else filter f ys) x → (Contains (filter f ys) x → Contains ys x × (f x ≡ true)) → Contains (y ∷ ys) x × (f x ≡ true)
    go true e d r = first (is_among x y (filter f ys) d)
      where
        first : (y ≡ x) ⊎ Contains (filter f ys) x → Contains (y ∷ ys) x × (f x ≡ true)
        first (inl p) = (is_first x y ys p, ap f (sym p) ∙ e)
        first (inr q) = (is_later x y ys (r q).0, (r q).1)
    go false e d r = (is_later x y ys (r d).0, (r d).1)
