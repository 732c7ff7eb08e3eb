-- Lists of numbers as images of lists of things: each member has an image where it has a number, and nothing else is there.
use Rattle.std.proofs.Common.{◌≡◌, ◌⊎◌, inl, inr, List, [], ◌∷◌, ◌++◌, Bool, true, false, refl, sym, ap, subst}
use Rattle.std.specs.Prelude.{Contains, map, flat_map}
use Rattle.std.proofs.lemmas.List.Elements.{Contains-append_left, Contains-append_right, Contains-append_cases}
use Rattle.def_names.specs.VariableLists.{list_if}
use Rattle.def_flow.specs.Rules.{against}
use Rattle.adj_reach.proofs.Members.{is_first, is_none, is_only, map_has, map_only, flat_has, flat_only}
use Rattle.def_flow.proofs.AsLists.{AreLists}
use Rattle.def_flow.proofs.Numbered.{IsListed}

pub record Images {A B : Type 0} (R : A → B → Type 0) (xs : List A) (ys : List B) : Type 0 where
  pub has : (x : A) (y : B) → Contains xs x → R x y → Contains ys y
  pub only : (y : B) → Contains ys y → (x : A) × Contains xs x × R x y

module _ {A B : Type 0} {R : A → B → Type 0} where
  pub images_none : Images R [] []
  images_none = record { has = λ x y c r. absurd (is_none x c); only = λ y c. absurd (is_none y c) }

  -- one thing with its only image
  pub images_one : (x : A) (y : B) → R x y → ((z : B) → R x z → y ≡ z) → Images R (x ∷ []) (y ∷ [])
  images_one x y r one = record {
    has = λ z u c s. is_first u y [] (one u (subst (λ t. R t u) (sym (is_only z x c)) s));
    only = λ u c. (x, is_first x x [] refl, subst (λ t. R x t) (is_only u y c) r);
  }

  pub images_append : {xs zs : List A} {ys us : List B} → Images R xs ys → Images R zs us → Images R (xs ++ zs) (ys ++ us)
  images_append {xs = xs} {zs = zs} {ys = ys} {us = us} a b = record { has = λ x y c r. has x y r (Contains-append_cases xs zs x c); only = λ y c. only y (Contains-append_cases ys us y c) }
    where
      has : (x : A) (y : B) → R x y → Contains xs x ⊎ Contains zs x → Contains (ys ++ us) y
      has x y r (inl c) = Contains-append_left ys us y (a.has x y c r)
      has x y r (inr c) = Contains-append_right ys us y (b.has x y c r)

      only : (y : B) → Contains ys y ⊎ Contains us y → (x : A) × Contains (xs ++ zs) x × R x y
      only y (inl c) = let o = a.only y c in (o.0, Contains-append_left xs zs o.0 o.1, o.2)
      only y (inr c) = let o = b.only y c in (o.0, Contains-append_right xs zs o.0 o.1, o.2)

  pub images_flat : {Z : Type 0} (f : Z → List A) (g : Z → List B) (zs : List Z) → ((z : Z) → Contains zs z → Images R (f z) (g z)) → Images R (flat_map f zs) (flat_map g zs)
  images_flat f g zs i = record {
    has = λ x y c r. let z = flat_only f zs x c in flat_has g zs z.0 y z.1 ((i z.0 z.1).has x y z.2 r);
    only = λ y c. let z = flat_only g zs y c in let o = (i z.0 z.1).only y z.2 in (o.0, flat_has f zs z.0 o.0 z.1 o.1, o.2);
  }

  pub images_map : {Z : Type 0} (f : Z → A) (g : Z → List B) (zs : List Z) → ((z : Z) → Contains zs z → Images R (f z ∷ []) (g z)) → Images R (map f zs) (flat_map g zs)
  images_map f g zs i = record {
    has = λ x y c r. let z = map_only f zs x c in flat_has g zs z.0 y z.1 ((i z.0 z.1).has x y (is_first x (f z.0) [] z.2) r);
    only = λ y c. let z = flat_only g zs y c in let o = (i z.0 z.1).only y z.2 in (f z.0, map_has f zs z.0 z.1, subst (λ t. R t y) (sym (is_only o.0 (f z.0) o.1)) o.2);
  }

  pub images_if : (b : Bool) {xs : List A} {ys : List B} → Images R xs ys → Images R (list_if b xs) (list_if b ys)
  images_if true i = i
  images_if false i = images_none

-- ---- what the numbers reach

module _ {A B : Type 0} {Begins : A → Type 0} {Leads : A → A → Type 0} {IsKnown : A → Type 0} {Has : A → B → Type 0} {starts : List A} {ss : List B} {steps : List (A × A)} {es : List (B × B)}
    (one : (x : A) (m n : B) → Has x m → Has x n → m ≡ n) (own : (x y : A) (n : B) → Has x n → Has y n → x ≡ y) (known : (x : A) → IsKnown x → (m : B) × Has x m) (is : (x : A) (m : B) → Has x m → IsKnown x)
    (s : Images Has starts ss) (e : Images (λ (a : A × A) (b : B × B). Has a.0 b.0 × Has a.1 b.1) steps es) where
  -- along the edges
  pub listed_along : AreLists Begins Leads IsKnown starts steps → IsListed Begins Leads Has (λ n. Contains ss n) (λ m n. Contains es (m, n))
  listed_along l = record {
    one = one;
    own = own;
    begun = λ x b. let o = l.begun x b in let m = known x o.0 in (m.0, m.1, s.has x m.0 o.1 m.1);
    led = λ x y m h c. let o = l.led x y (is x m h) c in let n = known y o.0 in (n.0, n.1, e.has (x, y) (m, n.0) o.1 (h, n.1));
    only_begun = λ n c. let o = s.only n c in (o.0, o.2, l.only_begun o.0 o.1);
    only_led = λ x m n h c. let o = e.only (m, n) c in (o.0.1, o.2.1, subst (λ z. Leads z o.0.1) (own o.0.0 x m o.2.0 h) (l.only_led o.0.0 o.0.1 o.1));
  }

  -- against them
  pub listed_back : AreLists Begins Leads IsKnown starts (against steps) → IsListed Begins Leads Has (λ n. Contains ss n) (λ m n. Contains es (n, m))
  listed_back l = record {
    one = one;
    own = own;
    begun = λ x b. let o = l.begun x b in let m = known x o.0 in (m.0, m.1, s.has x m.0 o.1 m.1);
    led = λ x y m h c. let o = l.led x y (is x m h) c in let n = known y o.0 in (n.0, n.1, e.has (y, x) (n.0, m) (back x y o.1) (n.1, h));
    only_begun = λ n c. let o = s.only n c in (o.0, o.2, l.only_begun o.0 o.1);
    only_led = λ x m n h c. let o = e.only (n, m) c in (o.0.0, o.2.0, subst (λ z. Leads z o.0.0) (own o.0.1 x m o.2.1 h) (l.only_led o.0.1 o.0.0 (map_has (λ (z : A × A). (z.1, z.0)) steps o.0 o.1)));
  }
    where
      back : (x y : A) → Contains (against steps) (x, y) → Contains steps (y, x)
      back x y c =
          let q = map_only (λ (z : A × A). (z.1, z.0)) steps (x, y) c in
          let p : q.0 ≡ (y, x) = (λ i. (ap (λ (z : A × A). z.1) q.2 i, ap (λ (z : A × A). z.0) q.2 i)) in
          subst (λ z. Contains steps z) p q.1
