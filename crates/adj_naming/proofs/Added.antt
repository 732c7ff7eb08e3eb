-- Lists in which no name stands twice, in place of lists with the same names.
use Rattle.std.proofs.Common.{◌≡◌, ℕ, zero, suc, Bool, true, false, List, [], ◌∷◌, ◌++◌, length, refl, sym, ap, ◌∙◌, subst, append_assoc, append-nil, if◌then◌else◌}
use Rattle.std.specs.Prelude.{◌||◌}
use Rattle.adj_tree.specs.Code.{Var, name_eq}
use Rattle.adj_tree.proofs.Names.{name_refl, name_same}
use Rattle.def_meaning.specs.Apart.{has_name, AreApart}
use Rattle.def_names.specs.Fresh.{candidate, first_free, fresh}
use Rattle.def_sweep.specs.Naming.{Derived, Named, named_for, wanted_for}
use Rattle.def_names.proofs.Variables.{or_assoc, or_right, or_false, not_true}
use Rattle.def_names.proofs.Fresh.{fresh-is_free}
use Rattle.adj_sets.specs.Sets.{with_added, all_added}
use Rattle.adj_sets.proofs.NameSets.{has-behind, with_added_is}

or_false_right : (a : Bool) → (a || false) ≡ a
or_false_right true = refl
or_false_right false = refl

pub or_comm : (a b : Bool) → (a || b) ≡ (b || a)
or_comm true b = sym (or_right b true refl)
or_comm false b = sym (or_false_right b)

pub added_new : (x : List ℕ) (xs : List (List ℕ)) → has_name x xs ≡ false → with_added x xs ≡ xs ++ x ∷ []
added_new x xs h = with_added_is x xs ∙ ap (λ b. if b then xs else xs ++ x ∷ []) h

-- a name that is there isn't added
has-with_added : (x y : List ℕ) (xs : List (List ℕ)) → has_name x (with_added y xs) ≡ (has_name x xs || name_eq x y)
has-with_added x y xs = ap (has_name x) (with_added_is y xs) ∙ go (has_name y xs) refl
  where
    found : (b : Bool) → name_eq x y ≡ b → has_name y xs ≡ true → has_name x xs ≡ (has_name x xs || b)
    found true e h = ap (λ z. has_name z xs) (name_same x y e) ∙ h ∙ sym (or_right (has_name x xs) true refl)
    found false e h = sym (or_false_right (has_name x xs))

    go : (b : Bool) → has_name y xs ≡ b → has_name x (if b then xs else xs ++ y ∷ []) ≡ (has_name x xs || name_eq x y)
    go true e = found (name_eq x y) refl e
    go false e = has-behind x xs (y ∷ []) ∙ ap (λ b. has_name x xs || b) (or_false_right (name_eq x y))

-- all names are there
pub has-all_added : (x : List ℕ) (xs ys : List (List ℕ)) → has_name x (all_added xs ys) ≡ (has_name x xs || has_name x ys)
has-all_added x xs [] = sym (or_false_right (has_name x xs))
has-all_added x xs (y ∷ ys) =
    has-all_added x (with_added y xs) ys ∙ ap (λ b. b || has_name x ys) (has-with_added x y xs) ∙ or_assoc (has_name x xs) (name_eq x y) (has_name x ys)

pub all_added-append : (xs ys zs : List (List ℕ)) → all_added xs (ys ++ zs) ≡ all_added (all_added xs ys) zs
all_added-append xs [] zs = refl
all_added-append xs (y ∷ ys) zs = all_added-append (with_added y xs) ys zs

-- names that are apart and new are added as they are
all_added-apart : (xs ys : List (List ℕ)) → AreApart ys → ((x : List ℕ) → has_name x xs ≡ true → has_name x ys ≡ false) → all_added xs ys ≡ xs ++ ys
all_added-apart xs [] a h = sym (append-nil xs)
all_added-apart xs (y ∷ ys) a h =
    let absent : has_name y xs ≡ false = not_true (has_name y xs) (λ e. let bad : has_name y (y ∷ ys) ≡ true = ap (λ b. b || has_name y ys) (name_refl y) in let other = h y e in cc) in
    let new = added_new y xs absent in
    let apart : (x : List ℕ) → has_name x (xs ++ y ∷ []) ≡ true → has_name x ys ≡ false = λ x e. behind x y xs ys a.0 (h x) (sym (has-behind x xs (y ∷ [])) ∙ e) in
    ap (λ z. all_added z ys) new ∙ all_added-apart (xs ++ y ∷ []) ys a.1 apart ∙ append_assoc xs (y ∷ []) ys
  where
    behind : (x y : List ℕ) (xs ys : List (List ℕ)) → has_name y ys ≡ false → (has_name x xs ≡ true → (name_eq x y || has_name x ys) ≡ false) → (has_name x xs || has_name x (y ∷ [])) ≡ true → has_name x ys ≡ false
    behind x y xs ys free f e = one (has_name x xs) refl
      where
        other : (t : Bool) → name_eq x y ≡ t → (t || false) ≡ true → has_name x ys ≡ false
        other true g k = ap (λ z. has_name z ys) (name_same x y g) ∙ free
        other false g k = cc

        one : (t : Bool) → has_name x xs ≡ t → has_name x ys ≡ false
        one true g = (or_false (name_eq x y) (has_name x ys) (f g)).1
        one false g = other (name_eq x y) refl (ap (λ t. t || has_name x (y ∷ [])) (sym g) ∙ e)

pub all_once : (ys : List (List ℕ)) → AreApart ys → all_added [] ys ≡ ys
all_once ys a = all_added-apart [] ys a (λ x h. cc)

-- ---- fresh names

-- lists with the same names
pub record SameNames (xs ys : List (List ℕ)) : Type 0 where
  pub at : (x : List ℕ) → has_name x xs ≡ has_name x ys

-- the first free candidate is the same, where both lists leave one
alike : (n m i : ℕ) (b : List ℕ) (xs ys : List (List ℕ)) → SameNames xs ys → has_name (first_free n i b xs) xs ≡ false → has_name (first_free m i b ys) ys ≡ false → first_free n i b xs ≡ first_free m i b ys
alike zero zero i b xs ys h f g = refl
alike zero (suc m) i b xs ys h f g = sym (ap (λ t. if t then first_free m (suc i) b ys else candidate b i) (sym (h.at (candidate b i)) ∙ f))
alike (suc n) zero i b xs ys h f g = ap (λ t. if t then first_free n (suc i) b xs else candidate b i) (h.at (candidate b i) ∙ g)
alike (suc n) (suc m) i b xs ys h f g = go (has_name (candidate b i) xs) refl (λ f g. alike n m (suc i) b xs ys h f g) f (subst (λ t. has_name (if t then first_free m (suc i) b ys else candidate b i) ys ≡ false) (sym (h.at (candidate b i))) g) ∙ ap (λ t. if t then first_free m (suc i) b ys else candidate b i) (h.at (candidate b i))
  where
    go : (t : Bool) → has_name (candidate b i) xs ≡ t → (has_name (first_free n (suc i) b xs) xs ≡ false → has_name (first_free m (suc i) b ys) ys ≡ false → first_free n (suc i) b xs ≡ first_free m (suc i) b ys) → has_name (if t then first_free n (suc i) b xs else candidate b i) xs ≡ false → has_name (if t then first_free m (suc i) b ys else candidate b i) ys ≡ false → (if t then first_free n (suc i) b xs else candidate b i) ≡ (if t then first_free m (suc i) b ys else candidate b i)
    go true e ih f g = ih f g
    go false e ih f g = refl

pub fresh_alike : (b : List ℕ) (xs ys : List (List ℕ)) → SameNames xs ys → fresh b xs ≡ fresh b ys
fresh_alike b xs ys h = alike (length xs) (length ys) 0 b xs ys h (fresh-is_free b xs) (fresh-is_free b ys)

-- variables get the same names
pub named_alike : (o : Derived) (xs ys : List (List ℕ)) (vs : List Var) → SameNames xs ys → named_for o xs vs ≡ named_for o ys vs
named_alike o xs ys [] h = refl
named_alike o xs ys (v ∷ vs) h =
    let f = fresh (wanted_for o v) xs in
    let g = fresh (wanted_for o v) ys in
    let same : f ≡ g = fresh_alike (wanted_for o v) xs ys h in
    let next : SameNames (xs ++ f ∷ []) (ys ++ g ∷ []) = record { at = λ x. has-behind x xs (f ∷ []) ∙ (λ i. h.at x i || has_name x (same i ∷ [])) ∙ sym (has-behind x ys (g ∷ [])) } in
    let first : Named = record { variable = v; name = f } in
    let second : Named = record { variable = v; name = g } in
    let heads : first ≡ second = λ i. record { variable = v; name = same i } in
    λ i. heads i ∷ named_alike o (xs ++ f ∷ []) (ys ++ g ∷ []) vs next i

-- each name of a list once
pub once_same : (ys : List (List ℕ)) → SameNames (all_added [] ys) ys
once_same ys = record { at = λ x. has-all_added x [] ys }

-- a fresh name is added as the last one to some of those that are taken
pub fresh_behind : (b x : List ℕ) (others xs : List (List ℕ)) → x ≡ fresh b (others ++ xs) → with_added x xs ≡ xs ++ x ∷ []
fresh_behind b x others xs h =
    let free : (has_name x others || has_name x xs) ≡ false = sym (has-behind x others xs) ∙ ap (λ z. has_name z (others ++ xs)) h ∙ fresh-is_free b (others ++ xs) in
    added_new x xs (or_false (has_name x others) (has_name x xs) free).1
