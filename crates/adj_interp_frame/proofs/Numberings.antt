-- Names with a name more, which gets a number.
use Rattle.std.proofs.Common.{◌≡◌, ℕ, suc, ◌+◌, ◌<◌, ◌≤◌, Bool, true, false, List, [], ◌∷◌, ◌++◌, map, length, get_or, cond, Bor, refl, sym, ap, ap₂, ◌∙◌, arith, if◌then◌else◌}
use Rattle.std.specs.Prelude.{◌||◌, not}
use Rattle.std.specs.List.{list_any, position_or_len, AllByRecursion, IsDistinct}
use Rattle.std.proofs.lemmas.Map.Keys.{IsDistinct-head, IsDistinct-tail}
use Rattle.std.specs.Str.{bytes_eq}
use Rattle.std.proofs.lemmas.List.{map_push, length-append, get_or_push, get_or_append_left}
use Rattle.adj_tree.specs.Code.{name_eq}
use Rattle.adj_tree.proofs.Names.{name_eq-bytes, name_same}
use Rattle.def_meaning.specs.Apart.{has_name, AreApart}
use Rattle.def_meaning.proofs.Booleans.{or_false}
use Rattle.def_meaning.proofs.Variables.{name_comm}
use Rattle.adj_interp_frame.specs.Numbered.{Extends}

-- the names that slices are
abbrev pub names_of : List (Bor (List ℕ)) → List (List ℕ)
names_of ks = map (λ k. k.now) ks

-- the names with a name more, unless it is there
abbrev pub with_name : List (List ℕ) → List ℕ → List (List ℕ)
with_name ns x = if list_any (name_eq x) ns then ns else ns ++ x ∷ []

-- its number
abbrev pub place_in : List (List ℕ) → List ℕ → ℕ
place_in ns x = position_or_len (name_eq x) ns

any_named : (x : List ℕ) (ks : List (Bor (List ℕ))) → list_any (λ k. bytes_eq x k.now) ks ≡ list_any (name_eq x) (names_of ks)
any_named x [] = refl
any_named x (k ∷ ks) = ap₂ (λ a b. a || b) (sym (name_eq-bytes x k.now)) (any_named x ks)

-- where a name stands among slices
pub place_named : (x : List ℕ) (ks : List (Bor (List ℕ))) → position_or_len (λ k. bytes_eq x k.now) ks ≡ place_in (names_of ks) x
place_named x [] = refl
place_named x (k ∷ ks) = λ i. cond (not (name_eq-bytes x k.now i)) (1 + place_named x ks i) 0

-- the names after a slice was added
pub added_named : (k : Bor (List ℕ)) (ks : List (Bor (List ℕ))) (x : List ℕ) → k.now ≡ x → names_of (if list_any (λ y. bytes_eq k.now y.now) ks then ks else ks ++ k ∷ []) ≡ with_name (names_of ks) x
added_named k ks x p =
    go (list_any (λ y. bytes_eq k.now y.now) ks)
    ∙ ap (λ b. if b then names_of ks else names_of ks ++ k.now ∷ []) (any_named k.now ks)
    ∙ ap (λ y. with_name (names_of ks) y) p
  where
    go : (b : Bool) → names_of (if b then ks else ks ++ k ∷ []) ≡ (if b then names_of ks else names_of ks ++ k.now ∷ [])
    go true = refl
    go false = map_push (λ z. z.now) ks k

-- ---- what that name's number is

module _ (x : List ℕ) where
  found : (ns : List (List ℕ)) → list_any (name_eq x) ns ≡ true → (place_in ns x < length ns) × (get_or ns (place_in ns x) [] ≡ x)
  found [] h = absurd cc
  found (y ∷ ns) h = go (found ns) (name_eq x y) refl h
    where
      go : (list_any (name_eq x) ns ≡ true → (place_in ns x < length ns) × (get_or ns (place_in ns x) [] ≡ x)) → (b : Bool) → name_eq x y ≡ b → (b || list_any (name_eq x) ns) ≡ true → (cond (not b) (1 + place_in ns x) 0 < length (y ∷ ns)) × (get_or (y ∷ ns) (cond (not b) (1 + place_in ns x) 0) [] ≡ x)
      go ih true e h = (omega arith, sym (name_same x y e))
      go ih false e h =
          let f = ih h in
          let s : 1 + place_in ns x ≡ suc (place_in ns x) = omega arith in
          (omega (arith, f.0), ap (λ z. get_or (y ∷ ns) z []) s ∙ f.1)

  missing : (ns : List (List ℕ)) → list_any (name_eq x) ns ≡ false → place_in ns x ≡ length ns
  missing [] h = refl
  missing (y ∷ ns) h =
      let o = or_false (name_eq x y) (list_any (name_eq x) ns) h in
      let m = missing ns o.1 in
      rw o.0 (omega (arith, m))

  -- it is one of the numbers, and the name has it
  pub placed : (ns : List (List ℕ)) → (place_in ns x < length (with_name ns x)) × (get_or (with_name ns x) (place_in ns x) [] ≡ x)
  placed ns = go (list_any (name_eq x) ns) refl
    where
      go : (b : Bool) → list_any (name_eq x) ns ≡ b → (place_in ns x < length (if b then ns else ns ++ x ∷ [])) × (get_or (if b then ns else ns ++ x ∷ []) (place_in ns x) [] ≡ x)
      go true h = found ns h
      go false h =
          let m = missing ns h in
          let l = length-append ns (x ∷ []) in
          (omega (arith, m, l), get_or_push ns x [] (place_in ns x) (sym m))

  -- there is at most one more
  pub few_more : (ns : List (List ℕ)) → length (with_name ns x) ≤ length ns + 1
  few_more ns = go (list_any (name_eq x) ns)
    where
      go : (b : Bool) → length (if b then ns else ns ++ x ∷ []) ≤ length ns + 1
      go true = omega arith
      go false = let l = length-append ns (x ∷ []) in omega (arith, l)

  -- the other names keep theirs
  pub extended : (ns : List (List ℕ)) → Extends ns (with_name ns x)
  extended ns = go (list_any (name_eq x) ns)
    where
      go : (b : Bool) → Extends ns (if b then ns else ns ++ x ∷ [])
      go true = record { keeps = λ i lt. refl; longer = omega arith }
      go false = record { keeps = λ i lt. get_or_append_left ns (x ∷ []) [] i lt; longer = (let l = length-append ns (x ∷ []) in omega (arith, l)) }

  stands_before : (d : List ℕ) (ns : List (List ℕ)) → has_name d ns ≡ false → name_eq d x ≡ false → has_name d (ns ++ x ∷ []) ≡ false
  stands_before d [] h e = rw e refl
  stands_before d (n ∷ ns) h e = let o = or_false (name_eq d n) (has_name d ns) h in rw o.0 (stands_before d ns o.1 e)

  apart_behind : (ns : List (List ℕ)) → AreApart ns → list_any (name_eq x) ns ≡ false → AreApart (ns ++ x ∷ [])
  apart_behind [] a h = (refl, tt)
  apart_behind (n ∷ ns) a h = let o = or_false (name_eq x n) (list_any (name_eq x) ns) h in (stands_before n ns a.0 (name_comm x n o.0), apart_behind ns a.1 o.1)

  -- and all stay apart
  pub apart_with : (ns : List (List ℕ)) → AreApart ns → AreApart (with_name ns x)
  apart_with ns a = go (list_any (name_eq x) ns) refl
    where
      go : (b : Bool) → list_any (name_eq x) ns ≡ b → AreApart (if b then ns else ns ++ x ∷ [])
      go true h = a
      go false h = apart_behind ns a h

-- ---- keys that are distinct

not_among : (k : Bor (List ℕ)) (ks : List (Bor (List ℕ))) → AllByRecursion (λ y. bytes_eq k.now y.now ≡ false) ks → has_name k.now (names_of ks) ≡ false
not_among k [] h = refl
not_among k (y ∷ ks) h = rw (name_eq-bytes k.now y.now ∙ h.0) (not_among k ks h.1)

-- the names of distinct keys are apart
pub distinct_apart : (ks : List (Bor (List ℕ))) → IsDistinct (λ (a b : Bor (List ℕ)). bytes_eq a.now b.now) ks → AreApart (names_of ks)
distinct_apart [] h = tt
distinct_apart (k ∷ ks) h = (not_among k ks (IsDistinct-head (λ (a b : Bor (List ℕ)). bytes_eq a.now b.now) k ks h), distinct_apart ks (IsDistinct-tail (λ (a b : Bor (List ℕ)). bytes_eq a.now b.now) k ks h))
