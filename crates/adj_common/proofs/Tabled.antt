-- A table of names has each name once, with the places where it stands.
use Rattle.std.proofs.Common.{◌≡◌, ℕ, suc, ◌+◌, Bool, true, false, List, [], ◌∷◌, ◌++◌, length, map, Option, Some, None, refl, sym, ap, ◌∙◌, subst, arith, append-nil, append_assoc, if◌then◌else◌}
use Rattle.std.specs.Prelude.{◌||◌, position}
use Rattle.std.proofs.lemmas.List.{map_push}
use Rattle.adj_tree.specs.Code.{name_eq}
use Rattle.adj_tree.proofs.Names.{name_refl, name_same}
use Rattle.def_meaning.specs.Apart.{has_name, AreApart}
use Rattle.def_meaning.proofs.Booleans.{or_false}
use Rattle.def_meaning.proofs.Variables.{name_comm}
use Rattle.def_common.specs.Blocks.{without_repeats}
use Rattle.adj_common.specs.Tables.{Table, add_at, noted_at, noted, noted_from, no_names, tabled}
use Rattle.adj_common.proofs.Finding.{next, position_step}

-- the places, counted from one on, where a name stands among some
abbrev pub places_from : ℕ → List (List ℕ) → List ℕ → List ℕ
places_from k [] b = []
places_from k (x ∷ xs) b = if name_eq x b then k ∷ places_from (suc k) xs b else places_from (suc k) xs b

-- a place where it is that name
abbrev pub place_if : ℕ → List ℕ → List ℕ → List ℕ
place_if k x b = if name_eq x b then k ∷ [] else []

places_push : (i : ℕ) (xs : List (List ℕ)) (x b : List ℕ) → places_from i (xs ++ x ∷ []) b ≡ places_from i xs b ++ place_if (length xs + i) x b
places_push i [] x b = let e : i ≡ 0 + i = omega arith in ap (λ k. place_if k x b) e
places_push i (y ∷ xs) x b = go (name_eq y b) (let e : length xs + suc i ≡ suc (length xs) + i = omega arith in places_push (suc i) xs x b ∙ ap (λ k. places_from (suc i) xs b ++ place_if k x b) e)
  where
    go : (c : Bool) → places_from (suc i) (xs ++ x ∷ []) b ≡ places_from (suc i) xs b ++ place_if (suc (length xs) + i) x b → (if c then i ∷ places_from (suc i) (xs ++ x ∷ []) b else places_from (suc i) (xs ++ x ∷ []) b) ≡ (if c then i ∷ places_from (suc i) xs b else places_from (suc i) xs b) ++ place_if (suc (length xs) + i) x b
    go true h = ap (λ l. i ∷ l) h
    go false h = h

no_places : (i : ℕ) (xs : List (List ℕ)) (b : List ℕ) → has_name b xs ≡ false → places_from i xs b ≡ []
no_places i [] b h = refl
no_places i (x ∷ xs) b h =
    let p = or_false (name_eq b x) (has_name b xs) h in
    ap (λ c. if c then i ∷ places_from (suc i) xs b else places_from (suc i) xs b) (name_comm b x p.0) ∙ no_places (suc i) xs b p.1

-- ---- names once

has_push : (x : List ℕ) (xs : List (List ℕ)) (y : List ℕ) → has_name x (xs ++ y ∷ []) ≡ (has_name x xs || name_eq x y)
has_push x [] y = or_nothing (name_eq x y)
  where
    or_nothing : (b : Bool) → (b || false) ≡ b
    or_nothing true = refl
    or_nothing false = refl
has_push x (z ∷ xs) y = ap (λ b. name_eq x z || b) (has_push x xs y) ∙ sym (assoc (name_eq x z) (has_name x xs) (name_eq x y))
  where
    assoc : (a b c : Bool) → ((a || b) || c) ≡ (a || (b || c))
    assoc true b c = refl
    assoc false b c = refl

-- one name more
once_push : (seen xs : List (List ℕ)) (x : List ℕ) → without_repeats seen (xs ++ x ∷ []) ≡ without_repeats seen xs ++ (if has_name x seen || has_name x xs then [] else x ∷ [])
once_push seen [] x = go (has_name x seen)
  where
    go : (b : Bool) → (if b then [] else x ∷ []) ≡ (if b || false then [] else x ∷ [])
    go true = refl
    go false = refl
once_push seen (y ∷ xs) x = go (has_name y seen) refl (once_push seen xs x) (once_push (y ∷ seen) xs x)
  where
    skip : (b : Bool) → name_eq x y ≡ b → has_name y seen ≡ true → (has_name x seen || has_name x xs) ≡ (has_name x seen || (b || has_name x xs))
    skip false e h = refl
    skip true e h = let s : has_name x seen ≡ true = ap (λ z. has_name z seen) (name_same x y e) ∙ h in ap (λ b. b || has_name x xs) s ∙ ap (λ b. b || true) (sym s)

    turn : (a b c : Bool) → ((b || a) || c) ≡ (a || (b || c))
    turn true true c = refl
    turn true false c = refl
    turn false true c = refl
    turn false false c = refl

    go : (b : Bool) → has_name y seen ≡ b →
        without_repeats seen (xs ++ x ∷ []) ≡ without_repeats seen xs ++ (if has_name x seen || has_name x xs then [] else x ∷ []) →
        without_repeats (y ∷ seen) (xs ++ x ∷ []) ≡ without_repeats (y ∷ seen) xs ++ (if (name_eq x y || has_name x seen) || has_name x xs then [] else x ∷ []) →
        (if b then without_repeats seen (xs ++ x ∷ []) else y ∷ without_repeats (y ∷ seen) (xs ++ x ∷ [])) ≡ (if b then without_repeats seen xs else y ∷ without_repeats (y ∷ seen) xs) ++ (if has_name x seen || (name_eq x y || has_name x xs) then [] else x ∷ [])
    go true e h k = h ∙ ap (λ b. without_repeats seen xs ++ (if b then [] else x ∷ [])) (skip (name_eq x y) refl e)
    go false e h k = ap (λ l. y ∷ l) k ∙ ap (λ b. y ∷ (without_repeats (y ∷ seen) xs ++ (if b then [] else x ∷ []))) (turn (has_name x seen) (name_eq x y) (has_name x xs))

pub once_has : (seen xs : List (List ℕ)) (x : List ℕ) → has_name x seen ≡ false → has_name x (without_repeats seen xs) ≡ has_name x xs
once_has seen [] x h = refl
once_has seen (y ∷ xs) x h = go (has_name y seen) refl (name_eq x y) refl (once_has seen xs x h) (once_has (y ∷ seen) xs x)
  where
    go : (b : Bool) → has_name y seen ≡ b → (c : Bool) → name_eq x y ≡ c → has_name x (without_repeats seen xs) ≡ has_name x xs → (has_name x (y ∷ seen) ≡ false → has_name x (without_repeats (y ∷ seen) xs) ≡ has_name x xs) → has_name x (if b then without_repeats seen xs else y ∷ without_repeats (y ∷ seen) xs) ≡ (name_eq x y || has_name x xs)
    go true e true d r q = absurd (let z : false ≡ true = sym h ∙ ap (λ z. has_name z seen) (name_same x y d) ∙ e in cc)
    go true e false d r q = r ∙ ap (λ b. b || has_name x xs) (sym d)
    go false e true d r q = ap (λ b. b || has_name x (without_repeats (y ∷ seen) xs)) d ∙ ap (λ b. b || has_name x xs) (sym d)
    go false e false d r q = ap (λ b. b || has_name x (without_repeats (y ∷ seen) xs)) d ∙ q (ap (λ b. b || has_name x seen) d ∙ h) ∙ ap (λ b. b || has_name x xs) (sym d)

-- no name of these stands twice
seen_none : (seen bs : List (List ℕ)) (x : List ℕ) → has_name x seen ≡ true → has_name x (without_repeats seen bs) ≡ false
seen_none seen [] x h = refl
seen_none seen (b ∷ bs) x h = go (has_name b seen) refl (seen_none seen bs x h) (seen_none (b ∷ seen) bs x (more (name_eq x b) h))
  where
    more : {a : Bool} (c : Bool) → a ≡ true → (c || a) ≡ true
    more true e = refl
    more false e = e

    other : (c : Bool) → name_eq x b ≡ c → has_name b seen ≡ false → c ≡ false
    other true e k = absurd (let z : true ≡ false = sym h ∙ ap (λ y. has_name y seen) (name_same x b e) ∙ k in cc)
    other false e k = refl

    go : (c : Bool) → has_name b seen ≡ c → has_name x (without_repeats seen bs) ≡ false → has_name x (without_repeats (b ∷ seen) bs) ≡ false → has_name x (if c then without_repeats seen bs else b ∷ without_repeats (b ∷ seen) bs) ≡ false
    go true e r q = r
    go false e r q = ap (λ c. c || has_name x (without_repeats (b ∷ seen) bs)) (other (name_eq x b) refl e) ∙ q

pub once_apart : (seen bs : List (List ℕ)) → AreApart (without_repeats seen bs)
once_apart seen [] = tt
once_apart seen (b ∷ bs) = go (has_name b seen) (once_apart seen bs) (once_apart (b ∷ seen) bs)
  where
    go : (c : Bool) → AreApart (without_repeats seen bs) → AreApart (without_repeats (b ∷ seen) bs) → AreApart (if c then without_repeats seen bs else b ∷ without_repeats (b ∷ seen) bs)
    go true r q = r
    go false r q = (seen_none (b ∷ seen) bs b (ap (λ c. c || has_name b seen) (name_refl b)), q)

-- ---- rows

-- where the name isn't, no row has more
others : (k : ℕ) (x : List ℕ) (f : List ℕ → List ℕ) (ns : List (List ℕ)) → has_name x ns ≡ false → map (λ b. f b ++ place_if k x b) ns ≡ map f ns
others k x f [] h = refl
others k x f (n ∷ ns) h =
    let p = or_false (name_eq x n) (has_name x ns) h in
    λ i. (ap (λ b. f n ++ (if b then k ∷ [] else [])) p.0 ∙ append-nil (f n)) i ∷ others k x f ns p.1 i

-- where it stands, its row has one place more
row_more : (k : ℕ) (x : List ℕ) (f : List ℕ → List ℕ) (ns : List (List ℕ)) → AreApart ns → (at : ℕ) → position (name_eq x) ns ≡ Some at → add_at at k (map f ns) ≡ map (λ b. f b ++ place_if k x b) ns
row_more k x f [] a at e = cc
row_more k x f (n ∷ ns) a at e = go (name_eq x n) refl (position (name_eq x) ns) refl (sym (position_step x n ns) ∙ e) (row_more k x f ns a.1)
  where
    go : (b : Bool) → name_eq x n ≡ b → (o : Option ℕ) → position (name_eq x) ns ≡ o → (if b then Some 0 else next o) ≡ Some at →
        ((m : ℕ) → position (name_eq x) ns ≡ Some m → add_at m k (map f ns) ≡ map (λ b. f b ++ place_if k x b) ns) → add_at at k (f n ∷ map f ns) ≡ (f n ++ place_if k x n) ∷ map (λ b. f b ++ place_if k x b) ns
    go true d o p q ih =
        let zero_at : 0 ≡ at = cc in
        ap (λ z. add_at z k (f n ∷ map f ns)) (sym zero_at)
        ∙ (λ i. (f n ++ (if sym d i then k ∷ [] else [])) ∷ sym (others k x f ns (ap (λ z. has_name z ns) (name_same x n d) ∙ a.0)) i)
    go false d None p q ih = cc
    go false d (Some m) p q ih =
        let at_is : suc m ≡ at = cc in
        ap (λ z. add_at z k (f n ∷ map f ns)) (sym at_is)
        ∙ (λ i. (sym (append-nil (f n)) ∙ ap (λ b. f n ++ (if b then k ∷ [] else [])) (sym d)) i ∷ ih m p i)

pub none_there : (x : List ℕ) (ns : List (List ℕ)) → position (name_eq x) ns ≡ None → has_name x ns ≡ false
none_there x [] e = refl
none_there x (n ∷ ns) e = go (name_eq x n) (position (name_eq x) ns) refl (sym (position_step x n ns) ∙ e) (none_there x ns)
  where
    go : (b : Bool) (o : Option ℕ) → position (name_eq x) ns ≡ o → (if b then Some 0 else next o) ≡ None → (position (name_eq x) ns ≡ None → has_name x ns ≡ false) → (b || has_name x ns) ≡ false
    go true o p q ih = cc
    go false None p q ih = ih p
    go false (Some m) p q ih = cc

some_there : (x : List ℕ) (ns : List (List ℕ)) (at : ℕ) → position (name_eq x) ns ≡ Some at → has_name x ns ≡ true
some_there x [] at e = cc
some_there x (n ∷ ns) at e = go (name_eq x n) (position (name_eq x) ns) refl (sym (position_step x n ns) ∙ e) (some_there x ns)
  where
    go : (b : Bool) (o : Option ℕ) → position (name_eq x) ns ≡ o → (if b then Some 0 else next o) ≡ Some at → ((m : ℕ) → position (name_eq x) ns ≡ Some m → has_name x ns ≡ true) → (b || has_name x ns) ≡ true
    go true o p q ih = refl
    go false None p q ih = cc
    go false (Some m) p q ih = ih m p

-- ---- the table

pub record IsTable (xs : List (List ℕ)) (t : Table) : Type 0 where
  pub names : t.names ≡ without_repeats [] xs
  pub rows : t.rows ≡ map (places_from 0 xs) t.names

map_same : (f g : List ℕ → List ℕ) → ((b : List ℕ) → f b ≡ g b) → (ns : List (List ℕ)) → map f ns ≡ map g ns
map_same f g h [] = refl
map_same f g h (n ∷ ns) = λ i. h n i ∷ map_same f g h ns i

noted_is : (xs : List (List ℕ)) (x : List ℕ) (t : Table) → IsTable xs t → IsTable (xs ++ x ∷ []) (noted t x (length xs))
noted_is xs x t h = go (position (name_eq x) t.names) refl
  where
    k : ℕ
    k = length xs

    more : (b : List ℕ) → places_from 0 xs b ++ place_if k x b ≡ places_from 0 (xs ++ x ∷ []) b
    more b = let e : length xs + 0 ≡ length xs = omega arith in sym (places_push 0 xs x b ∙ ap (λ z. places_from 0 xs b ++ place_if z x b) e)

    same_has : has_name x t.names ≡ has_name x xs
    same_has = ap (has_name x) h.names ∙ once_has [] xs x refl

    apart : AreApart t.names
    apart = subst AreApart (sym h.names) (once_apart [] xs)

    go : (o : Option ℕ) → position (name_eq x) t.names ≡ o → IsTable (xs ++ x ∷ []) (noted_at t x k o)
    go None e =
        let out : has_name x xs ≡ false = sym same_has ∙ none_there x t.names e in
        record {
          names = ap (λ l. l ++ x ∷ []) h.names ∙ sym (once_push [] xs x ∙ ap (λ b. without_repeats [] xs ++ (if b then [] else x ∷ [])) out);
          rows =
              (λ i. (h.rows ∙ sym (others k x (places_from 0 xs) t.names (none_there x t.names e)) ∙ map_same _ _ more t.names) i
              ++ (ap (λ l. l ++ k ∷ []) (sym (no_places 0 xs x out)) ∙ ap (λ b. places_from 0 xs x ++ (if b then k ∷ [] else [])) (sym (name_refl x)) ∙ more x) i ∷ [])
              ∙ sym (map_push (places_from 0 (xs ++ x ∷ [])) t.names x);
        }
    go (Some at) e =
        let within : has_name x xs ≡ true = sym same_has ∙ some_there x t.names at e in
        record {
          names = h.names ∙ sym (append-nil (without_repeats [] xs)) ∙ sym (once_push [] xs x ∙ ap (λ b. without_repeats [] xs ++ (if b then [] else x ∷ [])) within);
          rows = ap (add_at at k) h.rows ∙ row_more k x (places_from 0 xs) t.names apart at e ∙ map_same _ _ more t.names;
        }

noted_all : (ys xs : List (List ℕ)) (t : Table) → IsTable xs t → IsTable (xs ++ ys) (noted_from t (length xs) ys)
noted_all [] xs t h = subst (λ l. IsTable l t) (sym (append-nil xs)) h
noted_all (y ∷ ys) xs t h =
    subst (λ l. IsTable l (noted_from (noted t y (length xs)) (suc (length xs)) ys)) (append_assoc xs (y ∷ []) ys)
    (subst (λ n. IsTable ((xs ++ y ∷ []) ++ ys) (noted_from (noted t y (length xs)) n ys)) (longer xs) (noted_all ys (xs ++ y ∷ []) (noted t y (length xs)) (noted_is xs y t h)))
  where
    longer : (l : List (List ℕ)) → length (l ++ y ∷ []) ≡ suc (length l)
    longer [] = refl
    longer (z ∷ l) = ap suc (longer l)

-- that of some names
pub tabled_is : (xs : List (List ℕ)) → IsTable xs (tabled xs)
tabled_is xs = noted_all xs [] no_names (record { names = refl; rows = refl })
