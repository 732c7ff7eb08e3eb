-- Lists of names and members of lists.
use Rattle.std.proofs.Common.{ℕ, Bor, ◌+◌, ◌<◌, length, get_or, drop, ◌≡◌, Bool, true, false, List, [], ◌∷◌, refl, ap, sym, ◌∙◌, subst}
use Rattle.std.specs.Prelude.{◌||◌, not, filter, map, if◌then◌else◌}
use Rattle.std.specs.Str.{bytes_eq}
use Rattle.std.proofs.lemmas.List.{drop_more}
use Rattle.adj_tree.specs.Code.{name_eq}
use Rattle.adj_tree.proofs.Names.{name_same, name_eq-bytes}
use Rattle.def_meaning.specs.Apart.{has_name, AreApart}
use Rattle.def_names.specs.Statements.{At}
use Rattle.def_names.specs.Variables.{Name, first_places}

-- what isn't true is false
pub not_true : (b : Bool) → (b ≡ true → ⊥) → b ≡ false
not_true true h = absurd (h refl)
not_true false h = refl

-- the names at some places
abbrev pub names_at : List (At Name) → List Name
names_at ps = map (λ p. p.1) ps

-- a name that isn't among some isn't among fewer
fewer_names : (x y : Name) (ps : List (At Name)) → has_name x (names_at ps) ≡ false → has_name x (names_at (filter (λ q. not (name_eq y q.1)) ps)) ≡ false
fewer_names x y [] h = refl
fewer_names x y (q ∷ ps) h = go (name_eq y q.1) (name_eq x q.1) refl h (λ g. fewer_names x y ps g)
  where
    go : (b c : Bool) → name_eq x q.1 ≡ c → (c || has_name x (names_at ps)) ≡ false → (has_name x (names_at ps) ≡ false → has_name x (names_at (filter (λ q. not (name_eq y q.1)) ps)) ≡ false) → has_name x (names_at (if not b then q ∷ filter (λ q. not (name_eq y q.1)) ps else filter (λ q. not (name_eq y q.1)) ps)) ≡ false
    go b true e h ih = cc
    go true false e h ih = ih h
    go false false e h ih = ap (λ c. c || has_name x (names_at (filter (λ q. not (name_eq y q.1)) ps))) e ∙ ih h

-- and a name that is taken out isn't there
taken_out : (x : Name) (ps : List (At Name)) → has_name x (names_at (filter (λ q. not (name_eq x q.1)) ps)) ≡ false
taken_out x [] = refl
taken_out x (q ∷ ps) = go (name_eq x q.1) refl (taken_out x ps)
  where
    go : (b : Bool) → name_eq x q.1 ≡ b → has_name x (names_at (filter (λ q. not (name_eq x q.1)) ps)) ≡ false → has_name x (names_at (if not b then q ∷ filter (λ q. not (name_eq x q.1)) ps else filter (λ q. not (name_eq x q.1)) ps)) ≡ false
    go true e ih = ih
    go false e ih = ap (λ c. c || has_name x (names_at (filter (λ q. not (name_eq x q.1)) ps))) e ∙ ih

-- names that are apart stay so where one is taken out
apart_without : (x : Name) (ps : List (At Name)) → AreApart (names_at ps) → AreApart (names_at (filter (λ q. not (name_eq x q.1)) ps))
apart_without x [] h = h
apart_without x (q ∷ ps) h = go (name_eq x q.1) (apart_without x ps h.1)
  where
    go : (b : Bool) → AreApart (names_at (filter (λ q. not (name_eq x q.1)) ps)) → AreApart (names_at (if not b then q ∷ filter (λ q. not (name_eq x q.1)) ps else filter (λ q. not (name_eq x q.1)) ps))
    go true ih = ih
    go false ih = (fewer_names q.1 x ps h.0, ih)

pub first_places-apart : (ps : List (At Name)) → AreApart (names_at (first_places ps))
first_places-apart [] = tt
first_places-apart (p ∷ ps) = (taken_out p.1 (first_places ps), apart_without p.1 (first_places ps) (first_places-apart ps))

-- ---- the names that stand at the first places

-- another name than the one that is taken out stays
other_stays : (x y : Name) (ps : List (At Name)) → name_eq x y ≡ false → has_name x (names_at (filter (λ q. not (name_eq y q.1)) ps)) ≡ has_name x (names_at ps)
other_stays x y [] n = refl
other_stays x y (q ∷ ps) n = go (name_eq y q.1) refl (other_stays x y ps n)
  where
    go : (b : Bool) → name_eq y q.1 ≡ b → has_name x (names_at (filter (λ q. not (name_eq y q.1)) ps)) ≡ has_name x (names_at ps) → has_name x (names_at (if not b then q ∷ filter (λ q. not (name_eq y q.1)) ps else filter (λ q. not (name_eq y q.1)) ps)) ≡ (name_eq x q.1 || has_name x (names_at ps))
    go true e ih =
        let apart : name_eq x q.1 ≡ false = subst (λ w. name_eq x w ≡ false) (name_same y q.1 e) n in
        ih ∙ sym (ap (λ c. c || has_name x (names_at ps)) apart)
    go false e ih = ap (λ c. name_eq x q.1 || c) ih

pub first_places-stand : (x : Name) (ps : List (At Name)) → has_name x (names_at (first_places ps)) ≡ has_name x (names_at ps)
first_places-stand x [] = refl
first_places-stand x (p ∷ ps) = go (name_eq x p.1) refl (first_places-stand x ps)
  where
    go : (b : Bool) → name_eq x p.1 ≡ b → has_name x (names_at (first_places ps)) ≡ has_name x (names_at ps) → (b || has_name x (names_at (filter (λ q. not (name_eq p.1 q.1)) (first_places ps)))) ≡ (b || has_name x (names_at ps))
    go true e ih = refl
    go false e ih = other_stays x p.1 (first_places ps) e ∙ ih

-- ---- looking for names among slices

-- the names that slices are
abbrev pub texts_of : List (Bor (List ℕ)) → List Name
texts_of ks = map (λ k. k.now) ks

-- a look for a name among what is left of the slices
pub has_first : (x y : List ℕ) (ks : List (Bor (List ℕ))) (i : ℕ) (d : Bor (List ℕ)) (t : Bool) → y ≡ x → i < length ks → t ≡ bytes_eq y (get_or ks i d).now → has_name x (map (λ k. k.now) (drop i ks)) ≡ (t || has_name x (map (λ k. k.now) (drop (i + 1) ks)))
has_first x y ks i d t p lt e =
    ap (λ z. has_name x (map (λ k. k.now) z)) (drop_more ks i d lt)
    ∙ ap (λ b. b || has_name x (map (λ k. k.now) (drop (i + 1) ks))) (name_eq-bytes x (get_or ks i d).now ∙ ap (λ z. bytes_eq z (get_or ks i d).now) (sym p) ∙ sym e)
