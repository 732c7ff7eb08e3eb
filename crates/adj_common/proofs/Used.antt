-- The units that a search finds for a block are those that use it.
use Rattle.std.proofs.Common.{◌≡◌, ◌⊎◌, inl, inr, ℕ, zero, suc, ◌+◌, ◌-◌, Bool, true, false, List, [], ◌∷◌, ◌++◌, length, map, Option, Some, None, refl, sym, ap, ◌∙◌, subst, arith, append_assoc, if◌then◌else◌}
use Rattle.std.specs.Prelude.{◌==◌, ◌||◌, Contains}
use Rattle.std.specs.List.{slice_get}
use Rattle.std.proofs.lemmas.List.Elements.{Contains-append_left, Contains-push, Contains-push_cases}
use Rattle.adj_tree.specs.Code.{name_eq}
use Rattle.adj_tree.proofs.Names.{nat_same}
use Rattle.def_meaning.specs.Apart.{has_name}
use Rattle.adj_tree.specs.Common.{Common, Shared}
use Rattle.def_common.specs.Blocks.{declares}
use Rattle.adj_reach.proofs.Members.{is_first, is_later, is_among, is_none}
use Rattle.adj_common.specs.Entries.{block_names}
use Rattle.adj_common.specs.Texts.{names_of_text, owners_from}
use Rattle.adj_common.specs.Layouts.{unless, with_unit, units_from, units_of_row}
use Rattle.adj_common.proofs.Tabled.{places_from}
use Rattle.adj_common.proofs.Owned.{name_turned, at_end, longer}

-- ---- the units of a row

got_contains : {A : Type 0} (l : List A) (k : ℕ) (a : A) → slice_get l k ≡ Some a → Contains l a
got_contains [] k a e = cc
got_contains (x ∷ l) zero a e = let same : x ≡ a = cc in is_first a x l same
got_contains (x ∷ l) (suc k) a e = is_later a x l (got_contains l k a e)

with_kept : (us : List ℕ) (o : Option ℕ) (u : ℕ) → Contains us u → Contains (with_unit us o) u
with_kept us None u c = c
with_kept us (Some v) u c = go (slice_get us (length us - 1))
  where
    then_kept : (b : Bool) → Contains (if b then us else us ++ v ∷ []) u
    then_kept true = c
    then_kept false = Contains-append_left us (v ∷ []) u c

    go : (p : Option ℕ) → Contains (unless p us v) u
    go None = Contains-append_left us (v ∷ []) u c
    go (Some x) = then_kept (x == v)

with_new : (us : List ℕ) (u : ℕ) → Contains (with_unit us (Some u)) u
with_new us u = go (slice_get us (length us - 1)) refl
  where
    then_new : (x : ℕ) → slice_get us (length us - 1) ≡ Some x → (b : Bool) → (x == u) ≡ b → Contains (if b then us else us ++ u ∷ []) u
    then_new x e true d = subst (Contains us) (nat_same x u d) (got_contains us (length us - 1) x e)
    then_new x e false d = Contains-push us u

    go : (p : Option ℕ) → slice_get us (length us - 1) ≡ p → Contains (unless p us u) u
    go None e = Contains-push us u
    go (Some x) e = then_new x e (x == u) refl

with_only : (us : List ℕ) (o : Option ℕ) (u : ℕ) → Contains (with_unit us o) u → Contains us u ⊎ (o ≡ Some u)
with_only us None u c = inl c
with_only us (Some v) u c = go (slice_get us (length us - 1)) c
  where
    pushed : Contains (us ++ v ∷ []) u → Contains us u ⊎ (Some v ≡ Some u)
    pushed d = one (Contains-push_cases us v u d)
      where
        one : Contains us u ⊎ (v ≡ u) → Contains us u ⊎ (Some v ≡ Some u)
        one (inl x) = inl x
        one (inr x) = inr (ap Some x)

    then_only : (b : Bool) → Contains (if b then us else us ++ v ∷ []) u → Contains us u ⊎ (Some v ≡ Some u)
    then_only true d = inl d
    then_only false d = pushed d

    go : (p : Option ℕ) → Contains (unless p us v) u → Contains us u ⊎ (Some v ≡ Some u)
    go None d = pushed d
    go (Some x) d = then_only (x == v) d

from_kept : (us owners ks : List ℕ) (u : ℕ) → Contains us u → Contains (units_from us owners ks) u
from_kept us owners [] u c = c
from_kept us owners (k ∷ ks) u c = from_kept (with_unit us (slice_get owners k)) owners ks u (with_kept us (slice_get owners k) u c)

from_place : (us owners ks : List ℕ) (u k : ℕ) → Contains ks k → slice_get owners k ≡ Some u → Contains (units_from us owners ks) u
from_place us owners [] u k c e = absurd (is_none k c)
from_place us owners (j ∷ ks) u k c e = go (is_among k j ks c) (λ d. from_place (with_unit us (slice_get owners j)) owners ks u k d e)
  where
    go : (j ≡ k) ⊎ Contains ks k → (Contains ks k → Contains (units_from (with_unit us (slice_get owners j)) owners ks) u) → Contains (units_from (with_unit us (slice_get owners j)) owners ks) u
    go (inl s) r = from_kept (with_unit us (slice_get owners j)) owners ks u (subst (λ o. Contains (with_unit us o) u) (sym (ap (slice_get owners) s ∙ e)) (with_new us u))
    go (inr d) r = r d

from_only : (us owners ks : List ℕ) (u : ℕ) → Contains (units_from us owners ks) u → Contains us u ⊎ ((k : ℕ) × Contains ks k × (slice_get owners k ≡ Some u))
from_only us owners [] u c = inl c
from_only us owners (j ∷ ks) u c = go (from_only (with_unit us (slice_get owners j)) owners ks u c)
  where
    here : Contains us u ⊎ (slice_get owners j ≡ Some u) → Contains us u ⊎ ((k : ℕ) × Contains (j ∷ ks) k × (slice_get owners k ≡ Some u))
    here (inl d) = inl d
    here (inr e) = inr (j, is_first j j ks refl, e)

    go : Contains (with_unit us (slice_get owners j)) u ⊎ ((k : ℕ) × Contains ks k × (slice_get owners k ≡ Some u)) → Contains us u ⊎ ((k : ℕ) × Contains (j ∷ ks) k × (slice_get owners k ≡ Some u))
    go (inl d) = here (with_only us (slice_get owners j) u d)
    go (inr d) = inr (d.0, is_later d.0 j ks d.1, d.2)

-- ---- the units that declare a block

abbrev pub DeclaredAt : List ℕ → List Shared → ℕ → Type 0
DeclaredAt b ps u = (s : Shared) × (slice_get ps u ≡ Some s) × (declares b s ≡ true)

-- over the statements of one unit
commons_only : (b : List ℕ) (i : ℕ) (front : List ℕ) (cs : List Common) (rest : List (List ℕ)) (after : List ℕ) (k : ℕ) → Contains (places_from (length front) (block_names cs ++ rest) b) k →
    ((has_name b (block_names cs) ≡ true) × (slice_get (front ++ (map (λ c. i) cs ++ after)) k ≡ Some i)) ⊎ Contains (places_from (length (front ++ map (λ c. i) cs)) rest b) k
commons_only b i front [] rest after k c = inr (subst (λ l. Contains (places_from (length l) rest b) k) (sym (nothing front)) c)
  where
    nothing : (l : List ℕ) → l ++ [] ≡ l
    nothing [] = refl
    nothing (x ∷ l) = ap (λ z. x ∷ z) (nothing l)
commons_only b i front (m ∷ cs) rest after k c =
    go (name_eq m.block b) refl c
    (λ d. shifted (commons_only b i (front ++ i ∷ []) cs rest after k (subst (λ n. Contains (places_from n (block_names cs ++ rest) b) k) (sym (longer front i)) d)))
  where
    Goal : Type 0
    Goal = ((has_name b (block_names (m ∷ cs)) ≡ true) × (slice_get (front ++ (map (λ c. i) (m ∷ cs) ++ after)) k ≡ Some i)) ⊎ Contains (places_from (length (front ++ map (λ c. i) (m ∷ cs))) rest b) k

    second : {q : Bool} (p : Bool) → q ≡ true → (p || q) ≡ true
    second true e = refl
    second false e = e

    shifted : ((has_name b (block_names cs) ≡ true) × (slice_get ((front ++ i ∷ []) ++ (map (λ c. i) cs ++ after)) k ≡ Some i)) ⊎ Contains (places_from (length ((front ++ i ∷ []) ++ map (λ c. i) cs)) rest b) k → Goal
    shifted (inl d) = inl (second (name_eq b m.block) d.0, ap (λ l. slice_get l k) (sym (append_assoc front (i ∷ []) (map (λ c. i) cs ++ after))) ∙ d.1)
    shifted (inr d) = inr (subst (λ l. Contains (places_from (length l) rest b) k) (append_assoc front (i ∷ []) (map (λ c. i) cs)) d)

    first : name_eq m.block b ≡ true → length front ≡ k → Goal
    first e s = inl (ap (λ p. p || has_name b (block_names cs)) (name_turned b m.block ∙ e), ap (slice_get (front ++ (i ∷ (map (λ c. i) cs ++ after)))) (sym s) ∙ at_end front i (map (λ c. i) cs ++ after))

    go : (p : Bool) → name_eq m.block b ≡ p → Contains (if p then length front ∷ places_from (suc (length front)) (block_names cs ++ rest) b else places_from (suc (length front)) (block_names cs ++ rest) b) k → (Contains (places_from (suc (length front)) (block_names cs ++ rest) b) k → Goal) → Goal
    go true e d r = either (is_among k (length front) (places_from (suc (length front)) (block_names cs ++ rest) b) d)
      where
        either : (length front ≡ k) ⊎ Contains (places_from (suc (length front)) (block_names cs ++ rest) b) k → Goal
        either (inl s) = first e s
        either (inr z) = r z
    go false e d r = r d

commons_rest : (b : List ℕ) (i : ℕ) (front : List ℕ) (cs : List Common) (rest : List (List ℕ)) (k : ℕ) → Contains (places_from (length (front ++ map (λ c. i) cs)) rest b) k → Contains (places_from (length front) (block_names cs ++ rest) b) k
commons_rest b i front [] rest k c = subst (λ l. Contains (places_from (length l) rest b) k) (nothing front) c
  where
    nothing : (l : List ℕ) → l ++ [] ≡ l
    nothing [] = refl
    nothing (x ∷ l) = ap (λ z. x ∷ z) (nothing l)
commons_rest b i front (m ∷ cs) rest k c =
    go (name_eq m.block b)
    (subst (λ n. Contains (places_from n (block_names cs ++ rest) b) k) (longer front i) (commons_rest b i (front ++ i ∷ []) cs rest k (subst (λ l. Contains (places_from (length l) rest b) k) (sym (append_assoc front (i ∷ []) (map (λ c. i) cs))) c)))
  where
    go : (p : Bool) → Contains (places_from (suc (length front)) (block_names cs ++ rest) b) k → Contains (if p then length front ∷ places_from (suc (length front)) (block_names cs ++ rest) b else places_from (suc (length front)) (block_names cs ++ rest) b) k
    go true d = is_later k (length front) (places_from (suc (length front)) (block_names cs ++ rest) b) d
    go false d = d

commons_there : (b : List ℕ) (i : ℕ) (front : List ℕ) (cs : List Common) (rest : List (List ℕ)) (after : List ℕ) → has_name b (block_names cs) ≡ true →
    (k : ℕ) × Contains (places_from (length front) (block_names cs ++ rest) b) k × (slice_get (front ++ (map (λ c. i) cs ++ after)) k ≡ Some i)
commons_there b i front [] rest after h = cc
commons_there b i front (m ∷ cs) rest after h =
    go (name_eq m.block b) (name_turned b m.block) h
    (λ w. let r = commons_there b i (front ++ i ∷ []) cs rest after w in
    (r.0, subst (λ n. Contains (places_from n (block_names cs ++ rest) b) r.0) (longer front i) r.1, ap (λ l. slice_get l r.0) (sym (append_assoc front (i ∷ []) (map (λ c. i) cs ++ after))) ∙ r.2))
  where
    go : (p : Bool) → name_eq b m.block ≡ p → (name_eq b m.block || has_name b (block_names cs)) ≡ true →
        (has_name b (block_names cs) ≡ true → (k : ℕ) × Contains (places_from (suc (length front)) (block_names cs ++ rest) b) k × (slice_get (front ++ (i ∷ (map (λ c. i) cs ++ after))) k ≡ Some i)) →
        (k : ℕ) × Contains (if p then length front ∷ places_from (suc (length front)) (block_names cs ++ rest) b else places_from (suc (length front)) (block_names cs ++ rest) b) k × (slice_get (front ++ (i ∷ (map (λ c. i) cs ++ after))) k ≡ Some i)
    go true e w r = (length front, is_first (length front) (length front) (places_from (suc (length front)) (block_names cs ++ rest) b) refl, at_end front i (map (λ c. i) cs ++ after))
    go false e w r = r (sym (ap (λ p. p || has_name b (block_names cs)) e) ∙ w)

text_only : (b : List ℕ) (i : ℕ) (front : List ℕ) (ps : List Shared) (k u : ℕ) → Contains (places_from (length front) (names_of_text ps) b) k → slice_get (front ++ owners_from i ps) k ≡ Some u → (j : ℕ) × (u ≡ j + i) × DeclaredAt b ps j
text_only b i front [] k u c e = absurd (is_none k c)
text_only b i front (s ∷ ps) k u c e =
    go (commons_only b i front s.commons (names_of_text ps) (owners_from (suc i) ps) k c)
    (λ d. text_only b (suc i) (front ++ map (λ c. i) s.commons) ps k u d (ap (λ l. slice_get l k) (append_assoc front (map (λ c. i) s.commons) (owners_from (suc i) ps)) ∙ e))
  where
    go : ((declares b s ≡ true) × (slice_get (front ++ (map (λ c. i) s.commons ++ owners_from (suc i) ps)) k ≡ Some i)) ⊎ Contains (places_from (length (front ++ map (λ c. i) s.commons)) (names_of_text ps) b) k →
        (Contains (places_from (length (front ++ map (λ c. i) s.commons)) (names_of_text ps) b) k → (j : ℕ) × (u ≡ j + suc i) × DeclaredAt b ps j) → (j : ℕ) × (u ≡ j + i) × DeclaredAt b (s ∷ ps) j
    go (inl d) r = let same : i ≡ u = (let q : Some i ≡ Some u = sym d.1 ∙ e in cc) in (0, omega (arith, same), (s, refl, d.0))
    go (inr d) r = let x = r d in let q : u ≡ x.0 + suc i = x.1 in (suc x.0, omega (arith, q), x.2)

text_there : (b : List ℕ) (i : ℕ) (front : List ℕ) (ps : List Shared) (j : ℕ) → DeclaredAt b ps j → (k : ℕ) × Contains (places_from (length front) (names_of_text ps) b) k × (slice_get (front ++ owners_from i ps) k ≡ Some (j + i))
text_there b i front [] j d = absurd (let z : None ≡ Some d.0 = d.1 in cc)
text_there b i front (s ∷ ps) zero d =
    let same : s ≡ d.0 = (let z : Some s ≡ Some d.0 = d.1 in cc) in
    let r = commons_there b i front s.commons (names_of_text ps) (owners_from (suc i) ps) (ap (declares b) same ∙ d.2) in
    let e : i ≡ 0 + i = omega arith in
    (r.0, r.1, r.2 ∙ ap Some e)
text_there b i front (s ∷ ps) (suc j) d =
    let r = text_there b (suc i) (front ++ map (λ c. i) s.commons) ps j (d.0, d.1, d.2) in
    let e : j + suc i ≡ suc j + i = omega arith in
    (r.0, commons_rest b i front s.commons (names_of_text ps) r.0 r.1, ap (λ l. slice_get l r.0) (sym (append_assoc front (map (λ c. i) s.commons) (owners_from (suc i) ps))) ∙ r.2 ∙ ap Some e)

module _ (b : List ℕ) (ps : List Shared) where
  abbrev pub declaring : List ℕ
  declaring = units_of_row (owners_from 0 ps) (places_from 0 (names_of_text ps) b)

  pub declaring_only : (u : ℕ) → Contains declaring u → DeclaredAt b ps u
  declaring_only u c = go (from_only [] (owners_from 0 ps) (places_from 0 (names_of_text ps) b) u c)
    where
      go : Contains [] u ⊎ ((k : ℕ) × Contains (places_from 0 (names_of_text ps) b) k × (slice_get (owners_from 0 ps) k ≡ Some u)) → DeclaredAt b ps u
      go (inl d) = absurd (is_none u d)
      go (inr d) = let x = text_only b 0 [] ps d.0 u d.1 d.2 in let q : u ≡ x.0 + 0 = x.1 in let e : x.0 ≡ u = omega (arith, q) in subst (DeclaredAt b ps) e x.2

  pub declaring_all : (u : ℕ) → DeclaredAt b ps u → Contains declaring u
  declaring_all u d = let x = text_there b 0 [] ps u d in let e : u + 0 ≡ u = omega arith in from_place [] (owners_from 0 ps) (places_from 0 (names_of_text ps) b) u x.0 x.1 (x.2 ∙ ap Some e)
