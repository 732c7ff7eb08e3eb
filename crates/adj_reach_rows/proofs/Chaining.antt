-- Places are chained one after another.
use Rattle.std.proofs.Common.{◌≡◌, ℕ, ◌+◌, ◌-◌, ◌<◌, ◌≤◌, ◌⊎◌, inl, inr, List, [], ◌∷◌, ◌++◌, length, get_or, set, replicate, sym, ap, ◌∙◌, arith, length-set}
use Rattle.std.proofs.lemmas.Bool.{cases_eq, cases_lt}
use Rattle.std.proofs.lemmas.List.{get_or-set_same, get_or-set_other, get_or-replicate, get_or_append_left, get_or_push, get_or_read, length_push, length-replicate}
use Rattle.adj_reach_rows.specs.Chains.{AreChains, last_of}
use Rattle.adj_reach_rows.proofs.Listing.{last_more_same, last_more_other}

-- the chains of the first places
pub record Chained (n : ℕ) (xs : List ℕ) (place : ℕ) (hs ns : List ℕ) : Type 0 where
  pub count : length hs ≡ n
  pub size : length ns ≡ place
  pub heads : (x : ℕ) → x < n → get_or hs x 0 ≡ last_of x xs place
  pub next : (k : ℕ) → k < place → get_or ns k 0 ≡ last_of (get_or xs k 0) xs k

pub chained_none : (n : ℕ) (xs hs ns : List ℕ) → hs ≡ replicate n 0 → ns ≡ [] → Chained n xs 0 hs ns
chained_none n xs hs ns e f = record {
  count = ap length e ∙ length-replicate n 0;
  size = ap length f;
  heads = λ x l. ap (λ z. get_or z x 0) e ∙ get_or-replicate n x 0 0 l;
  next = λ k l. absurd (omega (arith, l));
}

pub chained_more : (n : ℕ) (xs : List ℕ) (place : ℕ) (hs ns : List ℕ) (x h : ℕ) (ms : List ℕ) → Chained n xs place hs ns → get_or xs place 0 ≡ x → x < n → h ≡ get_or hs x 0 → ms ≡ ns ++ h ∷ [] → Chained n xs (place + 1) (set hs x (place + 1)) ms
chained_more n xs place hs ns x h ms c e l h_is m = record {
  count = length-set hs x (place + 1) ∙ c.count;
  size = ap length m ∙ length_push ns h ∙ ap (λ z. z + 1) c.size;
  heads = λ y k. heads y (cases_eq y x) k;
  next = λ k j. ap (λ z. get_or z k 0) m ∙ next k (cases_lt k place) j;
}
  where
    inside : x < length hs
    inside = let s = c.count in omega (arith, l, s)

    heads : (y : ℕ) → (y ≡ x) ⊎ (y ≡ x → ⊥) → y < n → get_or (set hs x (place + 1)) y 0 ≡ last_of y xs (place + 1)
    heads y (inl p) k = ap (λ z. get_or (set hs x (place + 1)) z 0) p ∙ get_or-set_same hs x (place + 1) 0 inside ∙ sym (last_more_same y xs place (e ∙ sym p))
    heads y (inr f) k = get_or-set_other hs x y (place + 1) 0 f ∙ c.heads y k ∙ sym (last_more_other y xs place (λ p. f (sym p ∙ e)))

    next : (k : ℕ) → (k < place) ⊎ (place ≤ k) → k < place + 1 → get_or (ns ++ h ∷ []) k 0 ≡ last_of (get_or xs k 0) xs k
    next k (inl p) j = let s = c.size in get_or_append_left ns (h ∷ []) 0 k (omega (arith, p, s)) ∙ c.next k p
    next k (inr p) j =
        let q : k ≡ place = omega (arith, p, j) in
        get_or_push ns h 0 k (c.size ∙ sym q) ∙ h_is ∙ c.heads x l ∙ (λ i. last_of (sym (ap (λ z. get_or xs z 0) q ∙ e) i) xs (sym q i))

pub chained_all : (n : ℕ) (xs : List ℕ) (place : ℕ) (hs ns : List ℕ) → Chained n xs place hs ns → place ≡ length xs → AreChains n xs hs ns
chained_all n xs place hs ns c e = record {
  count = c.count;
  size = c.size ∙ e;
  heads = λ x l. c.heads x l ∙ ap (last_of x xs) e;
  next = λ k l. c.next k (omega (arith, l, e));
}

-- ---- what is read

-- the head of a chain
pub head_is : (n : ℕ) (xs hs ns : List ℕ) (x v : ℕ) → AreChains n xs hs ns → x < n → v ≡ get_or hs x v → v ≡ last_of x xs (length xs)
head_is n xs hs ns x v c l e = let s = c.count in get_or_read hs x v (omega (arith, l, s)) e 0 ∙ c.heads x l

-- the next of a chain, where it stands at a place counted from 1
pub next_is : (n : ℕ) (xs hs ns : List ℕ) (x rest v : ℕ) → AreChains n xs hs ns → 0 < rest → rest ≤ length xs → get_or xs (rest - 1) 0 ≡ x → v ≡ get_or ns (rest - 1) v → v ≡ last_of x xs (rest - 1)
next_is n xs hs ns x rest v c some l e h =
    let s = c.size in
    let k : rest - 1 < length xs = omega (arith, some, l) in
    get_or_read ns (rest - 1) v (omega (arith, k, s)) h 0 ∙ c.next (rest - 1) k ∙ ap (λ z. last_of z xs (rest - 1)) e
