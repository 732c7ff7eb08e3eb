-- What seeing the nodes of some bits of a word does to a search.
use Rattle.std.proofs.Common.{◌≡◌, ℕ, ◌+◌, ◌-◌, ◌*◌, ◌/◌, ◌%◌, ◌^◌, ◌<◌, ◌≤◌, ◌⊎◌, inl, inr, Bool, true, false, List, [], ◌∷◌, ◌++◌, length, get_or, set, bit_or, refl, sym, ap, ◌∙◌, subst, arith, length-set}
use Rattle.std.specs.Prelude.{if◌then◌else◌, All, Contains}
use Rattle.std.specs.Int.{bit_at}
use Rattle.std.proofs.lemmas.Bool.{cases_eq}
use Rattle.std.proofs.lemmas.Nat.{mul-add-lt, div-mul-add}
use Rattle.std.proofs.lemmas.Nat.Bits.{bit_at-zero}
use Rattle.std.proofs.lemmas.List.{get_or-set_same, get_or-set_other, length_push}
use Rattle.std.proofs.lemmas.List.Sums.{sum_by-set}
use Rattle.std.proofs.lemmas.List.Elements.{Contains-append_left, Contains-push, All-push}
use Rattle.adj_reach.specs.Edges.{flag}
use Rattle.adj_tree.specs.Bits.{bit}
use Rattle.adj_reach_rows.specs.Searches.{Fits, Grown, IsAwake, IsMarked, left_in}
use Rattle.adj_reach_rows.specs.declared.search.Search.{Search}
use Rattle.adj_reach_rows.proofs.Words.{or_keeps, or_has, or_only, lacking, lacks, lacking_only, joined_more}
use Rattle.adj_reach_rows.proofs.Growing.{grown_not}

module _ (a : Search) (row place bits : ℕ) (fits : Fits a) (inside : row < length a.waits.items) (there : place < a.words) (low : get_or a.seen.items (row * a.words + place) 0 < 2 ^ 64) where
  abbrev word : ℕ
  word = row * a.words + place

  abbrev s : ℕ
  s = get_or a.seen.items (row * a.words + place) 0

  abbrev new : ℕ
  new = lacking bits s low

  bound : row * a.words + place < length a.waits.items * a.words
  bound = row_bound (mul-add-lt row a.words place (length a.waits.items) inside there)
    where
      row_bound : row * a.words + place < a.words * length a.waits.items → row * a.words + place < length a.waits.items * a.words
      row_bound h = omega (arith, h)

  in_seen : row * a.words + place < length a.seen.items
  in_seen = omega (arith, bound, fits.seen)

  in_fresh : row * a.words + place < length a.fresh.items
  in_fresh = omega (arith, bound, fits.fresh)

  -- what bits the word has already is seen
  in_word : (n : ℕ) → n / 64 ≡ word → bit_at s (n % 64) ≡ 1 → bit a.seen.items n ≡ 1
  in_word n p q = ap (λ z. bit_at (get_or a.seen.items z 0) (n % 64)) p ∙ q

  -- there is nothing new
  pub mark_none : new ≡ 0 → Grown (IsMarked word bits) a a
  mark_none e = grown_not (IsMarked word bits) a fits (λ n m. seen n m.0 (lacks bits s low (n % 64) (omega arith) m.1))
    where
      seen : (n : ℕ) → n / 64 ≡ word → (bit_at s (n % 64) ≡ 1) ⊎ (bit_at new (n % 64) ≡ 1) → bit a.seen.items n ≡ 1
      seen n p (inl q) = in_word n p q
      seen n p (inr q) = let z : bit_at new (n % 64) ≡ 0 = ap (λ x. bit_at x (n % 64)) e ∙ bit_at-zero (n % 64) in absurd (omega (arith, q, z))

  module _ (b : Search) (some : new ≡ 0 → ⊥) (words : b.words ≡ a.words) (seen_is : b.seen.items ≡ set a.seen.items word (bit_or s new))
      (fresh_is : b.fresh.items ≡ set a.fresh.items word (bit_or (get_or a.fresh.items word 0) new)) (waits_is : b.waits.items ≡ set a.waits.items row true)
      (waiting_is : b.waiting.items ≡ (if flag a.waits.items row then a.waiting.items else a.waiting.items ++ row ∷ [])) where
    abbrev seen_of : List ℕ → ℕ → Type 0
    seen_of ws n = bit ws n ≡ 1

    rows : length b.waits.items ≡ length a.waits.items
    rows = ap length waits_is ∙ length-set a.waits.items row true

    -- ---- bits

    seen_has : (n : ℕ) → bit (set a.seen.items word (bit_or s new)) n ≡ 1 → bit b.seen.items n ≡ 1
    seen_has n h = subst (λ ws. bit ws n ≡ 1) (sym seen_is) h

    fresh_has : (n : ℕ) → bit (set a.fresh.items word (bit_or (get_or a.fresh.items word 0) new)) n ≡ 1 → bit b.fresh.items n ≡ 1
    fresh_has n h = subst (λ ws. bit ws n ≡ 1) (sym fresh_is) h

    marked : (n : ℕ) → IsMarked word bits n → bit b.seen.items n ≡ 1
    marked n m = seen_has n (go (lacks bits s low (n % 64) (omega arith) m.1))
      where
        go : (bit_at s (n % 64) ≡ 1) ⊎ (bit_at new (n % 64) ≡ 1) → bit (set a.seen.items word (bit_or s new)) n ≡ 1
        go (inl q) = or_keeps a.seen.items word new n in_seen (in_word n m.0 q)
        go (inr q) = or_has a.seen.items word new n in_seen m.0 q

    -- ---- rows that wait

    stays : (p : ℕ) → flag a.waits.items p ≡ true → flag b.waits.items p ≡ true
    stays p h = subst (λ ws. flag ws p ≡ true) (sym waits_is) (go (cases_eq p row))
      where
        go : (p ≡ row) ⊎ (p ≡ row → ⊥) → flag (set a.waits.items row true) p ≡ true
        go (inl e) = ap (λ q. flag (set a.waits.items row true) q) e ∙ get_or-set_same a.waits.items row true false inside
        go (inr f) = get_or-set_other a.waits.items row p true false f ∙ h

    waits : flag b.waits.items row ≡ true
    waits = subst (λ ws. flag ws row ≡ true) (sym waits_is) (get_or-set_same a.waits.items row true false inside)

    waiting_has : (p : ℕ) → Contains a.waiting.items p → Contains b.waiting.items p
    waiting_has p c = subst (λ ws. Contains ws p) (sym waiting_is) (go (flag a.waits.items row))
      where
        go : (d : Bool) → Contains (if d then a.waiting.items else a.waiting.items ++ row ∷ []) p
        go true = c
        go false = Contains-append_left a.waiting.items (row ∷ []) p c

    awake : IsAwake a → IsAwake b
    awake w = record { fresh = λ n h. fresh n (or_only a.fresh.items word new n in_fresh (subst (λ ws. bit ws n ≡ 1) fresh_is h)); waits = λ p h. one p (cases_eq p row) (subst (λ ws. flag ws p ≡ true) waits_is h) }
      where
        fresh : (n : ℕ) → (bit a.fresh.items n ≡ 1) ⊎ ((n / 64 ≡ word) × (bit_at new (n % 64) ≡ 1)) → flag b.waits.items (n / 64 / b.words) ≡ true
        fresh n (inl h) = ap (λ z. flag b.waits.items (n / 64 / z)) words ∙ stays (n / 64 / a.words) (w.fresh n h)
        fresh n (inr h) = ap (λ z. flag b.waits.items (n / 64 / z)) words ∙ ap (λ z. flag b.waits.items (z / a.words)) h.0 ∙ ap (λ z. flag b.waits.items z) (div-mul-add row a.words place there) ∙ waits

        pushed : (d : Bool) → flag a.waits.items row ≡ d → Contains (if d then a.waiting.items else a.waiting.items ++ row ∷ []) row
        pushed true e = w.waits row e
        pushed false e = Contains-push a.waiting.items row

        one : (p : ℕ) → (p ≡ row) ⊎ (p ≡ row → ⊥) → flag (set a.waits.items row true) p ≡ true → Contains b.waiting.items p
        one p (inl e) h = subst (λ q. Contains b.waiting.items q) (sym e) (subst (λ ws. Contains ws row) (sym waiting_is) (pushed (flag a.waits.items row) refl))
        one p (inr f) h = waiting_has p (w.waits p (sym (get_or-set_other a.waits.items row p true false f) ∙ h))

    -- ---- work

    more : length b.waiting.items ≤ length a.waiting.items + 1
    more = subst (λ ws. length ws ≤ length a.waiting.items + 1) (sym waiting_is) (go (flag a.waits.items row))
      where
        go : (d : Bool) → length (if d then a.waiting.items else a.waiting.items ++ row ∷ []) ≤ length a.waiting.items + 1
        go true = omega arith
        go false = omega (arith, length_push a.waiting.items row)

    work : left_in b.seen.items + length b.waiting.items ≤ left_in a.seen.items + length a.waiting.items
    work =
        let v : ℕ = bit_or s new in
        let e : left_in b.seen.items ≡ left_in (set a.seen.items word (bit_or s new)) = ap left_in seen_is in
        let t : left_in (set a.seen.items word (bit_or s new)) + (2 ^ 64 - s) ≡ left_in a.seen.items + (2 ^ 64 - bit_or s new) = sum_by-set (λ w. 2 ^ 64 - w) a.seen.items word (bit_or s new) 0 in_seen in
        let j : s < bit_or s new = joined_more bits s low some in
        omega (arith, e, t, j, low, more)

    fits_still : Fits b
    fits_still = record {
      some = subst (λ z. 0 < z) (sym words) fits.some;
      seen = ap length seen_is ∙ length-set a.seen.items word (bit_or s new) ∙ fits.seen ∙ (λ i. sym rows i * sym words i);
      fresh = ap length fresh_is ∙ length-set a.fresh.items word (bit_or (get_or a.fresh.items word 0) new) ∙ fits.fresh ∙ (λ i. sym rows i * sym words i);
      waiting = subst (λ z. All (λ p. p < z) b.waiting.items) (sym rows) (subst (λ ws. All (λ p. p < length a.waits.items) ws) (sym waiting_is) (go (flag a.waits.items row)));
    }
      where
        go : (d : Bool) → All (λ p. p < length a.waits.items) (if d then a.waiting.items else a.waiting.items ++ row ∷ [])
        go true = fits.waiting
        go false = All-push (λ p. p < length a.waits.items) a.waiting.items row fits.waiting inside

    pub mark_some : Grown (IsMarked word bits) a b
    mark_some = record {
      words = words;
      rows = rows;
      fits = fits_still;
      seen = λ n h. seen_has n (or_keeps a.seen.items word new n in_seen h);
      fresh = λ n h. fresh_has n (or_keeps a.fresh.items word new n in_fresh h);
      marked = marked;
      new = λ n h. is_new n (or_only a.seen.items word new n in_seen (subst (λ ws. bit ws n ≡ 1) seen_is h));
      known = λ n h. known n (or_only a.fresh.items word new n in_fresh (subst (λ ws. bit ws n ≡ 1) fresh_is h));
      awake = awake;
      work = work;
    }
      where
        is_new : (n : ℕ) → (bit a.seen.items n ≡ 1) ⊎ ((n / 64 ≡ word) × (bit_at new (n % 64) ≡ 1)) → (bit a.seen.items n ≡ 1) ⊎ (IsMarked word bits n × (bit b.fresh.items n ≡ 1))
        is_new n (inl h) = inl h
        is_new n (inr h) = inr ((h.0, lacking_only bits s low (n % 64) (omega arith) h.1), fresh_has n (or_has a.fresh.items word new n in_fresh h.0 h.1))

        known : (n : ℕ) → (bit a.fresh.items n ≡ 1) ⊎ ((n / 64 ≡ word) × (bit_at new (n % 64) ≡ 1)) → (bit a.fresh.items n ≡ 1) ⊎ (bit b.seen.items n ≡ 1)
        known n (inl h) = inl h
        known n (inr h) = inr (seen_has n (or_has a.seen.items word new n in_seen h.0 h.1))
