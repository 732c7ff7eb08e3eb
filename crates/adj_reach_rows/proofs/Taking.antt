-- The fresh nodes of a row are taken word by word.
use Rattle.std.proofs.Common.{◌≡◌, ℕ, zero, ◌+◌, ◌-◌, ◌*◌, ◌/◌, ◌%◌, ◌<◌, ◌≤◌, ◌⊎◌, inl, inr, List, false, length, get_or, set, refl, sym, ap, ◌∙◌, arith, length-set}
use Rattle.std.specs.Int.{bit_at}
use Rattle.std.proofs.lemmas.Bool.{cases_eq, cases_lt}
use Rattle.std.proofs.lemmas.List.{get_or-set_same, get_or-set_other}
use Rattle.std.proofs.lemmas.Nat.{div-mul-add, div-add-mod'}
use Rattle.std.proofs.lemmas.Nat.Bits.{bit_at-zero}
use Rattle.std.proofs.Math.Nat.{mod-lt}
use Rattle.adj_tree.specs.Bits.{bit}
use Rattle.adj_reach_rows.specs.Searches.{Took}
use Rattle.adj_reach_rows.specs.declared.search.Search.{Search}
use Rattle.adj_reach_rows.proofs.Columns.{column_at}

-- the first words of the row are taken
pub record Taking (row place : ℕ) (a b : Search) (bits : List ℕ) : Type 0 where
  pub words : b.words ≡ a.words
  pub seen : b.seen.items ≡ a.seen.items
  pub waiting : b.waiting.items ≡ a.waiting.items
  pub waits : b.waits.items ≡ a.waits.items
  pub size : length b.fresh.items ≡ length a.fresh.items
  pub taken : (k : ℕ) → k < place → get_or bits k 0 ≡ get_or a.fresh.items (row * a.words + k) 0
  pub gone : (k : ℕ) → k < place → get_or b.fresh.items (row * a.words + k) 0 ≡ 0
  pub others : (i : ℕ) → (i < row * a.words) ⊎ (row * a.words + place ≤ i) → get_or b.fresh.items i 0 ≡ get_or a.fresh.items i 0

pub taking_none : (row : ℕ) (a : Search) (bits : List ℕ) → Taking row zero a a bits
taking_none row a bits = record {
  words = refl;
  seen = refl;
  waiting = refl;
  waits = refl;
  size = refl;
  taken = λ k l. absurd (omega (arith, l));
  gone = λ k l. absurd (omega (arith, l));
  others = λ i h. refl;
}

pub taking_more : (row place v : ℕ) (a b c : Search) (bits : List ℕ) → Taking row place a b bits → place < length bits → row * a.words + place < length a.fresh.items → v ≡ get_or b.fresh.items (row * a.words + place) 0 →
    c.words ≡ b.words → c.seen.items ≡ b.seen.items → c.waiting.items ≡ b.waiting.items → c.waits.items ≡ b.waits.items → c.fresh.items ≡ set b.fresh.items (row * a.words + place) 0 → Taking row (place + 1) a c (set bits place v)
taking_more row place v a b c bits t l m v_is words seen waiting waits fresh = record {
  words = words ∙ t.words;
  seen = seen ∙ t.seen;
  waiting = waiting ∙ t.waiting;
  waits = waits ∙ t.waits;
  size = ap length fresh ∙ length-set b.fresh.items (row * a.words + place) 0 ∙ t.size;
  taken = λ k h. taken k (cases_eq k place) h;
  gone = λ k h. ap (λ ws. get_or ws (row * a.words + k) 0) fresh ∙ gone k (cases_eq k place) h;
  others = λ i h. ap (λ ws. get_or ws i 0) fresh ∙ others i h;
}
  where
    inside : row * a.words + place < length b.fresh.items
    inside = let s = t.size in omega (arith, m, s)

    taken : (k : ℕ) → (k ≡ place) ⊎ (k ≡ place → ⊥) → k < place + 1 → get_or (set bits place v) k 0 ≡ get_or a.fresh.items (row * a.words + k) 0
    taken k (inl e) h =
        let o : (row * a.words + place < row * a.words) ⊎ (row * a.words + place ≤ row * a.words + place) = inr (omega arith) in
        ap (λ z. get_or (set bits place v) z 0) e ∙ get_or-set_same bits place v 0 l ∙ v_is ∙ t.others (row * a.words + place) o ∙ ap (λ z. get_or a.fresh.items (row * a.words + z) 0) (sym e)
    taken k (inr f) h = get_or-set_other bits place k v 0 f ∙ t.taken k (omega (arith, h, f))

    gone : (k : ℕ) → (k ≡ place) ⊎ (k ≡ place → ⊥) → k < place + 1 → get_or (set b.fresh.items (row * a.words + place) 0) (row * a.words + k) 0 ≡ 0
    gone k (inl e) h = ap (λ z. get_or (set b.fresh.items (row * a.words + place) 0) (row * a.words + z) 0) e ∙ get_or-set_same b.fresh.items (row * a.words + place) 0 0 inside
    gone k (inr f) h = get_or-set_other b.fresh.items (row * a.words + place) (row * a.words + k) 0 0 (λ e. f (omega (arith, e))) ∙ t.gone k (omega (arith, h, f))

    others : (i : ℕ) → (i < row * a.words) ⊎ (row * a.words + (place + 1) ≤ i) → get_or (set b.fresh.items (row * a.words + place) 0) i 0 ≡ get_or a.fresh.items i 0
    others i (inl h) = get_or-set_other b.fresh.items (row * a.words + place) i 0 0 (λ e. omega (arith, e, h)) ∙ t.others i (inl h)
    others i (inr h) = get_or-set_other b.fresh.items (row * a.words + place) i 0 0 (λ e. omega (arith, e, h)) ∙ t.others i (inr (omega (arith, h)))

-- all are taken
pub took_all : (row place : ℕ) (a b c : Search) (bits : List ℕ) → Taking row place a b bits → 0 < a.words → place ≡ a.words → c.words ≡ b.words → c.seen.items ≡ b.seen.items → c.fresh.items ≡ b.fresh.items →
    c.waiting.items ≡ b.waiting.items → c.waits.items ≡ set b.waits.items row false → Took row a c bits
took_all row place a b c bits t some all words seen fresh waiting waits = record {
  words = words ∙ t.words;
  seen = seen ∙ t.seen;
  waiting = waiting ∙ t.waiting;
  waits = waits ∙ ap (λ ws. set ws row false) t.waits;
  size = ap length fresh ∙ t.size;
  taken = λ j l. ap (λ z. bit_at z (j % 64)) (t.taken (j / 64) (omega (arith, l, all))) ∙ sym (column_at a.fresh.items a.words row j);
  gone = λ n e. ap (λ ws. bit ws n) fresh ∙ gone n e;
  others = λ n f. ap (λ ws. bit ws n) fresh ∙ ap (λ z. bit_at z (n % 64)) (t.others (n / 64) (outside n f (cases_lt (n / 64) (row * a.words)) (cases_lt (n / 64) (row * a.words + place))));
}
  where
    gone : (n : ℕ) → n / 64 / a.words ≡ row → bit b.fresh.items n ≡ 0
    gone n e =
        let k : n / 64 % a.words < a.words = mod-lt (n / 64) some in
        let p : n / 64 ≡ row * a.words + n / 64 % a.words = sym (div-add-mod' (n / 64) a.words) ∙ ap (λ z. z * a.words + n / 64 % a.words) e in
        ap (λ z. bit_at (get_or b.fresh.items z 0) (n % 64)) p ∙ ap (λ z. bit_at z (n % 64)) (t.gone (n / 64 % a.words) (omega (arith, k, all))) ∙ bit_at-zero (n % 64)

    outside : (n : ℕ) → (n / 64 / a.words ≡ row → ⊥) → (n / 64 < row * a.words) ⊎ (row * a.words ≤ n / 64) → (n / 64 < row * a.words + place) ⊎ (row * a.words + place ≤ n / 64) → (n / 64 < row * a.words) ⊎ (row * a.words + place ≤ n / 64)
    outside n f (inl h) o = inl h
    outside n f (inr h) (inr k) = inr k
    outside n f (inr h) (inl k) = absurd (f (inside n h k))
      where
        inside : (n : ℕ) → row * a.words ≤ n / 64 → n / 64 < row * a.words + place → n / 64 / a.words ≡ row
        inside n h k = at (n / 64) h k
          where
            at : (m : ℕ) → row * a.words ≤ m → m < row * a.words + place → m / a.words ≡ row
            at m h k =
                let j : ℕ = m - row * a.words in
                let p : m ≡ row * a.words + (m - row * a.words) = omega (arith, h) in
                let q : m - row * a.words < a.words = omega (arith, h, k, all) in
                ap (λ z. z / a.words) p ∙ div-mul-add row a.words (m - row * a.words) q
