-- How searches go on, step by step.
use Rattle.std.proofs.Common.{◌≡◌, ℕ, ◌⊎◌, inl, inr, refl, ◌∙◌, arith}
use Rattle.std.specs.Prelude.{Result, Ok, Err, OnOk}
use Rattle.adj_tree.specs.Bits.{bit}
use Rattle.adj_reach_rows.specs.Searches.{Fits, Grown}
use Rattle.adj_reach_rows.specs.declared.search.Search.{Search}

-- by one step and another
pub grown_then : (S T : ℕ → Type 0) (a b c : Search) → Grown S a b → Grown T b c → Grown (λ n. S n ⊎ T n) a c
grown_then S T a b c g h = record {
  words = h.words ∙ g.words;
  rows = h.rows ∙ g.rows;
  fits = h.fits;
  seen = λ n e. h.seen n (g.seen n e);
  fresh = λ n e. h.fresh n (g.fresh n e);
  marked = λ n e. marked n e;
  new = λ n e. new n (h.new n e);
  known = λ n e. known n (h.known n e);
  awake = λ e. h.awake (g.awake e);
  work = omega (arith, g.work, h.work);
}
  where
    marked : (n : ℕ) → S n ⊎ T n → bit c.seen.items n ≡ 1
    marked n (inl e) = h.seen n (g.marked n e)
    marked n (inr e) = h.marked n e

    new : (n : ℕ) → (bit b.seen.items n ≡ 1) ⊎ (T n × (bit c.fresh.items n ≡ 1)) → (bit a.seen.items n ≡ 1) ⊎ ((S n ⊎ T n) × (bit c.fresh.items n ≡ 1))
    new n (inl e) = first n (g.new n e)
      where
        first : (n : ℕ) → (bit a.seen.items n ≡ 1) ⊎ (S n × (bit b.fresh.items n ≡ 1)) → (bit a.seen.items n ≡ 1) ⊎ ((S n ⊎ T n) × (bit c.fresh.items n ≡ 1))
        first n (inl k) = inl k
        first n (inr k) = inr (inl k.0, h.fresh n k.1)
    new n (inr e) = inr (inr e.0, e.1)

    known : (n : ℕ) → (bit b.fresh.items n ≡ 1) ⊎ (bit c.seen.items n ≡ 1) → (bit a.fresh.items n ≡ 1) ⊎ (bit c.seen.items n ≡ 1)
    known n (inl e) = first n (g.known n e)
      where
        first : (n : ℕ) → (bit a.fresh.items n ≡ 1) ⊎ (bit b.seen.items n ≡ 1) → (bit a.fresh.items n ≡ 1) ⊎ (bit c.seen.items n ≡ 1)
        first n (inl k) = inl k
        first n (inr k) = inr (h.seen n k)
    known n (inr e) = inr e

-- by places that are told in another way
pub grown_as : (S T : ℕ → Type 0) (a b : Search) → ((n : ℕ) → S n → T n) → ((n : ℕ) → T n → S n) → Grown S a b → Grown T a b
grown_as S T a b to from g = record {
  words = g.words;
  rows = g.rows;
  fits = g.fits;
  seen = g.seen;
  fresh = g.fresh;
  marked = λ n e. g.marked n (from n e);
  new = λ n e. new n (g.new n e);
  known = g.known;
  awake = g.awake;
  work = g.work;
}
  where
    new : (n : ℕ) → (bit a.seen.items n ≡ 1) ⊎ (S n × (bit b.fresh.items n ≡ 1)) → (bit a.seen.items n ≡ 1) ⊎ (T n × (bit b.fresh.items n ≡ 1))
    new n (inl e) = inl e
    new n (inr e) = inr (to n e.0, e.1)

-- by nothing that wasn't seen
pub grown_not : (S : ℕ → Type 0) (a : Search) → Fits a → ((n : ℕ) → S n → bit a.seen.items n ≡ 1) → Grown S a a
grown_not S a f h = record {
  words = refl;
  rows = refl;
  fits = f;
  seen = λ n e. e;
  fresh = λ n e. e;
  marked = h;
  new = λ n e. inl e;
  known = λ n e. inl e;
  awake = λ e. e;
  work = omega arith;
}

-- what follows from what holds of a result that is Ok
pub on_ok : {A E : Type 0} (P Q : Type 0) (r : Result A E) → (P → Q) → OnOk r P → OnOk r Q
on_ok P Q (Ok x) f h = f h
on_ok P Q (Err e) f h = tt
