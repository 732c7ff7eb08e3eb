-- How many repetitions are least, and what the split does.
use Rattle.std.proofs.Common.{◌≡◌, ℕ, zero, suc, ◌+◌, ◌*◌, ◌-◌, ◌≤◌, ◌<◌, ◌⊎◌, inl, inr, refl, ap, arith, Bool, true, false, cond}
use Rattle.std.specs.Prelude.{nat_lt, min}
use Rattle.std.proofs.lemmas.Bool.Decides.{nat_tests}
use Rattle.std.proofs.lemmas.Bool.{cases_order}
use Rattle.adj_revolve.specs.Binomial.{beta}
use Rattle.adj_revolve.specs.Split.{IsRepetitions, first_repetition, repetitions, split_of}
use Rattle.adj_revolve.proofs.BinomialLemmas.{spared, spared-step, beta-zero_repetitions, beta-zero_slots, beta-step, beta-pos, beta-rise, beta-mono, beta-above, beta-slots}
use Rattle.adj_revolve.proofs.LeastCostLemmas.{Peak, peak_fits}

-- the least number of repetitions is a peak of the bounds
pub repetitions_peak : (l s r : ℕ) → IsRepetitions l s r → Peak l s r
repetitions_peak l s r h = record { enough = h.enough; below = λ i k. omega (arith, h.fewer i k) }

-- and there is one
repetitions_unique : (l s r q : ℕ) → IsRepetitions l s r → IsRepetitions l s q → r ≡ q
repetitions_unique l s r q h k = go (cases_order r q)
  where
    go : (r ≡ q) ⊎ ((r < q) ⊎ (q < r)) → r ≡ q
    go (inl e) = e
    go (inr (inl g)) = absurd (omega (arith, k.fewer r g, h.enough))
    go (inr (inr g)) = absurd (omega (arith, h.fewer q g, k.enough))

-- the search ends at it
first_repetition_is : (l s start tries : ℕ) → ((i : ℕ) → i < start → beta s i < l) → l ≤ beta s (start + tries) → IsRepetitions l s (first_repetition l s start tries)
unfolding first_repetition
first_repetition_is l s start zero before h = record { enough = let e : start + 0 ≡ start = omega arith in rw e at h; fewer = before }
first_repetition_is l s start (suc tries) before h =
    go (nat_lt (beta s start) l) refl (λ more. first_repetition_is l s (suc start) tries more (let e : start + suc tries ≡ suc start + tries = omega arith in rw e at h))
  where
    go : (b : Bool) → nat_lt (beta s start) l ≡ b → (((i : ℕ) → i < suc start → beta s i < l) → IsRepetitions l s (first_repetition l s (suc start) tries)) → IsRepetitions l s (cond b (first_repetition l s (suc start) tries) start)
    go true e rest = rest (λ i k. next i k (cases_order i start))
      where
        next : (i : ℕ) → i < suc start → (i ≡ start) ⊎ ((i < start) ⊎ (start < i)) → beta s i < l
        next i k (inl same) = rw same (grind (arith, nat_tests))
        next i k (inr (inl g)) = before i g
        next i k (inr (inr g)) = absurd (omega arith)
    go false e rest = record { enough = grind (arith, nat_tests); fewer = before }

-- the defined number is the least that serves
pub repetitions_is : (l s : ℕ) → 0 < s → IsRepetitions l s (repetitions l s)
unfolding repetitions
repetitions_is l s pos =
    first_repetition_is l s 0 l (λ i k. absurd (omega arith)) (let e : 0 + l ≡ l = omega arith in rw e (omega (arith, beta-above s l pos)))

-- any least number is the defined one
pub repetitions_from : (l s r : ℕ) → 0 < s → IsRepetitions l s r → r ≡ repetitions l s
repetitions_from l s r pos h = repetitions_unique l s r (repetitions l s) h (repetitions_is l s pos)

-- What the split of l steps with s snapshots does, where q + 1 repetitions are the least that serve: both parts have
-- steps, q repetitions are a peak for those below and q + 1 for those above, with one snapshot fewer, and the least costs
-- add up.
pub record IsSplit (l s k q : ℕ) : Type 0 where
  pub is : k ≡ split_of l s
  pub least : IsRepetitions l s (suc q)
  pub some : 1 ≤ k
  pub less : k < l
  pub lower : Peak k s q
  pub upper : Peak (l - k) (s - 1) (suc q)
  pub slot : 2 ≤ l - k → 0 < s - 1
  pub cost : suc q * l - spared s (suc q) ≡ k + (q * k - spared s q) + (suc q * (l - k) - spared (s - 1) (suc q))

-- fewer repetitions turn no more than the steps below the split
split_below : (l t q i k : ℕ) → IsRepetitions l (suc t) (suc q) → k ≡ min (beta (suc t) q) (l - beta t q) → i < q → beta (suc t) i ≤ k
split_below l t zero i k h e g = absurd (omega arith)
split_below l t (suc q) i k h e g =
    omega (arith, h.fewer (suc q) (omega arith), beta-step t q, beta-mono (suc t) i q (omega arith), beta-rise (suc t) q)

-- so q is a peak for those
split_lower : (l t q k : ℕ) → IsRepetitions l (suc t) (suc q) → k ≡ min (beta (suc t) q) (l - beta t q) → Peak k (suc t) q
split_lower l t q k h e = record { enough = omega arith; below = λ i g. split_below l t q i k h e g }

-- and q + 1 for the steps above it
split_upper : (l t q k : ℕ) → IsRepetitions l (suc t) (suc q) → k ≡ min (beta (suc t) q) (l - beta t q) → Peak (l - k) t (suc q)
split_upper l t q k h e = record {
  enough = omega (arith, h.enough, h.fewer q (omega arith), beta-step t q, beta-rise t q, beta-slots t q);
  below = λ i g. omega (arith, h.fewer q (omega arith), beta-slots t q, beta-mono t i q (omega arith));
}

-- with no snapshot a peak has at most one step
one_left : (b s q : ℕ) → s ≡ 0 → Peak b s q → b ≤ 1
one_left b s q e p = omega (arith, p.enough, beta-zero_slots q, ap (λ z. beta z q) e)

-- so two steps above the split need a snapshot and have one
split_slot : (b t q : ℕ) → Peak b t q → 2 ≤ b → 0 < t
split_slot b zero q p two = absurd (omega (arith, one_left b 0 q refl p))
split_slot b (suc t) q p two = omega arith

-- the least costs add up
split_cost : (l t q k b : ℕ) → l ≡ k + b → Peak k (suc t) q → Peak b t (suc q) → suc q * l - spared (suc t) (suc q) ≡ k + (q * k - spared (suc t) q) + (suc q * b - spared t (suc q))
split_cost l t q k b e p u =
    let f = peak_fits k (suc t) q p in
    let g = peak_fits b t (suc q) u in
    rw e (omega (arith, spared-step t q))

-- all of that holds at the k of the formula
split_has : (l t q k : ℕ) → k ≡ split_of l (suc t) → IsRepetitions l (suc t) (suc q) → k ≡ min (beta (suc t) q) (l - beta t q) → IsSplit l (suc t) k q
split_has l t q k is h f =
    let fewer : suc t - 1 ≡ t = omega arith in
    let upper : Peak (l - k) t (suc q) = split_upper l t q k h f in
    let less : k < l = omega (arith, h.fewer q (omega arith)) in
    record {
      is = is;
      least = h;
      some = omega (arith, h.fewer q (omega arith), beta-pos (suc t) q, beta-slots t q);
      less = less;
      lower = split_lower l t q k h f;
      upper = rw fewer upper;
      slot = λ g. rw fewer (split_slot (l - k) t (suc q) upper g);
      cost = rw fewer (split_cost l t q k (l - k) (omega arith) (split_lower l t q k h f) upper);
    }

-- the split of two steps or more
pub split_is : (l s : ℕ) → 0 < s → 2 ≤ l → (q : ℕ) × IsSplit l s (split_of l s) q
unfolding split_of
split_is l zero pos two = absurd (omega arith)
split_is l (suc t) pos two = go (repetitions l (suc t)) refl (repetitions_is l (suc t) pos)
  where
    go : (r : ℕ) → repetitions l (suc t) ≡ r → IsRepetitions l (suc t) r → (q : ℕ) × IsSplit l (suc t) (split_of l (suc t)) q
    go zero e h = absurd (omega (arith, h.enough, beta-zero_repetitions (suc t)))
    go (suc q) e h =
        let one : repetitions l (suc t) - 1 ≡ q = omega arith in
        let fewer : suc t - 1 ≡ t = omega arith in
        (q, split_has l t q (split_of l (suc t)) refl h (rw (one, fewer) refl))
