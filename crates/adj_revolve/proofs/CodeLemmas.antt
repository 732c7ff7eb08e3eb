-- The numbers as the code computes them.
use Rattle.std.proofs.Common.{◌≡◌, ℕ, zero, suc, ◌+◌, ◌-◌, ◌*◌, min, ◌/◌, ◌%◌, ◌≤◌, ◌<◌, sym, ◌∙◌, ap, subst, arith, ◌⊎◌, inl, inr}
use Rattle.std.proofs.lemmas.Bool.{cases_lt}
use Rattle.std.proofs.Math.Nat.{mul-add-div_right, mul-div_cancel_left}
use Rattle.std.proofs.lemmas.Nat.{div-add-mod', le-div}
use Rattle.adj_revolve.specs.Binomial.{choose, choose_before, beta}
use Rattle.adj_revolve.specs.LeastCost.{bound_at, IsGreatest, least_cost}
use Rattle.adj_revolve.specs.Split.{IsRepetitions, repetitions, split_of}
use Rattle.adj_revolve.proofs.BinomialLemmas.{spared, more_repetitions, beta-mono, beta-turned, beta-above, beta-slots}
use Rattle.adj_revolve.proofs.LeastCostLemmas.{Peak, peak_fits, peak_le, least-peak, least-closed, least_is_greatest}
use Rattle.adj_revolve.proofs.SplitLemmas.{IsSplit, split_is, repetitions_is, repetitions_peak, repetitions_from}

-- a product's quotient, by quotient and rest of the one factor
pub quotient_of_product : (w t d : ℕ) → 0 < d → w * t / d ≡ w / d * t + w % d * t / d
quotient_of_product w t d h =
    let e : w * t ≡ (w / d * t) * d + w % d * t = omega (arith, ap (λ z. z * t) (div-add-mod' w d)) in
    ap (λ z. z / d) e ∙ mul-add-div_right h (w / d * t) (w % d * t)

-- where one factor's quotient passes m by the other, the product's quotient passes m
pub quotient_above : (w t d m : ℕ) → 0 < d → 0 < t → m / t < w / d → m < w * t / d
quotient_above w t d m h g above = go (cases_lt m (w / d * t))
  where
    go : (m < w / d * t) ⊎ (w / d * t ≤ m) → m < w * t / d
    go (inl k) = omega (arith, quotient_of_product w t d h)
    go (inr k) = absurd (omega (arith, le-div (w / d) m t g k))

-- one thing more is chosen
next_ways : (m i : ℕ) → beta m i * (m + (i + 1)) / (i + 1) ≡ beta m (i + 1)
next_ways m i =
    let e : i + 1 ≡ suc i = omega arith in
    rw e (ap (λ z. z / suc i) (omega (arith, more_repetitions m i)) ∙ mul-div_cancel_left (beta m (suc i)) (omega arith))

-- the next number from the one before, below the cap
pub ways_more : (m i cap ways from taken : ℕ) → ways ≡ min cap (beta m i) → (ways ≡ cap → ⊥) → from ≡ m → taken ≡ i + 1 → ways * (from + taken) / taken ≡ beta m (i + 1)
ways_more m i cap ways from taken a some b c = let e : ways ≡ beta m i = omega arith in rw (e, b, c) (next_ways m i)

-- what is at the cap stays there
pub ways_capped : (m i few cap : ℕ) → i < few → cap ≡ min cap (beta m i) → cap ≡ min cap (beta m few)
ways_capped m i few cap h e = omega (arith, beta-mono m i few (omega arith))

-- snapshots and repetitions in the other order
pub min-turned : (r few s cap : ℕ) → few ≡ s → min cap (beta r few) ≡ min cap (beta s r)
min-turned r few s cap e = ap (λ z. min cap (beta r z)) e ∙ ap (λ z. min cap z) (beta-turned r s)

-- where r repetitions do not suffice, r is below the number of steps
pub short_below : (l s r : ℕ) → 0 < s → beta s r < l → r < l
short_below l s r pos h = omega (arith, beta-above s r pos)

-- nor do fewer
pub fewer_up : (l s middle : ℕ) → beta s middle < l → (r : ℕ) → r < middle + 1 → beta s r < l
fewer_up l s middle h r k = omega (arith, beta-mono s r middle (omega arith))

-- no more repetitions than steps
pub repetitions_le : (l s r : ℕ) → 0 < s → r ≡ repetitions l s → r ≤ l
repetitions_le l s r pos e = omega (arith, peak_le l s (repetitions l s) pos (repetitions_peak l s (repetitions l s) (repetitions_is l s pos)))

-- the spared advances by the number that the code has at hand
spared_before : (s r : ℕ) → (r ≡ 0 → ⊥) → beta (s + 1) (r - 1) ≡ spared s r
spared_before s r h = let e : (s + 1) + (r - 1) ≡ s + r = omega arith in ap (λ n. choose n (s + 1)) e

-- the least cost, where r is the number of repetitions
pub record CostFacts (l s r : ℕ) : Type 0 where
  pub none : r ≡ 0 → 0 ≡ least_cost l s
  pub fits : (r ≡ 0 → ⊥) → beta (s + 1) (r - 1) ≤ r * l
  pub value : (r ≡ 0 → ⊥) → r * l - beta (s + 1) (r - 1) ≡ least_cost l s
  pub greatest : IsGreatest (bound_at l s) (least_cost l s)

-- they hold
pub cost_facts : (l s r : ℕ) → 0 < s → r ≡ repetitions l s → CostFacts l s r
cost_facts l s r pos e =
    let is : IsRepetitions l s r = subst (λ z. IsRepetitions l s z) (sym e) (repetitions_is l s pos) in
    let p : Peak l s r = repetitions_peak l s r is in
    record {
      none = λ z. sym (least-peak l s r pos p ∙ ap (λ y. y * l - spared s y) z ∙ omega arith);
      fits = λ some. omega (arith, spared_before s r some, peak_fits l s r p);
      value = λ some. omega (arith, spared_before s r some, least-peak l s r pos p);
      greatest = least_is_greatest l s r pos p;
    }

-- the closed form at any least number of repetitions
pub cost-closed : (l s r : ℕ) → 0 < s → IsRepetitions l s r → least_cost l s ≡ r * l - choose_before (s + r) r
cost-closed l s r pos h = least-closed l s r pos (repetitions_peak l s r h)

-- the split, where r is the number of repetitions
pub record SplitCode (l s r : ℕ) : Type 0 where
  pub pos : 0 < r
  pub most : beta s (r - 1) < l
  pub above : beta (s - 1) (r - 1) < l
  pub value : min (beta s (r - 1)) (l - beta (s - 1) (r - 1)) ≡ split_of l s
  pub some : 0 < split_of l s
  pub less : split_of l s < l

-- one snapshot fewer
beta-fewer : (s r : ℕ) → 0 < s → beta (s - 1) r ≤ beta s r
beta-fewer zero r pos = absurd (omega arith)
beta-fewer (suc t) r pos = let e : suc t - 1 ≡ t = omega arith in rw e (beta-slots t r)

-- which it is
pub split_code : (l s r : ℕ) → 0 < s → 2 ≤ l → r ≡ repetitions l s → SplitCode l s r
unfolding split_of
split_code l s r pos two e = go (split_is l s pos two)
  where
    go : (q : ℕ) × IsSplit l s (split_of l s) q → SplitCode l s r
    go (q, is) =
        let same : r ≡ suc q = e ∙ sym (repetitions_from l s (suc q) pos is.least) in
        let below : beta s (r - 1) < l = is.least.fewer (r - 1) (omega arith) in
        record {
          pos = omega arith;
          most = below;
          above = omega (arith, below, beta-fewer s (r - 1) pos);
          value = ap (λ z. min (beta s (z - 1)) (l - beta (s - 1) (z - 1))) e;
          some = is.some;
          less = is.less;
        }
