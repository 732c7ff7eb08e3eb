-- The least cost as a number: where the bounds are greatest, and what their greatest is.
use Rattle.std.proofs.Common.{◌≡◌, ℕ, zero, suc, ◌+◌, ◌*◌, ◌-◌, ◌≤◌, ◌<◌, ◌⊎◌, inl, inr, refl, sym, subst, arith}
use Rattle.std.proofs.lemmas.Bool.{cases_order, cases_lt}
use Rattle.adj_revolve.specs.Binomial.{choose_before, beta}
use Rattle.adj_revolve.specs.LeastCost.{bound_at, IsGreatest, greatest_up_to, least_cost}
use Rattle.adj_revolve.proofs.BinomialLemmas.{spared, spared-zero_repetitions, spared-more, spared-closed, beta-zero_repetitions, beta-mono, beta-above}
use Rattle.adj_revolve.proofs.LowerBound.{Covers}

-- the bounds on l steps with s snapshots do not fall up to r = j, nor rise after
pub record Peak (l s j : ℕ) : Type 0 where
  pub enough : l ≤ beta s j
  pub below : (i : ℕ) → i < j → beta s i ≤ l

-- past the peak the bounds do not rise
peak_up : (l s j d : ℕ) → l ≤ beta s j → (j + d) * l + spared s j ≤ j * l + spared s (j + d)
peak_up l s j zero h = let e : j + 0 ≡ j = omega arith in rw e (omega arith)
peak_up l s j (suc d) h =
    let e : j + suc d ≡ suc (j + d) = omega arith in
    rw e (omega (arith, peak_up l s j d h, spared-more s (j + d), beta-mono s j (j + d) (omega arith)))

-- before it they do not fall
peak_down : (l s i d : ℕ) → ((k : ℕ) → k < i + d → beta s k ≤ l) → i * l + spared s (i + d) ≤ (i + d) * l + spared s i
peak_down l s i zero h = let e : i + 0 ≡ i = omega arith in rw e (omega arith)
peak_down l s i (suc d) h =
    let e : i + suc d ≡ suc (i + d) = omega arith in
    rw e (omega (arith, peak_down l s i d (λ k g. h k (omega arith)), spared-more s (i + d), h (i + d) (omega arith)))

-- no bound exceeds the one at the peak
peak_greatest : (l s j r : ℕ) → Peak l s j → r * l + spared s j ≤ j * l + spared s r
peak_greatest l s j r p = go (cases_lt r j)
  where
    go : (r < j) ⊎ (j ≤ r) → r * l + spared s j ≤ j * l + spared s r
    go (inl h) = let e : j ≡ r + (j - r) = omega arith in
        subst (λ z. r * l + spared s z ≤ z * l + spared s r) (sym e) (peak_down l s r (j - r) (λ k g. p.below k (omega arith)))
    go (inr h) = let e : r ≡ j + (r - j) = omega arith in
        subst (λ z. z * l + spared s j ≤ j * l + spared s z) (sym e) (peak_up l s j (r - j) p.enough)

-- the bound at the peak is no truncated difference
pub peak_fits : (l s j : ℕ) → Peak l s j → spared s j ≤ j * l
peak_fits l s j p = omega (arith, peak_greatest l s j 0 p, spared-zero_repetitions s)

-- the bound at the peak covers all
peak_covers : (l s j : ℕ) → Peak l s j → Covers l s (j * l - spared s j)
peak_covers l s j p r = omega (arith, peak_greatest l s j r p, peak_fits l s j p)

-- two peaks have one bound
pub peak_same : (l s i j : ℕ) → Peak l s i → Peak l s j → i * l - spared s i ≡ j * l - spared s j
peak_same l s i j p q = omega (arith, peak_greatest l s i j p, peak_greatest l s j i q)

-- one step or none costs nothing
pub peak_small : (l s r : ℕ) → l ≤ 1 → Peak l s r → r * l - spared s r ≡ 0
peak_small l s r h p =
    omega (arith, peak_same l s r 0 p record { enough = omega (arith, beta-zero_repetitions s); below = λ i k. absurd (omega arith) })

-- with a snapshot a peak lies at or below l
pub peak_le : (l s j : ℕ) → 0 < s → Peak l s j → j ≤ l
peak_le l s j pos p = go (cases_lt l j)
  where
    go : (l < j) ⊎ (j ≤ l) → j ≤ l
    go (inl k) = absurd (omega (arith, p.below l k, beta-above s l pos))
    go (inr k) = k

-- the greatest is no less than any
greatest-above : (f : ℕ → ℕ) (n i : ℕ) → i ≤ n → f i ≤ greatest_up_to f n
unfolding greatest_up_to
greatest-above f zero i h = let e : i ≡ 0 = omega arith in rw e (omega arith)
greatest-above f (suc n) i h = go (cases_order i (suc n)) (λ k. greatest-above f n i k)
  where
    go : (i ≡ suc n) ⊎ ((i < suc n) ⊎ (suc n < i)) → (i ≤ n → f i ≤ greatest_up_to f n) → f i ≤ greatest_up_to f (suc n)
    go (inl e) rest = rw e (omega arith)
    go (inr (inl k)) rest = omega (arith, rest (omega arith))
    go (inr (inr k)) rest = absurd (omega arith)

-- and no greater than what none exceeds
greatest-least : (f : ℕ → ℕ) (n v : ℕ) → ((i : ℕ) → f i ≤ v) → greatest_up_to f n ≤ v
unfolding greatest_up_to
greatest-least f zero v h = h 0
greatest-least f (suc n) v h = omega (arith, h (suc n), greatest-least f n v h)

-- the least cost is the bound at the peak
pub least-peak : (l s j : ℕ) → 0 < s → Peak l s j → least_cost l s ≡ j * l - spared s j
unfolding least_cost
least-peak l s j pos p =
    omega (
      arith,
      greatest-above (bound_at l s) l j (peak_le l s j pos p),
      greatest-least (bound_at l s) l (j * l - spared s j) (λ i. omega (arith, peak_covers l s j p i)),
    )

-- it is the greatest of all bounds
pub least_is_greatest : (l s j : ℕ) → 0 < s → Peak l s j → IsGreatest (bound_at l s) (least_cost l s)
least_is_greatest l s j pos p =
    subst (λ v. IsGreatest (bound_at l s) v) (sym (least-peak l s j pos p))
    record { reached = (j, refl); above = λ r. omega (arith, peak_covers l s j p r) }

-- and has the closed form
pub least-closed : (l s j : ℕ) → 0 < s → Peak l s j → least_cost l s ≡ j * l - choose_before (s + j) j
least-closed l s j pos p = rw (← spared-closed s j) (least-peak l s j pos p)

-- what covers all bounds is no less than the least cost
pub least-le : (l s j v : ℕ) → 0 < s → Peak l s j → Covers l s v → least_cost l s ≤ v
least-le l s j v pos p c =
    let g : IsGreatest (bound_at l s) (least_cost l s) = least_is_greatest l s j pos p in
    omega (arith, c g.reached.0, g.reached.1)
