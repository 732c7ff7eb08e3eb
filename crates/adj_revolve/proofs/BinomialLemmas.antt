-- Laws of the binomial numbers.
use Rattle.std.proofs.Common.{◌≡◌, ℕ, zero, suc, ◌+◌, ◌*◌, ◌≤◌, ◌<◌, refl, sym, ◌∙◌, ap, arith, ◌⊎◌, inl, inr}
use Rattle.std.proofs.lemmas.Bool.{cases_order}
use Rattle.adj_revolve.specs.Binomial.{choose, choose_before, beta}

-- one way to choose none
choose-zero : (n : ℕ) → choose n 0 ≡ 1
unfolding choose
choose-zero zero = refl
choose-zero (suc n) = refl

-- Pascal's rule
choose-pascal : (n k : ℕ) → choose (suc n) (suc k) ≡ choose n k + choose n (suc k)
unfolding choose
choose-pascal n k = refl

-- none where more are to be chosen than there are
choose-past : (n k : ℕ) → n < k → choose n k ≡ 0
unfolding choose
choose-past n zero h = omega arith
choose-past zero (suc k) h = refl
choose-past (suc n) (suc k) h = omega (arith, choose-past n k (omega arith), choose-past n (suc k) (omega arith))

-- as many ways to choose one as there are things
choose-one : (n : ℕ) → choose n 1 ≡ n
unfolding choose
choose-one zero = refl
choose-one (suc n) = omega (arith, choose-zero n, choose-one n)

-- the advances that r repetitions spare with t snapshots
abbrev pub spared : ℕ → ℕ → ℕ
spared t r = choose (t + r) (t + 1)

-- no repetition spares none
pub spared-zero_repetitions : (t : ℕ) → spared t 0 ≡ 0
spared-zero_repetitions t = choose-past (t + 0) (t + 1) (omega arith)

-- with no snapshot r repetitions spare r
pub spared-zero_slots : (r : ℕ) → spared 0 r ≡ r
spared-zero_slots r =
    let e : 0 + r ≡ r = omega arith in
    let f : 0 + 1 ≡ 1 = refl in
    rw e (choose-one r)

-- Pascal's rule for them
pub spared-step : (t r : ℕ) → spared (suc t) (suc r) ≡ spared t (suc r) + spared (suc t) r
spared-step t r =
    let e : suc t + suc r ≡ suc (t + suc r) = omega arith in
    let f : suc t + 1 ≡ suc (t + 1) = omega arith in
    let g : suc t + r ≡ t + suc r = omega arith in
    rw (e, f, g) (choose-pascal (t + suc r) (t + 1))

-- a snapshot more spares no less
pub spared-raise : (t r : ℕ) → spared t r ≤ spared (suc t) r
spared-raise t zero = omega (arith, spared-zero_repetitions t)
spared-raise t (suc r) = omega (arith, spared-step t r)

-- with no repetition one step is turned
pub beta-zero_repetitions : (s : ℕ) → beta s 0 ≡ 1
unfolding choose
beta-zero_repetitions zero = refl
beta-zero_repetitions (suc s) =
    let e : suc s + 0 ≡ suc s = omega arith in
    let f : s + 0 ≡ s = omega arith in
    rw e (omega (arith, rw f at (beta-zero_repetitions s), choose-past s (suc s) (omega arith)))

-- and with no snapshot
pub beta-zero_slots : (r : ℕ) → beta 0 r ≡ 1
beta-zero_slots r = choose-zero (0 + r)

-- Pascal's rule for beta
pub beta-step : (s r : ℕ) → beta (suc s) (suc r) ≡ beta s (suc r) + beta (suc s) r
beta-step s r =
    let e : suc s + suc r ≡ suc (s + suc r) = omega arith in
    let g : suc s + r ≡ s + suc r = omega arith in
    rw (e, g) (choose-pascal (s + suc r) s)

-- a repetition more spares as many as the steps that the repetitions before it turn
pub spared-more : (t r : ℕ) → spared t (suc r) ≡ beta t r + spared t r
spared-more t r =
    let e : t + suc r ≡ suc (t + r) = omega arith in
    let f : t + 1 ≡ suc t = omega arith in
    rw (e, f) (choose-pascal (t + r) t)

-- a step at least is turned
pub beta-pos : (s r : ℕ) → 1 ≤ beta s r
beta-pos zero r = omega (arith, beta-zero_slots r)
beta-pos (suc s) zero = omega (arith, beta-zero_repetitions (suc s))
beta-pos (suc s) (suc r) = omega (arith, beta-step s r, beta-pos (suc s) r)

-- one repetition more
pub beta-rise : (s r : ℕ) → beta s r ≤ beta s (suc r)
beta-rise zero r = omega (arith, beta-zero_slots r, beta-zero_slots (suc r))
beta-rise (suc s) r = omega (arith, beta-step s r)

-- and any more
pub beta-mono : (s r i : ℕ) → r ≤ i → beta s r ≤ beta s i
beta-mono s r zero h = let e : r ≡ 0 = omega arith in rw e (omega arith)
beta-mono s r (suc i) h = go (cases_order r (suc i)) (λ k. beta-mono s r i k)
  where
    go : (r ≡ suc i) ⊎ ((r < suc i) ⊎ (suc i < r)) → (r ≤ i → beta s r ≤ beta s i) → beta s r ≤ beta s (suc i)
    go (inl e) rest = rw e (omega arith)
    go (inr (inl k)) rest = omega (arith, rest (omega arith), beta-rise s i)
    go (inr (inr k)) rest = absurd (omega arith)

-- with a snapshot at least, r repetitions turn more than r steps
pub beta-above : (s r : ℕ) → 0 < s → r + 1 ≤ beta s r
beta-above zero r pos = absurd (omega arith)
beta-above (suc s) zero pos = omega (arith, beta-zero_repetitions (suc s))
beta-above (suc s) (suc r) pos = omega (arith, beta-step s r, beta-above (suc s) r pos, beta-pos s (suc r))

-- one snapshot more
pub beta-slots : (s r : ℕ) → beta s r ≤ beta (suc s) r
beta-slots s zero = omega (arith, beta-zero_repetitions s, beta-zero_repetitions (suc s))
beta-slots s (suc r) = omega (arith, beta-step s r)

-- snapshots and repetitions may change places
pub beta-turned : (s r : ℕ) → beta s r ≡ beta r s
beta-turned zero r = beta-zero_slots r ∙ sym (beta-zero_repetitions r)
beta-turned (suc s) zero = beta-zero_repetitions (suc s) ∙ sym (beta-zero_slots (suc s))
beta-turned (suc s) (suc r) =
    omega (arith, beta-step s r, beta-step r s, beta-turned s (suc r), beta-turned (suc s) r)

-- spared, as the closed form has it
pub spared-closed : (s r : ℕ) → spared s r ≡ choose_before (s + r) r
spared-closed s zero = spared-zero_repetitions s
spared-closed s (suc r) =
    let e : s + suc r ≡ (s + 1) + r = omega arith in
    let f : s + suc r ≡ r + (s + 1) = omega arith in
    ap (λ n. choose n (s + 1)) e ∙ (beta-turned (s + 1) r ∙ sym (ap (λ n. choose n r) f))

-- a snapshot more multiplies beta by a quotient, where a repetition more does
more_slots : (m : ℕ) → ((i : ℕ) → suc i * beta m (suc i) ≡ (m + suc i) * beta m i) → (i : ℕ) → suc m * beta (suc m) i ≡ (m + suc i) * beta m i
more_slots m p zero = rw (beta-zero_repetitions (suc m), beta-zero_repetitions m) (omega arith)
more_slots m p (suc i) = omega (arith, ap (λ z. suc m * z) (beta-step m i), more_slots m p i, p i)

-- and a repetition more does: the absorption law
pub more_repetitions : (m i : ℕ) → suc i * beta m (suc i) ≡ (m + suc i) * beta m i
more_repetitions zero i = rw (beta-zero_slots (suc i), beta-zero_slots i) (omega arith)
more_repetitions (suc m) i = omega (arith, ap (λ z. suc i * z) (beta-step m i), more_repetitions m i, more_slots m (λ j. more_repetitions m j) i)
