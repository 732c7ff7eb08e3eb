-- What the turns of a reversed loop that was run took.
use Rattle.std.proofs.Common.{◌≡◌, ◌≤◌, ◌<◌, ℕ, zero, suc, ◌+◌, refl, ap, ◌∙◌, arith}
use Rattle.law_sweep.proofs.StepRuns.{first_then}
use Rattle.law_cost.specs.Sums.{sum_of}

-- the sum of the numbers after the first
pub sum_shift : (f : ℕ → ℕ) (lo n : ℕ) → sum_of (λ i. f (suc i)) lo n ≡ sum_of f (suc lo) n
sum_shift f lo zero = refl
sum_shift f lo (suc n) = ap (λ z. f (suc lo) + z) (sum_shift f (suc lo) n)

-- m turns that begin with k statements and end with k', of which each takes one before its body, take at most what is given for each
pub steps_spent : (m k k' : ℕ) (given left f : ℕ → ℕ) → ((i : ℕ) → i < m → first_then k left i ≡ suc (given i)) → first_then k left m ≡ k' → ((i : ℕ) → i < m → given i ≤ left i + f i) → k ≤ k' + sum_of (λ i. f i + 1) 0 m
steps_spent zero k k' given left f counted all few = let is : k ≡ k' = all in omega (arith, is)
steps_spent (suc m) k k' given left f counted all few =
    let is : k ≡ suc (given 0) = counted 0 (omega arith) in
    let first = few 0 (omega arith) in
    let others = steps_spent m (left 0) k' (λ i. given (suc i)) (λ i. left (suc i)) (λ i. f (suc i)) (λ i less. here i ∙ counted (suc i) (omega (arith, less))) (here m ∙ all) (λ i less. few (suc i) (omega (arith, less))) in
    let shift = sum_shift (λ i. f i + 1) 0 m in
    omega (arith, is, first, others, shift)
  where
    here : (i : ℕ) → first_then (left 0) (λ i. left (suc i)) i ≡ left i
    here zero = refl
    here (suc i) = refl
