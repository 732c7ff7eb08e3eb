-- Laws of the ring of integers that std doesn't have.
use Rattle.std.proofs.Common.{◌≡◌, ◌+◌, ◌*◌, arith, ap, ◌∙◌}
use Rattle.std.specs.Prelude.{ℤ, pos, neg_ℤ, ◌+ℤ◌, ◌-ℤ◌, ◌*ℤ◌}
use borrow.Author.Differences.{up, down, same_in, sum_is_lem, product_is, neg_is}
use lib.IntN.{*ℤ_comm}

-- a product spreads over a sum at its right
pub mul-add_ℤ : (a b c : ℤ) → a *ℤ (b +ℤ c) ≡ a *ℤ b +ℤ a *ℤ c
mul-add_ℤ a b c = omega (arith, same_in, sum_is_lem, product_is, facts)
  where
    facts : (up a * (up (b +ℤ c) + down b + down c) ≡ up a * (down (b +ℤ c) + up b + up c)) × (down a * (up (b +ℤ c) + down b + down c) ≡ down a * (down (b +ℤ c) + up b + up c))
    facts = (ap (λ n. up a * n) (sum_is_lem b c), ap (λ n. down a * n) (sum_is_lem b c))

-- and over one at its left
pub add-mul_ℤ : (a b c : ℤ) → (a +ℤ b) *ℤ c ≡ a *ℤ c +ℤ b *ℤ c
add-mul_ℤ a b c = *ℤ_comm (a +ℤ b) c ∙ mul-add_ℤ c a b ∙ (λ i. *ℤ_comm c a i +ℤ *ℤ_comm c b i)

-- products may be grouped otherwise
pub mul_assoc_ℤ : (a b c : ℤ) → (a *ℤ b) *ℤ c ≡ a *ℤ (b *ℤ c)
mul_assoc_ℤ a b c = omega (arith, same_in, product_is, facts)
  where
    facts : (up (a *ℤ b) * up c ≡ (up a * up b + down a * down b) * up c) × (up (a *ℤ b) * down c ≡ (up a * up b + down a * down b) * down c) × (down (a *ℤ b) * up c ≡ (up a * down b + down a * up b) * up c) × (down (a *ℤ b) * down c ≡ (up a * down b + down a * up b) * down c) × (up a * up (b *ℤ c) ≡ up a * (up b * up c + down b * down c)) × (down a * up (b *ℤ c) ≡ down a * (up b * up c + down b * down c)) × (up a * down (b *ℤ c) ≡ up a * (up b * down c + down b * up c)) × (down a * down (b *ℤ c) ≡ down a * (up b * down c + down b * up c))
    facts = let p = product_is a b in let q = product_is b c in (ap (λ n. n * up c) p.0, ap (λ n. n * down c) p.0, ap (λ n. n * up c) p.1, ap (λ n. n * down c) p.1, ap (λ n. up a * n) q.0, ap (λ n. down a * n) q.0, ap (λ n. up a * n) q.1, ap (λ n. down a * n) q.1)

-- a sign may leave a product
pub neg-mul_ℤ : (a b : ℤ) → neg_ℤ a *ℤ b ≡ neg_ℤ (a *ℤ b)
neg-mul_ℤ a b = omega (arith, same_in, product_is, neg_is, facts)
  where
    facts : (up (neg_ℤ a) * up b ≡ down a * up b) × (up (neg_ℤ a) * down b ≡ down a * down b) × (down (neg_ℤ a) * up b ≡ up a * up b) × (down (neg_ℤ a) * down b ≡ up a * down b)
    facts = let p = neg_is a in (ap (λ n. n * up b) p.0, ap (λ n. n * down b) p.0, ap (λ n. n * up b) p.1, ap (λ n. n * down b) p.1)

pub mul-neg_ℤ : (a b : ℤ) → a *ℤ neg_ℤ b ≡ neg_ℤ (a *ℤ b)
mul-neg_ℤ a b = *ℤ_comm a (neg_ℤ b) ∙ neg-mul_ℤ b a ∙ ap neg_ℤ (*ℤ_comm b a)

-- a product spreads over a difference
pub mul-sub_ℤ : (a b c : ℤ) → a *ℤ (b -ℤ c) ≡ a *ℤ b -ℤ a *ℤ c
mul-sub_ℤ a b c = mul-add_ℤ a b (neg_ℤ c) ∙ ap (λ z. a *ℤ b +ℤ z) (mul-neg_ℤ a c)

pub sub-mul_ℤ : (a b c : ℤ) → (a -ℤ b) *ℤ c ≡ a *ℤ c -ℤ b *ℤ c
sub-mul_ℤ a b c = add-mul_ℤ a (neg_ℤ b) c ∙ ap (λ z. a *ℤ c +ℤ z) (neg-mul_ℤ b c)

-- 1 changes no product
pub one-mul_ℤ : (a : ℤ) → pos 1 *ℤ a ≡ a
one-mul_ℤ a = omega (arith, same_in, product_is)

pub mul-one_ℤ : (a : ℤ) → a *ℤ pos 1 ≡ a
mul-one_ℤ a = *ℤ_comm a (pos 1) ∙ one-mul_ℤ a

-- products with 0
pub zero-mul_ℤ : (a : ℤ) → pos 0 *ℤ a ≡ pos 0
zero-mul_ℤ a = omega (arith, same_in, product_is)

pub mul-zero_ℤ : (a : ℤ) → a *ℤ pos 0 ≡ pos 0
mul-zero_ℤ a = *ℤ_comm a (pos 0) ∙ zero-mul_ℤ a
