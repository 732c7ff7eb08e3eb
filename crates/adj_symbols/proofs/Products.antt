-- Products of literal extents.
use Rattle.std.proofs.Common.{◌≡◌, ℕ, ◌*◌, ◌<◌, ◌≤◌, Bool, true, false, List, [], ◌∷◌, refl, sym, ap, ap₂, ◌∙◌, arith}
use Rattle.std.specs.Prelude.{◌||◌, ℤ, pos, negsuc, ◌*ℤ◌, int_lt, nat_lt}
use Rattle.std.specs.List.{list_any}
use Rattle.std.proofs.lemmas.Bool.Decides.{nat_tests}
use Rattle.std.proofs.Math.Nat.{mul-le-mul, mul_assoc}
use Rattle.std.proofs.Math.IntN.{pos-*ℤ-pos, *ℤ_comm, *ℤ-one, one}
use Rattle.adj_tree.specs.Code.{Extent, fixed, given, Procedure}
use Rattle.def_names.specs.NameFaults.{literal_product, is_bad_extent}
use Rattle.adj_symbols.specs.View.{literal_of}

pub neither : (a b : Bool) → (a || b) ≡ false → (a ≡ false) × (b ≡ false)
neither true b h = absurd cc
neither false b h = (refl, h)

-- a number that isn't below 1
from_one : (z : ℤ) → int_lt z (pos 1) ≡ false → (n : ℕ) × (z ≡ pos n) × (1 ≤ n)
from_one (pos n) h = (n, refl, least n h)
  where
    least : (n : ℕ) → nat_lt n 1 ≡ false → 1 ≤ n
    least n h = grind (arith, nat_tests)
from_one (negsuc n) h = absurd cc

-- an extent that isn't bad, as a literal, isn't below 1
pub good_literal : (u : Procedure) (e : Extent) (es : List Extent) → list_any (is_bad_extent u) (e ∷ es) ≡ false → int_lt (literal_of e) (pos 1) ≡ false
good_literal u (fixed z) es h = (neither (int_lt z (pos 1)) (list_any (is_bad_extent u) es) h).0
good_literal u (given x) es h = refl

pub good_rest : (u : Procedure) (e : Extent) (es : List Extent) → list_any (is_bad_extent u) (e ∷ es) ≡ false → list_any (is_bad_extent u) es ≡ false
good_rest u e es h = (neither (is_bad_extent u e) (list_any (is_bad_extent u) es) h).1

one_times : (z : ℤ) → pos 1 *ℤ z ≡ z
unfolding one
one_times z = *ℤ_comm (pos 1) z ∙ *ℤ-one z

-- the product of an extent and those behind it
pub product_step : (e : Extent) (es : List Extent) → literal_product (e ∷ es) ≡ literal_of e *ℤ literal_product es
product_step (fixed z) es = refl
product_step (given x) es = sym (one_times (literal_product es))

-- a product of extents that aren't bad is at least 1
good_product : (u : Procedure) (es : List Extent) → list_any (is_bad_extent u) es ≡ false → (r : ℕ) × (literal_product es ≡ pos r) × (1 ≤ r)
good_product u [] h = (1, refl, omega arith)
good_product u (e ∷ es) h =
    let a = from_one (literal_of e) (good_literal u e es h) in
    let b = good_product u es (good_rest u e es h) in
    (a.0 * b.0, product_step e es ∙ ap₂ (λ x y. x *ℤ y) a.1 b.1 ∙ pos-*ℤ-pos a.0 b.0, mul-le-mul a.2 b.2)

-- the product so far and the extents that are left
pub product_more : (u : Procedure) (p n q : ℕ) (e : Extent) (es : List Extent) → list_any (is_bad_extent u) (e ∷ es) ≡ false → pos n ≡ literal_of e → q ≡ p * n → pos q *ℤ literal_product es ≡ pos p *ℤ literal_product (e ∷ es)
product_more u p n q e es h f g =
    let b = good_product u es (good_rest u e es h) in
    let r = b.0 in
    ap₂ (λ x y. pos x *ℤ y) g b.1
    ∙ pos-*ℤ-pos (p * n) r
    ∙ ap pos (mul_assoc p n r)
    ∙ sym (pos-*ℤ-pos p (n * r))
    ∙ ap (λ z. pos p *ℤ z) (sym (pos-*ℤ-pos n r) ∙ ap₂ (λ x y. x *ℤ y) f (sym b.1) ∙ sym (product_step e es))

-- where it is too great, so is the product of all
pub product_great : (u : Procedure) (p n : ℕ) (e : Extent) (es : List Extent) (all : ℤ) → list_any (is_bad_extent u) (e ∷ es) ≡ false → pos n ≡ literal_of e → 1048576 < p * n → pos p *ℤ literal_product (e ∷ es) ≡ all → true ≡ int_lt (pos 1048576) all
product_great u p n e es all h f g made =
    let b = good_product u es (good_rest u e es h) in
    let value : pos (p * n * b.0) ≡ all = sym (pos-*ℤ-pos (p * n) b.0) ∙ ap (λ z. pos (p * n) *ℤ z) (sym b.1) ∙ product_more u p n (p * n) e es h f refl ∙ made in
    great (p * n * b.0) (more (p * n) b.0 g b.2) ∙ ap (int_lt (pos 1048576)) value
  where
    more : (a b : ℕ) → 1048576 < a → 1 ≤ b → 1048576 < a * b
    more a b h g = omega (arith, mul-le-mul {n₁ = a} {m₁ = 1} {n₂ = a} {m₂ = b} (omega arith) g)

    great : (a : ℕ) → 1048576 < a → true ≡ nat_lt 1048576 a
    great a h = grind (arith, nat_tests)

-- the number of such an extent is at least 1
pub from_literal : (e : Extent) (n : ℕ) → int_lt (literal_of e) (pos 1) ≡ false → pos n ≡ literal_of e → 1 ≤ n
from_literal e n h f = least n (ap (λ z. int_lt z (pos 1)) f ∙ h)
  where
    least : (n : ℕ) → nat_lt n 1 ≡ false → 1 ≤ n
    least n h = grind (arith, nat_tests)
