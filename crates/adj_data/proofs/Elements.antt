-- How many elements extents make, extent by extent, in a count that stands still at its greatest.
use Rattle.std.proofs.Common.{◌≡◌, ℕ, zero, suc, ◌*◌, ◌<◌, ◌≤◌, min, Bool, true, false, List, [], ◌∷◌, ◌++◌, length, get_or, refl, ap, sym, ◌∙◌, arith}
use Rattle.std.specs.Prelude.{ℤ, pos, negsuc, ◌*ℤ◌, int_le, int_lt, ◌&&◌, nat_lt}
use Rattle.std.proofs.Math.IntN.{pos-*ℤ-pos}
use Rattle.std.proofs.Math.Nat.{mul-le-mul_left}
use Rattle.def_meaning.specs.Units.{are_extents, elements}
use Rattle.def_meaning.proofs.Booleans.{and_true}

-- the extents multiplied so far
pub record Multiplied (zs : List ℤ) (count : ℕ) : Type 0 where
  pub number : ℕ
  pub some : 0 < number
  pub product : elements zs ≡ pos number
  pub capped : count ≡ min number 18446744073709551615
  pub extents : are_extents zs ≡ true

pub multiplied_none : Multiplied [] 1
multiplied_none = record { number = 1; some = omega arith; product = refl; capped = refl; extents = refl }

-- ---- one extent more

-- extents make a number of elements
made : (zs : List ℤ) → are_extents zs ≡ true → (n : ℕ) × (elements zs ≡ pos n)
made [] h = (1, refl)
made (negsuc a ∷ zs) h = absurd cc
made (pos a ∷ zs) h = let t = and_true (int_le (pos 1) (pos a)) (are_extents zs) h in let r = made zs t.1 in (a * r.0, ap (λ e. pos a *ℤ e) r.1 ∙ pos-*ℤ-pos a r.0)

elements-more : (zs : List ℤ) (m n : ℕ) → are_extents zs ≡ true → elements zs ≡ pos n → elements (zs ++ (pos m ∷ [])) ≡ pos (n * m)
elements-more [] m n h e =
    let one : 1 ≡ n = cc in
    let same : m * 1 ≡ 1 * m = omega arith in
    pos-*ℤ-pos m 1 ∙ ap pos same ∙ ap (λ k. pos (k * m)) one
elements-more (negsuc a ∷ zs) m n h e = absurd cc
elements-more (pos a ∷ zs) m n h e =
    let t = and_true (int_le (pos 1) (pos a)) (are_extents zs) h in
    let r = made zs t.1 in
    let k : ℕ = r.0 in
    let f : pos (a * k) ≡ pos n = sym (ap (λ z. pos a *ℤ z) r.1 ∙ pos-*ℤ-pos a k) ∙ e in
    let g : a * k ≡ n = cc in
    let assoc : a * (k * m) ≡ (a * k) * m = omega arith in
    ap (λ z. pos a *ℤ z) (elements-more zs m k t.1 r.1) ∙ pos-*ℤ-pos a (k * m) ∙ ap pos assoc ∙ ap (λ i. pos (i * m)) g

extents-more : (zs : List ℤ) (z : ℤ) → are_extents zs ≡ true → int_le (pos 1) z ≡ true → are_extents (zs ++ (z ∷ [])) ≡ true
extents-more [] z h e = ap (λ b. b && true) e
extents-more (a ∷ zs) z h e = let t = and_true (int_le (pos 1) a) (are_extents zs) h in ap (λ b. b && are_extents (zs ++ (z ∷ []))) t.0 ∙ extents-more zs z t.1 e

grown : (a m : ℕ) → 0 < m → a ≤ a * m
grown a m q = let one : 1 ≤ m = omega arith in let h = mul-le-mul_left a one in omega (arith, h)

-- a count that stands still is multiplied
capped_more : (n m top : ℕ) → 0 < m → min (min n top * m) top ≡ min (n * m) top
capped_more n m top q = go (nat_lt n top) refl
  where
    go : (b : Bool) → nat_lt n top ≡ b → min (min n top * m) top ≡ min (n * m) top
    go true e =
        let l : n < top = grind arith in
        let s : min n top ≡ n = omega arith in
        ap (λ k. min (k * m) top) s
    go false e =
        let l : top ≤ n = grind arith in
        let s : min n top ≡ top = omega arith in
        let u = grown top m q in
        let v = grown n m q in
        let a : min (top * m) top ≡ top = omega (arith, u) in
        let b : top ≡ min (n * m) top = omega (arith, v, l) in
        ap (λ k. min (k * m) top) s ∙ a ∙ b

pub multiplied_more : (zs : List ℤ) (z : ℤ) (count m next : ℕ) → Multiplied zs count → z ≡ pos m → 0 < m → next ≡ min (count * m) 18446744073709551615 → Multiplied (zs ++ (z ∷ [])) next
multiplied_more zs z count m next h e some f =
    let positive : 0 < h.number * m = let g = grown h.number m some in let p = h.some in omega (arith, g, p) in
    let one : int_le (pos 1) (pos m) ≡ true = grind arith in
    record {
      number = h.number * m;
      some = positive;
      product = ap (λ y. elements (zs ++ (y ∷ []))) e ∙ elements-more zs m h.number h.extents h.product;
      capped = f ∙ ap (λ k. min (k * m) 18446744073709551615) h.capped ∙ capped_more h.number m 18446744073709551615 some;
      extents = extents-more zs z h.extents (ap (int_le (pos 1)) e ∙ one);
    }

-- ---- extents that are none

below_one : (z : ℤ) → int_lt z (pos 1) ≡ true → int_le (pos 1) z ≡ false
below_one (pos zero) h = refl
below_one (pos (suc n)) h = absurd (let l : suc n < 1 = grind arith in omega arith)
below_one (negsuc n) h = refl

-- an integer of at least 1
pub from_one : (z : ℤ) → int_lt z (pos 1) ≡ false → (m : ℕ) × (z ≡ pos m) × (0 < m)
from_one (pos zero) h = absurd cc
from_one (pos (suc n)) h = (suc n, refl, omega arith)
from_one (negsuc n) h = absurd cc

-- with one extent below 1 not all are extents
pub extents_low : (xs : List ℤ) (i : ℕ) (d : ℤ) → i < length xs → int_lt (get_or xs i d) (pos 1) ≡ true → are_extents xs ≡ false
extents_low [] i d lt h = absurd (omega arith)
extents_low (x ∷ xs) zero d lt h = ap (λ b. b && are_extents xs) (below_one x h)
extents_low (x ∷ xs) (suc i) d lt h = ap (λ b. int_le (pos 1) x && b) (extents_low xs i d (omega arith) h) ∙ none (int_le (pos 1) x)
  where
    none : (b : Bool) → (b && false) ≡ false
    none true = refl
    none false = refl
