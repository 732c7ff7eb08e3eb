-- When `&&` and `||` hold.
use Rattle.std.proofs.Common.{◌≡◌, ◌⊎◌, inl, inr, Bool, true, false, refl, ap, ◌∙◌}
use Rattle.std.proofs.lemmas.Bool.{or_cases}
use Rattle.std.specs.Prelude.{◌||◌, ◌&&◌}

-- both parts hold
pub and_true : (a b : Bool) → (a && b) ≡ true → (a ≡ true) × (b ≡ true)
and_true true b h = (refl, h)
and_true false b h = absurd cc

-- neither part holds
pub or_false : (a b : Bool) → (a || b) ≡ false → (a ≡ false) × (b ≡ false)
or_false true b e = absurd (let f : true ≡ false = e in cc)
or_false false b e = (refl, e)

-- one part is enough
pub or_first : (a b : Bool) → a ≡ true → (a || b) ≡ true
or_first a b e = ap (λ z. z || b) e

pub or_second : (a b : Bool) → b ≡ true → (a || b) ≡ true
or_second true b e = refl
or_second false b e = e

-- each part may become true
pub and_more : (v w p : Bool) → (v ≡ true → w ≡ true) → (v && p) ≡ true → (w && p) ≡ true
and_more true w p h e = ap (λ z. z && p) (h refl) ∙ e
and_more false w p h e = cc

pub or_more : (a b c d : Bool) → (a ≡ true → c ≡ true) → (b ≡ true → d ≡ true) → (a || b) ≡ true → (c || d) ≡ true
or_more a b c d f g e = go (or_cases a b e)
  where
    go : (a ≡ true) ⊎ (b ≡ true) → (c || d) ≡ true
    go (inl h) = or_first c d (f h)
    go (inr h) = or_second c d (g h)
