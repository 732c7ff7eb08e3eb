-- Truth values and greatest numbers, put together in another order.
use Rattle.std.proofs.Common.{◌≡◌, ℕ, max, Bool, true, false, refl, arith}
use Rattle.std.specs.Prelude.{◌&&◌, ◌||◌}

pub and_true : (a : Bool) → (a && true) ≡ a
and_true true = refl
and_true false = refl

pub and_false : (a : Bool) → (a && false) ≡ false
and_false true = refl
and_false false = refl

pub or_false : (a : Bool) → (a || false) ≡ a
or_false true = refl
or_false false = refl

pub and_turned : (a b c : Bool) → ((a && b) && c) ≡ (a && (c && b))
and_turned true true true = refl
and_turned true true false = refl
and_turned true false true = refl
and_turned true false false = refl
and_turned false b c = refl

pub or_assoc : (a b c : Bool) → ((a || b) || c) ≡ (a || (b || c))
or_assoc true b c = refl
or_assoc false b c = refl

-- the last two in the other order
pub or_turned : (a b c : Bool) → ((a || b) || c) ≡ (a || (c || b))
or_turned true b c = refl
or_turned false true true = refl
or_turned false true false = refl
or_turned false false true = refl
or_turned false false false = refl

pub max_assoc : (a b c : ℕ) → max (max a b) c ≡ max a (max b c)
max_assoc a b c = omega arith
