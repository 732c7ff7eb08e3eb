-- Small facts about truth values.
use Rattle.std.proofs.Common.{◌≡◌, Bool, true, false, refl, ℕ, arith}
use Rattle.std.specs.Prelude.{◌&&◌, ◌||◌, not, nat_le, nat_lt}
use Rattle.std.proofs.lemmas.Bool.Decides.{nat_tests}

pub and_true : (b : Bool) → (b && true) ≡ b
and_true true = refl
and_true false = refl

pub and_group : (a b c : Bool) → (a && (b && c)) ≡ ((a && b) && c)
and_group true b c = refl
and_group false b c = refl

-- two pairs, and the first of each
pub and_exchange : (a b c d : Bool) → ((a && b) && (c && d)) ≡ ((a && c) && (b && d))
and_exchange true true c d = refl
and_exchange true false true d = refl
and_exchange true false false d = refl
and_exchange false b c d = refl

pub not_or : (a b : Bool) → not (a || b) ≡ (not a && not b)
not_or true b = refl
not_or false b = refl

pub not_not : (b : Bool) → not b ≡ true → b ≡ false
not_not true h = absurd cc
not_not false h = refl

pub not_less : (n k : ℕ) → not (nat_lt n k) ≡ nat_le k n
not_less n k = grind (arith, nat_tests)

pub and_group_three : (a b c d : Bool) → (a && (b && (c && d))) ≡ ((a && (b && c)) && d)
and_group_three true b c d = and_group b c d
and_group_three false b c d = refl

-- the first of them behind the second
pub and_behind : (a b c d : Bool) → (a && ((b && c) && d)) ≡ ((b && (a && c)) && d)
and_behind true b c d = refl
and_behind false true c d = refl
and_behind false false c d = refl

-- the third of them behind the fourth
pub and_group_four : (a b c d e : Bool) → (a && ((b && c) && (d && e))) ≡ (((a && (b && d)) && c) && e)
and_group_four false b c d e = refl
and_group_four true false c d e = refl
and_group_four true true false true e = refl
and_group_four true true false false e = refl
and_group_four true true true true e = refl
and_group_four true true true false e = refl
