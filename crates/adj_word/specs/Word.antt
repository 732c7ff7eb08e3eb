-- Words: integers modulo 2 ^ 64, each written as the signed number from -2 ^ 63 to 2 ^ 63 - 1 that it is congruent to.
use Rattle.std.specs.Prelude.{ℕ, zero, suc, ℤ, pos, negsuc, neg_ℤ, ◌+ℤ◌, ◌-ℤ◌, ◌*ℤ◌, int_div}
use Rattle.std.specs.Int.{int_wrap, w64}
use Rattle.std.specs.Int.RustNames.{FitsSigned}

-- the word that an integer is congruent to modulo 2 ^ 64: its residue
abbrev pub wrap : ℤ → ℤ
wrap z = int_wrap w64 z

-- z is a word: it lies from -2 ^ 63 to 2 ^ 63 - 1
abbrev pub IsWord : ℤ → Type 0
IsWord z = FitsSigned w64 z

-- the residue of the sum
abbrev pub add : ℤ → ℤ → ℤ
add a b = wrap (a +ℤ b)

-- the residue of the difference
abbrev pub sub : ℤ → ℤ → ℤ
sub a b = wrap (a -ℤ b)

-- the residue of the product
abbrev pub mul : ℤ → ℤ → ℤ
mul a b = wrap (a *ℤ b)

-- the residue of the negation
abbrev pub negated : ℤ → ℤ
negated a = wrap (neg_ℤ a)

-- z to the power e, as an integer; 1 for e = 0
abbrev pub raised : ℤ → ℕ → ℤ
raised z zero = pos 1
raised z (suc e) = raised z e *ℤ z

-- the residue of the power
abbrev pub power : ℤ → ℕ → ℤ
power base e = wrap (raised base e)

-- the residue of the quotient cut towards zero; only the least word over -1 isn't its own residue
abbrev pub quotient : ℤ → ℤ → ℤ
quotient a b = wrap (int_div a b)

-- what the quotient leaves of a, modulo 2 ^ 64
abbrev pub remainder : ℤ → ℤ → ℤ
remainder a b = sub a (mul (quotient a b) b)

-- an integer, or 0 where it is below 0
abbrev pub at_least_zero : ℤ → ℕ
at_least_zero (pos n) = n
at_least_zero (negsuc n) = 0

-- how often a DO loop from m1 to m2 by m3 turns, as an integer: MAX(INT((m2 - m1 + m3) / m3), 0) (ANSI X3.9-1978, 11.10.3)
abbrev pub trip_count : ℤ → ℤ → ℤ → ℕ
trip_count m1 m2 m3 = at_least_zero (int_div (m2 -ℤ m1 +ℤ m3) m3)
