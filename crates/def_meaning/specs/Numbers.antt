-- The numbers that a run goes over: words, or words that each carry a tangent. (docs/RUNNING.md, "Numbers")
use Rattle.std.specs.Prelude.{ℕ, zero, suc, ℤ, pos, Bool, not, int_lt, int_le, Result, Ok, Err, if◌then◌else◌}
use Rattle.std.specs.Ordering.{int_eq}
use Rattle.adj_tree.specs.Code.{Op, plus, minus, times, quot, modulo, greater, lesser, Rel, is_less, is_most, is_same, is_other, is_greater, is_least}
use Rattle.adj_word.specs.Word.{add, sub, mul, negated, power, quotient, remainder}
use Rattle.def_meaning.specs.Trap.{Trap, division}

pub record Numbers (C : Type 0) : Type 0 where
  -- the number of a word, without a tangent
  pub of_word : ℤ → C
  -- the word of a number: all that tests, subscripts, bounds and quotients look at
  pub shown : C → ℤ
  pub negation : C → C
  pub sum : C → C → C
  pub difference : C → C → C
  pub product : C → C → C
  pub raised_to : C → ℕ → C

-- words alone, modulo 2 ^ 64
abbrev pub words : Numbers ℤ
words = record {
  of_word = λ z. z;
  shown = λ z. z;
  negation = negated;
  sum = add;
  difference = sub;
  product = mul;
  raised_to = power;
}

-- the tangent of u ** k, where that of u is d: k * u ** (k - 1) * d, and 0 for k = 0
abbrev pub power_tangent : ℤ → ℤ → ℕ → ℤ
power_tangent u d zero = pos 0
power_tangent u d (suc k) = mul (mul (pos (suc k)) (power u k)) d

-- a word and its tangent
abbrev pub duals : Numbers (ℤ × ℤ)
duals = record {
  of_word = λ z. (z, pos 0);
  shown = λ a. a.0;
  negation = λ a. (negated a.0, negated a.1);
  sum = λ a b. (add a.0 b.0, add a.1 b.1);
  difference = λ a b. (sub a.0 b.0, sub a.1 b.1);
  product = λ a b. (mul a.0 b.0, add (mul a.1 b.0) (mul a.0 b.1));
  raised_to = λ a k. (power a.0 k, power_tangent a.0 a.1 k);
}

-- the quotient and what it leaves have no tangent; MAX and MIN are one of their arguments, the first where both are equal
abbrev pub operation : {C : Type 0} → Numbers C → Op → C → C → Result C Trap
operation n plus a b = Ok (n.sum a b)
operation n minus a b = Ok (n.difference a b)
operation n times a b = Ok (n.product a b)
operation n quot a b = if int_eq (n.shown b) (pos 0) then Err division else Ok (n.of_word (quotient (n.shown a) (n.shown b)))
operation n modulo a b = if int_eq (n.shown b) (pos 0) then Err division else Ok (n.of_word (remainder (n.shown a) (n.shown b)))
operation n greater a b = Ok (if int_lt (n.shown a) (n.shown b) then b else a)
operation n lesser a b = Ok (if int_lt (n.shown b) (n.shown a) then b else a)

-- ABS: the negation where the argument is below 0
abbrev pub absolute : {C : Type 0} → Numbers C → C → C
absolute n a = if int_lt (n.shown a) (pos 0) then n.negation a else a

-- whether two words stand in a relation
abbrev pub compares : Rel → ℤ → ℤ → Bool
compares is_less a b = int_lt a b
compares is_most a b = int_le a b
compares is_same a b = int_eq a b
compares is_other a b = not (int_eq a b)
compares is_greater a b = int_lt b a
compares is_least a b = int_le b a
