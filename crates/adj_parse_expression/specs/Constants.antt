-- Constants: what an expression is as an exponent, from what its parts are.
use Rattle.std.specs.Prelude.{ℕ, ℤ, neg_ℤ, Bool, true, false, Option, Some, None, if◌then◌else◌}
use Rattle.adj_tree.specs.Code.{Op}
use Rattle.def_text.specs.Grammar.{joins_literals, in_words, constant_of, constant_power, as_exponent}
use Rattle.adj_parse_expression.specs.declared.constant.Constant.{Constant}
use Rattle.adj_parse_expression.specs.declared.constant.Constant.TheVariants.{Other, Beyond, Word}

-- a literal expression, by its value where it has one
abbrev pub valued : Option ℤ → Constant
valued None = Beyond
valued (Some z) = Word z

-- any expression, by whether it is literal and by its value
abbrev pub constancy : Bool → Option ℤ → Constant
constancy true value = valued value
constancy false value = Other

-- what is made of one part, and of two: literal where the parts are, with a value where they have values
abbrev pub of_constant : (ℤ → Option ℤ) → Constant → Constant
of_constant f Other = Other
of_constant f Beyond = Beyond
of_constant f (Word z) = valued (f z)

abbrev pub of_constants : (ℤ → ℤ → Option ℤ) → Constant → Constant → Constant
of_constants f Other d = Other
of_constants f Beyond Other = Other
of_constants f Beyond d = Beyond
of_constants f (Word a) Other = Other
of_constants f (Word a) Beyond = Beyond
of_constants f (Word a) (Word b) = valued (f a b)

abbrev pub negated_constant : Constant → Constant
negated_constant c = of_constant (λ z. in_words (neg_ℤ z)) c

abbrev pub joined_constant : Op → Constant → Constant → Constant
joined_constant op c d = if joins_literals op then of_constants (constant_of op) c d else Other

abbrev pub powered_constant : Constant → Constant → Constant
powered_constant c d = of_constants constant_power c d

abbrev pub is_other : Constant → Bool
is_other Other = true
is_other _ = false

-- the exponent that a literal expression is
abbrev pub exponent_of : Constant → Option ℕ
exponent_of (Word z) = as_exponent z
exponent_of _ = None
