-- Partial: what stands for an expression while it is read.
use Rattle.std.specs.Prelude.{ℕ, ◌+◌, min, max, nat_lt, List, [], ◌∷◌, Option, Some, None, ℤ, pos, Result, Ok, Err, if◌then◌else◌}
use Rattle.adj_tree.specs.Code.{Op, Term, lit, var, elem, neg, bin, pow, power_of, abs, none, more, plain}
use Rattle.adj_tree.specs.View.{term_of}
use Rattle.def_text.specs.Char.{number_of}
use Rattle.def_text.specs.Grammar.{in_words, is_absolute, operation_of, two_arguments}
use Rattle.def_text.specs.Machine.{Algebra}
use Rattle.adj_parse_expression.specs.declared.constant.Constant.{Constant}
use Rattle.adj_parse_expression.specs.declared.constant.Constant.TheVariants.{Other, Beyond, Word}
use Rattle.adj_parse_expression.specs.declared.flaw.Flaw.{Flaw}
use Rattle.adj_parse_expression.specs.declared.flaw.Flaw.TheVariants.{Large}
use Rattle.adj_parse_expression.specs.declared.operand.Operand.{Operand}
use Rattle.adj_parse_expression.specs.Constants.{negated_constant, joined_constant, powered_constant, is_other, exponent_of}
use Rattle.adj_parse_expression.specs.Flaws.{of_one, of_two, kept, as_power}
use Rattle.adj_parse_expression.specs.View.{seen}

-- the tree or what is wrong, the depth or 1 more than the limit, and what it is as an exponent
pub record Partial : Type 0 where
  pub found : Result Term Flaw
  pub depth : ℕ
  pub constant : Constant

-- one that is too deep isn't kept
abbrev pub bounded : ℕ → Result Term Flaw → ℕ → Constant → Partial
bounded limit found depth constant = record { found = kept (nat_lt limit depth) found; depth = min depth (limit + 1); constant = constant }

-- a literal, where it is a word
abbrev pub literal : ℕ → Option ℤ → Partial
literal limit None = bounded limit (Err Large) 1 Beyond
literal limit (Some z) = bounded limit (Ok (lit z)) 1 (Word z)

abbrev pub scalar : ℕ → List ℕ → Partial
scalar limit x = bounded limit (Ok (var (plain x))) 1 Other

abbrev pub opposite : ℕ → Partial → Partial
opposite limit a = bounded limit (of_one neg a.found) (a.depth + 1) (negated_constant a.constant)

abbrev pub combined : ℕ → Op → Partial → Partial → Partial
combined limit op a b = bounded limit (of_two (bin op) a.found b.found) (max a.depth b.depth + 1) (joined_constant op a.constant b.constant)

-- a literal exponent is no part of the tree
abbrev pub to_literal : ℕ → Partial → Partial → Partial
to_literal limit a b = bounded limit (of_two pow a.found (as_power b.found (exponent_of b.constant))) (a.depth + 1) (powered_constant a.constant b.constant)

abbrev pub to_expression : ℕ → Partial → Partial → Partial
to_expression limit a b = bounded limit (of_two power_of a.found b.found) (max a.depth b.depth + 1) Other

abbrev pub powered : ℕ → Partial → Partial → Partial
powered limit a b = if is_other b.constant then to_expression limit a b else to_literal limit a b

abbrev pub one_argument : List ℕ → Term → Term
one_argument x a = if is_absolute x then abs a else elem (plain x) (more a none)

-- a name with one or two arguments; another number is never read
abbrev pub application : ℕ → List ℕ → List Partial → Partial
application limit x (a ∷ []) = bounded limit (of_one (one_argument x) a.found) (a.depth + 1) Other
application limit x (a ∷ b ∷ []) = bounded limit (of_two (two_arguments x (operation_of x)) a.found b.found) (max a.depth b.depth + 1) Other
application limit x _ = bounded limit (Err Large) 1 Other

abbrev pub algebra : ℕ → Algebra Partial
algebra limit = record { digits = λ ds. literal limit (in_words (pos (number_of ds))); name = scalar limit; opposite = opposite limit; combined = combined limit; powered = powered limit; application = application limit }

abbrev pub operand_of : Operand → Partial
operand_of x = record { found = seen (λ e. term_of e.value) x.found; depth = x.depth; constant = x.constant }

-- an expression that is read to its end, and what stands behind it
abbrev pub ended : {Y : Type 0} → Y → Option Partial → Option (Result Term Flaw × Y)
ended rest None = None
ended rest (Some x) = Some (x.found, rest)
