-- TermLexemes: the lexemes of an expression.
use Rattle.std.proofs.Common.{ℕ, ℤ, pos, negsuc, Bool, true, false, List, ◌∷◌}
use Rattle.std.specs.Prelude.{codes, nat_lt}
use Rattle.std.specs.Fmt.{decimal}
use Rattle.adj_tree.specs.Code.{Op, plus, minus, times, quot, modulo, greater, lesser, Term, Terms, lit, var, elem, neg, bin, pow, power_of, abs, none, more}
use Rattle.def_text.specs.declared.token.TokenKind.{TokenKind}
use Rattle.def_text.specs.declared.token.TokenKind.TheVariants.{Power, Star, Slash, Plus, Minus, Left, Right, Comma}
use Rattle.def_text.specs.Text.{var_text, left_place, right_place, term_level}
use Rattle.def_text.specs.Lexeme.{Lexeme, Named, Digits, Mark}

-- lexemes that stand before any rest
abbrev pub Lexemes : Type 0
Lexemes = List Lexeme → List Lexeme

-- lexemes in parentheses, where the test holds
abbrev pub enclosed_lexemes : Bool → Lexemes → Lexemes
enclosed_lexemes true ws rest = Mark Left ∷ ws (Mark Right ∷ rest)
enclosed_lexemes false ws rest = ws rest

-- what stands before, between and behind the operands of an operator
abbrev pub opening_lexemes : Op → Lexemes
opening_lexemes modulo rest = Named (codes "MOD") ∷ Mark Left ∷ rest
opening_lexemes greater rest = Named (codes "MAX") ∷ Mark Left ∷ rest
opening_lexemes lesser rest = Named (codes "MIN") ∷ Mark Left ∷ rest
opening_lexemes _ rest = rest

abbrev pub mark_between : Op → TokenKind
mark_between plus = Plus
mark_between minus = Minus
mark_between times = Star
mark_between quot = Slash
mark_between _ = Comma

abbrev pub closing_lexemes : Op → Lexemes
closing_lexemes modulo rest = Mark Right ∷ rest
closing_lexemes greater rest = Mark Right ∷ rest
closing_lexemes lesser rest = Mark Right ∷ rest
closing_lexemes _ rest = rest

abbrev pub magnitude : ℤ → ℕ
magnitude (pos n) = n
magnitude (negsuc n) = 0

abbrev mutual
  -- the lexemes of an expression, and the rest
  pub term_lexemes : Term → Lexemes
  term_lexemes (lit n) rest = Digits (decimal (magnitude n)) ∷ rest
  term_lexemes (var x) rest = Named (var_text x) ∷ rest
  term_lexemes (elem x s) rest = Named (var_text x) ∷ bracketed_lexemes s rest
  term_lexemes (neg a) rest = Mark Minus ∷ enclosed_lexemes (nat_lt (term_level a) 1) (term_lexemes a) rest
  term_lexemes (bin op a b) rest = opening_lexemes op (enclosed_lexemes (nat_lt (term_level a) (left_place op)) (term_lexemes a) (Mark (mark_between op) ∷ enclosed_lexemes (nat_lt (term_level b) (right_place op)) (term_lexemes b) (closing_lexemes op rest)))
  term_lexemes (pow a k) rest = enclosed_lexemes (nat_lt (term_level a) 3) (term_lexemes a) (Mark Power ∷ Digits (decimal k) ∷ rest)
  term_lexemes (power_of a b) rest = enclosed_lexemes (nat_lt (term_level a) 3) (term_lexemes a) (Mark Power ∷ enclosed_lexemes (nat_lt (term_level b) 2) (term_lexemes b) rest)
  term_lexemes (abs a) rest = Named (codes "ABS") ∷ Mark Left ∷ term_lexemes a (Mark Right ∷ rest)

  -- expressions in parentheses, separated by commas
  pub bracketed_lexemes : Terms → Lexemes
  bracketed_lexemes none rest = rest
  bracketed_lexemes (more e others) rest = Mark Left ∷ term_lexemes e (comma_lexemes others rest)

  pub comma_lexemes : Terms → Lexemes
  comma_lexemes none rest = Mark Right ∷ rest
  comma_lexemes (more e others) rest = Mark Comma ∷ term_lexemes e (comma_lexemes others rest)
