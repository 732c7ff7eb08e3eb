-- Unique: an expression at the front of some lexemes has one reading.
use Rattle.std.proofs.Common.{◌≡◌, List, [], ◌∷◌, ◌++◌, ◌<◌, length, arith, Option, Some, None, refl, sym, ap, subst, ◌∙◌}
use Rattle.def_text.specs.Grammar.{Syntax, number, variable, negated, joined, raised, applied, Arguments, only, beside, count_of, Sum, Derives}
use Rattle.def_text.specs.Machine.{value, values, Stops, arguments_from, arguments_of, syntaxes, wanting, read}
use Rattle.def_text.specs.Lexeme.{Lexeme}
use Rattle.std.specs.Prelude.{IfSome}
use Rattle.def_text.proofs.Complete.{reads, length-values}
use Rattle.def_text.proofs.Sound.{is_read}

from-push : (front : Arguments) (ss : List Syntax) (s : Syntax) → arguments_from front (ss ++ s ∷ []) ≡ beside (arguments_from front ss) s
unfolding arguments_from
from-push front [] s = refl
from-push front (t ∷ ss) s = from-push (beside front t) ss s

of-push : (ss : List Syntax) (s : Syntax) → 0 < length ss → arguments_of (ss ++ s ∷ []) ≡ beside (arguments_of ss) s
unfolding arguments_of
of-push [] s some = absurd (omega arith)
of-push (t ∷ ss) s some = from-push (only t) ss s

count_of-pos : (all : Arguments) → 0 < count_of all
count_of-pos (only s) = omega arith
count_of-pos (beside front s) = omega (arith, count_of-pos front)

mutual
  unfolding arguments_of arguments_from

  value-syntaxes : (s : Syntax) → value syntaxes s ≡ s
  value-syntaxes (number digits) = refl
  value-syntaxes (variable text) = refl
  value-syntaxes (negated s) = ap negated (value-syntaxes s)
  value-syntaxes (joined op a b) = rw (value-syntaxes a, value-syntaxes b) refl
  value-syntaxes (raised a b) = rw (value-syntaxes a, value-syntaxes b) refl
  value-syntaxes (applied text all) = ap (applied text) (values-syntaxes all)

  values-syntaxes : (all : Arguments) → arguments_of (values syntaxes all) ≡ all
  values-syntaxes (only s) = ap only (value-syntaxes s)
  values-syntaxes (beside front s) = of-push (values syntaxes front) (value syntaxes s) (omega (arith, length-values syntaxes front, count_of-pos front)) ∙ rw (values-syntaxes front, value-syntaxes s) refl

some_is : (p q : Syntax × List Lexeme) → Some p ≡ Some q → p ≡ q
some_is p q h = cc

-- what is derived at the front of some lexemes, up to what ends an expression, is one expression with one rest
pub one_expression : (ws rest others : List Lexeme) (s t : Syntax) → Derives Sum ws rest s → Derives Sum ws others t → Stops rest → Stops others → (s ≡ t) × (rest ≡ others)
one_expression ws rest others s t r q e f =
    let pair = some_is (value syntaxes s, rest) (value syntaxes t, others) (sym (reads Syntax syntaxes ws rest s r e) ∙ reads Syntax syntaxes ws others t q f) in
    (sym (value-syntaxes s) ∙ ap (λ p. p.0) pair ∙ value-syntaxes t, ap (λ p. p.1) pair)

-- what is derived is read as itself
pub reads_itself : (ws rest : List Lexeme) (s : Syntax) → Derives Sum ws rest s → Stops rest → read syntaxes (wanting []) ws ≡ Some (s, rest)
reads_itself ws rest s h stop = reads Syntax syntaxes ws rest s h stop ∙ ap (λ t. Some (t, rest)) (value-syntaxes s)

-- and what is read is derived
pub itself_derived : (ws : List Lexeme) → IfSome (read syntaxes (wanting []) ws) (λ r. Derives Sum ws r.1 r.0)
itself_derived ws = derived (read syntaxes (wanting []) ws) (is_read syntaxes ws)
  where
    derived : (o : Option (Syntax × List Lexeme)) → IfSome o (λ r. (s : Syntax) × Derives Sum ws r.1 s × (r.0 ≡ value syntaxes s)) → IfSome o (λ r. Derives Sum ws r.1 r.0)
    derived None h = tt
    derived (Some r) h = let P : Syntax → Type 0 = λ t. Derives Sum ws r.1 t in subst P (sym (h.2 ∙ value-syntaxes h.0)) h.1
