-- TestSpelled: the lexemes of a condition are spelled as its characters, and can be told apart.
use Rattle.std.proofs.Common.{◌≡◌, ℕ, ltb, List, ◌∷◌, ◌++◌, refl, ap, ◌∙◌, append_assoc}
use Rattle.std.specs.Prelude.{codes}
use Rattle.std.specs.List.{flat_map}
use Rattle.adj_tree.specs.Code.{Rel, is_less, is_most, is_same, is_other, is_greater, is_least, Test, compare, negation, conjunction, disjunction}
use Rattle.def_text.specs.declared.token.TokenKind.TheVariants.{And, Or}
use Rattle.def_text.specs.Text.{enclosed, term_text, rel_text, test_level, test_text}
use Rattle.def_text.specs.Lexeme.{Lexeme, Mark}
use Rattle.def_text.specs.Written.{IsWrittenTest}
use Rattle.def_text.proofs.Spelled.{spelling, AreSpaced}
use Rattle.def_text.proofs.TermLexemes.{Lexemes, enclosed_lexemes, term_lexemes}
use Rattle.def_text.proofs.TermSpelled.{AreSpelled, enclosed_spelled, term_spelled}
use Rattle.def_text.proofs.TermSpaced.{AreSpacedBefore, enclosed_spaced, term_spaced}
use Rattle.def_text.proofs.TestDerived.{rel_mark, test_lexemes}

rel_spelled : (r : Rel) (rest : List Lexeme) → flat_map spelling (Mark (rel_mark r) ∷ rest) ≡ rel_text r ++ flat_map spelling rest
rel_spelled is_less rest = refl
rel_spelled is_most rest = refl
rel_spelled is_same rest = refl
rel_spelled is_other rest = refl
rel_spelled is_greater rest = refl
rel_spelled is_least rest = refl

-- lexemes with characters between them
between_spelled : (ws vs : Lexemes) (cs m ds : List ℕ) (inner : Lexemes) → AreSpelled ws cs → AreSpelled inner m → AreSpelled vs ds → AreSpelled (λ rest. ws (inner (vs rest))) (cs ++ m ++ ds)
between_spelled ws vs cs m ds inner h i g rest = h (inner (vs rest)) ∙ ap (λ xs. cs ++ xs) (i (vs rest) ∙ ap (λ xs. m ++ xs) (g rest)) ∙ simp append_assoc

pub test_spelled : (c : Test) → IsWrittenTest c → AreSpelled (test_lexemes c) (test_text c)
test_spelled (compare r a b) h rest = between_spelled (term_lexemes a) (term_lexemes b) (term_text a) (rel_text r) (term_text b) (λ ws. Mark (rel_mark r) ∷ ws) (term_spelled a h.0) (rel_spelled r) (term_spelled b h.1) rest
test_spelled (negation c) h rest = ap (λ xs. codes ".NOT." ++ xs) (enclosed_spelled (ltb (test_level c) 3) (test_lexemes c) (test_text c) (test_spelled c h) rest)
test_spelled (conjunction c d) h rest = between_spelled (enclosed_lexemes (ltb (test_level c) 1) (test_lexemes c)) (enclosed_lexemes (ltb (test_level d) 2) (test_lexemes d)) (enclosed (ltb (test_level c) 1) (test_text c)) (codes ".AND.") (enclosed (ltb (test_level d) 2) (test_text d)) (λ ws. Mark And ∷ ws) (enclosed_spelled (ltb (test_level c) 1) (test_lexemes c) (test_text c) (test_spelled c h.0)) (λ ws. refl) (enclosed_spelled (ltb (test_level d) 2) (test_lexemes d) (test_text d) (test_spelled d h.1)) rest
test_spelled (disjunction c d) h rest = between_spelled (enclosed_lexemes (ltb (test_level c) 0) (test_lexemes c)) (enclosed_lexemes (ltb (test_level d) 1) (test_lexemes d)) (enclosed (ltb (test_level c) 0) (test_text c)) (codes ".OR.") (enclosed (ltb (test_level d) 1) (test_text d)) (λ ws. Mark Or ∷ ws) (enclosed_spelled (ltb (test_level c) 0) (test_lexemes c) (test_text c) (test_spelled c h.0)) (λ ws. refl) (enclosed_spelled (ltb (test_level d) 1) (test_lexemes d) (test_text d) (test_spelled d h.1)) rest

rel_spaced : (r : Rel) (ws : List Lexeme) → AreSpaced ws → AreSpaced (Mark (rel_mark r) ∷ ws)
rel_spaced is_less ws a = (tt, tt, a)
rel_spaced is_most ws a = (tt, tt, a)
rel_spaced is_same ws a = (tt, tt, a)
rel_spaced is_other ws a = (tt, tt, a)
rel_spaced is_greater ws a = (tt, tt, a)
rel_spaced is_least ws a = (tt, tt, a)

pub test_spaced : (c : Test) → IsWrittenTest c → AreSpacedBefore (test_lexemes c)
test_spaced (compare r a b) h rest e s = term_spaced a h.0 (Mark (rel_mark r) ∷ term_lexemes b rest) tt (rel_spaced r (term_lexemes b rest) (term_spaced b h.1 rest e s))
test_spaced (negation c) h rest e s = (tt, tt, enclosed_spaced (ltb (test_level c) 3) (test_lexemes c) (test_spaced c h) rest e s)
test_spaced (conjunction c d) h rest e s = enclosed_spaced (ltb (test_level c) 1) (test_lexemes c) (test_spaced c h.0) (Mark And ∷ enclosed_lexemes (ltb (test_level d) 2) (test_lexemes d) rest) tt (tt, tt, enclosed_spaced (ltb (test_level d) 2) (test_lexemes d) (test_spaced d h.1) rest e s)
test_spaced (disjunction c d) h rest e s = enclosed_spaced (ltb (test_level c) 0) (test_lexemes c) (test_spaced c h.0) (Mark Or ∷ enclosed_lexemes (ltb (test_level d) 1) (test_lexemes d) rest) tt (tt, tt, enclosed_spaced (ltb (test_level d) 1) (test_lexemes d) (test_spaced d h.1) rest e s)
