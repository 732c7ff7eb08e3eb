-- TestDerived: the lexemes of a condition, and that those of a written condition derive it.
use Rattle.std.proofs.Common.{◌≡◌, ℕ, zero, suc, ◌≤◌, true, ltb, List, ◌∷◌, Some, refl, arith, inl, inr}
use Rattle.std.proofs.lemmas.Bool.{cases_lt, lt-ltb, le-ltb}
use Rattle.adj_tree.specs.Code.{Term, Rel, is_less, is_most, is_same, is_other, is_greater, is_least, Test, compare, negation, conjunction, disjunction}
use Rattle.def_text.specs.declared.token.TokenKind.{TokenKind}
use Rattle.def_text.specs.declared.token.TokenKind.TheVariants.{Right, Lt, Le, Eq, Ne, Gt, Ge, Not, And, Or}
use Rattle.def_text.specs.Condition.{Condition, compared, denied, both, either, Relates, less, most, same, other, greater, least, Part, Whole, Conjunction, Item, Plain, DerivesCondition, comparison, group, plain, not, item, and, whole, or, test, ReadsTest}
use Rattle.def_text.specs.Text.{test_level}
use Rattle.def_text.specs.Lexeme.{Lexeme, Mark}
use Rattle.def_text.specs.Written.{IsWrittenTest}
use Rattle.def_text.proofs.TermLexemes.{Lexemes, enclosed_lexemes, term_lexemes}
use Rattle.def_text.proofs.TermDerived.{as_whole}

abbrev pub rel_mark : Rel → TokenKind
rel_mark is_less = Lt
rel_mark is_most = Le
rel_mark is_same = Eq
rel_mark is_other = Ne
rel_mark is_greater = Gt
rel_mark is_least = Ge

-- the lexemes of a condition, and the rest
abbrev pub test_lexemes : Test → Lexemes
test_lexemes (compare r a b) rest = term_lexemes a (Mark (rel_mark r) ∷ term_lexemes b rest)
test_lexemes (negation c) rest = Mark Not ∷ enclosed_lexemes (ltb (test_level c) 3) (test_lexemes c) rest
test_lexemes (conjunction c d) rest = enclosed_lexemes (ltb (test_level c) 1) (test_lexemes c) (Mark And ∷ enclosed_lexemes (ltb (test_level d) 2) (test_lexemes d) rest)
test_lexemes (disjunction c d) rest = enclosed_lexemes (ltb (test_level c) 0) (test_lexemes c) (Mark Or ∷ enclosed_lexemes (ltb (test_level d) 1) (test_lexemes d) rest)

relates : (r : Rel) → Relates (rel_mark r) r
relates is_less = less
relates is_most = most
relates is_same = same
relates is_other = other
relates is_greater = greater
relates is_least = least

-- what derives a condition in a place of a level
abbrev part : ℕ → Part
part zero = Whole
part (suc zero) = Conjunction
part (suc (suc zero)) = Item
part (suc (suc (suc n))) = Plain

-- these lexemes, before any rest, are derived from the part, as this condition
abbrev StandsTest : Part → Lexemes → Test → Type 0
StandsTest p ws t = (c : Condition) × (test c ≡ Some t) × ((rest : List Lexeme) → DerivesCondition p (ws rest) rest c)

lift : (p : ℕ) (ws : Lexemes) (t : Test) → StandsTest Plain ws t → StandsTest (part p) ws t
lift zero ws t d = (d.0, d.1, λ rest. whole (item (plain (d.2 rest))))
lift (suc zero) ws t d = (d.0, d.1, λ rest. item (plain (d.2 rest)))
lift (suc (suc zero)) ws t d = (d.0, d.1, λ rest. plain (d.2 rest))
lift (suc (suc (suc p))) ws t d = d

-- a condition whose level isn't below that of its place
lower : (l p : ℕ) (ws : Lexemes) (t : Test) → p ≤ l → StandsTest (part l) ws t → StandsTest (part p) ws t
lower zero zero ws t h d = d
lower zero (suc p) ws t h d = absurd (omega arith)
lower (suc zero) zero ws t h d = (d.0, d.1, λ rest. whole (d.2 rest))
lower (suc zero) (suc zero) ws t h d = d
lower (suc zero) (suc (suc p)) ws t h d = absurd (omega arith)
lower (suc (suc zero)) zero ws t h d = (d.0, d.1, λ rest. whole (item (d.2 rest)))
lower (suc (suc zero)) (suc zero) ws t h d = (d.0, d.1, λ rest. item (d.2 rest))
lower (suc (suc zero)) (suc (suc zero)) ws t h d = d
lower (suc (suc zero)) (suc (suc (suc p))) ws t h d = absurd (omega arith)
lower (suc (suc (suc l))) p ws t h d = lift p ws t d

in_parentheses : (l : ℕ) (ws : Lexemes) (t : Test) → StandsTest (part l) ws t → StandsTest Plain (enclosed_lexemes true ws) t
in_parentheses l ws t d = let e = lower l 0 ws t (omega arith) d in (e.0, e.1, λ rest. group (e.2 (Mark Right ∷ rest)))

-- a condition in its place
operand : (l p : ℕ) (ws : Lexemes) (t : Test) → StandsTest (part l) ws t → StandsTest (part p) (enclosed_lexemes (ltb l p) ws) t
operand l p ws t d =
    elim (cases_lt l p) [
      | inl lt ↦ rw (lt-ltb l p lt) (lift p (enclosed_lexemes true ws) t (in_parentheses l ws t d))
      | inr le ↦ rw (le-ltb l p le) (lower l p ws t le d)
    ]

related : (r : Rel) (a b : Term) → IsWrittenTest (compare r a b) → StandsTest Plain (test_lexemes (compare r a b)) (compare r a b)
related r a b h =
    let d = as_whole a h.0 in
    let e = as_whole b h.1 in
    (compared r d.0 e.0, rw (d.1, e.1) refl, λ rest. comparison (relates r) (d.2 (Mark (rel_mark r) ∷ term_lexemes b rest)) (e.2 rest))

noted : (ws : Lexemes) (c : Test) → StandsTest Plain ws c → StandsTest Item (λ rest. Mark Not ∷ ws rest) (negation c)
noted ws c d = (denied d.0, rw d.1 refl, λ rest. not (d.2 rest))

anded : (ws vs : Lexemes) (c d : Test) → StandsTest Conjunction ws c → StandsTest Item vs d → StandsTest Conjunction (λ rest. ws (Mark And ∷ vs rest)) (conjunction c d)
anded ws vs c d e f = (both e.0 f.0, rw (e.1, f.1) refl, λ rest. and (e.2 (Mark And ∷ vs rest)) (f.2 rest))

ored : (ws vs : Lexemes) (c d : Test) → StandsTest Whole ws c → StandsTest Conjunction vs d → StandsTest Whole (λ rest. ws (Mark Or ∷ vs rest)) (disjunction c d)
ored ws vs c d e f = (either e.0 f.0, rw (e.1, f.1) refl, λ rest. or (e.2 (Mark Or ∷ vs rest)) (f.2 rest))

-- the lexemes of a written condition derive it, from the part of its level
pub derives_test : (c : Test) → IsWrittenTest c → StandsTest (part (test_level c)) (test_lexemes c) c
derives_test (compare r a b) h = related r a b h
derives_test (negation c) h = noted (enclosed_lexemes (ltb (test_level c) 3) (test_lexemes c)) c (operand (test_level c) 3 (test_lexemes c) c (derives_test c h))
derives_test (conjunction c d) h = anded (enclosed_lexemes (ltb (test_level c) 1) (test_lexemes c)) (enclosed_lexemes (ltb (test_level d) 2) (test_lexemes d)) c d (operand (test_level c) 1 (test_lexemes c) c (derives_test c h.0)) (operand (test_level d) 2 (test_lexemes d) d (derives_test d h.1))
derives_test (disjunction c d) h = ored (enclosed_lexemes (ltb (test_level c) 0) (test_lexemes c)) (enclosed_lexemes (ltb (test_level d) 1) (test_lexemes d)) c d (operand (test_level c) 0 (test_lexemes c) c (derives_test c h.0)) (operand (test_level d) 1 (test_lexemes d) d (derives_test d h.1))

-- the lexemes of a written condition read as it
pub reads_test : (c : Test) (rest : List Lexeme) → IsWrittenTest c → ReadsTest (test_lexemes c rest) rest c
reads_test c rest h = let d = lower (test_level c) 0 (test_lexemes c) c (omega arith) (derives_test c h) in (d.0, d.2 rest, d.1)
