-- TermBalanced: the characters of written expressions and conditions are balanced.
use Rattle.std.proofs.Common.{◌≡◌, ℕ, ◌<◌, ◌^◌, pos, negsuc, Bool, true, eqb, List, [], ◌∷◌, ◌++◌, refl, arith}
use Rattle.std.specs.Prelude.{codes, nat_lt, ◌&&◌, not}
use Rattle.std.specs.List.{list_all}
use Rattle.std.specs.Fmt.{decimal}
use Rattle.adj_tree.specs.Code.{Op, plus, minus, times, quot, modulo, greater, lesser, Term, Terms, lit, var, elem, neg, bin, pow, power_of, abs, none, more, Var, plain, shadow, helper, Rel, is_less, is_most, is_same, is_other, is_greater, is_least, Test, compare, negation, conjunction, disjunction}
use Rattle.def_text.specs.Char.{left, right, comma, equals}
use Rattle.def_text.specs.Text.{left_place, right_place, term_level, var_text, opening, between, closing, enclosed, bracketed, term_text, term_texts, rel_text, test_level, test_text}
use Rattle.def_text.specs.Written.{IsVariable, IsWrittenTerm, AreWrittenTerms, IsWrittenTest}
use Rattle.def_text.proofs.Scans.{both_true}
use Rattle.def_text.proofs.Classes.{no_true, name_chars, number_chars}
use Rattle.def_text.proofs.TermSpaced.{is_number-decimal, is_name-name, is_name-variable}
use Rattle.def_text.proofs.Balanced.{IsBalanced, grouped, inner-append, inner-char, balanced-nil, balanced-append, balanced-char, balanced-grouped, balanced-enclosed, balanced-name, balanced-bracketed, AreBalanced}

-- no parenthesis, no comma and no =
abbrev is_plain : ℕ → Bool
is_plain c = (not (eqb c left) && not (eqb c right)) && (not (eqb c comma) && not (eqb c equals))

balanced-plain_char : (c : ℕ) → is_plain c ≡ true → IsBalanced (c ∷ [])
balanced-plain_char c h =
    let k = both_true (not (eqb c left) && not (eqb c right)) (not (eqb c comma) && not (eqb c equals)) h in
    let l = both_true (not (eqb c left)) (not (eqb c right)) k.0 in
    let m = both_true (not (eqb c comma)) (not (eqb c equals)) k.1 in
    balanced-char c (no_true (eqb c left) l.0) (no_true (eqb c right) l.1) (no_true (eqb c comma) m.0) (no_true (eqb c equals) m.1)

pub balanced-plain : (cs : List ℕ) → list_all is_plain cs ≡ true → IsBalanced cs
balanced-plain [] h = balanced-nil
balanced-plain (c ∷ cs) h = let k = both_true (is_plain c) (list_all is_plain cs) h in balanced-append (c ∷ []) cs (balanced-plain_char c k.0) (balanced-plain cs k.1)

-- an intrinsic of two arguments
balanced-two : (x a b : List ℕ) → list_all is_plain x ≡ true → IsBalanced a → IsBalanced b → IsBalanced (x ++ grouped (a ++ comma ∷ b))
balanced-two x a b h d e = balanced-append x (grouped (a ++ comma ∷ b)) (balanced-plain x h) (balanced-grouped (a ++ comma ∷ b) (inner-append a (comma ∷ b) d.inner (inner-append (comma ∷ []) b (inner-char comma refl refl) e.inner)))

-- operands with a character between them
balanced-joined : (a b : List ℕ) (c : ℕ) → is_plain c ≡ true → IsBalanced a → IsBalanced b → IsBalanced ((a ++ c ∷ b) ++ [])
balanced-joined a b c h d e = balanced-append (a ++ c ∷ b) [] (balanced-append a (c ∷ b) d (balanced-append (c ∷ []) b (balanced-plain_char c h) e)) balanced-nil

balanced-op : (op : Op) (a b : List ℕ) → IsBalanced a → IsBalanced b → IsBalanced (opening op ++ a ++ between op ∷ b ++ closing op)
balanced-op plus a b d e = balanced-joined a b 43 refl d e
balanced-op minus a b d e = balanced-joined a b 45 refl d e
balanced-op times a b d e = balanced-joined a b 42 refl d e
balanced-op quot a b d e = balanced-joined a b 47 refl d e
balanced-op modulo a b d e = balanced-two (codes "MOD") a b refl d e
balanced-op greater a b d e = balanced-two (codes "MAX") a b refl d e
balanced-op lesser a b d e = balanced-two (codes "MIN") a b refl d e

pub balanced-variable : (x : Var) → IsVariable x → IsBalanced (var_text x)
balanced-variable x h = balanced-name (var_text x) (name_chars (var_text x) (is_name-variable x h))

pub balanced-decimal : (n : ℕ) → n < 2 ^ 64 → IsBalanced (decimal n)
balanced-decimal n h = balanced-name (decimal n) (number_chars (decimal n) (is_number-decimal n h))

mutual
  pub term_balanced : (t : Term) → IsWrittenTerm t → IsBalanced (term_text t)
  term_balanced (lit (pos n)) h = balanced-decimal n (omega arith)
  term_balanced (lit (negsuc n)) h = absurd h
  term_balanced (var x) h = balanced-variable x h
  term_balanced (elem (plain x) s) h = balanced-append x (bracketed (term_texts s)) (balanced-name x (name_chars x (is_name-name x h.0.0))) (balanced-bracketed (term_texts s) (terms_balanced s h.2))
  term_balanced (elem (shadow x) s) h = absurd h.0
  term_balanced (elem (helper r k) s) h = absurd h.0
  term_balanced (neg a) h = balanced-append (45 ∷ []) (enclosed (nat_lt (term_level a) 1) (term_text a)) (balanced-plain_char 45 refl) (balanced-enclosed (nat_lt (term_level a) 1) (term_text a) (term_balanced a h))
  term_balanced (bin op a b) h = balanced-op op (enclosed (nat_lt (term_level a) (left_place op)) (term_text a)) (enclosed (nat_lt (term_level b) (right_place op)) (term_text b)) (balanced-enclosed (nat_lt (term_level a) (left_place op)) (term_text a) (term_balanced a h.0)) (balanced-enclosed (nat_lt (term_level b) (right_place op)) (term_text b) (term_balanced b h.1))
  term_balanced (pow a k) h = balanced-append (enclosed (nat_lt (term_level a) 3) (term_text a) ++ codes "**") (decimal k) (balanced-append (enclosed (nat_lt (term_level a) 3) (term_text a)) (codes "**") (balanced-enclosed (nat_lt (term_level a) 3) (term_text a) (term_balanced a h.0)) (balanced-plain (codes "**") refl)) (balanced-decimal k (let small = h.1 in omega arith))
  term_balanced (power_of a b) h = balanced-append (enclosed (nat_lt (term_level a) 3) (term_text a) ++ codes "**") (enclosed (nat_lt (term_level b) 2) (term_text b)) (balanced-append (enclosed (nat_lt (term_level a) 3) (term_text a)) (codes "**") (balanced-enclosed (nat_lt (term_level a) 3) (term_text a) (term_balanced a h.0)) (balanced-plain (codes "**") refl)) (balanced-enclosed (nat_lt (term_level b) 2) (term_text b) (term_balanced b h.1))
  term_balanced (abs a) h = balanced-append (codes "ABS") (grouped (term_text a)) (balanced-plain (codes "ABS") refl) (balanced-grouped (term_text a) (term_balanced a h).inner)

  pub terms_balanced : (s : Terms) → AreWrittenTerms s → AreBalanced (term_texts s)
  terms_balanced none h = tt
  terms_balanced (more t others) h = (term_balanced t h.0, terms_balanced others h.1)

rel_balanced : (r : Rel) → IsBalanced (rel_text r)
rel_balanced is_less = balanced-plain (codes ".LT.") refl
rel_balanced is_most = balanced-plain (codes ".LE.") refl
rel_balanced is_same = balanced-plain (codes ".EQ.") refl
rel_balanced is_other = balanced-plain (codes ".NE.") refl
rel_balanced is_greater = balanced-plain (codes ".GT.") refl
rel_balanced is_least = balanced-plain (codes ".GE.") refl

-- two balanced texts with a balanced lexeme between them
balanced-three : (a b c : List ℕ) → IsBalanced a → IsBalanced b → IsBalanced c → IsBalanced (a ++ b ++ c)
balanced-three a b c d e f = balanced-append (a ++ b) c (balanced-append a b d e) f

pub test_balanced : (c : Test) → IsWrittenTest c → IsBalanced (test_text c)
test_balanced (compare r a b) h = balanced-three (term_text a) (rel_text r) (term_text b) (term_balanced a h.0) (rel_balanced r) (term_balanced b h.1)
test_balanced (negation c) h = balanced-append (codes ".NOT.") (enclosed (nat_lt (test_level c) 3) (test_text c)) (balanced-plain (codes ".NOT.") refl) (balanced-enclosed (nat_lt (test_level c) 3) (test_text c) (test_balanced c h))
test_balanced (conjunction c d) h = balanced-three (enclosed (nat_lt (test_level c) 1) (test_text c)) (codes ".AND.") (enclosed (nat_lt (test_level d) 2) (test_text d)) (balanced-enclosed (nat_lt (test_level c) 1) (test_text c) (test_balanced c h.0)) (balanced-plain (codes ".AND.") refl) (balanced-enclosed (nat_lt (test_level d) 2) (test_text d) (test_balanced d h.1))
test_balanced (disjunction c d) h = balanced-three (enclosed (nat_lt (test_level c) 0) (test_text c)) (codes ".OR.") (enclosed (nat_lt (test_level d) 1) (test_text d)) (balanced-enclosed (nat_lt (test_level c) 0) (test_text c) (test_balanced c h.0)) (balanced-plain (codes ".OR.") refl) (balanced-enclosed (nat_lt (test_level d) 1) (test_text d) (test_balanced d h.1))
