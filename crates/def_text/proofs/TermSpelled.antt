-- TermSpelled: the lexemes of an expression are spelled as its characters, and can be told apart.
use Rattle.std.proofs.Common.{◌≡◌, ℕ, pos, negsuc, Bool, true, false, List, [], ◌∷◌, ◌++◌, refl, sym, ap, ◌∙◌, append_assoc}
use Rattle.std.specs.Prelude.{codes, nat_lt}
use Rattle.std.specs.List.{flat_map}
use Rattle.std.specs.Fmt.{decimal}
use Rattle.adj_tree.specs.Code.{Op, plus, minus, times, quot, modulo, greater, lesser, Term, Terms, lit, var, elem, neg, bin, pow, power_of, abs, none, more}
use Rattle.def_text.specs.declared.token.TokenKind.TheVariants.{Power, Right}
use Rattle.def_text.specs.Text.{left_place, right_place, term_level, var_text, opening, between, closing, enclosed, behind_commas, bracketed, term_text, term_texts}
use Rattle.def_text.specs.Lexeme.{Lexeme, Digits, Mark}
use Rattle.def_text.specs.Written.{IsWrittenTerm, AreWrittenTerms}
use Rattle.def_text.proofs.Spelled.{spelling}
use Rattle.def_text.proofs.TermLexemes.{Lexemes, enclosed_lexemes, opening_lexemes, mark_between, closing_lexemes, term_lexemes, bracketed_lexemes, comma_lexemes}

-- these lexemes, before any rest, are spelled as these characters
abbrev pub AreSpelled : Lexemes → List ℕ → Type 0
AreSpelled ws cs = (rest : List Lexeme) → flat_map spelling (ws rest) ≡ cs ++ flat_map spelling rest

pub enclosed_spelled : (b : Bool) (ws : Lexemes) (cs : List ℕ) → AreSpelled ws cs → AreSpelled (enclosed_lexemes b ws) (enclosed b cs)
enclosed_spelled false ws cs h rest = h rest
enclosed_spelled true ws cs h rest = ap (λ xs. 40 ∷ xs) (h (Mark Right ∷ rest)) ∙ simp append_assoc

opening_spelled : (op : Op) → AreSpelled (opening_lexemes op) (opening op)
opening_spelled plus rest = refl
opening_spelled minus rest = refl
opening_spelled times rest = refl
opening_spelled quot rest = refl
opening_spelled modulo rest = refl
opening_spelled greater rest = refl
opening_spelled lesser rest = refl

closing_spelled : (op : Op) → AreSpelled (closing_lexemes op) (closing op)
closing_spelled plus rest = refl
closing_spelled minus rest = refl
closing_spelled times rest = refl
closing_spelled quot rest = refl
closing_spelled modulo rest = refl
closing_spelled greater rest = refl
closing_spelled lesser rest = refl

between_spelled : (op : Op) → AreSpelled (λ rest. Mark (mark_between op) ∷ rest) (between op ∷ [])
between_spelled plus rest = refl
between_spelled minus rest = refl
between_spelled times rest = refl
between_spelled quot rest = refl
between_spelled modulo rest = refl
between_spelled greater rest = refl
between_spelled lesser rest = refl

-- lexemes and then lexemes
then_spelled : (ws vs : Lexemes) (cs ds : List ℕ) → AreSpelled ws cs → AreSpelled vs ds → AreSpelled (λ rest. ws (vs rest)) (cs ++ ds)
then_spelled ws vs cs ds h g rest = h (vs rest) ∙ ap (λ xs. cs ++ xs) (g rest) ∙ sym (append_assoc cs ds (flat_map spelling rest))

joined_spelled : (op : Op) (ws vs : Lexemes) (cs ds : List ℕ) → AreSpelled ws cs → AreSpelled vs ds → AreSpelled (λ rest. opening_lexemes op (ws (Mark (mark_between op) ∷ vs (closing_lexemes op rest)))) (opening op ++ cs ++ between op ∷ ds ++ closing op)
joined_spelled op ws vs cs ds h g rest =
    opening_spelled op (ws (Mark (mark_between op) ∷ vs (closing_lexemes op rest)))
    ∙ ap (λ xs. opening op ++ xs) (h (Mark (mark_between op) ∷ vs (closing_lexemes op rest)) ∙ ap (λ xs. cs ++ xs) (between_spelled op (vs (closing_lexemes op rest)) ∙ ap (λ xs. between op ∷ xs) (g (closing_lexemes op rest) ∙ ap (λ xs. ds ++ xs) (closing_spelled op rest))))
    ∙ simp append_assoc

raised_spelled : (ws vs : Lexemes) (cs ds : List ℕ) → AreSpelled ws cs → AreSpelled vs ds → AreSpelled (λ rest. ws (Mark Power ∷ vs rest)) (cs ++ codes "**" ++ ds)
raised_spelled ws vs cs ds h g rest = h (Mark Power ∷ vs rest) ∙ ap (λ xs. cs ++ (codes "**" ++ xs)) (g rest) ∙ simp append_assoc

mutual
  -- the lexemes of a written expression are spelled as it is printed
  pub term_spelled : (t : Term) → IsWrittenTerm t → AreSpelled (term_lexemes t) (term_text t)
  term_spelled (lit (pos n)) h rest = refl
  term_spelled (lit (negsuc n)) h rest = absurd h
  term_spelled (var x) h rest = refl
  term_spelled (elem x s) h rest = ap (λ xs. var_text x ++ xs) (bracketed_spelled s h.2 rest) ∙ sym (append_assoc (var_text x) (bracketed (term_texts s)) (flat_map spelling rest))
  term_spelled (neg a) h rest = ap (λ xs. 45 ∷ xs) (enclosed_spelled (nat_lt (term_level a) 1) (term_lexemes a) (term_text a) (term_spelled a h) rest)
  term_spelled (bin op a b) h rest = joined_spelled op (enclosed_lexemes (nat_lt (term_level a) (left_place op)) (term_lexemes a)) (enclosed_lexemes (nat_lt (term_level b) (right_place op)) (term_lexemes b)) (enclosed (nat_lt (term_level a) (left_place op)) (term_text a)) (enclosed (nat_lt (term_level b) (right_place op)) (term_text b)) (enclosed_spelled (nat_lt (term_level a) (left_place op)) (term_lexemes a) (term_text a) (term_spelled a h.0)) (enclosed_spelled (nat_lt (term_level b) (right_place op)) (term_lexemes b) (term_text b) (term_spelled b h.1)) rest
  term_spelled (pow a k) h rest = enclosed_spelled (nat_lt (term_level a) 3) (term_lexemes a) (term_text a) (term_spelled a h.0) (Mark Power ∷ Digits (decimal k) ∷ rest) ∙ simp append_assoc
  term_spelled (power_of a b) h rest = raised_spelled (enclosed_lexemes (nat_lt (term_level a) 3) (term_lexemes a)) (enclosed_lexemes (nat_lt (term_level b) 2) (term_lexemes b)) (enclosed (nat_lt (term_level a) 3) (term_text a)) (enclosed (nat_lt (term_level b) 2) (term_text b)) (enclosed_spelled (nat_lt (term_level a) 3) (term_lexemes a) (term_text a) (term_spelled a h.0)) (enclosed_spelled (nat_lt (term_level b) 2) (term_lexemes b) (term_text b) (term_spelled b h.1)) rest
  term_spelled (abs a) h rest = ap (λ xs. codes "ABS(" ++ xs) (term_spelled a h (Mark Right ∷ rest)) ∙ simp append_assoc

  pub bracketed_spelled : (s : Terms) → AreWrittenTerms s → AreSpelled (bracketed_lexemes s) (bracketed (term_texts s))
  bracketed_spelled none h rest = refl
  bracketed_spelled (more e others) h rest = ap (λ xs. 40 ∷ xs) (term_spelled e h.0 (comma_lexemes others rest) ∙ ap (λ xs. term_text e ++ xs) (comma_spelled others h.1 rest) ∙ sym (append_assoc (term_text e) (behind_commas (term_texts others)) (flat_map spelling rest)))

  pub comma_spelled : (s : Terms) → AreWrittenTerms s → AreSpelled (comma_lexemes s) (behind_commas (term_texts s))
  comma_spelled none h rest = refl
  comma_spelled (more e others) h rest = ap (λ xs. 44 ∷ xs) (term_spelled e h.0 (comma_lexemes others rest) ∙ ap (λ xs. term_text e ++ xs) (comma_spelled others h.1 rest) ∙ sym (append_assoc (term_text e) (behind_commas (term_texts others)) (flat_map spelling rest)))
