-- TermSpaced: the lexemes of a written expression can be told apart when they are joined.
use Rattle.std.proofs.Common.{◌≡◌, ℕ, ◌+◌, ◌%◌, ◌<◌, ◌^◌, pos, negsuc, Bool, true, false, List, [], ◌∷◌, ◌++◌, refl, arith}
use Rattle.std.specs.Prelude.{nat_lt}
use Rattle.std.specs.List.{list_all}
use Rattle.std.specs.Fmt.{decimal}
use Rattle.std.proofs.lemmas.Fmt.{decimal_by_steps}
use Rattle.std.proofs.lemmas.Bool.Decides.{nat_tests}
use Rattle.adj_tree.specs.Code.{Op, plus, minus, times, quot, modulo, greater, lesser, Term, Terms, lit, var, elem, neg, bin, pow, power_of, abs, none, more, Var, plain, shadow, helper}
use Rattle.def_text.specs.declared.token.TokenKind.TheVariants.{Power, Star, Right}
use Rattle.def_text.specs.Char.{is_digit}
use Rattle.def_text.specs.Text.{left_place, right_place, term_level, var_text}
use Rattle.def_text.specs.Lexeme.{Lexeme, Named, Digits, Mark}
use Rattle.def_text.specs.Written.{IsName, IsVariable, IsWrittenTerm, AreWrittenTerms}
use Rattle.def_text.proofs.Spelled.{is_name, is_number, EndsName, EndsNumber, EndsMark, AreSpaced}
use Rattle.def_text.proofs.Scans.{both_true}
use Rattle.def_text.proofs.TermLexemes.{Lexemes, enclosed_lexemes, opening_lexemes, mark_between, closing_lexemes, term_lexemes, bracketed_lexemes, comma_lexemes}

list_all-push : (p : ℕ → Bool) (xs : List ℕ) (c : ℕ) → list_all p xs ≡ true → p c ≡ true → list_all p (xs ++ c ∷ []) ≡ true
list_all-push p [] c h g = rw g refl
list_all-push p (x ∷ xs) c h g = let k = both_true (p x) (list_all p xs) h in rw (k.0, list_all-push p xs c k.1 g) refl

is_number-push : (ds : List ℕ) (c : ℕ) → is_number ds ≡ true → is_digit c ≡ true → is_number (ds ++ c ∷ []) ≡ true
is_number-push [] c h g = absurd cc
is_number-push (d ∷ ds) c h g = let k = both_true (is_digit d) (list_all is_digit ds) h in rw (k.0, list_all-push is_digit ds c k.1 g) refl

is_digit_at : (n : ℕ) → n < 10 → is_digit (48 + n) ≡ true
is_digit_at n h = grind (arith, nat_tests)

-- what is printed of a number is digits
pub is_number-decimal : (n : ℕ) → n < 2 ^ 64 → is_number (decimal n) ≡ true
is_number-decimal = decimal_by_steps (λ n ds. is_number ds ≡ true) (λ n h. rw (is_digit_at n h) refl) (λ n ds h e. is_number-push ds (48 + n % 10) e (is_digit_at (n % 10) (omega arith)))

pub is_name-name : (x : List ℕ) → IsName x → is_name x ≡ true
is_name-name [] h = absurd h
is_name-name (c ∷ cs) h = rw (h.0, h.1) refl

pub is_name-variable : (x : Var) → IsVariable x → is_name (var_text x) ≡ true
is_name-variable (plain x) h = is_name-name x h
is_name-variable (shadow x) h = absurd h
is_name-variable (helper r k) h = absurd h

-- what ends a name ends digits
ends_number : (ws : List Lexeme) → EndsName ws → EndsNumber ws
ends_number [] e = tt
ends_number (Named x ∷ ws) e = tt
ends_number (Digits ds ∷ ws) e = absurd e
ends_number (Mark k ∷ ws) e = tt

-- lexemes that can be told apart from what follows them
abbrev pub AreSpacedBefore : Lexemes → Type 0
AreSpacedBefore ws = (rest : List Lexeme) → EndsName rest → AreSpaced rest → AreSpaced (ws rest)

pub enclosed_spaced : (b : Bool) (ws : Lexemes) → AreSpacedBefore ws → AreSpacedBefore (enclosed_lexemes b ws)
enclosed_spaced true ws h rest e a = (tt, tt, h (Mark Right ∷ rest) tt (tt, tt, a))
enclosed_spaced false ws h rest e a = h rest e a

opening_spaced : (op : Op) (ws : List Lexeme) → AreSpaced ws → AreSpaced (opening_lexemes op ws)
opening_spaced plus ws a = a
opening_spaced minus ws a = a
opening_spaced times ws a = a
opening_spaced quot ws a = a
opening_spaced modulo ws a = (refl, tt, (tt, tt, a))
opening_spaced greater ws a = (refl, tt, (tt, tt, a))
opening_spaced lesser ws a = (refl, tt, (tt, tt, a))

closing_ends : (op : Op) (rest : List Lexeme) → EndsName rest → EndsName (closing_lexemes op rest)
closing_ends plus rest e = e
closing_ends minus rest e = e
closing_ends times rest e = e
closing_ends quot rest e = e
closing_ends modulo rest e = tt
closing_ends greater rest e = tt
closing_ends lesser rest e = tt

closing_spaced : (op : Op) (rest : List Lexeme) → AreSpaced rest → AreSpaced (closing_lexemes op rest)
closing_spaced plus rest a = a
closing_spaced minus rest a = a
closing_spaced times rest a = a
closing_spaced quot rest a = a
closing_spaced modulo rest a = (tt, tt, a)
closing_spaced greater rest a = (tt, tt, a)
closing_spaced lesser rest a = (tt, tt, a)

between_spaced : (op : Op) (ws : List Lexeme) → EndsMark Star ws → AreSpaced ws → AreSpaced (Mark (mark_between op) ∷ ws)
between_spaced plus ws e a = (tt, tt, a)
between_spaced minus ws e a = (tt, tt, a)
between_spaced times ws e a = (tt, e, a)
between_spaced quot ws e a = (tt, tt, a)
between_spaced modulo ws e a = (tt, tt, a)
between_spaced greater ws e a = (tt, tt, a)
between_spaced lesser ws e a = (tt, tt, a)

enclosed_starts : (b : Bool) (ws : Lexemes) (rest : List Lexeme) → EndsMark Star (ws rest) → EndsMark Star (enclosed_lexemes b ws rest)
enclosed_starts true ws rest h = tt
enclosed_starts false ws rest h = h

opening_starts : (op : Op) (ws : List Lexeme) → EndsMark Star ws → EndsMark Star (opening_lexemes op ws)
opening_starts plus ws h = h
opening_starts minus ws h = h
opening_starts times ws h = h
opening_starts quot ws h = h
opening_starts modulo ws h = tt
opening_starts greater ws h = tt
opening_starts lesser ws h = tt

-- no expression begins with a star
starts : (t : Term) (rest : List Lexeme) → EndsMark Star (term_lexemes t rest)
starts (lit n) rest = tt
starts (var x) rest = tt
starts (elem x s) rest = tt
starts (neg a) rest = tt
starts (bin op a b) rest = opening_starts op (enclosed_lexemes (nat_lt (term_level a) (left_place op)) (term_lexemes a) (Mark (mark_between op) ∷ enclosed_lexemes (nat_lt (term_level b) (right_place op)) (term_lexemes b) (closing_lexemes op rest))) (enclosed_starts (nat_lt (term_level a) (left_place op)) (term_lexemes a) (Mark (mark_between op) ∷ enclosed_lexemes (nat_lt (term_level b) (right_place op)) (term_lexemes b) (closing_lexemes op rest)) (starts a (Mark (mark_between op) ∷ enclosed_lexemes (nat_lt (term_level b) (right_place op)) (term_lexemes b) (closing_lexemes op rest))))
starts (pow a k) rest = enclosed_starts (nat_lt (term_level a) 3) (term_lexemes a) (Mark Power ∷ Digits (decimal k) ∷ rest) (starts a (Mark Power ∷ Digits (decimal k) ∷ rest))
starts (power_of a b) rest = enclosed_starts (nat_lt (term_level a) 3) (term_lexemes a) (Mark Power ∷ enclosed_lexemes (nat_lt (term_level b) 2) (term_lexemes b) rest) (starts a (Mark Power ∷ enclosed_lexemes (nat_lt (term_level b) 2) (term_lexemes b) rest))
starts (abs a) rest = tt

joined_spaced : (op : Op) (ws vs : Lexemes) → AreSpacedBefore ws → AreSpacedBefore vs → ((rest : List Lexeme) → EndsMark Star (vs rest)) → AreSpacedBefore (λ rest. opening_lexemes op (ws (Mark (mark_between op) ∷ vs (closing_lexemes op rest))))
joined_spaced op ws vs h g s rest e a =
    let last = g (closing_lexemes op rest) (closing_ends op rest e) (closing_spaced op rest a) in
    opening_spaced op (ws (Mark (mark_between op) ∷ vs (closing_lexemes op rest))) (h (Mark (mark_between op) ∷ vs (closing_lexemes op rest)) tt (between_spaced op (vs (closing_lexemes op rest)) (s (closing_lexemes op rest)) last))

bracketed_ends : (s : Terms) (rest : List Lexeme) → EndsName rest → EndsName (bracketed_lexemes s rest)
bracketed_ends none rest e = e
bracketed_ends (more t others) rest e = tt

comma_ends : (s : Terms) (rest : List Lexeme) → EndsName (comma_lexemes s rest)
comma_ends none rest = tt
comma_ends (more t others) rest = tt

mutual
  pub term_spaced : (t : Term) → IsWrittenTerm t → AreSpacedBefore (term_lexemes t)
  term_spaced (lit (pos n)) h rest e a = (is_number-decimal n (omega arith), ends_number rest e, a)
  term_spaced (lit (negsuc n)) h rest e a = absurd h
  term_spaced (var x) h rest e a = (is_name-variable x h, e, a)
  term_spaced (elem (plain x) s) h rest e a = (is_name-name x h.0.0, bracketed_ends s rest e, bracketed_spaced s h.2 rest e a)
  term_spaced (elem (shadow x) s) h rest e a = absurd h.0
  term_spaced (elem (helper r k) s) h rest e a = absurd h.0
  term_spaced (neg t) h rest e a = (tt, tt, enclosed_spaced (nat_lt (term_level t) 1) (term_lexemes t) (term_spaced t h) rest e a)
  term_spaced (bin op t u) h rest e a = joined_spaced op (enclosed_lexemes (nat_lt (term_level t) (left_place op)) (term_lexemes t)) (enclosed_lexemes (nat_lt (term_level u) (right_place op)) (term_lexemes u)) (enclosed_spaced (nat_lt (term_level t) (left_place op)) (term_lexemes t) (term_spaced t h.0)) (enclosed_spaced (nat_lt (term_level u) (right_place op)) (term_lexemes u) (term_spaced u h.1)) (λ r. enclosed_starts (nat_lt (term_level u) (right_place op)) (term_lexemes u) r (starts u r)) rest e a
  term_spaced (pow t k) h rest e a = enclosed_spaced (nat_lt (term_level t) 3) (term_lexemes t) (term_spaced t h.0) (Mark Power ∷ Digits (decimal k) ∷ rest) tt (tt, tt, (is_number-decimal k (let small = h.1 in omega arith), ends_number rest e, a))
  term_spaced (power_of t u) h rest e a = enclosed_spaced (nat_lt (term_level t) 3) (term_lexemes t) (term_spaced t h.0) (Mark Power ∷ enclosed_lexemes (nat_lt (term_level u) 2) (term_lexemes u) rest) tt (tt, tt, enclosed_spaced (nat_lt (term_level u) 2) (term_lexemes u) (term_spaced u h.1) rest e a)
  term_spaced (abs t) h rest e a = (refl, tt, (tt, tt, term_spaced t h (Mark Right ∷ rest) tt (tt, tt, a)))

  pub bracketed_spaced : (s : Terms) → AreWrittenTerms s → AreSpacedBefore (bracketed_lexemes s)
  bracketed_spaced none h rest e a = a
  bracketed_spaced (more t others) h rest e a = (tt, tt, term_spaced t h.0 (comma_lexemes others rest) (comma_ends others rest) (comma_spaced others h.1 rest a))

  pub comma_spaced : (s : Terms) → AreWrittenTerms s → (rest : List Lexeme) → AreSpaced rest → AreSpaced (comma_lexemes s rest)
  comma_spaced none h rest a = (tt, tt, a)
  comma_spaced (more t others) h rest a = (tt, tt, term_spaced t h.0 (comma_lexemes others rest) (comma_ends others rest) (comma_spaced others h.1 rest a))
