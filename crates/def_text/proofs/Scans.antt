-- Scans: lexemes that are spelled one after another are scanned as these lexemes.
use Rattle.std.proofs.Common.{◌≡◌, ℕ, zero, suc, ◌+◌, ◌-◌, ◌<◌, Bool, true, false, List, [], ◌∷◌, ◌++◌, length, drop, Some, None, option_map, refl, ap, ◌∙◌, arith, append_assoc, length-append}
use Rattle.std.specs.Prelude.{◌&&◌, option_and_then}
use Rattle.std.specs.List.{flat_map, list_all, prefix_len}
use Rattle.std.proofs.lemmas.Bool.Decides.{nat_tests}
use Rattle.std.proofs.lemmas.List.{take_at, drop_at}
use Rattle.def_text.specs.declared.token.Token.{Token}
use Rattle.def_text.specs.declared.token.TokenKind.{TokenKind}
use Rattle.def_text.specs.declared.token.TokenKind.TheVariants as kinds
use Rattle.def_text.specs.Char.{star, is_capital, is_digit, is_name_char}
use Rattle.def_text.specs.Lexeme.{Lexeme, Named, Digits, Mark, lexeme, part, lexeme_of, lexemes_of}
use Rattle.def_text.specs.Token.{begins_with, first_token, token_at, tokens_from}
use Rattle.def_text.proofs.Spelled.{chars_of, spelling, is_name, is_number, IsMark, EndsName, EndsNumber, EndsMark, AreSpaced}

pub both_true : (a b : Bool) → a && b ≡ true → (a ≡ true) × (b ≡ true)
both_true true b h = (refl, h)
both_true false b h = absurd cc

abbrev kind_of : Lexeme → TokenKind
kind_of (Named x) = kinds.Name
kind_of (Digits ds) = kinds.Number
kind_of (Mark k) = k

-- the first element, if there is one, fails
abbrev Fails : (ℕ → Bool) → List ℕ → Type 0
Fails p [] = Unit {0}
Fails p (c ∷ cs) = p c ≡ false

-- all of a front passes, and what follows it fails
prefix_len-stops : (p : ℕ → Bool) (xs rest : List ℕ) → list_all p xs ≡ true → Fails p rest → prefix_len p (xs ++ rest) ≡ length xs
prefix_len-stops p [] [] h f = refl
prefix_len-stops p [] (c ∷ cs) h f = rw f refl
prefix_len-stops p (x ∷ xs) rest h f =
    let g = both_true (p x) (list_all p xs) h in
    rw (g.0, prefix_len-stops p xs rest g.1 f) (omega arith)

pub capital_is_no_digit : (c : ℕ) → is_capital c ≡ true → is_digit c ≡ false
capital_is_no_digit c h = grind (arith, nat_tests)

digit_is_no_capital : (c : ℕ) → is_digit c ≡ true → is_capital c ≡ false
digit_is_no_capital c h = grind (arith, nat_tests)

capital_is_no_star : (c : ℕ) → is_capital c ≡ true → begins_with (c ∷ []) (star ∷ []) ≡ false
capital_is_no_star c h = grind (arith, nat_tests)

digit_is_no_star : (c : ℕ) → is_digit c ≡ true → begins_with (c ∷ []) (star ∷ []) ≡ false
digit_is_no_star c h = grind (arith, nat_tests)

-- the first character of a mark is none of a name and no digit
mark_ends : (k : TokenKind) (rest : List ℕ) → IsMark k → Fails is_name_char (chars_of k ++ rest) × Fails is_digit (chars_of k ++ rest)
mark_ends kinds.Name rest m = absurd m
mark_ends kinds.Number rest m = absurd m
mark_ends kinds.Power rest m = (refl, refl)
mark_ends kinds.Star rest m = (refl, refl)
mark_ends kinds.Slash rest m = (refl, refl)
mark_ends kinds.Plus rest m = (refl, refl)
mark_ends kinds.Minus rest m = (refl, refl)
mark_ends kinds.Left rest m = (refl, refl)
mark_ends kinds.Right rest m = (refl, refl)
mark_ends kinds.Comma rest m = (refl, refl)
mark_ends kinds.Equals rest m = (refl, refl)
mark_ends kinds.Lt rest m = (refl, refl)
mark_ends kinds.Le rest m = (refl, refl)
mark_ends kinds.Eq rest m = (refl, refl)
mark_ends kinds.Ne rest m = (refl, refl)
mark_ends kinds.Gt rest m = (refl, refl)
mark_ends kinds.Ge rest m = (refl, refl)
mark_ends kinds.Not rest m = (refl, refl)
mark_ends kinds.And rest m = (refl, refl)
mark_ends kinds.Or rest m = (refl, refl)
mark_ends kinds.Call rest m = absurd m

name_ends : (ws : List Lexeme) → EndsName ws → AreSpaced ws → Fails is_name_char (flat_map spelling ws)
name_ends [] e a = tt
name_ends (Named x ∷ ws) e a = absurd e
name_ends (Digits ds ∷ ws) e a = absurd e
name_ends (Mark k ∷ ws) e a = (mark_ends k (flat_map spelling ws) a.0).0

number_ends : (ws : List Lexeme) → EndsNumber ws → AreSpaced ws → Fails is_digit (flat_map spelling ws)
number_ends [] e a = tt
number_ends (Named [] ∷ ws) e a = absurd (cc (a.0))
number_ends (Named (c ∷ cs) ∷ ws) e a = capital_is_no_digit c (both_true (is_capital c) (list_all is_name_char cs) a.0).0
number_ends (Digits ds ∷ ws) e a = absurd e
number_ends (Mark k ∷ ws) e a = (mark_ends k (flat_map spelling ws) a.0).1

-- behind a star that is a mark of its own no other star stands
no_star : (k : TokenKind) (rest : List ℕ) (ws : List Lexeme) → IsMark k → EndsMark kinds.Star (Mark k ∷ ws) → begins_with (chars_of k ++ rest) (star ∷ []) ≡ false
no_star kinds.Name rest ws m e = absurd m
no_star kinds.Number rest ws m e = absurd m
no_star kinds.Power rest ws m e = absurd e
no_star kinds.Star rest ws m e = absurd e
no_star kinds.Slash rest ws m e = refl
no_star kinds.Plus rest ws m e = refl
no_star kinds.Minus rest ws m e = refl
no_star kinds.Left rest ws m e = refl
no_star kinds.Right rest ws m e = refl
no_star kinds.Comma rest ws m e = refl
no_star kinds.Equals rest ws m e = refl
no_star kinds.Lt rest ws m e = refl
no_star kinds.Le rest ws m e = refl
no_star kinds.Eq rest ws m e = refl
no_star kinds.Ne rest ws m e = refl
no_star kinds.Gt rest ws m e = refl
no_star kinds.Ge rest ws m e = refl
no_star kinds.Not rest ws m e = refl
no_star kinds.And rest ws m e = refl
no_star kinds.Or rest ws m e = refl
no_star kinds.Call rest ws m e = absurd m

star_ends : (ws : List Lexeme) → EndsMark kinds.Star ws → AreSpaced ws → begins_with (flat_map spelling ws) (star ∷ []) ≡ false
star_ends [] e a = refl
star_ends (Named [] ∷ ws) e a = absurd (cc (a.0))
star_ends (Named (c ∷ cs) ∷ ws) e a = capital_is_no_star c (both_true (is_capital c) (list_all is_name_char cs) a.0).0
star_ends (Digits [] ∷ ws) e a = absurd (cc (a.0))
star_ends (Digits (d ∷ ds) ∷ ws) e a = digit_is_no_star d (both_true (is_digit d) (list_all is_digit ds) a.0).0
star_ends (Mark k ∷ ws) e a = no_star k (flat_map spelling ws) ws a.0 e

first_name : (x rest : List ℕ) → is_name x ≡ true → Fails is_name_char rest → first_token (x ++ rest) ≡ Some (kinds.Name, length x)
first_name [] rest h f = absurd cc
first_name (c ∷ cs) rest h f =
    let g = both_true (is_capital c) (list_all is_name_char cs) h in
    rw (g.0, prefix_len-stops is_name_char cs rest g.1 f) (ap (λ n. Some (kinds.Name, n)) (omega arith))

first_number : (x rest : List ℕ) → is_number x ≡ true → Fails is_digit rest → first_token (x ++ rest) ≡ Some (kinds.Number, length x)
first_number [] rest h f = absurd cc
first_number (c ∷ cs) rest h f =
    let g = both_true (is_digit c) (list_all is_digit cs) h in
    rw (digit_is_no_capital c g.0, g.0, prefix_len-stops is_digit cs rest g.1 f) (ap (λ n. Some (kinds.Number, n)) (omega arith))

first_mark : (k : TokenKind) (ws : List Lexeme) → IsMark k → EndsMark k ws → AreSpaced ws → first_token (chars_of k ++ flat_map spelling ws) ≡ Some (k, length (chars_of k))
first_mark kinds.Name ws m e a = absurd m
first_mark kinds.Number ws m e a = absurd m
first_mark kinds.Power ws m e a = refl
first_mark kinds.Star ws m e a = rw (star_ends ws e a) refl
first_mark kinds.Slash ws m e a = refl
first_mark kinds.Plus ws m e a = refl
first_mark kinds.Minus ws m e a = refl
first_mark kinds.Left ws m e a = refl
first_mark kinds.Right ws m e a = refl
first_mark kinds.Comma ws m e a = refl
first_mark kinds.Equals ws m e a = refl
first_mark kinds.Lt ws m e a = refl
first_mark kinds.Le ws m e a = refl
first_mark kinds.Eq ws m e a = refl
first_mark kinds.Ne ws m e a = refl
first_mark kinds.Gt ws m e a = refl
first_mark kinds.Ge ws m e a = refl
first_mark kinds.Not ws m e a = refl
first_mark kinds.And ws m e a = refl
first_mark kinds.Or ws m e a = refl
first_mark kinds.Call ws m e a = absurd m

first_of : (w : Lexeme) (ws : List Lexeme) → AreSpaced (w ∷ ws) → first_token (spelling w ++ flat_map spelling ws) ≡ Some (kind_of w, length (spelling w))
first_of (Named x) ws a = first_name x (flat_map spelling ws) a.0 (name_ends ws a.1 a.2)
first_of (Digits ds) ws a = first_number ds (flat_map spelling ws) a.0 (number_ends ws a.1 a.2)
first_of (Mark k) ws a = first_mark k ws a.0 a.1 a.2

mark_has_chars : (k : TokenKind) → IsMark k → 0 < length (chars_of k)
mark_has_chars kinds.Name m = absurd m
mark_has_chars kinds.Number m = absurd m
mark_has_chars kinds.Call m = absurd m
mark_has_chars kinds.Power m = omega arith
mark_has_chars kinds.Star m = omega arith
mark_has_chars kinds.Slash m = omega arith
mark_has_chars kinds.Plus m = omega arith
mark_has_chars kinds.Minus m = omega arith
mark_has_chars kinds.Left m = omega arith
mark_has_chars kinds.Right m = omega arith
mark_has_chars kinds.Comma m = omega arith
mark_has_chars kinds.Equals m = omega arith
mark_has_chars kinds.Lt m = omega arith
mark_has_chars kinds.Le m = omega arith
mark_has_chars kinds.Eq m = omega arith
mark_has_chars kinds.Ne m = omega arith
mark_has_chars kinds.Gt m = omega arith
mark_has_chars kinds.Ge m = omega arith
mark_has_chars kinds.Not m = omega arith
mark_has_chars kinds.And m = omega arith
mark_has_chars kinds.Or m = omega arith

has_chars : (w : Lexeme) (ws : List Lexeme) → AreSpaced (w ∷ ws) → 0 < length (spelling w)
has_chars (Named []) ws a = absurd (cc (a.0))
has_chars (Named (c ∷ cs)) ws a = omega arith
has_chars (Digits []) ws a = absurd (cc (a.0))
has_chars (Digits (c ∷ cs)) ws a = omega arith
has_chars (Mark k) ws a = mark_has_chars k a.0

rest_spaced : (w : Lexeme) (ws : List Lexeme) → AreSpaced (w ∷ ws) → AreSpaced ws
rest_spaced (Named x) ws a = a.2
rest_spaced (Digits ds) ws a = a.2
rest_spaced (Mark k) ws a = a.2

mark_back : (k : TokenKind) (cs : List ℕ) → IsMark k → lexeme k cs ≡ Mark k
mark_back kinds.Name cs m = absurd m
mark_back kinds.Number cs m = absurd m
mark_back kinds.Call cs m = absurd m
mark_back kinds.Power cs m = refl
mark_back kinds.Star cs m = refl
mark_back kinds.Slash cs m = refl
mark_back kinds.Plus cs m = refl
mark_back kinds.Minus cs m = refl
mark_back kinds.Left cs m = refl
mark_back kinds.Right cs m = refl
mark_back kinds.Comma cs m = refl
mark_back kinds.Equals cs m = refl
mark_back kinds.Lt cs m = refl
mark_back kinds.Le cs m = refl
mark_back kinds.Eq cs m = refl
mark_back kinds.Ne cs m = refl
mark_back kinds.Gt cs m = refl
mark_back kinds.Ge cs m = refl
mark_back kinds.Not cs m = refl
mark_back kinds.And cs m = refl
mark_back kinds.Or cs m = refl

lexeme_back : (w : Lexeme) (ws : List Lexeme) → AreSpaced (w ∷ ws) → lexeme (kind_of w) (spelling w) ≡ w
lexeme_back (Named x) ws a = refl
lexeme_back (Digits ds) ws a = refl
lexeme_back (Mark k) ws a = mark_back k (chars_of k) a.0

tokens_from-skip : (n here : ℕ) (text : List ℕ) → tokens_from None n here text ≡ tokens_from None 0 (here + n) (drop n text)
unfolding tokens_from
tokens_from-skip zero here text = ap (λ p. tokens_from None 0 p text) (omega arith)
tokens_from-skip (suc n) here [] = refl
tokens_from-skip (suc n) here (c ∷ cs) = tokens_from-skip n (here + 1) cs ∙ ap (λ p. tokens_from None 0 p (drop n cs)) (omega arith)

drop_one : (c : ℕ) (cs : List ℕ) (n : ℕ) → 0 < n → drop n (c ∷ cs) ≡ drop (n - 1) cs
drop_one c cs n h = let k : n ≡ suc (n - 1) = omega arith in ap (λ m. drop m (c ∷ cs)) k

-- the first token, and then those of the rest
tokens_from-first : (here : ℕ) (text : List ℕ) (t : TokenKind × ℕ) → first_token text ≡ Some t → 0 < t.1 → tokens_from None 0 here text ≡ option_map (λ ts. token_at here t ∷ ts) (tokens_from None 0 (here + t.1) (drop t.1 text))
unfolding tokens_from
tokens_from-first here [] t h some = absurd (cc (h))
tokens_from-first here (c ∷ cs) t h some =
    let rest : tokens_from None (t.1 - 1) (here + 1) cs ≡ tokens_from None 0 (here + t.1) (drop t.1 (c ∷ cs)) = tokens_from-skip (t.1 - 1) (here + 1) cs ∙ rw (drop_one c cs t.1 some) (ap (λ p. tokens_from None 0 p (drop (t.1 - 1) cs)) (omega arith)) in
    ap (option_and_then (λ u. option_map (λ ts. token_at here u ∷ ts) (tokens_from None (u.1 - 1) (here + 1) cs))) h ∙ ap (option_map (λ ts. token_at here t ∷ ts)) rest

tokens_from-nil : (here : ℕ) → tokens_from None 0 here [] ≡ Some []
unfolding tokens_from
tokens_from-nil here = refl

-- the tokens of spelled lexemes
abbrev pub tokens_at : ℕ → List Lexeme → List Token
tokens_at here [] = []
tokens_at here (w ∷ ws) = token_at here (kind_of w, length (spelling w)) ∷ tokens_at (here + length (spelling w)) ws

pub scanned : (ws : List Lexeme) (here : ℕ) → AreSpaced ws → tokens_from None 0 here (flat_map spelling ws) ≡ Some (tokens_at here ws)
scanned [] here a = tokens_from-nil here
scanned (w ∷ ws) here a =
    tokens_from-first here (spelling w ++ flat_map spelling ws) (kind_of w, length (spelling w)) (first_of w ws a) (has_chars w ws a)
    ∙ rw (drop_at (spelling w) (flat_map spelling ws) (length (spelling w)) refl, scanned ws (here + length (spelling w)) (rest_spaced w ws a)) refl

-- behind a front and before a back, the lexemes of these tokens are the lexemes that were spelled
pub lexemes_back : (front : List ℕ) (ws : List Lexeme) (back : List ℕ) → AreSpaced ws → lexemes_of (front ++ (flat_map spelling ws ++ back)) (tokens_at (length front) ws) ≡ ws
lexemes_back front [] back a = refl
lexemes_back front (w ∷ ws) back a =
    let rest = flat_map spelling ws ++ back in
    let len : length front + length (spelling w) - length front ≡ length (spelling w) = omega arith in
    let first : part (front ++ (spelling w ++ rest)) (length front) (length front + length (spelling w)) ≡ spelling w = rw (len, drop_at front (spelling w ++ rest) (length front) refl, take_at (spelling w) rest (length (spelling w)) refl) refl in
    let one : lexeme_of (front ++ (spelling w ++ rest)) (token_at (length front) (kind_of w, length (spelling w))) ≡ w = ap (lexeme (kind_of w)) first ∙ lexeme_back w ws a in
    let again : lexemes_of ((front ++ spelling w) ++ rest) (tokens_at (length (front ++ spelling w)) ws) ≡ ws = lexemes_back (front ++ spelling w) ws back (rest_spaced w ws a) in
    let moved : lexemes_of (front ++ (spelling w ++ rest)) (tokens_at (length front + length (spelling w)) ws) ≡ ws = rw (← append_assoc front (spelling w) rest, ← length-append front (spelling w)) again in
    let all : lexemes_of (front ++ (spelling w ++ rest)) (tokens_at (length front) (w ∷ ws)) ≡ w ∷ ws = rw (one, moved) refl in
    ap (λ xs. lexemes_of (front ++ xs) (tokens_at (length front) (w ∷ ws))) (append_assoc (spelling w) (flat_map spelling ws) back) ∙ all
