-- Called: CALL and INTEGER statements of written actuals and extents are statements of their classes, with their lexemes.
use Rattle.std.proofs.Common.{◌≡◌, ℕ, suc, ◌≤◌, pos, negsuc, true, false, List, [], ◌∷◌, ◌++◌, map, length, Some, refl, sym, ap, ◌∙◌, arith, append-nil}
use Rattle.std.specs.Prelude.{codes, take_while}
use Rattle.std.specs.List.{All, flat_map, list_all}
use Rattle.std.specs.Fmt.{decimal}
use Rattle.std.proofs.lemmas.List.Sums.{take_while-cons}
use Rattle.adj_tree.specs.Code.{Terms, none, more, Extent, fixed, given}
use Rattle.def_text.specs.Char.{equals, is_capital, is_digit, is_name_char}
use Rattle.def_text.specs.Class.{has_open, is_matched, kind_of, class_of}
use Rattle.def_text.specs.Stated.{keyword_len}
use Rattle.def_text.specs.Text.{bracketed, term_texts, extent_text}
use Rattle.def_text.specs.Lexeme.{Lexeme, Named, Digits, Mark}
use Rattle.def_text.specs.Written.{IsWrittenExtent, AreWrittenTerms}
use Rattle.def_text.specs.declared.stated.Kind.TheVariants as classes
use Rattle.def_text.specs.declared.token.TokenKind.TheVariants.{Left, Right, Comma}
use Rattle.def_text.proofs.Spelled.{spelling, is_name, EndsName, AreSpaced}
use Rattle.def_text.proofs.Scans.{both_true, capital_is_no_digit}
use Rattle.def_text.proofs.Stating.{IsStatement}
use Rattle.def_text.proofs.Classes.{name_chars}
use Rattle.def_text.proofs.Plain.{eight_wide}
use Rattle.def_text.proofs.TermLexemes.{bracketed_lexemes}
use Rattle.def_text.proofs.TermSpelled.{bracketed_spelled}
use Rattle.def_text.proofs.TermSpaced.{is_number-decimal, is_name-name, bracketed_spaced}
use Rattle.def_text.proofs.Balanced.{IsBalanced, balanced-append, balanced-name, balanced-bracketed, AreBalanced}
use Rattle.def_text.proofs.TermBalanced.{balanced-plain, balanced-decimal, terms_balanced}
use Rattle.def_text.proofs.Assigned.{opens-nothing, matches-nothing}

-- in balanced characters nothing stands open, and each parenthesis has its other one
no_equals : (cs : List ℕ) → IsBalanced cs → has_open equals 0 cs ≡ false
no_equals cs h = ap (has_open equals 0) (sym (append-nil cs)) ∙ h.assigns [] ∙ opens-nothing equals

all_matched : (cs : List ℕ) → IsBalanced cs → is_matched 0 cs ≡ true
all_matched cs h = ap (is_matched 0) (sym (append-nil cs)) ∙ h.matches [] ∙ matches-nothing

-- a name and a list in parentheses
named_balanced : (x : List ℕ) (ts : List (List ℕ)) → is_name x ≡ true → AreBalanced ts → IsBalanced (x ++ bracketed ts)
named_balanced x ts h b = balanced-append x (bracketed ts) (balanced-name x (name_chars x h)) (balanced-bracketed ts b)

ends_list : (s : Terms) → EndsName (bracketed_lexemes s [])
ends_list none = tt
ends_list (more t others) = tt

-- the lexemes behind CALL
abbrev pub call_lexemes : List ℕ → Terms → List Lexeme
call_lexemes x es = Named x ∷ bracketed_lexemes es []

pub call_spelled : (x : List ℕ) (es : Terms) → AreWrittenTerms es → flat_map spelling (call_lexemes x es) ≡ x ++ bracketed (term_texts es)
call_spelled x es h = ap (λ xs. x ++ xs) (bracketed_spelled es h [] ∙ append-nil (bracketed (term_texts es)))

call_classed : (rest : List ℕ) → has_open equals 0 (codes "CALL" ++ rest) ≡ false → class_of (codes "CALL" ++ rest) ≡ Some classes.Call
unfolding kind_of
call_classed rest h = rw h refl

-- a CALL is a statement of its class with its lexemes
pub is_called : (x : List ℕ) (es : Terms) → is_name x ≡ true → AreWrittenTerms es → IsStatement classes.Call (codes "CALL") (call_lexemes x es)
is_called x es n h =
    let spelled = call_spelled x es h in
    let whole = balanced-append (codes "CALL") (x ++ bracketed (term_texts es)) (balanced-plain (codes "CALL") refl) (named_balanced x (term_texts es) n (terms_balanced es h)) in
    record {
      spaced = (n, ends_list es, bracketed_spaced es h [] tt tt);
      some = omega arith;
      classed = ap (λ xs. class_of (codes "CALL" ++ xs)) spelled ∙ call_classed (x ++ bracketed (term_texts es)) (no_equals (codes "CALL" ++ (x ++ bracketed (term_texts es))) whole);
      matched = ap (λ xs. is_matched 0 (codes "CALL" ++ xs)) spelled ∙ all_matched (codes "CALL" ++ (x ++ bracketed (term_texts es))) whole;
      keyword_ends = refl;
      whole = refl;
      calls_none = refl;
    }

-- each of some extents is written
abbrev pub AreExtents : List Extent → Type 0
AreExtents [] = Unit {0}
AreExtents (a ∷ es) = IsWrittenExtent a × AreExtents es

pub each_extent : (es : List Extent) → All IsWrittenExtent es → AreExtents es
each_extent [] h = tt
each_extent (a ∷ es) h = (h 0 a (omega arith), each_extent es (λ k d lt. h (suc k) d (omega arith)))

-- the lexeme of an extent
abbrev pub extent_lexeme : Extent → Lexeme
extent_lexeme (fixed (pos n)) = Digits (decimal n)
extent_lexeme (fixed (negsuc n)) = Digits []
extent_lexeme (given x) = Named x

-- at most two extents in parentheses
abbrev pub extents_lexemes : List Extent → List Lexeme
extents_lexemes [] = []
extents_lexemes (a ∷ []) = Mark Left ∷ extent_lexeme a ∷ Mark Right ∷ []
extents_lexemes (a ∷ b ∷ es) = Mark Left ∷ extent_lexeme a ∷ Mark Comma ∷ extent_lexeme b ∷ Mark Right ∷ []

extent_spelled : (a : Extent) → IsWrittenExtent a → spelling (extent_lexeme a) ≡ extent_text a
extent_spelled (fixed (pos n)) h = refl
extent_spelled (fixed (negsuc n)) h = absurd h
extent_spelled (given x) h = refl

extent_spaced : (a : Extent) (ws : List Lexeme) → IsWrittenExtent a → EndsName ws → AreSpaced ws → AreSpaced (extent_lexeme a ∷ ws)
extent_spaced (fixed (pos n)) [] h e s = (is_number-decimal n (omega arith), tt, s)
extent_spaced (fixed (pos n)) (Named x ∷ ws) h e s = absurd e
extent_spaced (fixed (pos n)) (Digits ds ∷ ws) h e s = absurd e
extent_spaced (fixed (pos n)) (Mark k ∷ ws) h e s = (is_number-decimal n (omega arith), tt, s)
extent_spaced (fixed (negsuc n)) ws h e s = absurd h
extent_spaced (given x) ws h e s = (is_name-name x h, e, s)

extent_balanced : (a : Extent) → IsWrittenExtent a → IsBalanced (extent_text a)
extent_balanced (fixed (pos n)) h = balanced-decimal n (omega arith)
extent_balanced (fixed (negsuc n)) h = absurd h
extent_balanced (given x) h = balanced-name x (name_chars x (is_name-name x h))

extents_balanced : (es : List Extent) → AreExtents es → AreBalanced (map extent_text es)
extents_balanced [] h = tt
extents_balanced (a ∷ es) h = (extent_balanced a h.0, extents_balanced es h.1)

-- the lexemes behind INTEGER*8
abbrev pub declared_lexemes : List ℕ → List Extent → List Lexeme
declared_lexemes x es = Named x ∷ extents_lexemes es

extents_spelled : (es : List Extent) → length es ≤ 2 → AreExtents es → flat_map spelling (extents_lexemes es) ≡ bracketed (map extent_text es)
extents_spelled [] l h = refl
extents_spelled (a ∷ []) l h = ap (λ xs. 40 ∷ (xs ++ 41 ∷ [])) (extent_spelled a h.0)
extents_spelled (a ∷ b ∷ []) l h = ap (λ xs. 40 ∷ (xs ++ 44 ∷ (spelling (extent_lexeme b) ++ 41 ∷ []))) (extent_spelled a h.0) ∙ ap (λ xs. 40 ∷ (extent_text a ++ 44 ∷ (xs ++ 41 ∷ []))) (extent_spelled b h.1.0)
extents_spelled (a ∷ b ∷ c ∷ es) l h = absurd (omega arith)

pub declared_spelled : (x : List ℕ) (es : List Extent) → length es ≤ 2 → AreExtents es → flat_map spelling (declared_lexemes x es) ≡ x ++ bracketed (map extent_text es)
declared_spelled x es l h = ap (λ xs. x ++ xs) (extents_spelled es l h)

extents_spaced : (es : List Extent) → length es ≤ 2 → AreExtents es → EndsName (extents_lexemes es) × AreSpaced (extents_lexemes es)
extents_spaced [] l h = (tt, tt)
extents_spaced (a ∷ []) l h = (tt, (tt, tt, extent_spaced a (Mark Right ∷ []) h.0 tt (tt, tt, tt)))
extents_spaced (a ∷ b ∷ []) l h = (tt, (tt, tt, extent_spaced a (Mark Comma ∷ extent_lexeme b ∷ Mark Right ∷ []) h.0 tt (tt, tt, extent_spaced b (Mark Right ∷ []) h.1.0 tt (tt, tt, tt))))
extents_spaced (a ∷ b ∷ c ∷ es) l h = absurd (omega arith)

no_digits : (x rest : List ℕ) → is_name x ≡ true → take_while is_digit (x ++ rest) ≡ []
no_digits [] rest h = absurd cc
no_digits (c ∷ cs) rest h = take_while-cons is_digit c (cs ++ rest) ∙ rw (capital_is_no_digit c (both_true (is_capital c) (list_all is_name_char cs) h).0) refl

integer_classed : (rest : List ℕ) → has_open equals 0 (codes "INTEGER*8" ++ rest) ≡ false → take_while is_digit rest ≡ [] → class_of (codes "INTEGER*8" ++ rest) ≡ Some classes.Integer
unfolding kind_of
integer_classed rest h d = rw (h, eight_wide rest d) refl

integer_len : (rest : List ℕ) → take_while is_digit rest ≡ [] → keyword_len classes.Integer (codes "INTEGER*8" ++ rest) ≡ 9
integer_len rest d = rw (eight_wide rest d) refl

-- a declaration is a statement of its class with its lexemes
pub is_declared : (x : List ℕ) (es : List Extent) → is_name x ≡ true → length es ≤ 2 → AreExtents es → IsStatement classes.Integer (codes "INTEGER*8") (declared_lexemes x es)
is_declared x es n l h =
    let spelled = declared_spelled x es l h in
    let rest = x ++ bracketed (map extent_text es) in
    let whole = balanced-append (codes "INTEGER*8") rest (balanced-plain (codes "INTEGER*8") refl) (named_balanced x (map extent_text es) n (extents_balanced es h)) in
    let s = extents_spaced es l h in
    let digits = no_digits x (bracketed (map extent_text es)) n in
    record {
      spaced = (n, s.0, s.1);
      some = omega arith;
      classed = ap (λ xs. class_of (codes "INTEGER*8" ++ xs)) spelled ∙ integer_classed rest (no_equals (codes "INTEGER*8" ++ rest) whole) digits;
      matched = ap (λ xs. is_matched 0 (codes "INTEGER*8" ++ xs)) spelled ∙ all_matched (codes "INTEGER*8" ++ rest) whole;
      keyword_ends = ap (λ xs. keyword_len classes.Integer (codes "INTEGER*8" ++ xs)) spelled ∙ integer_len rest digits;
      whole = refl;
      calls_none = refl;
    }
