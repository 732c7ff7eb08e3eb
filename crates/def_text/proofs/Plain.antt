-- Plain: plain statements, as keyword and lexemes, are statements of their class.
use Rattle.std.proofs.Common.{◌≡◌, ℕ, ◌<◌, true, List, [], ◌∷◌, ◌++◌, length, Some, None, refl, sym, ap, ◌∙◌, arith, append-nil}
use Rattle.std.specs.Prelude.{codes, take_while}
use Rattle.std.specs.List.{flat_map, list_all}
use Rattle.std.proofs.lemmas.List.Sums.{take_while-cons}
use Rattle.def_text.specs.declared.stated.Kind.{Kind}
use Rattle.def_text.specs.declared.stated.Kind.TheVariants as classes
use Rattle.def_text.specs.declared.token.TokenKind.TheVariants.{Left, Right, Comma, Equals}
use Rattle.def_text.specs.Char.{left, right, comma, equals, is_capital, is_digit, is_name_char}
use Rattle.def_text.specs.Class.{width_of, has_open, is_matched, kind_of, class_of}
use Rattle.def_text.specs.Stated.{keyword_len, ending_len, call_place}
use Rattle.def_text.specs.Lexeme.{Lexeme, Named, Mark}
use Rattle.def_text.proofs.Spelled.{spelling, is_name, EndsName, AreSpaced}
use Rattle.def_text.proofs.Scans.{both_true, capital_is_no_digit}
use Rattle.def_text.proofs.Stating.{IsStatement}
use Rattle.def_text.proofs.Classes.{Lacks, Lack, has_open-none, has_open-behind, is_matched-behind, no_do, no_if, lacks-name, lacks-lexemes, lacks-behind}

-- names with commas between them, and what follows
abbrev pub name_lexemes : List (List ℕ) → List Lexeme → List Lexeme
name_lexemes [] rest = rest
name_lexemes (x ∷ []) rest = Named x ∷ rest
name_lexemes (x ∷ y ∷ ys) rest = Named x ∷ Mark Comma ∷ name_lexemes (y ∷ ys) rest

abbrev pub AreNames : List (List ℕ) → Type 0
AreNames [] = Unit {0}
AreNames (x ∷ xs) = (is_name x ≡ true) × AreNames xs

pub names_spaced : (xs : List (List ℕ)) (rest : List Lexeme) → AreNames xs → EndsName rest → AreSpaced rest → AreSpaced (name_lexemes xs rest)
names_spaced [] rest h e a = a
names_spaced (x ∷ []) rest h e a = (h.0, e, a)
names_spaced (x ∷ y ∷ ys) rest h e a = (h.0, tt, (tt, tt, names_spaced (y ∷ ys) rest h.1 e a))

names_lack : (k : ℕ) (xs : List (List ℕ)) (rest : List Lexeme) → Lacks k (comma ∷ []) → Lack k rest → Lack k (name_lexemes xs rest)
names_lack k [] rest c h = h
names_lack k (x ∷ []) rest c h = h
names_lack k (x ∷ y ∷ ys) rest c h = (c, names_lack k (y ∷ ys) rest c h)

name_matched : (n : ℕ) (x rest : List ℕ) → is_name x ≡ true → is_matched n (x ++ rest) ≡ is_matched n rest
name_matched n x rest h = is_matched-behind n x rest (lacks-name left x refl h) (lacks-name right x refl h)

names_matched : (n : ℕ) (xs : List (List ℕ)) (rest : List Lexeme) → AreNames xs → is_matched n (flat_map spelling (name_lexemes xs rest)) ≡ is_matched n (flat_map spelling rest)
names_matched n [] rest h = refl
names_matched n (x ∷ []) rest h = name_matched n x (flat_map spelling rest) h.0
names_matched n (x ∷ y ∷ ys) rest h =
    name_matched n x (44 ∷ flat_map spelling (name_lexemes (y ∷ ys) rest)) h.0
    ∙ is_matched-behind n (44 ∷ []) (flat_map spelling (name_lexemes (y ∷ ys) rest)) refl refl
    ∙ names_matched n (y ∷ ys) rest h.1

-- a name and a list of names in parentheses
abbrev pub head_lexemes : List ℕ → List (List ℕ) → List Lexeme
head_lexemes x [] = Named x ∷ []
head_lexemes x (d ∷ ds) = Named x ∷ Mark Left ∷ name_lexemes (d ∷ ds) (Mark Right ∷ [])

head_spaced : (x : List ℕ) (ds : List (List ℕ)) → is_name x ≡ true → AreNames ds → AreSpaced (head_lexemes x ds)
head_spaced x [] h g = (h, tt, tt)
head_spaced x (d ∷ ds) h g = (h, tt, (tt, tt, names_spaced (d ∷ ds) (Mark Right ∷ []) g tt (tt, tt, tt)))

head_lacks : (k : ℕ) (x : List ℕ) (ds : List (List ℕ)) → Lacks k (comma ∷ []) → Lacks k (left ∷ []) → Lacks k (right ∷ []) → Lack k (head_lexemes x ds)
head_lacks k x [] c l r = tt
head_lacks k x (d ∷ ds) c l r = (l, names_lack k (d ∷ ds) (Mark Right ∷ []) c (r, tt))

closed : (xs : List (List ℕ)) → AreNames xs → is_matched 0 (40 ∷ flat_map spelling (name_lexemes xs (Mark Right ∷ []))) ≡ true
unfolding is_matched
closed xs h = names_matched 1 xs (Mark Right ∷ []) h

empty_matched : is_matched 0 [] ≡ true
unfolding is_matched
empty_matched = refl

head_matched : (x : List ℕ) (ds : List (List ℕ)) → is_name x ≡ true → AreNames ds → is_matched 0 (flat_map spelling (head_lexemes x ds)) ≡ true
head_matched x [] h g = name_matched 0 x [] h ∙ empty_matched
head_matched x (d ∷ ds) h g = name_matched 0 x (40 ∷ flat_map spelling (name_lexemes (d ∷ ds) (Mark Right ∷ []))) h ∙ closed (d ∷ ds) g

subroutine_classed : (rest : List ℕ) → Lacks equals rest → class_of (codes "SUBROUTINE" ++ rest) ≡ Some classes.Subroutine
unfolding kind_of
subroutine_classed rest h = rw (has_open-none equals 0 (codes "SUBROUTINE" ++ rest) (lacks-behind equals (codes "SUBROUTINE") rest refl h)) refl

pub is_subroutine : (x : List ℕ) (ds : List (List ℕ)) → is_name x ≡ true → AreNames ds → IsStatement classes.Subroutine (codes "SUBROUTINE") (head_lexemes x ds)
is_subroutine x ds h g = record {
  spaced = head_spaced x ds h g;
  some = omega arith;
  classed = subroutine_classed (flat_map spelling (head_lexemes x ds)) (lacks-lexemes equals (head_lexemes x ds) refl (head_spaced x ds h g) (head_lacks equals x ds refl refl refl));
  matched = is_matched-behind 0 (codes "SUBROUTINE") (flat_map spelling (head_lexemes x ds)) refl refl ∙ head_matched x ds h g;
  keyword_ends = refl;
  whole = refl;
  calls_none = refl;
}

-- INTEGER*8 and some names
no_digits : (x : List ℕ) (xs : List (List ℕ)) → AreNames (x ∷ xs) → take_while is_digit (flat_map spelling (name_lexemes (x ∷ xs) [])) ≡ []
no_digits [] xs h = absurd (cc (h.0))
no_digits (c ∷ cs) [] h = take_while-cons is_digit c (cs ++ []) ∙ rw (capital_is_no_digit c (both_true (is_capital c) (list_all is_name_char cs) h.0).0) refl
no_digits (c ∷ cs) (y ∷ ys) h = take_while-cons is_digit c (cs ++ flat_map spelling (Mark Comma ∷ name_lexemes (y ∷ ys) [])) ∙ rw (capital_is_no_digit c (both_true (is_capital c) (list_all is_name_char cs) h.0).0) refl

pub eight_wide : (rest : List ℕ) → take_while is_digit rest ≡ [] → width_of (codes "INTEGER*8" ++ rest) ≡ codes "8"
eight_wide rest d = take_while-cons is_digit 56 rest ∙ ap (λ ds. 56 ∷ ds) d

integer_classed : (rest : List ℕ) → Lacks equals rest → take_while is_digit rest ≡ [] → class_of (codes "INTEGER*8" ++ rest) ≡ Some classes.Integer
unfolding kind_of
integer_classed rest h d = rw (has_open-none equals 0 (codes "INTEGER*8" ++ rest) (lacks-behind equals (codes "INTEGER*8") rest refl h), eight_wide rest d) refl

integer_len : (rest : List ℕ) → take_while is_digit rest ≡ [] → keyword_len classes.Integer (codes "INTEGER*8" ++ rest) ≡ 9
integer_len rest d = rw (eight_wide rest d) refl

pub is_integer : (x : List ℕ) (xs : List (List ℕ)) → AreNames (x ∷ xs) → IsStatement classes.Integer (codes "INTEGER*8") (name_lexemes (x ∷ xs) [])
is_integer x xs h =
    let spaced = names_spaced (x ∷ xs) [] h tt tt in
    let rest = flat_map spelling (name_lexemes (x ∷ xs) []) in
    record {
      spaced = spaced;
      some = omega arith;
      classed = integer_classed rest (lacks-lexemes equals (name_lexemes (x ∷ xs) []) refl spaced (names_lack equals (x ∷ xs) [] refl tt)) (no_digits x xs h);
      matched = is_matched-behind 0 (codes "INTEGER*8") rest refl refl ∙ names_matched 0 (x ∷ xs) [] h ∙ empty_matched;
      keyword_ends = integer_len rest (no_digits x xs h);
      whole = refl;
      calls_none = refl;
    }

-- statements that are one lexeme
lexeme_statement : (kind : Kind) (c : ℕ) (cs : List ℕ) → class_of ((c ∷ cs) ++ []) ≡ Some kind → Lacks left (c ∷ cs) → Lacks right (c ∷ cs) → keyword_len kind ((c ∷ cs) ++ []) ≡ length (c ∷ cs) → ending_len kind ≡ 0 → call_place kind ((c ∷ cs) ++ []) ≡ None → IsStatement kind (c ∷ cs) []
lexeme_statement kind c cs classed l r len whole none = record {
  spaced = tt;
  some = omega arith;
  classed = classed;
  matched = is_matched-behind 0 (c ∷ cs) [] l r ∙ empty_matched;
  keyword_ends = len;
  whole = whole;
  calls_none = none;
}

end_classed : class_of (codes "END") ≡ Some classes.End
unfolding kind_of
end_classed = rw (has_open-none equals 0 (codes "END") refl) refl

end_if_classed : class_of (codes "ENDIF") ≡ Some classes.EndIf
unfolding kind_of
end_if_classed = rw (has_open-none equals 0 (codes "ENDIF") refl) refl

end_do_classed : class_of (codes "ENDDO") ≡ Some classes.EndDo
unfolding kind_of
end_do_classed = rw (has_open-none equals 0 (codes "ENDDO") refl) refl

else_classed : class_of (codes "ELSE") ≡ Some classes.Else
unfolding kind_of
else_classed = rw (has_open-none equals 0 (codes "ELSE") refl) refl

implicit_classed : class_of (codes "IMPLICITNONE") ≡ Some classes.ImplicitNone
unfolding kind_of
implicit_classed = rw (has_open-none equals 0 (codes "IMPLICITNONE") refl) refl

pub is_end : IsStatement classes.End (codes "END") []
is_end = lexeme_statement classes.End 69 (codes "ND") end_classed refl refl refl refl refl

pub is_end_if : IsStatement classes.EndIf (codes "ENDIF") []
is_end_if = lexeme_statement classes.EndIf 69 (codes "NDIF") end_if_classed refl refl refl refl refl

pub is_end_do : IsStatement classes.EndDo (codes "ENDDO") []
is_end_do = lexeme_statement classes.EndDo 69 (codes "NDDO") end_do_classed refl refl refl refl refl

pub is_else : IsStatement classes.Else (codes "ELSE") []
is_else = lexeme_statement classes.Else 69 (codes "LSE") else_classed refl refl refl refl refl

pub is_implicit : IsStatement classes.ImplicitNone (codes "IMPLICITNONE") []
is_implicit = lexeme_statement classes.ImplicitNone 73 (codes "MPLICITNONE") implicit_classed refl refl refl refl refl

-- an assignment to a name, whose right side has no parentheses and no commas
assignment_classed : (x rest : List ℕ) → is_name x ≡ true → Lacks comma rest → Lacks left rest → class_of (x ++ 61 ∷ rest) ≡ Some classes.Assign
unfolding kind_of has_open
assignment_classed x rest h c l =
    let no_comma = lacks-behind comma x (61 ∷ rest) (lacks-name comma x refl h) c in
    let no_left = lacks-behind left x (61 ∷ rest) (lacks-name left x refl h) l in
    let open_equals : has_open equals 0 (x ++ 61 ∷ rest) ≡ true = has_open-behind equals 0 x (61 ∷ rest) (lacks-name left x refl h) (lacks-name right x refl h) (lacks-name equals x refl h) in
    rw (no_do (x ++ 61 ∷ rest) no_comma, no_if (x ++ 61 ∷ rest) no_left, open_equals) refl

has_some : (x rest : List ℕ) → is_name x ≡ true → 0 < length (x ++ rest)
has_some [] rest h = absurd cc
has_some (c ∷ cs) rest h = omega arith

pub is_assignment : (x : List ℕ) (ws : List Lexeme) → is_name x ≡ true → AreSpaced ws → Lack comma ws → Lack left ws → Lack right ws → IsStatement classes.Assign [] (Named x ∷ Mark Equals ∷ ws)
is_assignment x ws h a c l r =
    let rest = flat_map spelling ws in
    record {
      spaced = (h, tt, (tt, tt, a));
      some = has_some x (61 ∷ rest) h;
      classed = assignment_classed x rest h (lacks-lexemes comma ws refl a c) (lacks-lexemes left ws refl a l);
      matched = name_matched 0 x (61 ∷ rest) h ∙ ap (is_matched 0) (sym (append-nil (61 ∷ rest))) ∙ is_matched-behind 0 (61 ∷ rest) [] (lacks-lexemes left ws refl a l) (lacks-lexemes right ws refl a r) ∙ empty_matched;
      keyword_ends = refl;
      whole = refl;
      calls_none = refl;
    }
