-- Assigned: an assignment of a written expression to a written place is a statement of its class, with the lexemes of both.
use Rattle.std.proofs.Common.{◌≡◌, ℕ, suc, ◌+◌, ◌<◌, Bool, true, false, eqb, List, [], ◌∷◌, ◌++◌, length, drop, Some, option_map, refl, sym, ap, ◌∙◌, arith, append_assoc, append-nil, length-append}
use Rattle.std.specs.Prelude.{◌&&◌, nat_lt, codes, unwrap_or}
use Rattle.std.specs.List.{flat_map, list_all, prefix_len}
use Rattle.std.proofs.lemmas.Bool.{ne_eqb}
use Rattle.std.proofs.lemmas.List.{drop_at}
use Rattle.adj_tree.specs.Code.{Var, Term, Terms, none, more}
use Rattle.def_text.specs.Char.{left, right, comma, equals, is_digit, is_name_char}
use Rattle.def_text.specs.Class.{has_open, is_matched, group_len, begins_with_letter, behind_label, is_control, is_do, inner, is_if, kind_of, class_of}
use Rattle.def_text.specs.Text.{var_text, behind_commas, bracketed, term_text, term_texts}
use Rattle.def_text.specs.Token.{begins_with}
use Rattle.def_text.specs.Lexeme.{Lexeme, Named, Mark}
use Rattle.def_text.specs.Written.{IsVariable, IsPlace, IsWrittenTerm, AreWrittenTerms}
use Rattle.def_text.specs.declared.stated.Kind.TheVariants as classes
use Rattle.def_text.specs.declared.token.TokenKind.TheVariants.{Equals}
use Rattle.def_text.proofs.Spelled.{spelling, is_name, EndsName}
use Rattle.def_text.proofs.Scans.{both_true}
use Rattle.def_text.proofs.Stating.{IsStatement}
use Rattle.def_text.proofs.Classes.{and_no, name_chars}
use Rattle.def_text.proofs.TermLexemes.{term_lexemes, bracketed_lexemes}
use Rattle.def_text.proofs.TermSpelled.{term_spelled, bracketed_spelled}
use Rattle.def_text.proofs.TermSpaced.{is_name-variable, term_spaced, bracketed_spaced}
use Rattle.def_text.proofs.Balanced.{IsInner, IsBalanced, grouped, opening-groups, closing-group, balanced-append, balanced-name, balanced-bracketed, bracketed_is_grouped, AreBalanced}
use Rattle.def_text.proofs.TermBalanced.{term_balanced, terms_balanced}

no_and : (a b : Bool) → a ≡ false → a && b ≡ false
no_and true b h = absurd cc
no_and false b h = refl

-- a name and what follows it: a front of characters that pass ends where one fails
pub stops : (p : ℕ → Bool) (xs : List ℕ) (t : ℕ) (rest : List ℕ) → list_all p xs ≡ true → p t ≡ false → prefix_len p (xs ++ t ∷ rest) ≡ length xs
stops p [] t rest h f = rw f refl
stops p (x ∷ xs) t rest h f = let g = both_true (p x) (list_all p xs) h in rw (g.0, stops p xs t rest g.1 f) (omega arith)

drop_suc : (k c : ℕ) (cs : List ℕ) → drop (1 + k) (c ∷ cs) ≡ drop k cs
drop_suc k c cs = let e : 1 + k ≡ suc k = omega arith in ap (λ n. drop n (c ∷ cs)) e

pub drop_past : (xs : List ℕ) (t : ℕ) (rest : List ℕ) → drop (length xs + 1) (xs ++ t ∷ rest) ≡ rest
drop_past [] t rest = refl
drop_past (x ∷ xs) t rest = let e : length (x ∷ xs) + 1 ≡ suc (length xs + 1) = omega arith in ap (λ n. drop n (x ∷ (xs ++ t ∷ rest))) e ∙ drop_past xs t rest

-- what is left of a name behind its digits
record Left (cs : List ℕ) (t : ℕ) (rest : List ℕ) : Type 0 where
  left_over : List ℕ
  passes : list_all is_name_char left_over ≡ true
  is_left : drop (prefix_len is_digit (cs ++ t ∷ rest)) (cs ++ t ∷ rest) ≡ left_over ++ t ∷ rest

prefix-yes : (p : ℕ → Bool) (c : ℕ) (cs : List ℕ) → p c ≡ true → prefix_len p (c ∷ cs) ≡ 1 + prefix_len p cs
prefix-yes p c cs e = rw e refl

pub prefix-no : (p : ℕ → Bool) (c : ℕ) (cs : List ℕ) → p c ≡ false → prefix_len p (c ∷ cs) ≡ 0
prefix-no p c cs e = rw e refl

left_of : (cs : List ℕ) (t : ℕ) (rest : List ℕ) → list_all is_name_char cs ≡ true → is_digit t ≡ false → Left cs t rest
left_of [] t rest h f = record { left_over = []; passes = refl; is_left = rw f refl }
left_of (c ∷ cs) t rest h f =
    let g = both_true (is_name_char c) (list_all is_name_char cs) h in
    let r = left_of cs t rest g.1 f in
    elim (is_digit c) as (λ b. is_digit c ≡ b → Left (c ∷ cs) t rest) [
      | true ↦ λ e. record { left_over = r.left_over; passes = r.passes; is_left = ap (λ n. drop n (c ∷ (cs ++ t ∷ rest))) (prefix-yes is_digit c (cs ++ t ∷ rest) e) ∙ drop_suc (prefix_len is_digit (cs ++ t ∷ rest)) c (cs ++ t ∷ rest) ∙ r.is_left }
      | false ↦ λ e. record { left_over = c ∷ cs; passes = h; is_left = ap (λ n. drop n (c ∷ (cs ++ t ∷ rest))) (prefix-no is_digit c (cs ++ t ∷ rest) e) }
    ] refl

name_char_no_comma : (c : ℕ) → is_name_char c ≡ true → eqb 44 c ≡ false
name_char_no_comma c h = ne_eqb 44 c (λ e. let f = ap is_name_char e in cc)

no_comma_first : (xs : List ℕ) (t : ℕ) (rest : List ℕ) → list_all is_name_char xs ≡ true → eqb 44 t ≡ false → begins_with (xs ++ t ∷ rest) (comma ∷ []) ≡ false
no_comma_first [] t rest h f = rw f refl
no_comma_first (x ∷ xs) t rest h f = rw (name_char_no_comma x (both_true (is_name_char x) (list_all is_name_char xs) h).0) refl

-- a text that goes on behind name characters with a character that is none, and in which no comma stands open behind an =, is no range of a DO
no_range : (xs : List ℕ) (t : ℕ) (rest : List ℕ) → list_all is_name_char xs ≡ true → is_name_char t ≡ false → (eqb 61 t ≡ true → has_open comma 0 rest ≡ false) → is_control (xs ++ t ∷ rest) ≡ false
no_range xs t rest h f found =
    let e : prefix_len is_name_char (xs ++ t ∷ rest) ≡ length xs = stops is_name_char xs t rest h f in
    rw (e, drop_at xs (t ∷ rest) (length xs) refl, drop_past xs t rest) (elim (eqb 61 t) as (λ b. (b ≡ true → has_open comma 0 rest ≡ false) → (begins_with_letter (xs ++ t ∷ rest) && (b && true)) && has_open comma 0 rest ≡ false) [
      | true ↦ λ o. and_no (begins_with_letter (xs ++ t ∷ rest) && true) (has_open comma 0 rest) (o refl)
      | false ↦ λ o. no_and (begins_with_letter (xs ++ t ∷ rest) && false) (has_open comma 0 rest) (and_no (begins_with_letter (xs ++ t ∷ rest)) false refl)
    ] found)

no_range_behind_label : (cs : List ℕ) (t : ℕ) (rest : List ℕ) → list_all is_name_char cs ≡ true → is_name_char t ≡ false → is_digit t ≡ false → eqb 44 t ≡ false → (eqb 61 t ≡ true → has_open comma 0 rest ≡ false) → is_control (behind_label (cs ++ t ∷ rest)) ≡ false
no_range_behind_label cs t rest h f digit no_comma found =
    let l = left_of cs t rest h digit in
    let no : begins_with (drop (prefix_len is_digit (cs ++ t ∷ rest)) (cs ++ t ∷ rest)) (comma ∷ []) ≡ false = ap (λ xs. begins_with xs (comma ∷ [])) l.is_left ∙ no_comma_first l.left_over t rest l.passes no_comma in
    let behind : behind_label (cs ++ t ∷ rest) ≡ l.left_over ++ t ∷ rest = rw (and_no (nat_lt 0 (prefix_len is_digit (cs ++ t ∷ rest))) (begins_with (drop (prefix_len is_digit (cs ++ t ∷ rest)) (cs ++ t ∷ rest)) (comma ∷ [])) no) l.is_left in
    ap is_control behind ∙ no_range l.left_over t rest l.passes f found

-- such a text is no DO
pub no_do_behind : (x : List ℕ) (t : ℕ) (rest : List ℕ) → list_all is_name_char x ≡ true → is_name_char t ≡ false → is_digit t ≡ false → eqb 44 t ≡ false → (eqb 61 t ≡ true → has_open comma 0 rest ≡ false) → is_do (x ++ t ∷ rest) ≡ false
no_do_behind [] t rest h f digit no_comma found =
    let d : eqb 68 t ≡ false = ne_eqb 68 t (λ e. let g = ap is_name_char e in cc) in
    no_and (begins_with (t ∷ rest) (codes "DO")) (is_control (behind_label (drop 2 (t ∷ rest)))) (rw d refl)
no_do_behind (a ∷ []) t rest h f digit no_comma found =
    let o : eqb 79 t ≡ false = ne_eqb 79 t (λ e. let g = ap is_name_char e in cc) in
    no_and (begins_with (a ∷ t ∷ rest) (codes "DO")) (is_control (behind_label (drop 2 (a ∷ t ∷ rest)))) (rw o (and_no (eqb 68 a) false refl))
no_do_behind (a ∷ b ∷ cs) t rest h f digit no_comma found =
    let k = both_true (is_name_char a) (list_all is_name_char (b ∷ cs)) h in
    let l = both_true (is_name_char b) (list_all is_name_char cs) k.1 in
    and_no (begins_with (a ∷ b ∷ (cs ++ t ∷ rest)) (codes "DO")) (is_control (behind_label (cs ++ t ∷ rest))) (no_range_behind_label cs t rest l.1 f digit no_comma found)

-- a name of which the third character isn't the parenthesis of an IF
no_if_name : (x : List ℕ) (t : ℕ) (rest : List ℕ) → list_all is_name_char x ≡ true → is_name_char t ≡ false → (eqb 40 t ≡ true → length x ≡ 2 → begins_with_letter (inner (x ++ t ∷ rest)) ≡ false) → is_if (x ++ t ∷ rest) ≡ false
no_if_name [] t rest h f found =
    let i : eqb 73 t ≡ false = ne_eqb 73 t (λ e. let g = ap is_name_char e in cc) in
    no_and (begins_with (t ∷ rest) (codes "IF(")) (begins_with_letter (inner (t ∷ rest))) (rw i refl)
no_if_name (a ∷ []) t rest h f found =
    let i : eqb 70 t ≡ false = ne_eqb 70 t (λ e. let g = ap is_name_char e in cc) in
    no_and (begins_with (a ∷ t ∷ rest) (codes "IF(")) (begins_with_letter (inner (a ∷ t ∷ rest))) (rw i (and_no (eqb 73 a) false refl))
no_if_name (a ∷ b ∷ []) t rest h f found =
    elim (eqb 40 t) as (λ v. eqb 40 t ≡ v → is_if (a ∷ b ∷ t ∷ rest) ≡ false) [
      | true ↦ λ e. and_no (begins_with (a ∷ b ∷ t ∷ rest) (codes "IF(")) (begins_with_letter (inner (a ∷ b ∷ t ∷ rest))) (found e refl)
      | false ↦ λ e. no_and (begins_with (a ∷ b ∷ t ∷ rest) (codes "IF(")) (begins_with_letter (inner (a ∷ b ∷ t ∷ rest))) (rw e (and_no (eqb 73 a) (eqb 70 b && false) (and_no (eqb 70 b) false refl)))
    ] refl
no_if_name (a ∷ b ∷ c ∷ cs) t rest h f found =
    let k = both_true (is_name_char a) (list_all is_name_char (b ∷ c ∷ cs)) h in
    let l = both_true (is_name_char b) (list_all is_name_char (c ∷ cs)) k.1 in
    let m = both_true (is_name_char c) (list_all is_name_char cs) l.1 in
    let i : eqb 40 c ≡ false = ne_eqb 40 c (λ e. let g = ap is_name_char e in let n = m.0 in cc) in
    no_and (begins_with (a ∷ b ∷ c ∷ (cs ++ t ∷ rest)) (codes "IF(")) (begins_with_letter (inner (a ∷ b ∷ c ∷ (cs ++ t ∷ rest)))) (rw i (and_no (eqb 73 a) (eqb 70 b && false) (and_no (eqb 70 b) false refl)))

-- behind the group that follows two characters stands what follows it
pub inner_behind : (a b : ℕ) (cs rest : List ℕ) → IsInner cs → inner (a ∷ b ∷ (grouped cs ++ rest)) ≡ rest
inner_behind a b cs rest h =
    let len : group_len 0 (grouped cs ++ rest) ≡ Some (length (grouped cs)) =
    ap (group_len 0) (ap (λ xs. left ∷ xs) (append_assoc cs (right ∷ []) rest)) ∙ opening-groups 0 (cs ++ right ∷ rest)
    ∙ ap (option_map (λ k. k + 1)) (h.groups 0 (right ∷ rest) ∙ ap (option_map (λ k. k + length cs)) (closing-group rest))
    ∙ ap Some (let e = length-append cs (right ∷ []) in omega arith) in
    let dropped : drop (length (grouped cs) + 2) (a ∷ b ∷ (grouped cs ++ rest)) ≡ rest =
    (let e : length (grouped cs) + 2 ≡ suc (suc (length (grouped cs))) = omega arith in ap (λ n. drop n (a ∷ b ∷ (grouped cs ++ rest))) e) ∙ drop_at (grouped cs) rest (length (grouped cs)) refl in
    ap (λ o. drop (unwrap_or (option_map (λ n. n + 2) o) (length (a ∷ b ∷ (grouped cs ++ rest)))) (a ∷ b ∷ (grouped cs ++ rest))) len ∙ dropped

-- a name, subscripts or none, an = and a right side in which no comma stands open: no DO and no IF
no_do_place : (x : List ℕ) (ts : List (List ℕ)) (e : List ℕ) → list_all is_name_char x ≡ true → AreBalanced ts → has_open comma 0 e ≡ false → is_do (x ++ (bracketed ts ++ 61 ∷ e)) ≡ false
no_do_place x [] e h b c = no_do_behind x 61 e h refl refl refl (λ q. c)
no_do_place x (t ∷ ts) e h b c = no_do_behind x 40 (t ++ behind_commas ts ++ 61 ∷ e) h refl refl refl (λ q. absurd cc)

group_inner : (x : List ℕ) (t : List ℕ) (ts : List (List ℕ)) (e : List ℕ) → AreBalanced (t ∷ ts) → length x ≡ 2 → begins_with_letter (inner (x ++ (bracketed (t ∷ ts) ++ 61 ∷ e))) ≡ false
group_inner [] t ts e b h = absurd (omega arith)
group_inner (a ∷ []) t ts e b h = absurd (omega arith)
group_inner (a ∷ c ∷ []) t ts e b h =
    let g = bracketed_is_grouped t ts b in
    ap (λ xs. begins_with_letter (inner (a ∷ c ∷ (xs ++ 61 ∷ e)))) (sym g.2) ∙ ap begins_with_letter (inner_behind a c g.0 (61 ∷ e) g.1)
group_inner (a ∷ c ∷ d ∷ x) t ts e b h = absurd (omega arith)

no_if_place : (x : List ℕ) (ts : List (List ℕ)) (e : List ℕ) → list_all is_name_char x ≡ true → AreBalanced ts → is_if (x ++ (bracketed ts ++ 61 ∷ e)) ≡ false
no_if_place x [] e h b = no_if_name x 61 e h refl (λ q. absurd cc)
no_if_place x (t ∷ ts) e h b = no_if_name x 40 (t ++ behind_commas ts ++ 61 ∷ e) h refl (λ q l. group_inner x t ts e b l)

-- an = that stands open makes it an assignment
pub opens-equals : (rest : List ℕ) → has_open equals 0 (61 ∷ rest) ≡ true
unfolding has_open
opens-equals rest = refl

pub matches-equals : (rest : List ℕ) → is_matched 0 (61 ∷ rest) ≡ is_matched 0 rest
unfolding is_matched
matches-equals rest = refl

pub opens-nothing : (x : ℕ) → has_open x 0 [] ≡ false
unfolding has_open
opens-nothing x = refl

pub matches-nothing : is_matched 0 [] ≡ true
unfolding is_matched
matches-nothing = refl

assignment_classed : (x : List ℕ) (ts : List (List ℕ)) (e : List ℕ) → list_all is_name_char x ≡ true → AreBalanced ts → IsBalanced e → class_of (x ++ (bracketed ts ++ 61 ∷ e)) ≡ Some classes.Assign
unfolding kind_of
assignment_classed x ts e h b c =
    let no_comma : has_open comma 0 e ≡ false = ap (has_open comma 0) (sym (append-nil e)) ∙ c.commas [] ∙ opens-nothing comma in
    let place = balanced-append x (bracketed ts) (balanced-name x h) (balanced-bracketed ts b) in
    let found : has_open equals 0 (x ++ (bracketed ts ++ 61 ∷ e)) ≡ true = ap (has_open equals 0) (sym (append_assoc x (bracketed ts) (61 ∷ e))) ∙ place.assigns (61 ∷ e) ∙ opens-equals e in
    rw (no_do_place x ts e h b no_comma, no_if_place x ts e h b, found) refl

assignment_matched : (x : List ℕ) (ts : List (List ℕ)) (e : List ℕ) → list_all is_name_char x ≡ true → AreBalanced ts → IsBalanced e → is_matched 0 (x ++ (bracketed ts ++ 61 ∷ e)) ≡ true
assignment_matched x ts e h b c =
    let place = balanced-append x (bracketed ts) (balanced-name x h) (balanced-bracketed ts b) in
    ap (is_matched 0) (sym (append_assoc x (bracketed ts) (61 ∷ e))) ∙ place.matches (61 ∷ e) ∙ matches-equals e ∙ ap (is_matched 0) (sym (append-nil e)) ∙ c.matches [] ∙ matches-nothing

-- the lexemes of an assignment
abbrev pub assignment_lexemes : Var → Terms → Term → List Lexeme
assignment_lexemes x s e = Named (var_text x) ∷ bracketed_lexemes s (Mark Equals ∷ term_lexemes e [])

-- they are spelled as it is printed
pub assignment_spelled : (x : Var) (s : Terms) (e : Term) → AreWrittenTerms s → IsWrittenTerm e → flat_map spelling (assignment_lexemes x s e) ≡ var_text x ++ (bracketed (term_texts s) ++ 61 ∷ term_text e)
assignment_spelled x s e h g = ap (λ xs. var_text x ++ xs) (bracketed_spelled s h (Mark Equals ∷ term_lexemes e []) ∙ ap (λ xs. bracketed (term_texts s) ++ 61 ∷ xs) (term_spelled e g [] ∙ append-nil (term_text e)))

subscripts_written : (x : Var) (s : Terms) → IsPlace x s → IsVariable x × AreWrittenTerms s
subscripts_written x none h = (h, tt)
subscripts_written x (more a s) h = (h.0, h.2)

ends_place : (s : Terms) (rest : List Lexeme) → EndsName (bracketed_lexemes s (Mark Equals ∷ rest))
ends_place none rest = tt
ends_place (more t others) rest = tt

some_name : (x rest : List ℕ) → is_name x ≡ true → 0 < length (x ++ rest)
some_name [] rest h = absurd cc
some_name (c ∷ cs) rest h = omega arith

-- an assignment is a statement of its class with its lexemes
pub is_assigned : (x : Var) (s : Terms) (e : Term) → IsPlace x s → IsWrittenTerm e → IsStatement classes.Assign [] (assignment_lexemes x s e)
is_assigned x s e h g =
    let p = subscripts_written x s h in
    let spelled = assignment_spelled x s e p.1 g in
    let named = name_chars (var_text x) (is_name-variable x p.0) in
    let items = terms_balanced s p.1 in
    let value = term_balanced e g in
    record {
      spaced = (is_name-variable x p.0, ends_place s (term_lexemes e []), bracketed_spaced s p.1 (Mark Equals ∷ term_lexemes e []) tt (tt, tt, term_spaced e g [] tt tt));
      some = some_name (var_text x) (flat_map spelling (bracketed_lexemes s (Mark Equals ∷ term_lexemes e []))) (is_name-variable x p.0);
      classed = ap class_of spelled ∙ assignment_classed (var_text x) (term_texts s) (term_text e) named items value;
      matched = ap (is_matched 0) spelled ∙ assignment_matched (var_text x) (term_texts s) (term_text e) named items value;
      keyword_ends = refl;
      whole = refl;
      calls_none = refl;
    }
