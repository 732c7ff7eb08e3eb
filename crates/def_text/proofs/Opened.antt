-- Opened: DO and block IF of written expressions are statements of their classes, with their lexemes.
use Rattle.std.proofs.Common.{◌≡◌, ℕ, ◌+◌, ◌-◌, Bool, true, false, eqb, List, [], ◌∷◌, ◌++◌, length, drop, Some, None, Ok, refl, sym, ap, ◌∙◌, arith, append-nil, length-append}
use Rattle.std.specs.Prelude.{◌&&◌, codes}
use Rattle.std.specs.List.{flat_map, list_all, prefix_len}
use Rattle.std.proofs.lemmas.Bool.{ne_eqb}
use Rattle.std.proofs.lemmas.List.{drop_at, take_at}
use Rattle.adj_tree.specs.Code.{Var, Term, Test}
use Rattle.def_text.specs.Char.{comma, equals, is_capital, is_digit, is_name_char}
use Rattle.def_text.specs.Class.{has_open, is_matched, begins_with_letter, behind_label, is_control, is_do, inner, kind_of, class_of}
use Rattle.def_text.specs.Limits.{no_limits}
use Rattle.def_text.specs.Lined.{Lines}
use Rattle.def_text.specs.Stated.{tokens_of, stated}
use Rattle.def_text.specs.Text.{var_text, term_text, is_one, test_text}
use Rattle.def_text.specs.Token.{begins_with, tokens_from}
use Rattle.def_text.specs.Lexeme.{Lexeme, Named, Mark, part, lexemes_of}
use Rattle.def_text.specs.Written.{IsVariable, IsWrittenTerm, IsWrittenTest}
use Rattle.def_text.specs.declared.stated.Kind.TheVariants as classes
use Rattle.def_text.specs.declared.stated.Stated.{Stated}
use Rattle.def_text.specs.declared.token.TokenKind.TheVariants.{Left, Right, Equals, Comma}
use Rattle.def_text.proofs.Spelled.{spelling, is_name, EndsName, AreSpaced}
use Rattle.def_text.proofs.Scans.{both_true, capital_is_no_digit, tokens_at, scanned, lexemes_back}
use Rattle.def_text.proofs.Stating.{IsStatement, none_too_long}
use Rattle.def_text.proofs.Classes.{name_chars}
use Rattle.def_text.proofs.TermLexemes.{Lexemes, term_lexemes}
use Rattle.def_text.proofs.TermSpelled.{term_spelled}
use Rattle.def_text.proofs.TermSpaced.{is_name-variable, term_spaced}
use Rattle.def_text.proofs.TestDerived.{test_lexemes}
use Rattle.def_text.proofs.TestSpelled.{test_spelled, test_spaced}
use Rattle.def_text.proofs.Balanced.{IsInner, grouped, balanced-append, balanced-name, balanced-grouped}
use Rattle.def_text.proofs.TermBalanced.{balanced-plain, term_balanced, test_balanced}
use Rattle.def_text.proofs.Assigned.{stops, drop_past, prefix-no, matches-equals, matches-nothing, inner_behind}

-- a name, an = and an open comma behind it
is_range : (c : ℕ) (cs rest : List ℕ) → is_capital c ≡ true → list_all is_name_char (c ∷ cs) ≡ true → has_open comma 0 rest ≡ true → is_control (c ∷ (cs ++ 61 ∷ rest)) ≡ true
is_range c cs rest h g o =
    let e : prefix_len is_name_char ((c ∷ cs) ++ 61 ∷ rest) ≡ length (c ∷ cs) = stops is_name_char (c ∷ cs) 61 rest g refl in
    let d : drop (length (c ∷ cs)) ((c ∷ cs) ++ 61 ∷ rest) ≡ 61 ∷ rest = drop_at (c ∷ cs) (61 ∷ rest) (length (c ∷ cs)) refl in
    let p : drop (length (c ∷ cs) + 1) ((c ∷ cs) ++ 61 ∷ rest) ≡ rest = drop_past (c ∷ cs) 61 rest in
    ap (λ k. (begins_with_letter (c ∷ (cs ++ 61 ∷ rest)) && begins_with (drop k (c ∷ (cs ++ 61 ∷ rest))) (equals ∷ [])) && has_open comma 0 (drop (k + 1) (c ∷ (cs ++ 61 ∷ rest)))) e
    ∙ ap (λ xs. (is_capital c && begins_with xs (equals ∷ [])) && has_open comma 0 (drop (length (c ∷ cs) + 1) (c ∷ (cs ++ 61 ∷ rest)))) d
    ∙ ap (λ xs. (is_capital c && true) && has_open comma 0 xs) p
    ∙ ap (λ b. (b && true) && has_open comma 0 rest) h
    ∙ o

no_label : (c : ℕ) (cs : List ℕ) → is_capital c ≡ true → behind_label (c ∷ cs) ≡ c ∷ cs
no_label c cs h = rw (prefix-no is_digit c cs (capital_is_no_digit c h)) refl

is_do_range : (x rest : List ℕ) → is_name x ≡ true → has_open comma 0 rest ≡ true → is_do (codes "DO" ++ (x ++ 61 ∷ rest)) ≡ true
is_do_range [] rest h o = absurd cc
is_do_range (c ∷ cs) rest h o =
    let capital = (both_true (is_capital c) (list_all is_name_char cs) h).0 in
    ap is_control (no_label c (cs ++ 61 ∷ rest) capital) ∙ is_range c cs rest capital (name_chars (c ∷ cs) h) o

do_classed : (x rest : List ℕ) → is_name x ≡ true → has_open comma 0 rest ≡ true → class_of (codes "DO" ++ (x ++ 61 ∷ rest)) ≡ Some classes.Do
unfolding kind_of
do_classed x rest h o = rw (is_do_range x rest h o) refl

opens-comma : (rest : List ℕ) → has_open comma 0 (44 ∷ rest) ≡ true
unfolding has_open
opens-comma rest = refl

matches-comma : (rest : List ℕ) → is_matched 0 (44 ∷ rest) ≡ is_matched 0 rest
unfolding is_matched
matches-comma rest = refl

-- the lexemes of a step, where it isn't left out
abbrev pub step_lexemes : Bool → Term → Lexemes
step_lexemes true c rest = rest
step_lexemes false c rest = Mark Comma ∷ term_lexemes c rest

abbrev pub do_lexemes : Var → Term → Term → Term → List Lexeme
do_lexemes x a b c = Named (var_text x) ∷ Mark Equals ∷ term_lexemes a (Mark Comma ∷ term_lexemes b (step_lexemes (is_one c) c []))

abbrev pub step_chars : Bool → Term → List ℕ
step_chars true c = []
step_chars false c = comma ∷ term_text c

step_spelled : (b : Bool) (c : Term) → IsWrittenTerm c → flat_map spelling (step_lexemes b c []) ≡ step_chars b c
step_spelled true c h = refl
step_spelled false c h = ap (λ xs. 44 ∷ xs) (term_spelled c h [] ∙ append-nil (term_text c))

step_spaced : (b : Bool) (c : Term) → IsWrittenTerm c → EndsName (step_lexemes b c []) × AreSpaced (step_lexemes b c [])
step_spaced true c h = (tt, tt)
step_spaced false c h = (tt, (tt, tt, term_spaced c h [] tt tt))

step_matched : (b : Bool) (c : Term) → IsWrittenTerm c → is_matched 0 (step_chars b c) ≡ true
step_matched true c h = matches-nothing
step_matched false c h = matches-comma (term_text c) ∙ ap (is_matched 0) (sym (append-nil (term_text c))) ∙ (term_balanced c h).matches [] ∙ matches-nothing

-- the characters of a DO behind the keyword
abbrev pub do_chars : Var → Term → Term → Bool → Term → List ℕ
do_chars x a b l c = var_text x ++ 61 ∷ (term_text a ++ 44 ∷ (term_text b ++ step_chars l c))

pub do_spelled : (x : Var) (a b c : Term) → IsWrittenTerm a → IsWrittenTerm b → IsWrittenTerm c → flat_map spelling (do_lexemes x a b c) ≡ do_chars x a b (is_one c) c
do_spelled x a b c h g k =
    ap (λ xs. var_text x ++ 61 ∷ xs) (term_spelled a h (Mark Comma ∷ term_lexemes b (step_lexemes (is_one c) c []))
    ∙ ap (λ xs. term_text a ++ 44 ∷ xs) (term_spelled b g (step_lexemes (is_one c) c []) ∙ ap (λ xs. term_text b ++ xs) (step_spelled (is_one c) c k)))

do_matched : (x : Var) (a b c : Term) (l : Bool) → is_name (var_text x) ≡ true → IsWrittenTerm a → IsWrittenTerm b → IsWrittenTerm c → is_matched 0 (codes "DO" ++ do_chars x a b l c) ≡ true
do_matched x a b c l n h g k =
    (balanced-append (codes "DO") (var_text x) (balanced-plain (codes "DO") refl) (balanced-name (var_text x) (name_chars (var_text x) n))).matches (61 ∷ (term_text a ++ 44 ∷ (term_text b ++ step_chars l c)))
    ∙ matches-equals (term_text a ++ 44 ∷ (term_text b ++ step_chars l c))
    ∙ (term_balanced a h).matches (44 ∷ (term_text b ++ step_chars l c))
    ∙ matches-comma (term_text b ++ step_chars l c)
    ∙ (term_balanced b g).matches (step_chars l c)
    ∙ step_matched l c k

-- a DO is a statement of its class with its lexemes
pub is_do_statement : (x : Var) (a b c : Term) → IsVariable x → IsWrittenTerm a → IsWrittenTerm b → IsWrittenTerm c → IsStatement classes.Do (codes "DO") (do_lexemes x a b c)
is_do_statement x a b c n h g k =
    let named = is_name-variable x n in
    let spelled = do_spelled x a b c h g k in
    let s = step_spaced (is_one c) c k in
    let comma_stands : has_open comma 0 (term_text a ++ 44 ∷ (term_text b ++ step_chars (is_one c) c)) ≡ true = (term_balanced a h).commas (44 ∷ (term_text b ++ step_chars (is_one c) c)) ∙ opens-comma (term_text b ++ step_chars (is_one c) c) in
    record {
      spaced = (named, tt, (tt, tt, term_spaced a h (Mark Comma ∷ term_lexemes b (step_lexemes (is_one c) c [])) tt (tt, tt, term_spaced b g (step_lexemes (is_one c) c []) s.0 s.1)));
      some = omega arith;
      classed = ap (λ xs. class_of (codes "DO" ++ xs)) spelled ∙ do_classed (var_text x) (term_text a ++ 44 ∷ (term_text b ++ step_chars (is_one c) c)) named comma_stands;
      matched = ap (λ xs. is_matched 0 (codes "DO" ++ xs)) spelled ∙ do_matched x a b c (is_one c) named h g k;
      keyword_ends = refl;
      whole = refl;
      calls_none = refl;
    }

-- a block IF: the lexemes behind the keyword, up to the THEN
abbrev pub guard_lexemes : Test → List Lexeme
guard_lexemes c = Mark Left ∷ test_lexemes c (Mark Right ∷ [])

-- its characters
abbrev pub if_chars : Test → List ℕ
if_chars c = codes "IF" ++ (grouped (test_text c) ++ codes "THEN")

pub guard_spelled : (c : Test) → IsWrittenTest c → flat_map spelling (guard_lexemes c) ≡ grouped (test_text c)
guard_spelled c h = ap (λ xs. 40 ∷ xs) (test_spelled c h (Mark Right ∷ []))

pub guard_spaced : (c : Test) → IsWrittenTest c → AreSpaced (guard_lexemes c)
guard_spaced c h = (tt, tt, test_spaced c h (Mark Right ∷ []) tt (tt, tt, tt))

if_classed : (cs : List ℕ) → IsInner cs → class_of (codes "IF" ++ (grouped cs ++ codes "THEN")) ≡ Some classes.BlockIf
unfolding kind_of
if_classed cs h =
    let e : inner (codes "IF" ++ (grouped cs ++ codes "THEN")) ≡ codes "THEN" = inner_behind 73 70 cs (codes "THEN") h in
    rw e refl

then_matched : is_matched 0 (codes "THEN") ≡ true
then_matched = (balanced-plain (codes "THEN") refl).matches [] ∙ matches-nothing

if_matched : (cs : List ℕ) → IsInner cs → is_matched 0 (codes "IF" ++ (grouped cs ++ codes "THEN")) ≡ true
if_matched cs h = (balanced-plain (codes "IF") refl).matches (grouped cs ++ codes "THEN") ∙ (balanced-grouped cs h).matches (codes "THEN") ∙ then_matched

-- what stands between the keyword and the THEN
if_part : (cs : List ℕ) → part (codes "IF" ++ (cs ++ codes "THEN")) 2 (length (codes "IF" ++ (cs ++ codes "THEN")) - 4) ≡ cs
if_part cs =
    let e : length (codes "IF" ++ (cs ++ codes "THEN")) - 4 - 2 ≡ length cs = omega (arith, length-append cs (codes "THEN")) in
    rw e (take_at cs (codes "THEN") (length cs) refl)

if_tokens : (c : Test) → IsWrittenTest c → tokens_of classes.BlockIf (if_chars c) ≡ Some (tokens_at 2 (guard_lexemes c))
if_tokens c h =
    ap (λ cs. tokens_from None 0 2 cs) (if_part (grouped (test_text c)) ∙ sym (guard_spelled c h)) ∙ scanned (guard_lexemes c) 2 (guard_spaced c h)

-- these lines as a block IF
abbrev pub if_statement : Lines → Test → Stated
if_statement s c = record { line = s.line; label = s.label; mark = s.advice.mark; split = s.advice.split; mark_line = s.mark_line; kind = classes.BlockIf; text = s.text; tokens = tokens_at 2 (guard_lexemes c) }

-- lines with the characters of a block IF are that block IF
pub states_if : (s : Lines) (c : Test) → s.text ≡ if_chars c → IsWrittenTest c → stated no_limits s ≡ Ok (if_statement s c)
unfolding stated
states_if s c e h =
    let inside = (test_balanced c h).inner in
    let classed : class_of s.text ≡ Some classes.BlockIf = ap class_of e ∙ if_classed (test_text c) inside in
    let matched : is_matched 0 s.text ≡ true = ap (is_matched 0) e ∙ if_matched (test_text c) inside in
    let scans : tokens_of classes.BlockIf s.text ≡ Some (tokens_at 2 (guard_lexemes c)) = ap (tokens_of classes.BlockIf) e ∙ if_tokens c h in
    let some : eqb (length s.text) 0 ≡ false = ne_eqb (length s.text) 0 (λ q. let l = ap length e in omega arith) in
    rw (some, classed, matched, scans, none_too_long (tokens_at 2 (guard_lexemes c))) refl

-- and its lexemes are those of the condition in parentheses
pub if_lexemes : (s : Lines) (c : Test) → s.text ≡ if_chars c → IsWrittenTest c → lexemes_of (if_statement s c).text (if_statement s c).tokens ≡ guard_lexemes c
if_lexemes s c e h =
    ap (λ cs. lexemes_of cs (tokens_at 2 (guard_lexemes c))) (e ∙ ap (λ cs. codes "IF" ++ (cs ++ codes "THEN")) (sym (guard_spelled c h))) ∙ lexemes_back (codes "IF") (guard_lexemes c) (codes "THEN") (guard_spaced c h)
