-- Classes: what the class of a text depends on.
use Rattle.std.proofs.Common.{◌≡◌, ℕ, zero, suc, ◌+◌, Bool, true, false, cond, eqb, List, [], ◌∷◌, ◌++◌, drop, refl, ap, arith}
use Rattle.std.specs.Prelude.{◌&&◌, not, nat_lt, codes}
use Rattle.std.specs.List.{flat_map, list_all, prefix_len}
use Rattle.std.proofs.lemmas.Bool.{ne_eqb}
use Rattle.std.proofs.lemmas.Bool.Decides.{nat_tests}
use Rattle.def_text.specs.Char.{left, right, comma, equals, is_capital, is_digit, is_name_char}
use Rattle.def_text.specs.Class.{depth_behind, has_open, is_matched, begins_with_letter, behind_label, is_control, is_do, is_if}
use Rattle.def_text.specs.Token.{begins_with}
use Rattle.def_text.specs.Lexeme.{Lexeme, Named, Digits, Mark}
use Rattle.def_text.proofs.Spelled.{chars_of, spelling, is_name, is_number, AreSpaced}
use Rattle.def_text.proofs.Scans.{both_true}

abbrev pub is_not : ℕ → ℕ → Bool
is_not k c = not (eqb c k)

-- a character stands nowhere in a text
abbrev pub Lacks : ℕ → List ℕ → Type 0
Lacks k cs = list_all (is_not k) cs ≡ true

pub and_no : (a b : Bool) → b ≡ false → a && b ≡ false
and_no true b h = h
and_no false b h = refl

pub no_true : (b : Bool) → not b ≡ true → b ≡ false
no_true true h = cc
no_true false h = refl

pub list_all-append : (p : ℕ → Bool) (xs ys : List ℕ) → list_all p xs ≡ true → list_all p ys ≡ true → list_all p (xs ++ ys) ≡ true
list_all-append p [] ys h g = g
list_all-append p (x ∷ xs) ys h g = let k = both_true (p x) (list_all p xs) h in rw (k.0, list_all-append p xs ys k.1 g) refl

list_all-drop : (p : ℕ → Bool) (n : ℕ) (xs : List ℕ) → list_all p xs ≡ true → list_all p (drop n xs) ≡ true
list_all-drop p zero xs h = h
list_all-drop p (suc n) [] h = refl
list_all-drop p (suc n) (x ∷ xs) h = list_all-drop p n xs (both_true (p x) (list_all p xs) h).1

-- a character that no text has stands nowhere open in it
pub has_open-none : (x n : ℕ) (cs : List ℕ) → Lacks x cs → has_open x n cs ≡ false
unfolding has_open
has_open-none x n [] h = refl
has_open-none x n (c ∷ cs) h =
    let k = both_true (is_not x c) (list_all (is_not x) cs) h in
    rw (no_true (eqb c x) k.0) (has_open-none x (depth_behind n c) cs k.1)

-- where no parentheses stand, what is open behind them is open
pub has_open-behind : (x n : ℕ) (cs rest : List ℕ) → Lacks left cs → Lacks right cs → Lacks x cs → has_open x n (cs ++ rest) ≡ has_open x n rest
unfolding has_open
has_open-behind x n [] rest l r h = refl
has_open-behind x n (c ∷ cs) rest l r h =
    let a = both_true (is_not left c) (list_all (is_not left) cs) l in
    let b = both_true (is_not right c) (list_all (is_not right) cs) r in
    let k = both_true (is_not x c) (list_all (is_not x) cs) h in
    rw (no_true (eqb c x) k.0, no_true (eqb c left) a.0, no_true (eqb c right) b.0) (has_open-behind x n cs rest a.1 b.1 k.1)

pub is_matched-behind : (n : ℕ) (cs rest : List ℕ) → Lacks left cs → Lacks right cs → is_matched n (cs ++ rest) ≡ is_matched n rest
unfolding is_matched
is_matched-behind n [] rest l r = refl
is_matched-behind n (c ∷ cs) rest l r =
    let a = both_true (is_not left c) (list_all (is_not left) cs) l in
    let b = both_true (is_not right c) (list_all (is_not right) cs) r in
    rw (no_true (eqb c left) a.0, no_true (eqb c right) b.0) (is_matched-behind n cs rest a.1 b.1)

-- without a comma a text is no DO
no_control : (cs : List ℕ) → Lacks comma cs → is_control cs ≡ false
no_control cs h =
    let rest = drop (prefix_len is_name_char cs + 1) cs in
    and_no (begins_with_letter cs && begins_with (drop (prefix_len is_name_char cs) cs) (equals ∷ [])) (has_open comma 0 rest) (has_open-none comma 0 rest (list_all-drop (is_not comma) (prefix_len is_name_char cs + 1) cs h))

lacks-behind_label : (k : ℕ) (cs : List ℕ) → Lacks k cs → Lacks k (behind_label cs)
lacks-behind_label k cs h =
    elim (nat_lt 0 (prefix_len is_digit cs) && begins_with (drop (prefix_len is_digit cs) cs) (comma ∷ [])) as (λ b. Lacks k (cond b (drop (prefix_len is_digit cs + 1) cs) (drop (prefix_len is_digit cs) cs))) [
      | true ↦ list_all-drop (is_not k) (prefix_len is_digit cs + 1) cs h
      | false ↦ list_all-drop (is_not k) (prefix_len is_digit cs) cs h
    ]

pub no_do : (text : List ℕ) → Lacks comma text → is_do text ≡ false
no_do text h = and_no (begins_with text (codes "DO")) (is_control (behind_label (drop 2 text))) (no_control (behind_label (drop 2 text)) (lacks-behind_label comma (drop 2 text) (list_all-drop (is_not comma) 2 text h)))

-- without a parenthesis it is no IF
no_if_begins : (text : List ℕ) → Lacks left text → begins_with text (codes "IF(") ≡ false
no_if_begins [] h = refl
no_if_begins (a ∷ []) h = and_no (eqb 73 a) false refl
no_if_begins (a ∷ b ∷ []) h = and_no (eqb 73 a) (eqb 70 b && false) (and_no (eqb 70 b) false refl)
no_if_begins (a ∷ b ∷ c ∷ cs) h =
    let k = both_true (is_not left a) (list_all (is_not left) (b ∷ c ∷ cs)) h in
    let l = both_true (is_not left b) (list_all (is_not left) (c ∷ cs)) k.1 in
    let m = both_true (is_not left c) (list_all (is_not left) cs) l.1 in
    let e : eqb 40 c ≡ false = ne_eqb 40 c (λ q. let o = no_true (eqb c left) m.0 in grind (arith, nat_tests)) in
    and_no (eqb 73 a) (eqb 70 b && (eqb 40 c && true)) (and_no (eqb 70 b) (eqb 40 c && true) (rw e refl))

pub no_if : (text : List ℕ) → Lacks left text → is_if text ≡ false
no_if text h = rw (no_if_begins text h) refl

-- a character of which the marks of some lexemes have none, and no name has
abbrev pub Lack : ℕ → List Lexeme → Type 0
Lack k [] = Unit {0}
Lack k (Named x ∷ ws) = Lack k ws
Lack k (Digits ds ∷ ws) = Lack k ws
Lack k (Mark m ∷ ws) = Lacks k (chars_of m) × Lack k ws

differs : (k c : ℕ) → is_name_char k ≡ false → is_name_char c ≡ true → is_not k c ≡ true
differs k c no_name h = rw (ne_eqb c k (λ e. let f = ap is_name_char e in cc)) refl

lacks_chars : (k : ℕ) (cs : List ℕ) → is_name_char k ≡ false → list_all is_name_char cs ≡ true → Lacks k cs
lacks_chars k [] no_name h = refl
lacks_chars k (c ∷ cs) no_name h = let g = both_true (is_name_char c) (list_all is_name_char cs) h in rw (differs k c no_name g.0, lacks_chars k cs no_name g.1) refl

capital_is_name_char : (c : ℕ) → is_capital c ≡ true → is_name_char c ≡ true
capital_is_name_char c h = rw h refl

digit_is_name_char : (c : ℕ) → is_digit c ≡ true → is_name_char c ≡ true
digit_is_name_char c h = grind (arith, nat_tests)

pub name_chars : (x : List ℕ) → is_name x ≡ true → list_all is_name_char x ≡ true
name_chars [] h = refl
name_chars (c ∷ cs) h = let g = both_true (is_capital c) (list_all is_name_char cs) h in rw (capital_is_name_char c g.0, g.1) refl

digits_chars : (ds : List ℕ) → list_all is_digit ds ≡ true → list_all is_name_char ds ≡ true
digits_chars [] h = refl
digits_chars (d ∷ ds) h = let g = both_true (is_digit d) (list_all is_digit ds) h in rw (digit_is_name_char d g.0, digits_chars ds g.1) refl

pub number_chars : (ds : List ℕ) → is_number ds ≡ true → list_all is_name_char ds ≡ true
number_chars [] h = refl
number_chars (d ∷ ds) h = digits_chars (d ∷ ds) h

pub lacks-name : (k : ℕ) (x : List ℕ) → is_name_char k ≡ false → is_name x ≡ true → Lacks k x
lacks-name k x no_name h = lacks_chars k x no_name (name_chars x h)

-- then it stands nowhere in the lexemes' characters
pub lacks-lexemes : (k : ℕ) (ws : List Lexeme) → is_name_char k ≡ false → AreSpaced ws → Lack k ws → Lacks k (flat_map spelling ws)
lacks-lexemes k [] no_name a h = refl
lacks-lexemes k (Named x ∷ ws) no_name a h = list_all-append (is_not k) x (flat_map spelling ws) (lacks-name k x no_name a.0) (lacks-lexemes k ws no_name a.2 h)
lacks-lexemes k (Digits ds ∷ ws) no_name a h = list_all-append (is_not k) ds (flat_map spelling ws) (lacks_chars k ds no_name (number_chars ds a.0)) (lacks-lexemes k ws no_name a.2 h)
lacks-lexemes k (Mark m ∷ ws) no_name a h = list_all-append (is_not k) (chars_of m) (flat_map spelling ws) h.0 (lacks-lexemes k ws no_name a.2 h.1)

pub lacks-behind : (k : ℕ) (xs ys : List ℕ) → Lacks k xs → Lacks k ys → Lacks k (xs ++ ys)
lacks-behind k xs ys h g = list_all-append (is_not k) xs ys h g
