-- TokensNamed: the names among the tokens of a text are names.
use Rattle.std.proofs.Common.{◌≡◌, ℕ, zero, suc, ◌+◌, ◌-◌, Bool, true, false, List, [], ◌∷◌, ◌++◌, length, take, drop, Option, Some, None, option_map, refl, sym, ap, subst, ◌∙◌, arith, append_assoc, length-append}
use Rattle.std.specs.Prelude.{codes, if◌then◌else◌, ◌==◌}
use Rattle.std.specs.List.{list_all, prefix_len}
use Rattle.std.proofs.lemmas.List.{drop_at}
use Rattle.def_text.specs.Char.{star, plus, minus, slash, left, right, comma, equals, dot, is_capital, is_digit, is_name_char}
use Rattle.def_text.specs.Token.{begins_with, dotted, mark_of, first_token, is_place, token_here, token_at, tokens_from}
use Rattle.def_text.specs.Lexeme.{Lexeme, Named, Digits, Mark, lexeme, part, lexemes_of}
use Rattle.def_text.specs.Written.{IsName}
use Rattle.def_text.specs.declared.token.Token.{Token}
use Rattle.def_text.specs.declared.token.TokenKind.{TokenKind}
use Rattle.def_text.specs.declared.token.TokenKind.TheVariants.{Name, Number, Power, Star, Slash, Plus, Minus, Left, Right, Comma, Equals, Lt, Le, Eq, Ne, Gt, Ge, Not, And, Or, Call}
use Rattle.def_text.proofs.Parts.{map_some, then_some}
use Rattle.def_text.proofs.TermWritten.{AreLexemes}

-- every kind but that of a name
abbrev IsNoName : TokenKind → Type 0
IsNoName Name = ⊥
IsNoName _ = Unit {0}

abbrev IsLexeme : Lexeme → Type 0
IsLexeme (Named x) = IsName x
IsLexeme (Digits ds) = Unit {0}
IsLexeme (Mark k) = Unit {0}

no_name_lexeme : (k : TokenKind) (x : List ℕ) → IsNoName k → IsLexeme (lexeme k x)
no_name_lexeme Name x h = absurd h
no_name_lexeme Number x h = tt
no_name_lexeme Power x h = tt
no_name_lexeme Star x h = tt
no_name_lexeme Slash x h = tt
no_name_lexeme Plus x h = tt
no_name_lexeme Minus x h = tt
no_name_lexeme Left x h = tt
no_name_lexeme Right x h = tt
no_name_lexeme Comma x h = tt
no_name_lexeme Equals x h = tt
no_name_lexeme Lt x h = tt
no_name_lexeme Le x h = tt
no_name_lexeme Eq x h = tt
no_name_lexeme Ne x h = tt
no_name_lexeme Gt x h = tt
no_name_lexeme Ge x h = tt
no_name_lexeme Not x h = tt
no_name_lexeme And x h = tt
no_name_lexeme Or x h = tt
no_name_lexeme Call x h = tt

one_more_lexeme : (w : Lexeme) (ws : List Lexeme) → IsLexeme w → AreLexemes ws → AreLexemes (w ∷ ws)
one_more_lexeme (Named x) ws h g = (h, g)
one_more_lexeme (Digits ds) ws h g = g
one_more_lexeme (Mark k) ws h g = g

-- a token, if there is one, is no name
abbrev NoName : Option (TokenKind × ℕ) → Type 0
NoName o = (t : TokenKind × ℕ) → o ≡ Some t → IsNoName t.0

no_name_none : NoName None
no_name_none t e = absurd cc

no_name_some : (k : TokenKind) (n : ℕ) → IsNoName k → NoName (Some (k, n))
no_name_some k n h t e = let u : TokenKind × ℕ = (k, n) in let q : u ≡ t = cc in let P : TokenKind × ℕ → Type 0 = λ t. IsNoName t.0 in subst P q h

no_name_if : (b : Bool) (o p : Option (TokenKind × ℕ)) → NoName o → NoName p → NoName (if b then o else p)
no_name_if true o p h g = h
no_name_if false o p h g = g

no_name_dotted : (text : List ℕ) → NoName (dotted text)
no_name_dotted text =
    no_name_if (begins_with text (codes ".LT.")) _ _ (no_name_some Lt 4 tt)
    (no_name_if (begins_with text (codes ".LE.")) _ _ (no_name_some Le 4 tt)
    (no_name_if (begins_with text (codes ".EQ.")) _ _ (no_name_some Eq 4 tt)
    (no_name_if (begins_with text (codes ".NE.")) _ _ (no_name_some Ne 4 tt)
    (no_name_if (begins_with text (codes ".GT.")) _ _ (no_name_some Gt 4 tt)
    (no_name_if (begins_with text (codes ".GE.")) _ _ (no_name_some Ge 4 tt)
    (no_name_if (begins_with text (codes ".NOT.")) _ _ (no_name_some Not 5 tt)
    (no_name_if (begins_with text (codes ".AND.")) _ _ (no_name_some And 5 tt)
    (no_name_if (begins_with text (codes ".OR.")) _ _ (no_name_some Or 4 tt) no_name_none))))))))

abbrev NoNameMark : Option TokenKind → Type 0
NoNameMark o = NoName (option_map (λ (k : TokenKind). (k, 1)) o)

mark_if : (b : Bool) (o p : Option TokenKind) → NoNameMark o → NoNameMark p → NoNameMark (if b then o else p)
mark_if true o p h g = h
mark_if false o p h g = g

no_name_mark : (c : ℕ) → NoNameMark (mark_of c)
no_name_mark c =
    mark_if (c == slash) _ _ (no_name_some Slash 1 tt)
    (mark_if (c == plus) _ _ (no_name_some Plus 1 tt)
    (mark_if (c == minus) _ _ (no_name_some Minus 1 tt)
    (mark_if (c == left) _ _ (no_name_some Left 1 tt)
    (mark_if (c == right) _ _ (no_name_some Right 1 tt)
    (mark_if (c == comma) _ _ (no_name_some Comma 1 tt)
    (mark_if (c == equals) _ _ (no_name_some Equals 1 tt) no_name_none))))))

no_name_star : (b : Bool) → NoName (Some (if b then (Power, 2) else (Star, 1)))
no_name_star true = no_name_some Power 2 tt
no_name_star false = no_name_some Star 1 tt

-- what begins with no capital
abbrev other_token : ℕ → List ℕ → Option (TokenKind × ℕ)
other_token c cs =
    if is_digit c then Some (Number, 1 + prefix_len is_digit cs)
    else (if c == dot then dotted (c ∷ cs)
    else (if c == star then Some (if begins_with cs (star ∷ []) then (Power, 2) else (Star, 1))
    else option_map (λ k. (k, 1)) (mark_of c)))

no_name_other : (c : ℕ) (cs : List ℕ) → NoName (other_token c cs)
no_name_other c cs =
    no_name_if (is_digit c) _ _ (no_name_some Number (1 + prefix_len is_digit cs) tt)
    (no_name_if (c == dot) _ _ (no_name_dotted (c ∷ cs))
    (no_name_if (c == star) _ _ (no_name_star (begins_with cs (star ∷ []))) (no_name_mark c)))

front_passes : (p : ℕ → Bool) (cs after : List ℕ) → list_all p (take (prefix_len p cs) (cs ++ after)) ≡ true
front_passes p [] after = refl
front_passes p (c ∷ cs) after =
    elim (p c) as (λ b. p c ≡ b → list_all p (take (if b then 1 + prefix_len p cs else 0) (c ∷ (cs ++ after))) ≡ true) [
      | true ↦ λ e. let k : 1 + prefix_len p cs ≡ suc (prefix_len p cs) = omega arith in ap (λ n. list_all p (take n (c ∷ (cs ++ after)))) k ∙ rw (e, front_passes p cs after) refl
      | false ↦ λ e. refl
    ] refl

-- the characters of the first token, where it is a name, are a name
abbrev FirstLexeme : ℕ → List ℕ → TokenKind × ℕ → Type 0
FirstLexeme c rest t = IsLexeme (lexeme t.0 (take t.1 (c ∷ rest)))

named_lexeme : (c : ℕ) (cs after : List ℕ) → is_capital c ≡ true → IsName (take (1 + prefix_len is_name_char cs) (c ∷ (cs ++ after)))
named_lexeme c cs after h =
    let k : 1 + prefix_len is_name_char cs ≡ suc (prefix_len is_name_char cs) = omega arith in
    let P : ℕ → Type 0 = λ n. IsName (take n (c ∷ (cs ++ after))) in
    subst P (sym k) (h, front_passes is_name_char cs after)

first_lexeme : (c : ℕ) (cs after : List ℕ) (t : TokenKind × ℕ) → first_token (c ∷ cs) ≡ Some t → FirstLexeme c (cs ++ after) t
first_lexeme c cs after t e =
    elim (is_capital c) as (λ b. is_capital c ≡ b → (if b then Some (Name, 1 + prefix_len is_name_char cs) else other_token c cs) ≡ Some t → FirstLexeme c (cs ++ after) t) [
      | true ↦ λ h g. let u : TokenKind × ℕ = (Name, 1 + prefix_len is_name_char cs) in let q : u ≡ t = cc in subst (FirstLexeme c (cs ++ after)) q (named_lexeme c cs after h)
      | false ↦ λ h g. no_name_lexeme t.0 (take t.1 (c ∷ (cs ++ after))) (no_name_other c cs t g)
    ] refl e

lexeme_here : (call : Option ℕ) (here c : ℕ) (cs after : List ℕ) (t : TokenKind × ℕ) → token_here call here (c ∷ cs) ≡ Some t → FirstLexeme c (cs ++ after) t
lexeme_here call here c cs after t e =
    elim (is_place call here) as (λ b. (if b then Some (Call, 4) else first_token (c ∷ cs)) ≡ Some t → FirstLexeme c (cs ++ after) t) [
      | true ↦ λ g. let u : TokenKind × ℕ = (Call, 4) in let q : u ≡ t = cc in let w : FirstLexeme c (cs ++ after) u = tt in subst (FirstLexeme c (cs ++ after)) q w
      | false ↦ λ g. first_lexeme c cs after t g
    ] e

part_at : (front rest : List ℕ) (here n : ℕ) → length front ≡ here → part (front ++ rest) here (here + n) ≡ take n rest
part_at front rest here n h =
    let e : here + n - here ≡ n = omega arith in
    ap (λ k. take k (drop here (front ++ rest))) e ∙ ap (take n) (drop_at front rest here h)

-- the lexemes of tokens that stand behind a front and before what follows
pub tokens_named : (cs : List ℕ) (call : Option ℕ) (skip here : ℕ) (front after : List ℕ) (ts : List Token) → length front ≡ here → tokens_from call skip here cs ≡ Some ts → AreLexemes (lexemes_of (front ++ (cs ++ after)) ts)
unfolding tokens_from
tokens_named [] call skip here front after ts h e =
    let P : List Token → Type 0 = λ ts. AreLexemes (lexemes_of (front ++ after) ts) in
    let q : [] ≡ ts = cc in
    subst P q tt
tokens_named (c ∷ cs) call (suc skip) here front after ts h e =
    let P : List ℕ → Type 0 = λ text. AreLexemes (lexemes_of text ts) in
    subst P (append_assoc front (c ∷ []) (cs ++ after)) (tokens_named cs call skip (here + 1) (front ++ c ∷ []) after ts (length-append front (c ∷ []) ∙ omega arith) e)
tokens_named (c ∷ cs) call zero here front after ts h e =
    let a = then_some (λ t. option_map (λ us. token_at here t ∷ us) (tokens_from call (t.1 - 1) (here + 1) cs)) (token_here call here (c ∷ cs)) ts e in
    let b = map_some (λ us. token_at here a.0 ∷ us) (tokens_from call (a.0.1 - 1) (here + 1) cs) ts a.2 in
    let text = front ++ (c ∷ (cs ++ after)) in
    let P : List ℕ → Type 0 = λ xs. AreLexemes (lexemes_of xs b.0) in
    let others = subst P (append_assoc front (c ∷ []) (cs ++ after)) (tokens_named cs call (a.0.1 - 1) (here + 1) (front ++ c ∷ []) after b.0 (length-append front (c ∷ []) ∙ omega arith) b.1) in
    let Q : List ℕ → Type 0 = λ x. IsLexeme (lexeme a.0.0 x) in
    let first = subst Q (sym (part_at front (c ∷ (cs ++ after)) here a.0.1 h)) (lexeme_here call here c cs after a.0 a.1) in
    let R : List Token → Type 0 = λ us. AreLexemes (lexemes_of text us) in
    subst R b.2 (one_more_lexeme (lexeme a.0.0 (part text here (here + a.0.1))) (lexemes_of text b.0) first others)
