-- The tokens of a text.
use Rattle.std.specs.Prelude.{◌≡◌, ◌<◌, ℕ, zero, suc, ◌+◌, ◌-◌, Bool, false, ◌==◌, List, [], ◌∷◌, codes, nat_eq, Option, Some, None, option_map, option_and_then, if◌then◌else◌}
use Rattle.std.specs.List.{prefix_len, starts_with}
use Rattle.def_text.specs.Char.{star, plus, minus, slash, left, right, comma, equals, dot, is_capital, is_digit, is_name_char}
use Rattle.def_text.specs.declared.token.Token.{Token}
use Rattle.def_text.specs.declared.token.TokenKind.{TokenKind}
use Rattle.def_text.specs.declared.token.TokenKind.TheVariants.{Name, Number, Power, Star, Slash, Plus, Minus, Left, Right, Comma, Equals, Lt, Le, Eq, Ne, Gt, Ge, Not, And, Or, Call}

-- whether a text begins with a lexeme
abbrev pub begins_with : List ℕ → List ℕ → Bool
begins_with text w = starts_with nat_eq text w

-- the lexeme between dots, and its length with them
abbrev pub dotted : List ℕ → Option (TokenKind × ℕ)
dotted text =
    if begins_with text (codes ".LT.") then Some (Lt, 4)
    else (if begins_with text (codes ".LE.") then Some (Le, 4)
    else (if begins_with text (codes ".EQ.") then Some (Eq, 4)
    else (if begins_with text (codes ".NE.") then Some (Ne, 4)
    else (if begins_with text (codes ".GT.") then Some (Gt, 4)
    else (if begins_with text (codes ".GE.") then Some (Ge, 4)
    else (if begins_with text (codes ".NOT.") then Some (Not, 5)
    else (if begins_with text (codes ".AND.") then Some (And, 5)
    else (if begins_with text (codes ".OR.") then Some (Or, 4)
    else None))))))))

-- the kind of a mark of one character
abbrev pub mark_of : ℕ → Option TokenKind
mark_of c =
    if c == slash then Some Slash
    else (if c == plus then Some Plus
    else (if c == minus then Some Minus
    else (if c == left then Some Left
    else (if c == right then Some Right
    else (if c == comma then Some Comma
    else (if c == equals then Some Equals
    else None))))))

-- `**` or `*` with its length, where this stands behind the first star
abbrev pub stars : List ℕ → TokenKind × ℕ
stars cs = if begins_with cs (star ∷ []) then (Power, 2) else (Star, 1)

-- the kind of the first token of a text, and its length: a name and digits as long as they go, `**` before `*`
abbrev pub first_token : List ℕ → Option (TokenKind × ℕ)
first_token [] = None
first_token (c ∷ cs) =
    if is_capital c then Some (Name, 1 + prefix_len is_name_char cs)
    else (if is_digit c then Some (Number, 1 + prefix_len is_digit cs)
    else (if c == dot then dotted (c ∷ cs)
    else (if c == star then Some (stars cs)
    else option_map (λ k. (k, 1)) (mark_of c))))

-- whether a place is the one
abbrev pub is_place : Option ℕ → ℕ → Bool
is_place None here = false
is_place (Some place) here = here == place

-- the first token of what stands here: the lexeme CALL at its place
abbrev pub token_here : Option ℕ → ℕ → List ℕ → Option (TokenKind × ℕ)
token_here call here text = if is_place call here then Some (Call, 4) else first_token text

abbrev pub token_at : ℕ → TokenKind × ℕ → Token
token_at here t = record { kind = t.0; start = here; end = here + t.1 }

-- the tokens from a place on, once so many characters are passed over; none where a token begins in no way that there is
unfoldable pub tokens_from : Option ℕ → ℕ → ℕ → List ℕ → Option (List Token)
tokens_from call skip here [] = Some []
tokens_from call (suc skip) here (c ∷ cs) = tokens_from call skip (here + 1) cs
tokens_from call zero here (c ∷ cs) =
    option_and_then (λ t. option_map (λ ts. token_at here t ∷ ts) (tokens_from call (t.1 - 1) (here + 1) cs)) (token_here call here (c ∷ cs))

-- the tokens stand side by side from a place to another, each with one character at least
abbrev pub AreJoined : ℕ → ℕ → List Token → Type 0
AreJoined from to [] = from ≡ to
AreJoined from to (t ∷ ts) = (t.start ≡ from) × (from < t.end) × AreJoined t.end to ts
