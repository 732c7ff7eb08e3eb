-- Inner: how names in parentheses are looked for, token by token.
use Rattle.std.proofs.Common.{◌≡◌, ℕ, ◌+◌, ◌<◌, ◌≤◌, Bool, true, false, cond, List, [], ◌∷◌, length, get_or, map, drop, refl, sym, ap, ◌∙◌}
use Rattle.std.proofs.lemmas.List.{drop_all, drop_more}
use Rattle.def_text.specs.Lexeme.{Lexeme, lexeme, lexeme_of, lexemes_of}
use Rattle.def_text.specs.declared.token.Token.{Token}
use Rattle.def_text.specs.declared.token.TokenKind.{TokenKind}
use Rattle.def_text.specs.declared.token.TokenKind.TheVariants.{Name, Number, Power, Star, Slash, Plus, Minus, Left, Right, Comma, Equals, Lt, Le, Eq, Ne, Gt, Ge, Not, And, Or, Call}
use Rattle.adj_parse_statement.specs.Phrases.{kind_of, inside_behind, is_inner_name, has_inner_name, have_inner_name}

abbrev pub kinds : List Token → List TokenKind
kinds ts = map (λ t. t.kind) ts

module _ (inside : Bool) (i : ℕ) (tokens : List Token) (total : Bool) (so_far : has_inner_name inside (kinds (drop i tokens)) ≡ total) where
  -- the tokens are at their end
  pub names_end : length tokens ≤ i → false ≡ total
  unfolding has_inner_name
  names_end past = ap (λ ts. has_inner_name inside (kinds ts)) (sym (drop_all i tokens past)) ∙ so_far

  module _ (other : Token) (within : i < length tokens) where
    names_one : has_inner_name inside ((get_or tokens i other).kind ∷ kinds (drop (i + 1) tokens)) ≡ total
    names_one = ap (λ ts. has_inner_name inside (kinds ts)) (sym (drop_more tokens i other within)) ∙ so_far

    names_split : cond (is_inner_name inside (get_or tokens i other).kind) true (has_inner_name (inside_behind inside (get_or tokens i other).kind) (kinds (drop (i + 1) tokens))) ≡ total
    unfolding has_inner_name
    names_split = names_one

    -- a name in parentheses stands here
    pub name_here : is_inner_name inside (get_or tokens i other).kind ≡ true → true ≡ total
    name_here h = rw h at names_split

    -- none does
    pub name_later : (next : Bool) → is_inner_name inside (get_or tokens i other).kind ≡ false → next ≡ inside_behind inside (get_or tokens i other).kind → has_inner_name next (kinds (drop (i + 1) tokens)) ≡ total
    name_later next h next_is = rw next_is (rw h at names_split)

-- lexemes have the kinds of their tokens
kind_stays : (k : TokenKind) (text : List ℕ) → kind_of (lexeme k text) ≡ k
kind_stays Name text = refl
kind_stays Number text = refl
kind_stays Power text = refl
kind_stays Star text = refl
kind_stays Slash text = refl
kind_stays Plus text = refl
kind_stays Minus text = refl
kind_stays Left text = refl
kind_stays Right text = refl
kind_stays Comma text = refl
kind_stays Equals text = refl
kind_stays Lt text = refl
kind_stays Le text = refl
kind_stays Eq text = refl
kind_stays Ne text = refl
kind_stays Gt text = refl
kind_stays Ge text = refl
kind_stays Not text = refl
kind_stays And text = refl
kind_stays Or text = refl
kind_stays Call text = refl

pub kinds_stay : (text : List ℕ) (ts : List Token) → map kind_of (lexemes_of text ts) ≡ kinds ts
kinds_stay text [] = refl
kinds_stay text (t ∷ ts) = ap (λ k. k ∷ map kind_of (lexemes_of text ts)) (kind_stays t.kind _) ∙ ap (λ ks. t.kind ∷ ks) (kinds_stay text ts)

pub inner_names_stay : (text : List ℕ) (ts : List Token) → has_inner_name false (kinds ts) ≡ have_inner_name (lexemes_of text ts)
inner_names_stay text ts = ap (has_inner_name false) (sym (kinds_stay text ts))
