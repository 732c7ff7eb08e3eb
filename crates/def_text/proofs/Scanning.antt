-- A scan that goes on, one that stops, and one that ends.
use Rattle.std.proofs.Common.{◌≡◌, ℕ, zero, suc, ◌+◌, ◌-◌, ◌<◌, ◌≤◌, List, [], ◌∷◌, ◌++◌, length, get_or, drop, Option, Some, None, option_map, option_and_then, refl, sym, ap, ◌∙◌, append_assoc, append-nil, arith}
use Rattle.std.proofs.lemmas.List.{drop_all, drop-drop, drop_more}
use Rattle.def_text.specs.declared.token.Token.{Token}
use Rattle.def_text.specs.declared.token.TokenKind.{TokenKind}
use Rattle.def_text.specs.Token.{token_here, token_at, tokens_from}

-- the tokens before, and those that follow
abbrev pub with_front : List Token → Option (List Token) → Option (List Token)
with_front front found = option_map (λ ts. front ++ ts) found

tokens_from-skip : (call : Option ℕ) (n here : ℕ) (text : List ℕ) → tokens_from call n here text ≡ tokens_from call 0 (here + n) (drop n text)
unfolding tokens_from
tokens_from-skip call zero here text = ap (λ p. tokens_from call 0 p text) (omega arith)
tokens_from-skip call (suc n) here [] = refl
tokens_from-skip call (suc n) here (c ∷ cs) = tokens_from-skip call n (here + 1) cs ∙ ap (λ p. tokens_from call 0 p (drop n cs)) (omega arith)

drop_one : (c : ℕ) (cs : List ℕ) (n : ℕ) → 0 < n → drop n (c ∷ cs) ≡ drop (n - 1) cs
drop_one c cs n h = let k : n ≡ suc (n - 1) = omega arith in ap (λ m. drop m (c ∷ cs)) k

-- no text, no tokens
pub tokens_from-nil : (call : Option ℕ) (here : ℕ) → tokens_from call 0 here [] ≡ Some []
unfolding tokens_from
tokens_from-nil call here = refl

-- the first token, and then those of the rest
pub tokens_from-first : (call : Option ℕ) (here c : ℕ) (cs : List ℕ) (t : TokenKind × ℕ) → token_here call here (c ∷ cs) ≡ Some t → 0 < t.1 → tokens_from call 0 here (c ∷ cs) ≡ option_map (λ ts. token_at here t ∷ ts) (tokens_from call 0 (here + t.1) (drop t.1 (c ∷ cs)))
unfolding tokens_from
tokens_from-first call here c cs t h some =
    let rest : tokens_from call (t.1 - 1) (here + 1) cs ≡ tokens_from call 0 (here + t.1) (drop t.1 (c ∷ cs)) = tokens_from-skip call (t.1 - 1) (here + 1) cs ∙ rw (drop_one c cs t.1 some) (ap (λ p. tokens_from call 0 p (drop (t.1 - 1) cs)) (omega arith)) in
    ap (option_and_then (λ u. option_map (λ ts. token_at here u ∷ ts) (tokens_from call (u.1 - 1) (here + 1) cs))) h ∙ ap (option_map (λ ts. token_at here t ∷ ts)) rest

-- a text that begins with no token isn't cut into tokens
pub tokens_from-none : (call : Option ℕ) (here c : ℕ) (cs : List ℕ) → token_here call here (c ∷ cs) ≡ None → tokens_from call 0 here (c ∷ cs) ≡ None
unfolding tokens_from
tokens_from-none call here c cs h = ap (option_and_then (λ u. option_map (λ ts. token_at here u ∷ ts) (tokens_from call (u.1 - 1) (here + 1) cs))) h

regroup : (front : List Token) (t : Token) (found : Option (List Token)) → with_front front (option_map (λ ts. t ∷ ts) found) ≡ with_front (front ++ t ∷ []) found
regroup front t None = refl
regroup front t (Some ts) = ap Some (sym (append_assoc front (t ∷ []) ts))

module _ (call : Option ℕ) (from : ℕ) (text : List ℕ) (front : List Token) (done : ℕ) (total : Option (List Token)) (so_far : with_front front (tokens_from call 0 (from + done) (drop done text)) ≡ total) where
  module _ (within : done < length text) where
    split : drop done text ≡ get_or text done 0 ∷ drop (done + 1) text
    split = drop_more text done 0 within

    -- the next token
    pub scan_goes_on : (t : TokenKind × ℕ) → token_here call (from + done) (drop done text) ≡ Some t → 0 < t.1 → with_front (front ++ token_at (from + done) t ∷ []) (tokens_from call 0 (from + (done + t.1)) (drop (done + t.1) text)) ≡ total
    scan_goes_on t h some =
        let one = tokens_from-first call (from + done) (get_or text done 0) (drop (done + 1) text) t (ap (token_here call (from + done)) (sym split) ∙ h) some in
        let two : tokens_from call 0 (from + done) (drop done text) ≡ option_map (λ ts. token_at (from + done) t ∷ ts) (tokens_from call 0 (from + done + t.1) (drop t.1 (drop done text))) = rw split one in
        let three = ap (with_front front) two ∙ regroup front (token_at (from + done) t) (tokens_from call 0 (from + done + t.1) (drop t.1 (drop done text))) in
        let place : from + done + t.1 ≡ from + (done + t.1) = omega arith in
        sym (three ∙ ap (λ xs. with_front (front ++ token_at (from + done) t ∷ []) (tokens_from call 0 (from + done + t.1) xs)) (drop-drop t.1 done text) ∙ ap (λ p. with_front (front ++ token_at (from + done) t ∷ []) (tokens_from call 0 p (drop (done + t.1) text))) place) ∙ so_far

    -- no token begins here
    pub scan_stops : token_here call (from + done) (drop done text) ≡ None → total ≡ None
    scan_stops h =
        sym so_far ∙ ap (λ xs. with_front front (tokens_from call 0 (from + done) xs)) split ∙ ap (with_front front) (tokens_from-none call (from + done) (get_or text done 0) (drop (done + 1) text) (ap (token_here call (from + done)) (sym split) ∙ h))

  -- the text is at its end
  pub scan_ends : length text ≤ done → total ≡ Some front
  scan_ends past = sym so_far ∙ ap (λ xs. with_front front (tokens_from call 0 (from + done) xs)) (drop_all done text past) ∙ ap (with_front front) (tokens_from-nil call (from + done)) ∙ ap Some (append-nil front)
