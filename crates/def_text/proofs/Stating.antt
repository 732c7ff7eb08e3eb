-- Stating: a text that is a keyword and spelled lexemes is a statement with these lexemes.
use Rattle.std.proofs.Common.{◌≡◌, ℕ, ◌-◌, ◌<◌, true, false, eqb, List, [], ◌∷◌, ◌++◌, length, Some, None, Ok, refl, sym, ap, ◌∙◌, arith, append-nil, length-append}
use Rattle.std.specs.List.{flat_map, list_any}
use Rattle.std.proofs.lemmas.Bool.{ne_eqb}
use Rattle.std.proofs.lemmas.List.{take_all, drop_at}
use Rattle.def_text.specs.declared.token.Token.{Token}
use Rattle.def_text.specs.declared.stated.Kind.{Kind}
use Rattle.def_text.specs.declared.stated.Stated.{Stated}
use Rattle.def_text.specs.Class.{class_of, is_matched}
use Rattle.def_text.specs.Limits.{no_limits}
use Rattle.def_text.specs.Lined.{Lines}
use Rattle.def_text.specs.Stated.{keyword_len, ending_len, call_place, tokens_of, is_too_long, stated}
use Rattle.def_text.specs.Token.{tokens_from}
use Rattle.def_text.specs.Lexeme.{Lexeme, part, lexemes_of}
use Rattle.def_text.proofs.Spelled.{spelling, AreSpaced}
use Rattle.def_text.proofs.Scans.{tokens_at, scanned, lexemes_back}

-- a keyword and the lexemes behind it
abbrev pub text_of : List ℕ → List Lexeme → List ℕ
text_of keyword ws = keyword ++ flat_map spelling ws

-- a text of this class with this keyword and these lexemes
pub record IsStatement (kind : Kind) (keyword : List ℕ) (ws : List Lexeme) : Type 0 where
  pub spaced : AreSpaced ws
  pub some : 0 < length (text_of keyword ws)
  pub classed : class_of (text_of keyword ws) ≡ Some kind
  pub matched : is_matched 0 (text_of keyword ws) ≡ true
  pub keyword_ends : keyword_len kind (text_of keyword ws) ≡ length keyword
  pub whole : ending_len kind ≡ 0
  pub calls_none : call_place kind (text_of keyword ws) ≡ None

-- a statement of these lines, of this class, with these lexemes behind its keyword
abbrev pub statement_of : Lines → Kind → List ℕ → List Lexeme → Stated
statement_of s kind keyword ws = record { line = s.line; label = s.label; mark = s.advice.mark; split = s.advice.split; mark_line = s.mark_line; kind = kind; text = s.text; tokens = tokens_at (length keyword) ws }

pub none_too_long : (ts : List Token) → list_any (is_too_long None) ts ≡ false
none_too_long [] = refl
none_too_long (t ∷ ts) = none_too_long ts

behind : (keyword : List ℕ) (ws : List Lexeme) → part (text_of keyword ws) (length keyword) (length (text_of keyword ws) - 0) ≡ flat_map spelling ws
behind keyword ws =
    let e : length (text_of keyword ws) - 0 - length keyword ≡ length (flat_map spelling ws) = omega (arith, length-append keyword (flat_map spelling ws)) in
    rw (e, drop_at keyword (flat_map spelling ws) (length keyword) refl) (take_all (length (flat_map spelling ws)) (flat_map spelling ws) (omega arith))

-- its tokens are those of the lexemes
tokens : (kind : Kind) (keyword : List ℕ) (ws : List Lexeme) → IsStatement kind keyword ws → tokens_of kind (text_of keyword ws) ≡ Some (tokens_at (length keyword) ws)
tokens kind keyword ws h =
    ap (λ place. tokens_from place 0 (keyword_len kind (text_of keyword ws)) (part (text_of keyword ws) (keyword_len kind (text_of keyword ws)) (length (text_of keyword ws) - ending_len kind))) h.calls_none
    ∙ ap (λ k. tokens_from None 0 k (part (text_of keyword ws) k (length (text_of keyword ws) - ending_len kind))) h.keyword_ends
    ∙ ap (λ k. tokens_from None 0 (length keyword) (part (text_of keyword ws) (length keyword) (length (text_of keyword ws) - k))) h.whole
    ∙ ap (λ cs. tokens_from None 0 (length keyword) cs) (behind keyword ws)
    ∙ scanned ws (length keyword) h.spaced

-- lines with this text are this statement
pub states : (s : Lines) (kind : Kind) (keyword : List ℕ) (ws : List Lexeme) → s.text ≡ text_of keyword ws → IsStatement kind keyword ws → stated no_limits s ≡ Ok (statement_of s kind keyword ws)
unfolding stated
states s kind keyword ws e h =
    let classed : class_of s.text ≡ Some kind = ap class_of e ∙ h.classed in
    let matched : is_matched 0 s.text ≡ true = ap (is_matched 0) e ∙ h.matched in
    let scans : tokens_of kind s.text ≡ Some (tokens_at (length keyword) ws) = ap (tokens_of kind) e ∙ tokens kind keyword ws h in
    let some : eqb (length s.text) 0 ≡ false = ne_eqb (length s.text) 0 (λ q. let n = h.some in let l = ap length e in omega arith) in
    rw (some, classed, matched, scans, none_too_long (tokens_at (length keyword) ws)) refl

-- and these are its lexemes
pub lexemes_stand : (s : Lines) (kind : Kind) (keyword : List ℕ) (ws : List Lexeme) → s.text ≡ text_of keyword ws → IsStatement kind keyword ws → lexemes_of (statement_of s kind keyword ws).text (statement_of s kind keyword ws).tokens ≡ ws
lexemes_stand s kind keyword ws e h =
    ap (λ cs. lexemes_of cs (tokens_at (length keyword) ws)) (e ∙ ap (λ cs. keyword ++ cs) (sym (append-nil (flat_map spelling ws)))) ∙ lexemes_back keyword ws [] h.spaced
