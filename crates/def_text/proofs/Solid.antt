-- Solid: characters that folding leaves as they are, and that may stand in a statement.
use Rattle.std.proofs.Common.{◌≡◌, ℕ, true, false, List, [], ◌∷◌, ◌++◌, refl, ◌∙◌, arith}
use Rattle.std.specs.List.{flat_map, list_all}
use Rattle.std.proofs.lemmas.Bool.Decides.{nat_tests}
use Rattle.def_text.specs.declared.token.TokenKind.{TokenKind}
use Rattle.def_text.specs.declared.token.TokenKind.TheVariants as kinds
use Rattle.def_text.specs.Char.{is_blank, is_allowed, upper, folded, is_name_char}
use Rattle.def_text.specs.Lexeme.{Lexeme, Named, Digits, Mark}
use Rattle.def_text.proofs.Classes.{name_chars, number_chars}
use Rattle.def_text.proofs.Joins.{AreAllowed, allowed-append, folded-append}
use Rattle.def_text.proofs.Scans.{both_true}
use Rattle.def_text.proofs.Spelled.{chars_of, spelling, AreSpaced}

-- characters that folding leaves, and that may stand in a statement
abbrev pub IsSolid : List ℕ → Type 0
IsSolid cs = (folded cs ≡ cs) × AreAllowed cs

pub solid-append : (xs ys : List ℕ) → IsSolid xs → IsSolid ys → IsSolid (xs ++ ys)
solid-append xs ys h g = (folded-append xs ys ∙ rw (h.0, g.0) refl, allowed-append xs ys h.1 g.1)

pub name_char_stays : (c : ℕ) → is_name_char c ≡ true → (is_blank c ≡ false) × (upper c ≡ c)
name_char_stays c h = (grind (arith, nat_tests), grind (arith, nat_tests))

name_char_allowed : (c : ℕ) → is_name_char c ≡ true → is_allowed c ≡ true
name_char_allowed c h = grind (arith, nat_tests)

pub solid_chars : (cs : List ℕ) → list_all is_name_char cs ≡ true → IsSolid cs
solid_chars [] h = (refl, refl)
solid_chars (c ∷ cs) h =
    let p = both_true (is_name_char c) (list_all is_name_char cs) h in
    let stays = name_char_stays c p.0 in
    let rest = solid_chars cs p.1 in
    (rw (stays.0, stays.1, rest.0) refl, rw (name_char_allowed c p.0, rest.1) refl)

solid_mark : (k : TokenKind) → IsSolid (chars_of k)
solid_mark kinds.Name = (refl, refl)
solid_mark kinds.Number = (refl, refl)
solid_mark kinds.Power = (refl, refl)
solid_mark kinds.Star = (refl, refl)
solid_mark kinds.Slash = (refl, refl)
solid_mark kinds.Plus = (refl, refl)
solid_mark kinds.Minus = (refl, refl)
solid_mark kinds.Left = (refl, refl)
solid_mark kinds.Right = (refl, refl)
solid_mark kinds.Comma = (refl, refl)
solid_mark kinds.Equals = (refl, refl)
solid_mark kinds.Lt = (refl, refl)
solid_mark kinds.Le = (refl, refl)
solid_mark kinds.Eq = (refl, refl)
solid_mark kinds.Ne = (refl, refl)
solid_mark kinds.Gt = (refl, refl)
solid_mark kinds.Ge = (refl, refl)
solid_mark kinds.Not = (refl, refl)
solid_mark kinds.And = (refl, refl)
solid_mark kinds.Or = (refl, refl)
solid_mark kinds.Call = (refl, refl)

-- spelled lexemes are such characters
pub solid_lexemes : (ws : List Lexeme) → AreSpaced ws → IsSolid (flat_map spelling ws)
solid_lexemes [] a = (refl, refl)
solid_lexemes (Named x ∷ ws) a = solid-append x (flat_map spelling ws) (solid_chars x (name_chars x a.0)) (solid_lexemes ws a.2)
solid_lexemes (Digits ds ∷ ws) a = solid-append ds (flat_map spelling ws) (solid_chars ds (number_chars ds a.0)) (solid_lexemes ws a.2)
solid_lexemes (Mark k ∷ ws) a = solid-append (chars_of k) (flat_map spelling ws) (solid_mark k) (solid_lexemes ws a.2)
