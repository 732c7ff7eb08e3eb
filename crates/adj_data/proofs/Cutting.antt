-- How a line is cut into items, item by item.
use Rattle.std.proofs.Common.{◌≡◌, ℕ, suc, ◌+◌, Bool, true, false, List, [], ◌∷◌, cond, length, take, drop, refl, sym, ap, ◌∙◌, arith, if◌then◌else◌}
use Rattle.std.specs.Prelude.{filter, not}
use Rattle.std.specs.List.{prefix_len}
use Rattle.std.proofs.lemmas.Bool.{ne_eqb}
use Rattle.std.proofs.lemmas.List.Folds.{length-prefix_len}
use Rattle.def_text.specs.Char.{is_blank}
use Rattle.def_text.specs.Line.{in_front}
use Rattle.adj_data.specs.Items.{pieces, has_some, texts_in}

-- how many characters stand before the first blank
abbrev pub text_len : List ℕ → ℕ
text_len l = prefix_len (λ c. not (is_blank c)) l

-- blanks at the front are passed
pub skipped : (l : List ℕ) → texts_in l ≡ texts_in (drop (prefix_len is_blank l) l)
skipped [] = refl
skipped (c ∷ cs) = go (is_blank c) refl (skipped cs)
  where
    go : (b : Bool) → is_blank c ≡ b → texts_in cs ≡ texts_in (drop (prefix_len is_blank cs) cs) → filter has_some (if b then [] ∷ pieces cs else in_front c (pieces cs)) ≡ texts_in (drop (cond b (1 + prefix_len is_blank cs) 0) (c ∷ cs))
    go true e ih =
        let one : 1 + prefix_len is_blank cs ≡ suc (prefix_len is_blank cs) = omega arith in
        ih ∙ ap (λ n. texts_in (drop n (c ∷ cs))) (sym one)
    go false e ih = ap (λ b. filter has_some (if b then [] ∷ pieces cs else in_front c (pieces cs))) (sym e)

-- where nothing but blanks is there, there are no items
pub none_left : (l : List ℕ) → text_len (drop (prefix_len is_blank l) l) ≡ 0 → texts_in l ≡ []
none_left [] h = refl
none_left (c ∷ cs) h = go (is_blank c) refl (none_left cs) h
  where
    go : (b : Bool) → is_blank c ≡ b → (text_len (drop (prefix_len is_blank cs) cs) ≡ 0 → texts_in cs ≡ []) → text_len (drop (cond b (1 + prefix_len is_blank cs) 0) (c ∷ cs)) ≡ 0 → filter has_some (if b then [] ∷ pieces cs else in_front c (pieces cs)) ≡ []
    go true e ih h =
        let one : 1 + prefix_len is_blank cs ≡ suc (prefix_len is_blank cs) = omega arith in
        ih (ap (λ n. text_len (drop n (c ∷ cs))) (sym one) ∙ h)
    go false e ih h =
        let k : 1 + text_len cs ≡ 0 = ap (λ b. cond (not b) (1 + text_len cs) 0) (sym e) ∙ h in
        absurd (omega arith)

-- the first piece of a line, and the others, whose items are those behind it
record FirstPiece (l : List ℕ) : Type 0 where
  others : List (List ℕ)
  cut : pieces l ≡ take (text_len l) l ∷ others
  rest : filter has_some others ≡ texts_in (drop (text_len l) l)

first_piece : (l : List ℕ) → FirstPiece l
first_piece [] = record { others = []; cut = refl; rest = refl }
first_piece (c ∷ cs) = go (is_blank c) refl (first_piece cs)
  where
    go : (b : Bool) → is_blank c ≡ b → FirstPiece cs → FirstPiece (c ∷ cs)
    go true e ih = record {
      others = pieces cs;
      cut = ap (λ b. if b then [] ∷ pieces cs else in_front c (pieces cs)) e ∙ ap (λ b. take (cond (not b) (1 + text_len cs) 0) (c ∷ cs) ∷ pieces cs) (sym e);
      rest = ap (λ b. filter has_some (if b then [] ∷ pieces cs else in_front c (pieces cs))) (sym e) ∙ ap (λ b. texts_in (drop (cond (not b) (1 + text_len cs) 0) (c ∷ cs))) (sym e);
    }
    go false e ih =
        let one : 1 + text_len cs ≡ suc (text_len cs) = omega arith in
        record {
          others = ih.others;
          cut = ap (λ b. if b then [] ∷ pieces cs else in_front c (pieces cs)) e ∙ ap (in_front c) ih.cut
              ∙ ap (λ k. take k (c ∷ cs) ∷ ih.others) (sym one) ∙ ap (λ b. take (cond (not b) (1 + text_len cs) 0) (c ∷ cs) ∷ ih.others) (sym e);
          rest = ih.rest ∙ ap (λ k. texts_in (drop k (c ∷ cs))) (sym one) ∙ ap (λ b. texts_in (drop (cond (not b) (1 + text_len cs) 0) (c ∷ cs))) (sym e);
        }

-- a line that begins with no blank has its first item there
pub first_text : (l : List ℕ) → (text_len l ≡ 0 → ⊥) → texts_in l ≡ take (text_len l) l ∷ texts_in (drop (text_len l) l)
first_text l h =
    let f = first_piece l in
    let long : length (take (text_len l) l) ≡ text_len l = length-prefix_len (λ c. not (is_blank c)) l in
    let some : has_some (take (text_len l) l) ≡ true = ap not (ne_eqb (length (take (text_len l) l)) 0 (λ e. h (sym long ∙ e))) in
    ap (filter has_some) f.cut ∙ ap (λ b. if b then take (text_len l) l ∷ filter has_some f.others else filter has_some f.others) some ∙ ap (λ ws. take (text_len l) l ∷ ws) f.rest
