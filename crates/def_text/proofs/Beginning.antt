-- How a line is compared with a lexeme, character by character.
use Rattle.std.proofs.Common.{◌≡◌, ℕ, ◌+◌, ◌<◌, ◌≤◌, Bool, true, false, eqb, List, ◌∷◌, length, get_or, drop, sym, ap, ◌∙◌}
use Rattle.std.proofs.lemmas.List.{drop_all, drop_more}
use Rattle.def_text.specs.Char.{upper}
use Rattle.def_text.specs.Line.{begins_in_either_case}

module _ (lexeme line : List ℕ) (i : ℕ) (total : Bool) (so_far : begins_in_either_case (drop i lexeme) (drop i line) ≡ total) where
  -- the whole lexeme was found
  pub found : length lexeme ≤ i → true ≡ total
  unfolding begins_in_either_case
  found past = ap (λ ws. begins_in_either_case ws (drop i line)) (sym (drop_all i lexeme past)) ∙ so_far

  -- the line ends within the lexeme
  pub cut_off : i < length lexeme → length line ≤ i → false ≡ total
  unfolding begins_in_either_case
  cut_off within past =
      ap (λ cs. begins_in_either_case (get_or lexeme i 0 ∷ drop (i + 1) lexeme) cs) (sym (drop_all i line past))
      ∙ ap (λ ws. begins_in_either_case ws (drop i line)) (sym (drop_more lexeme i 0 within)) ∙ so_far

  module _ (in_lexeme : i < length lexeme) (in_line : i < length line) where
    one : begins_in_either_case (get_or lexeme i 0 ∷ drop (i + 1) lexeme) (get_or line i 0 ∷ drop (i + 1) line) ≡ total
    one = ap (λ cs. begins_in_either_case (get_or lexeme i 0 ∷ drop (i + 1) lexeme) cs) (sym (drop_more line i 0 in_line))
        ∙ ap (λ ws. begins_in_either_case ws (drop i line)) (sym (drop_more lexeme i 0 in_lexeme)) ∙ so_far

    -- the next character is another one
    pub differs : eqb (upper (get_or line i 0)) (get_or lexeme i 0) ≡ false → false ≡ total
    unfolding begins_in_either_case
    differs h = rw h at one

    -- the next character is the same
    pub agrees : eqb (upper (get_or line i 0)) (get_or lexeme i 0) ≡ true → begins_in_either_case (drop (i + 1) lexeme) (drop (i + 1) line) ≡ total
    unfolding begins_in_either_case
    agrees h = rw h at one
