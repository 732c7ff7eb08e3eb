-- Where the data of a text begin, line by line.
use Rattle.std.proofs.Common.{◌≡◌, ℕ, ◌+◌, ◌-◌, min, Bool, true, false, cond, List, ◌∷◌, length, ap, ◌∙◌, arith}
use Rattle.std.proofs.lemmas.List.{nil_from_length}
use Rattle.def_text.specs.Data.{text_len, data_line}
use Rattle.def_text.specs.Line.{cut_lines, is_data, next_number, without_cr}
use Rattle.def_text.proofs.Cutting.{cut_lines-nil}

module _ (rest line after : List ℕ) (cut : cut_lines rest ≡ line ∷ cut_lines after) (left : length after ≡ length rest - (length line + 1)) where
  line_one : (n : ℕ) (b : Bool) → is_data (without_cr line) ≡ b → data_line n (cut_lines rest) ≡ cond b (next_number n) (data_line (next_number n) (cut_lines after))
  unfolding data_line
  line_one n b h = ap (data_line n) cut ∙ ap (λ t. cond t (next_number n) (data_line (next_number n) (cut_lines after))) h

  len_one : (b : Bool) → is_data (without_cr line) ≡ b → text_len (cut_lines rest) ≡ cond b (length line + 1) (length line + 1 + text_len (cut_lines after))
  unfolding text_len
  len_one b h = ap text_len cut ∙ ap (λ t. cond t (length line + 1) (length line + 1 + text_len (cut_lines after))) h

  -- the line is `$DATA`: the data begin behind it
  pub begins_here : is_data (without_cr line) ≡ true → min (text_len (cut_lines rest)) (length rest) + length after ≡ length rest
  begins_here h = omega (arith, len_one true h, left)

  -- it isn't: what is behind it is taken as it stands
  pub begins_later : is_data (without_cr line) ≡ false → min (text_len (cut_lines rest)) (length rest) + length after ≡ length rest + min (text_len (cut_lines after)) (length after)
  begins_later h = omega (arith, len_one false h, left)

  pub number_here : (n : ℕ) → is_data (without_cr line) ≡ true → data_line n (cut_lines rest) ≡ next_number n
  number_here n h = line_one n true h

  pub number_later : (n : ℕ) → is_data (without_cr line) ≡ false → data_line n (cut_lines rest) ≡ data_line (next_number n) (cut_lines after)
  number_later n h = line_one n false h

-- no line is left
pub number_ends : (n : ℕ) (rest : List ℕ) → length rest ≡ 0 → data_line n (cut_lines rest) ≡ n
unfolding data_line
number_ends n rest none = ap (λ cs. data_line n (cut_lines cs)) (nil_from_length rest none) ∙ ap (data_line n) cut_lines-nil
