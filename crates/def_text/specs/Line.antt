-- Lines of a text (ANSI X3.9-1978, 3.2), and what they are.
use Rattle.std.specs.Prelude.{ℕ, ◌+◌, ◌-◌, ◌^◌, min, Bool, true, false, ◌==◌, nat_lt, not, ◌&&◌, ◌||◌, List, [], ◌∷◌, length, take, drop, take_while, codes, slice_index, slice_index_or, Option, Some, None, option_map, option_and_then, if◌then◌else◌}
use Rattle.std.specs.List.{list_all, prefix_len}
use Rattle.std.specs.Option.{option_or}
use Rattle.adj_tree.specs.declared.stmt.Mark.{Mark}
use Rattle.adj_tree.specs.declared.stmt.Mark.TheVariants.{Plain, Count, From}
use Rattle.def_text.specs.Char.{capital_c, small_c, line_feed, carriage_return, blank, star, nought, is_between, is_capital, is_digit, is_name_char, is_blank, are_blank, digits_of, upper, folded, number_of}
use Rattle.def_text.specs.Token.{begins_with}
use Rattle.def_text.specs.declared.stated.Advice.{Advice}

-- lines, the first with one more character in front
abbrev pub in_front : ℕ → List (List ℕ) → List (List ℕ)
in_front c [] = (c ∷ []) ∷ []
in_front c (l ∷ ls) = (c ∷ l) ∷ ls

-- a text is cut at line feeds, and nothing after a last one is no line
unfoldable pub cut_lines : List ℕ → List (List ℕ)
cut_lines [] = []
cut_lines (c ∷ cs) = if c == line_feed then [] ∷ cut_lines cs else in_front c (cut_lines cs)

-- one carriage return at the end of a line is dropped
abbrev pub without_cr : List ℕ → List ℕ
without_cr l = if nat_lt 0 (length l) && slice_index l (length l - 1) == carriage_return then take (length l - 1) l else l

-- the number of the line after line n, which stands still at its greatest
abbrev pub next_number : ℕ → ℕ
next_number n = min (n + 1) (2 ^ 32 - 1)

-- the line `$DATA`, blanks behind it aside, ends the text
abbrev pub is_data : List ℕ → Bool
is_data l = begins_with l (codes "$DATA") && are_blank (drop 5 l)

-- a column of a line counts from 1, and is blank where it is missing
abbrev pub column : List ℕ → ℕ → ℕ
column l k = slice_index_or l (k - 1) blank

-- whether a line begins with a lexeme of capitals, in either case
unfoldable pub begins_in_either_case : List ℕ → List ℕ → Bool
begins_in_either_case [] l = true
begins_in_either_case (w ∷ ws) [] = false
begins_in_either_case (w ∷ ws) (c ∷ cs) = upper c == w && begins_in_either_case ws cs

abbrev pub is_directive : List ℕ → Bool
is_directive l = begins_in_either_case (codes "C$AD") l

abbrev pub is_comment : List ℕ → Bool
is_comment l = column l 1 == capital_c || column l 1 == small_c || column l 1 == star || are_blank (take 72 l)

abbrev pub is_continuation : List ℕ → Bool
is_continuation l = are_blank (take 5 l) && not (column l 6 == blank) && not (column l 6 == nought)

-- columns 7 to 72
abbrev pub body : List ℕ → List ℕ
body l = take 66 (drop 6 l)

-- the label that columns hold: 0 where they are blank, else that of their digits, which aren't all zero;
-- none where something else stands there
abbrev pub label : List ℕ → Option ℕ
label cs =
    if are_blank cs then Some 0
    else (if list_all (λ c. is_blank c || is_digit c) cs && nat_lt 0 (number_of (digits_of cs)) then Some (number_of (digits_of cs))
    else None)

-- the label in columns 1 to 5
abbrev pub label_of : List ℕ → Option ℕ
label_of l = label (take 5 l)

-- what stands behind blanks, of which there is one at least
abbrev pub behind_blanks : List ℕ → Option (List ℕ)
behind_blanks cs = if nat_lt 0 (prefix_len is_blank cs) then Some (drop (prefix_len is_blank cs) cs) else None

-- what stands behind the name of a directive that gives snapshots
abbrev pub behind_name : List ℕ → Option (List ℕ)
behind_name cs = if begins_in_either_case (codes "BINOMIAL-CKP") cs then Some (drop 12 cs) else None

-- a number of snapshots from 1 to 64, in one or two digits with blanks alone behind them
abbrev pub snapshots_of : List ℕ → Option ℕ
snapshots_of cs =
    if is_between 1 2 (prefix_len is_digit cs) && are_blank (drop (prefix_len is_digit cs) cs) && is_between 1 64 (number_of (take_while is_digit cs)) then Some (number_of (take_while is_digit cs))
    else None

-- what a name goes on with, in either case
abbrev pub is_name_part : ℕ → Bool
is_name_part c = is_name_char (upper c)

-- whether a name stands here, in either case, with blanks alone behind it
abbrev pub is_named : List ℕ → Bool
is_named [] = false
is_named (c ∷ cs) = is_capital (upper c) && are_blank (drop (prefix_len is_name_part (c ∷ cs)) (c ∷ cs))

-- that name, in capitals
abbrev pub name_of : List ℕ → Option (List ℕ)
name_of cs = if is_named cs then Some (folded (take_while is_name_part cs)) else None

-- a number of snapshots, or the name of a variable that says it
abbrev pub mark_in : List ℕ → Option Mark
mark_in cs = option_or (option_map Count (snapshots_of cs)) (option_map From (name_of cs))

-- what stands in a directive behind `C$AD`, blanks, `BINOMIAL-CKP`, blanks
abbrev pub operand : List ℕ → Option (List ℕ)
operand l = option_and_then behind_blanks (option_and_then behind_name (behind_blanks (drop 4 l)))

-- the snapshots that it gives: its operand is a number or a name
abbrev pub operand_of : List ℕ → Option Mark
operand_of l = option_and_then mark_in (operand l)

-- whether `NOCHECKPOINT` stands here, in either case, with blanks alone behind it
abbrev pub is_no_checkpoint : Option (List ℕ) → Bool
is_no_checkpoint None = false
is_no_checkpoint (Some cs) = begins_in_either_case (codes "NOCHECKPOINT") cs && are_blank (drop 12 cs)

-- whether a directive splits a call: it is `C$AD`, blanks, `NOCHECKPOINT`, and blanks to its end
abbrev pub splits_call : List ℕ → Bool
splits_call l = is_no_checkpoint (behind_blanks (drop 4 l))

-- what is said of a statement by snapshots, by a split call, and by no directive
abbrev pub by_mark : Mark → Advice
by_mark m = record { mark = m; split = false }

abbrev pub by_split : Advice
by_split = record { mark = Plain; split = true }

abbrev pub no_advice : Advice
no_advice = by_mark Plain

-- what a directive says, where it has one of the two forms
abbrev pub advice_of : List ℕ → Option Advice
advice_of l = if splits_call l then Some by_split else option_map by_mark (operand_of l)
