-- Items of data: what stands between blanks, line by line. (docs/DATA.md, "Lines")
use Rattle.std.specs.Prelude.{ℕ, ◌-◌, ◌==◌, ℤ, pos, neg_ℤ, Bool, true, false, not, ◌&&◌, ◌||◌, List, [], ◌∷◌, ◌++◌, map, filter, length, take, drop, if◌then◌else◌}
use Rattle.std.specs.List.{list_all}
use Rattle.def_text.specs.Char.{minus, is_capital, is_digit, is_blank, upper, number_of}
use Rattle.def_text.specs.Line.{is_name_part, in_front, without_cr, next_number}

-- one item with its line; `leads` where it is the first of that line, and `begins` where it is what begins an entry
pub record Item : Type 0 where
  pub line : ℕ
  pub leads : Bool
  pub begins : Bool
  pub text : List ℕ

-- a line is cut at each blank
abbrev pub pieces : List ℕ → List (List ℕ)
pieces [] = [] ∷ []
pieces (c ∷ cs) = if is_blank c then [] ∷ pieces cs else in_front c (pieces cs)

abbrev pub has_some : List ℕ → Bool
has_some w = not (length w == 0)

-- the items of a line: what isn't empty of that
abbrev pub texts_in : List ℕ → List (List ℕ)
texts_in l = filter has_some (pieces l)

-- ---- names

-- a letter, and then letters, digits and `_`, in either case
abbrev pub is_name : List ℕ → Bool
is_name [] = false
is_name (c ∷ cs) = is_capital (upper c) && list_all is_name_part cs

-- `.D` or `.B`, in either case
abbrev pub is_mark : List ℕ → Bool
is_mark (p ∷ c ∷ []) = (p == 46) && ((upper c == 68) || (upper c == 66))
is_mark _ = false

-- a name with a mark behind it
abbrev pub is_marked : List ℕ → Bool
is_marked w = is_name (take (length w - 2) w) && is_mark (drop (length w - 2) w)

-- what begins an entry: a name, and where marks are taken one with a mark, too
abbrev pub is_title : Bool → List ℕ → Bool
is_title marks w = is_name w || (marks && is_marked w)

-- in capitals
abbrev pub name_of : List ℕ → List ℕ
name_of w = map upper w

-- ---- lines

-- items as those of a line, of which the first may lead
abbrev pub items_with : Bool → ℕ → Bool → List (List ℕ) → List Item
items_with marks line leads [] = []
items_with marks line leads (w ∷ ws) = record { line = line; leads = leads; begins = is_title marks w; text = w } ∷ items_with marks line false ws

-- the items of some lines, behind the line of a number
abbrev pub items_of : Bool → ℕ → List (List ℕ) → List Item
items_of marks n [] = []
items_of marks n (l ∷ ls) = items_with marks (next_number n) true (texts_in (without_cr l)) ++ items_of marks (next_number n) ls

-- ---- numbers

abbrev pub are_digits : List ℕ → Bool
are_digits [] = false
are_digits (c ∷ cs) = is_digit c && list_all is_digit cs

-- digits, with a `-` before them or none
abbrev pub is_number : List ℕ → Bool
is_number [] = false
is_number (c ∷ cs) = if c == minus then are_digits cs else are_digits (c ∷ cs)

-- the number of such an item
abbrev pub number_of_item : List ℕ → ℤ
number_of_item [] = pos 0
number_of_item (c ∷ cs) = if c == minus then neg_ℤ (pos (number_of cs)) else pos (number_of (c ∷ cs))
