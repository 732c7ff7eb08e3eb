-- Characters, as their ASCII codes.
use Rattle.std.specs.Prelude.{ℕ, ◌-◌, Bool, ◌==◌, nat_le, not, ◌&&◌, ◌||◌, List, map, filter, fold, ◌+◌, ◌*◌}
use Rattle.std.specs.Char.{to_ascii_uppercase}
use Rattle.std.specs.List.{list_all}

abbrev pub line_feed : ℕ
line_feed = 10

abbrev pub carriage_return : ℕ
carriage_return = 13

abbrev pub blank : ℕ
blank = 32

abbrev pub left : ℕ
left = 40

abbrev pub right : ℕ
right = 41

abbrev pub star : ℕ
star = 42

abbrev pub plus : ℕ
plus = 43

abbrev pub comma : ℕ
comma = 44

abbrev pub minus : ℕ
minus = 45

abbrev pub dot : ℕ
dot = 46

abbrev pub slash : ℕ
slash = 47

abbrev pub nought : ℕ
nought = 48

abbrev pub equals : ℕ
equals = 61

abbrev pub capital_c : ℕ
capital_c = 67

abbrev pub underscore : ℕ
underscore = 95

abbrev pub small_c : ℕ
small_c = 99

abbrev pub is_between : ℕ → ℕ → ℕ → Bool
is_between low high c = nat_le low c && nat_le c high

abbrev pub is_capital : ℕ → Bool
is_capital c = is_between 65 90 c

abbrev pub is_small : ℕ → Bool
is_small c = is_between 97 122 c

abbrev pub is_digit : ℕ → Bool
is_digit c = is_between 48 57 c

-- what a name goes on with
abbrev pub is_name_char : ℕ → Bool
is_name_char c = is_capital c || is_digit c || c == underscore

-- a tab is no blank
abbrev pub is_blank : ℕ → Bool
is_blank c = c == blank

abbrev pub are_blank : List ℕ → Bool
are_blank cs = list_all is_blank cs

-- what columns 7 to 72 of a statement hold: letters, digits, blanks and = + - * / ( ) , . _
abbrev pub is_allowed : ℕ → Bool
is_allowed c = is_capital c || is_small c || is_digit c || c == blank || c == equals || is_between 40 47 c || c == underscore

-- a small letter as its capital
abbrev pub upper : ℕ → ℕ
upper c = to_ascii_uppercase c

abbrev pub without_blanks : List ℕ → List ℕ
without_blanks cs = filter (λ c. not (is_blank c)) cs

-- without blanks, in capitals
abbrev pub folded : List ℕ → List ℕ
folded cs = map upper (without_blanks cs)

abbrev pub digits_of : List ℕ → List ℕ
digits_of cs = filter is_digit cs

-- the number that digits write
abbrev pub number_of : List ℕ → ℕ
number_of ds = fold (λ n d. n * 10 + (d - nought)) 0 ds
