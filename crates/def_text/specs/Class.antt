-- Classes of statements, which their characters alone decide.
use Rattle.std.specs.Prelude.{ℕ, ◌+◌, ◌-◌, Bool, false, ◌==◌, nat_lt, nat_eq, ◌&&◌, ◌||◌, List, [], ◌∷◌, length, drop, take_while, codes, bytes_eq, Option, Some, None, option_map, option_and_then, unwrap_or, if◌then◌else◌}
use Rattle.std.specs.List.{prefix_len, ends_with}
use Rattle.std.specs.Option.{option_or}
use Rattle.def_text.specs.Char.{left, right, star, comma, equals, nought, is_capital, is_digit, is_name_char}
use Rattle.def_text.specs.Token.{begins_with}
use Rattle.def_text.specs.declared.stated.Kind.{Kind}
use Rattle.def_text.specs.declared.stated.Kind.TheVariants.{Do, BlockIf, LogicalIf, Assign, Continue, Return, End, EndIf, EndDo, Else, ImplicitNone, ElseIf, DoWhile, Subroutine, Integer, Call, Common}

-- how many parentheses are open behind a character, of n before it: never fewer than none
abbrev pub depth_behind : ℕ → ℕ → ℕ
depth_behind n c = if c == left then n + 1 else (if c == right then n - 1 else n)

-- whether a character stands outside parentheses, of which n are open at first
unfoldable pub has_open : ℕ → ℕ → List ℕ → Bool
has_open x n [] = false
has_open x n (c ∷ cs) = (c == x && n == 0) || has_open x (depth_behind n c) cs

-- whether each parenthesis has its other one, where n are open at first
unfoldable pub is_matched : ℕ → List ℕ → Bool
is_matched n [] = n == 0
is_matched n (c ∷ cs) = if c == right && n == 0 then false else is_matched (depth_behind n c) cs

-- how many characters stand up to the parenthesis that closes the last of n open ones, itself included
unfoldable pub group_len : ℕ → List ℕ → Option ℕ
group_len n [] = None
group_len n (c ∷ cs) = if c == right && n == 1 then Some 1 else option_map (λ k. k + 1) (group_len (depth_behind n c) cs)

abbrev pub begins_with_letter : List ℕ → Bool
begins_with_letter [] = false
begins_with_letter (c ∷ cs) = is_capital c

-- what stands behind the digits of a label, and behind a comma after these
abbrev pub behind_label : List ℕ → List ℕ
behind_label cs =
    if nat_lt 0 (prefix_len is_digit cs) && begins_with (drop (prefix_len is_digit cs) cs) (comma ∷ []) then drop (prefix_len is_digit cs + 1) cs
    else drop (prefix_len is_digit cs) cs

-- a name, `=`, and an open comma behind it
abbrev pub is_control : List ℕ → Bool
is_control cs = begins_with_letter cs && begins_with (drop (prefix_len is_name_char cs) cs) (equals ∷ []) && has_open comma 0 (drop (prefix_len is_name_char cs + 1) cs)

abbrev pub is_do : List ℕ → Bool
is_do text = begins_with text (codes "DO") && is_control (behind_label (drop 2 text))

-- the place behind the parenthesis that closes the condition of an IF, where there is one
abbrev pub condition_end : List ℕ → Option ℕ
condition_end text = option_map (λ n. n + 2) (group_len 0 (drop 2 text))

-- what stands behind the condition of an IF
abbrev pub inner : List ℕ → List ℕ
inner text = drop (unwrap_or (condition_end text) (length text)) text

abbrev pub is_if : List ℕ → Bool
is_if text = begins_with text (codes "IF(") && begins_with_letter (inner text)

-- the class of an IF
abbrev pub if_kind : List ℕ → Kind
if_kind text = if bytes_eq (inner text) (codes "THEN") then BlockIf else LogicalIf

-- the statements that are one lexeme
abbrev pub whole : List ℕ → Option Kind
whole text =
    if bytes_eq text (codes "CONTINUE") then Some Continue
    else (if bytes_eq text (codes "RETURN") then Some Return
    else (if bytes_eq text (codes "END") then Some End
    else (if bytes_eq text (codes "ENDIF") then Some EndIf
    else (if bytes_eq text (codes "ENDDO") then Some EndDo
    else (if bytes_eq text (codes "ELSE") then Some Else
    else (if bytes_eq text (codes "IMPLICITNONE") then Some ImplicitNone
    else None))))))

-- the digits of INTEGER*8; none where no star stands, or no digit behind it
abbrev pub width_of : List ℕ → List ℕ
width_of text = if begins_with (drop 7 text) (star ∷ []) then take_while is_digit (drop 8 text) else []

-- leading zeros, then an 8
abbrev pub is_eight : List ℕ → Bool
is_eight ds = bytes_eq (drop (prefix_len (λ d. d == nought) ds) ds) (codes "8")

-- whether a text that begins with INTEGER declares integers of 8 bytes, or of no width that is said
abbrev pub is_integer : List ℕ → Bool
is_integer text = length (width_of text) == 0 || is_eight (width_of text)

-- whether the parenthesis that opens these characters closes at their end
abbrev pub is_group : List ℕ → Bool
is_group cs = unwrap_or (group_len 0 cs) 0 == length cs

-- the statements that begin with their lexeme
abbrev pub begun : List ℕ → Option Kind
begun text =
    if begins_with text (codes "ELSEIF(") && ends_with nat_eq text (codes ")THEN") then Some ElseIf
    else (if begins_with text (codes "DOWHILE(") && is_group (drop 7 text) then Some DoWhile
    else (if begins_with text (codes "SUBROUTINE") then Some Subroutine
    else (if begins_with text (codes "INTEGER") then (if is_integer text then Some Integer else None)
    else (if begins_with text (codes "CALL") then Some Call
    else (if begins_with text (codes "COMMON/") then Some Common
    else None)))))

-- the class of a text: the first that fits, or none where the profile hasn't one
unfoldable pub kind_of : List ℕ → Option Kind
kind_of text =
    if is_do text then Some Do
    else (if is_if text then Some (if_kind text)
    else (if has_open equals 0 text then Some Assign
    else option_or (whole text) (begun text)))

-- the class of a statement: what stands behind the condition of a logical IF has one too
abbrev pub with_inner : List ℕ → Kind → Option Kind
with_inner text LogicalIf = option_map (λ _. LogicalIf) (kind_of (inner text))
with_inner text kind = Some kind

abbrev pub class_of : List ℕ → Option Kind
class_of text = option_and_then (with_inner text) (kind_of text)
