-- The statements of a text with their classes and tokens, or the first fault of a text.
use Rattle.std.specs.Prelude.{ℕ, ◌+◌, ◌-◌, Bool, true, false, ◌==◌, nat_lt, ◌&&◌, ◌||◌, List, [], ◌∷◌, length, Option, Some, None, Result, Ok, if◌then◌else◌}
use Rattle.std.specs.List.{list_any}
use Rattle.adj_tree.specs.declared.fault.Refusal.{Refusal}
use Rattle.adj_tree.specs.declared.stmt.Mark.{Mark}
use Rattle.adj_tree.specs.declared.stmt.Mark.TheVariants.{From}
use Rattle.def_text.specs.Class.{kind_of, class_of, is_matched, condition_end, inner, width_of}
use Rattle.def_text.specs.Limits.{Limits}
use Rattle.def_text.specs.Lined.{Lines, lines_of}
use Rattle.def_text.specs.Refused.{◌>>=◌, refused}
use Rattle.def_text.specs.Token.{tokens_from, AreJoined}
use Rattle.def_text.specs.Lexeme.{part}
use Rattle.def_text.specs.declared.stated.Kind.{Kind}
use Rattle.def_text.specs.declared.stated.Kind.TheVariants.{Do, BlockIf, LogicalIf, Assign, Continue, Return, End, EndIf, EndDo, Else, ImplicitNone, ElseIf, DoWhile, Subroutine, Integer, Call, Common}
use Rattle.def_text.specs.declared.stated.Stated.{Stated}
use Rattle.def_text.specs.declared.token.Token.{Token}
use Rattle.def_text.specs.declared.token.TokenKind.{TokenKind}
use Rattle.def_text.specs.declared.token.TokenKind.TheVariants.{Name}

-- how many characters the keyword has
abbrev pub keyword_len : Kind → List ℕ → ℕ
keyword_len Do text = 2
keyword_len BlockIf text = 2
keyword_len LogicalIf text = 2
keyword_len Assign text = 0
keyword_len Continue text = 8
keyword_len Return text = 6
keyword_len End text = 3
keyword_len EndIf text = 5
keyword_len EndDo text = 5
keyword_len Else text = 4
keyword_len ImplicitNone text = 12
keyword_len ElseIf text = 6
keyword_len DoWhile text = 7
keyword_len Subroutine text = 10
keyword_len Integer text = if length (width_of text) == 0 then 7 else 8 + length (width_of text)
keyword_len Call text = 4
keyword_len Common text = 6

-- how many characters its final THEN has
abbrev pub ending_len : Kind → ℕ
ending_len BlockIf = 4
ending_len ElseIf = 4
ending_len kind = 0

-- the place of the lexeme CALL behind the condition of a logical IF
abbrev pub place_for : Option Kind → Option ℕ → Option ℕ
place_for (Some Call) place = place
place_for kind place = None

abbrev pub call_place : Kind → List ℕ → Option ℕ
call_place LogicalIf text = place_for (kind_of (inner text)) (condition_end text)
call_place kind text = None

-- the tokens of a statement's text
abbrev pub tokens_of : Kind → List ℕ → Option (List Token)
tokens_of kind text = tokens_from (call_place kind text) 0 (keyword_len kind text) (part text (keyword_len kind text) (length text - ending_len kind))

abbrev pub is_name : TokenKind → Bool
is_name Name = true
is_name kind = false

-- whether a token is a name above the limit
abbrev pub is_too_long : Option ℕ → Token → Bool
is_too_long None t = false
is_too_long (Some limit) t = is_name t.kind && nat_lt limit (t.end - t.start)

-- whether the directive before a DO has a name above the limit
abbrev pub is_marked_long : Option ℕ → Kind → Mark → Bool
is_marked_long None kind mark = false
is_marked_long (Some limit) Do (From x) = nat_lt limit (length x)
is_marked_long (Some limit) kind mark = false

-- a statement of a class, with its tokens
abbrev pub with_tokens : Limits → Lines → Kind → Option (List Token) → Result Stated Refusal
with_tokens limits s kind None = refused 4 s.line
with_tokens limits s kind (Some tokens) =
    if list_any (is_too_long limits.name) tokens || is_marked_long limits.name kind s.advice.mark then refused 6 s.line
    else Ok (record { line = s.line; label = s.label; mark = s.advice.mark; split = s.advice.split; mark_line = s.mark_line; kind = kind; text = s.text; tokens = tokens })

-- a statement with its class
abbrev pub with_class : Limits → Lines → Option Kind → Result Stated Refusal
with_class limits s None = refused 3 s.line
with_class limits s (Some kind) = if is_matched 0 s.text then with_tokens limits s kind (tokens_of kind s.text) else refused 4 s.line

-- a statement, or its first fault
unfoldable pub stated : Limits → Lines → Result Stated Refusal
stated limits s = if length s.text == 0 then refused 4 s.line else with_class limits s (class_of s.text)

-- statements in order, or their first fault
unfoldable pub all_stated : Limits → List Lines → Result (List Stated) Refusal
all_stated limits [] = Ok []
all_stated limits (s ∷ ss) = stated limits s >>= λ x. all_stated limits ss >>= λ xs. Ok (x ∷ xs)

-- the statements of a text before `$DATA`, or its first fault: of all its lines first, then of its statements
abbrev pub statements_of : Limits → List ℕ → Result (List Stated) Refusal
statements_of limits bytes = lines_of limits bytes >>= all_stated limits

-- the tokens cover the statement behind its keyword, without its final THEN
abbrev pub IsCovered : Stated → Type 0
IsCovered s = AreJoined (keyword_len s.kind s.text) (length s.text - ending_len s.kind) s.tokens
