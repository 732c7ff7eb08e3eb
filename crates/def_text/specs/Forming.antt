-- Forming: which statements the lines of a text form, and which tokens their characters. (ANSI X3.9-1978, 3.2 to 3.4)
use Rattle.std.specs.Prelude.{◌≡◌, ℕ, ◌+◌, ◌-◌, true, ◌==◌, ◌||◌, List, [], ◌∷◌, ◌++◌, length, drop, Option, Some, None, if◌then◌else◌}
use Rattle.std.specs.List.{list_all}
use Rattle.def_text.specs.Char.{blank, nought, is_between, is_allowed, folded}
use Rattle.def_text.specs.Line.{cut_lines, without_cr, next_number, is_data, column, is_directive, is_comment, is_continuation, body, label_of, no_advice, advice_of}
use Rattle.def_text.specs.Lined.{Lines}
use Rattle.def_text.specs.Class.{class_of, is_matched}
use Rattle.def_text.specs.Lexeme.{part}
use Rattle.def_text.specs.Stated.{keyword_len, ending_len, call_place}
use Rattle.def_text.specs.Token.{token_here, token_at}
use Rattle.def_text.specs.declared.stated.Advice.{Advice}
use Rattle.def_text.specs.declared.stated.Stated.{Stated}
use Rattle.def_text.specs.declared.token.Token.{Token}
use Rattle.def_text.specs.declared.token.TokenKind.{TokenKind}

-- a line with its number
pub record Line : Type 0 where
  pub number : ℕ
  pub characters : List ℕ

-- the lines from line n on, up to `$DATA` or the end
abbrev pub numbered : ℕ → List (List ℕ) → List Line
numbered n [] = []
numbered n (l ∷ ls) = if is_data (without_cr l) then [] else record { number = n; characters = without_cr l } ∷ numbered (next_number n) ls

-- the lines of a text
abbrev pub lines_in : List ℕ → List Line
lines_in bytes = numbered 1 (cut_lines bytes)

-- what a line is: the first that fits
pub data Sort : Type 0 where
  directive : Sort
  comment : Sort
  continuation : Sort
  initial : Sort

abbrev pub sort : List ℕ → Sort
sort l = if is_directive l then directive else (if is_comment l then comment else (if is_continuation l then continuation else initial))

-- an initial line, with its label
pub record IsInitial (l : Line) (label : ℕ) : Type 0 where
  pub is : sort l.characters ≡ initial
  pub labelled : label_of l.characters ≡ Some label
  pub sixth : (column l.characters 6 == blank || column l.characters 6 == nought) ≡ true
  pub allowed : list_all is_allowed (body l.characters) ≡ true

-- a continuation line
pub record IsContinued (l : Line) : Type 0 where
  pub is : sort l.characters ≡ continuation
  pub sixth : is_between 33 126 (column l.characters 6) ≡ true
  pub allowed : list_all is_allowed (body l.characters) ≡ true

-- GoesOn lines text rest: comments and continuation lines with these characters, and then the rest
pub data GoesOn : List Line → List ℕ → List Line → Type 0 where
  ends : {rest : List Line} → GoesOn rest [] rest
  past_comment : {l : Line} {ls rest : List Line} {text : List ℕ} → sort l.characters ≡ comment → GoesOn ls text rest → GoesOn (l ∷ ls) text rest
  continued : {l : Line} {ls rest : List Line} {text : List ℕ} → IsContinued l → GoesOn ls text rest → GoesOn (l ∷ ls) (folded (body l.characters) ++ text) rest

-- LeadsTo lines l rest: comments, and then the line l and the rest
pub data LeadsTo : List Line → Line → List Line → Type 0 where
  here : {l : Line} {rest : List Line} → LeadsTo (l ∷ rest) l rest
  past_comment : {c l : Line} {ls rest : List Line} → sort c.characters ≡ comment → LeadsTo ls l rest → LeadsTo (c ∷ ls) l rest

-- the statement that begins at a line, with what the directive before it says and that directive's line
abbrev pub statement_at : Advice → ℕ → Line → ℕ → List ℕ → Lines
statement_at advice mark_line l label text = record { line = l.number; label = label; advice = advice; mark_line = mark_line; text = folded (body l.characters) ++ text; room = None }

-- FormStatements lines statements: an initial line and its continuation lines are a statement, comments are nothing, and a directive stands before a statement
pub data FormStatements : List Line → List Lines → Type 0 where
  none : FormStatements [] []
  past_comment : {l : Line} {ls : List Line} {ss : List Lines} → sort l.characters ≡ comment → FormStatements ls ss → FormStatements (l ∷ ls) ss
  statement : {l : Line} {ls rest : List Line} {label : ℕ} {text : List ℕ} {ss : List Lines} → IsInitial l label → GoesOn ls text rest → FormStatements rest ss → FormStatements (l ∷ ls) (statement_at no_advice 0 l label text ∷ ss)
  marked : {d l : Line} {ls after rest : List Line} {advice : Advice} {label : ℕ} {text : List ℕ} {ss : List Lines} →
      sort d.characters ≡ directive → advice_of d.characters ≡ Some advice → LeadsTo ls l after → IsInitial l label → GoesOn after text rest → FormStatements rest ss →
      FormStatements (d ∷ ls) (statement_at advice d.number l label text ∷ ss)

-- ---- tokens

-- AreCut call here text tokens: the tokens of a text that begins at a place, each the longest that fits; the lexeme CALL is one at its place
pub data AreCut (call : Option ℕ) : ℕ → List ℕ → List Token → Type 0 where
  none : {here : ℕ} → AreCut call here [] []
  one : {here c : ℕ} {cs : List ℕ} {t : TokenKind × ℕ} {ts : List Token} → token_here call here (c ∷ cs) ≡ Some t → AreCut call (here + t.1) (drop t.1 (c ∷ cs)) ts → AreCut call here (c ∷ cs) (token_at here t ∷ ts)

-- the statement that lines are: its class, and the tokens of what stands after its keyword, without its final THEN
pub record IsStated (s : Lines) (x : Stated) : Type 0 where
  pub class : class_of s.text ≡ Some x.kind
  pub matched : is_matched 0 s.text ≡ true
  pub cut : AreCut (call_place x.kind s.text) (keyword_len x.kind s.text) (part s.text (keyword_len x.kind s.text) (length s.text - ending_len x.kind)) x.tokens
  pub is : x ≡ record { line = s.line; label = s.label; mark = s.advice.mark; split = s.advice.split; mark_line = s.mark_line; kind = x.kind; text = s.text; tokens = x.tokens }

pub data AreStated : List Lines → List Stated → Type 0 where
  none : AreStated [] []
  more : {s : Lines} {ss : List Lines} {x : Stated} {xs : List Stated} → IsStated s x → AreStated ss xs → AreStated (s ∷ ss) (x ∷ xs)

-- the lines of a text form these statements
pub record FormsText (bytes : List ℕ) (stated : List Stated) : Type 0 where
  pub lines : List Lines
  pub form : FormStatements (lines_in bytes) lines
  pub are : AreStated lines stated
