-- Statements as their lines give them, or the first fault of the lines.
use Rattle.std.specs.Prelude.{ℕ, ◌-◌, Bool, true, ◌==◌, nat_lt, not, ◌&&◌, ◌||◌, List, [], ◌∷◌, ◌++◌, Option, Some, None, option_to_list, option_map, unwrap_or, Result, Ok, if◌then◌else◌}
use Rattle.std.specs.List.{list_all}
use Rattle.adj_tree.specs.declared.fault.Refusal.{Refusal}
use Rattle.def_text.specs.Char.{blank, nought, is_between, is_allowed, folded}
use Rattle.def_text.specs.Line.{cut_lines, without_cr, next_number, is_data, column, is_directive, is_comment, is_continuation, body, label_of, no_advice, advice_of}
use Rattle.def_text.specs.Limits.{Limits}
use Rattle.def_text.specs.Refused.{◌>>=◌, refused, limited}
use Rattle.def_text.specs.declared.stated.Advice.{Advice}

-- a statement so far: the line of its initial line, its label, what the directive before it says and that directive's line,
-- its characters, and how many continuation lines it may still have, where that is limited
pub record Lines : Type 0 where
  pub line : ℕ
  pub label : ℕ
  pub advice : Advice
  pub mark_line : ℕ
  pub text : List ℕ
  pub room : Option ℕ

-- a directive that waits for its statement
pub record Directive : Type 0 where
  pub advice : Advice
  pub line : ℕ

-- the statements before, the one whose lines may go on, and the directive before the next
pub record Pass : Type 0 where
  pub done : List Lines
  pub current : Option Lines
  pub pending : Option Directive

abbrev pub start : Pass
start = record { done = []; current = None; pending = None }

-- the statements, of which the last is whole
abbrev pub flushed : Pass → List Lines
flushed p = p.done ++ option_to_list p.current

-- a directive with what it says, where it is well formed
abbrev pub with_directive : Pass → ℕ → Option Advice → Result Pass Refusal
with_directive p n None = refused 20 n
with_directive p n (Some advice) = Ok (record { done = flushed p; current = None; pending = Some (record { advice = advice; line = n }) })

-- the directive before a statement: no advice and line 0 where there is none
abbrev pub directive_before : Option Directive → Directive
directive_before None = record { advice = no_advice; line = 0 }
directive_before (Some d) = d

-- an initial line with its label, where columns 1 to 5 are well formed
abbrev pub with_initial : Limits → Pass → ℕ → List ℕ → Option ℕ → Result Pass Refusal
with_initial limits p n l None = refused 1 n
with_initial limits p n l (Some label) =
    if not (column l 6 == blank || column l 6 == nought) then refused 1 n
    else (if not (list_all is_allowed (body l)) then refused 2 n
    else Ok (record { done = flushed p; current = Some (record { line = n; label = label; advice = (directive_before p.pending).advice; mark_line = (directive_before p.pending).line; text = folded (body l); room = limits.continuations }); pending = None }))

-- whether one line more has room, and the room behind it
abbrev pub has_room : Option ℕ → Bool
has_room None = true
has_room (Some count) = nat_lt 0 count

abbrev pub one_less : Option ℕ → Option ℕ
one_less room = option_map (λ count. count - 1) room

-- a continuation line of the current statement
abbrev pub with_continuation : Limits → Pass → ℕ → List ℕ → Option Lines → Result Pass Refusal
with_continuation limits p n l None = refused 1 n
with_continuation limits p n l (Some s) =
    if not (is_between 33 126 (column l 6) && list_all is_allowed (body l)) then refused 2 n
    else (if not (has_room s.room) then limited (unwrap_or limits.continuations 0) n
    else Ok (record { done = p.done; current = Some (record { line = s.line; label = s.label; advice = s.advice; mark_line = s.mark_line; text = s.text ++ folded (body l); room = one_less s.room }); pending = None }))

-- behind a directive the next line that is no comment is an initial line
abbrev pub behind_directive : Option Directive → Result Pass Refusal → Result Pass Refusal
behind_directive None next = next
behind_directive (Some d) next = refused 20 d.line

-- one line more, which is the first that fits of directive, comment, continuation and initial line
unfoldable pub with_line : Limits → Pass → ℕ → List ℕ → Result Pass Refusal
with_line limits p n l =
    if is_directive l then behind_directive p.pending (with_directive p n (advice_of l))
    else (if is_comment l then Ok p
    else (if is_continuation l then behind_directive p.pending (with_continuation limits p n l p.current)
    else with_initial limits p n l (label_of l)))

-- the end of the text
abbrev pub ended : Pass → Option Directive → Result (List Lines) Refusal
ended p None = Ok (flushed p)
ended p (Some d) = refused 20 d.line

-- the lines from line n on, up to `$DATA` or the end
unfoldable pub pass_over : Limits → Pass → ℕ → List (List ℕ) → Result (List Lines) Refusal
pass_over limits p n [] = ended p p.pending
pass_over limits p n (l ∷ ls) = if is_data (without_cr l) then ended p p.pending else (with_line limits p n (without_cr l) >>= λ q. pass_over limits q (next_number n) ls)

-- the statements of a text as its lines give them, or the first fault of the lines
abbrev pub lines_of : Limits → List ℕ → Result (List Lines) Refusal
lines_of limits bytes = pass_over limits start 1 (cut_lines bytes)
