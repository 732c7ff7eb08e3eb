-- LineFaults: what is wrong with a line of a text.
use Rattle.std.specs.Prelude.{◌≡◌, ℕ, ◌+◌, ◌≤◌, Bool, true, false, ◌==◌, ◌||◌, List, [], ◌∷◌, Option, Some, None, option_map}
use Rattle.std.specs.List.{list_all}
use Rattle.adj_tree.specs.declared.fault.Refusal.{Refusal}
use Rattle.def_text.specs.Char.{blank, nought, is_between, is_allowed}
use Rattle.def_text.specs.Limits.{Limits}
use Rattle.def_text.specs.Line.{column, body, label_of, advice_of}
use Rattle.def_text.specs.Forming.{Line, Sort, directive, comment, continuation, initial, sort}
use Rattle.def_refused.specs.First.{code_at, limit_at}

-- whether the next of these lines that is no comment is there and is an initial line
abbrev pub goes_before : Sort → Bool → Bool
goes_before comment rest = rest
goes_before initial rest = true
goes_before s rest = false

abbrev pub lead_in : List Line → Bool
lead_in [] = false
lead_in (l ∷ ls) = goes_before (sort l.characters) (lead_in ls)

-- how many continuation lines the last statement in these lines has, the nearest first; none where there is no statement
abbrev pub one_longer : Sort → Option ℕ → Option ℕ
one_longer initial found = Some 0
one_longer continuation found = option_map (λ k. k + 1) found
one_longer s found = found

abbrev pub continuations : List Line → Option ℕ
continuations [] = None
continuations (l ∷ ls) = one_longer (sort l.characters) (continuations ls)

-- whether a line begins or goes on with a statement
abbrev pub is_part : Sort → Bool
is_part initial = true
is_part continuation = true
is_part s = false

-- a line within limits, with those before it, the nearest first, and those behind it
pub data LineFault (limits : Limits) (before : List Line) (l : Line) (after : List Line) : Refusal → Type 0 where
  -- columns 1 to 5 of an initial line hold something else than blanks or a label
  unlabelled : sort l.characters ≡ initial → label_of l.characters ≡ None → LineFault limits before l after (code_at 1 l.number)
  -- its column 6 is neither blank nor 0
  shifted : sort l.characters ≡ initial → (column l.characters 6 == blank || column l.characters 6 == nought) ≡ false → LineFault limits before l after (code_at 1 l.number)
  -- a continuation has no statement before it
  alone : sort l.characters ≡ continuation → continuations before ≡ None → LineFault limits before l after (code_at 1 l.number)
  -- column 6 of a continuation isn't a byte from 33 to 126
  unmarked : sort l.characters ≡ continuation → is_between 33 126 (column l.characters 6) ≡ false → LineFault limits before l after (code_at 2 l.number)
  -- columns 7 to 72 of an initial line or a continuation hold a byte that no statement has
  foreign : is_part (sort l.characters) ≡ true → list_all is_allowed (body l.characters) ≡ false → LineFault limits before l after (code_at 2 l.number)
  -- a directive has neither of the two forms
  garbled : sort l.characters ≡ directive → advice_of l.characters ≡ None → LineFault limits before l after (code_at 20 l.number)
  -- the next line that is no comment isn't there or is no initial line
  astray : sort l.characters ≡ directive → lead_in after ≡ false → LineFault limits before l after (code_at 20 l.number)
  -- its statement has all the continuation lines already that it may have
  too_long : (most so_far : ℕ) → sort l.characters ≡ continuation → limits.continuations ≡ Some most → continuations before ≡ Some so_far → most ≤ so_far → LineFault limits before l after (limit_at most l.number)
