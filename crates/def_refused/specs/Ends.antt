-- Ends: the open blocks are those that can end, by the grammar of units.
use Rattle.std.specs.Prelude.{◌≡◌, Bool, true, false, List, []}
use Rattle.def_text.specs.Form.{Statement}
use Rattle.def_text.specs.declared.stated.Kind.TheVariants.{EndIf, EndDo, Else}
use Rattle.def_refused.specs.Opened.{Open, first_part, opened, is_innermost, is_to_end, is_part}
use Rattle.def_refused.specs.Following.{Continues, CanFollow}

abbrev pub Exactly : Type 0 → Bool → Type 0
Exactly A b = (A → b ≡ true) × (b ≡ true → A)

abbrev pub is_first : Open → Bool
is_first first_part = true
is_first b = false

-- behind statements with a continuation, END DO, END IF and ELSE can follow exactly where the innermost open block is theirs
abbrev pub BlocksEnd : Type 0
BlocksEnd = (ss : List Statement) → Continues ss →
    Exactly (CanFollow EndDo ss) (is_innermost is_to_end (opened [] ss)) × Exactly (CanFollow EndIf ss) (is_innermost is_part (opened [] ss)) × Exactly (CanFollow Else ss) (is_innermost is_first (opened [] ss))
