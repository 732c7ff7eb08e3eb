-- Opened: which blocks are open behind some statements, and when a DO with a label doesn't end on its CONTINUE.
use Rattle.std.specs.Prelude.{ℕ, Bool, true, false, not, ◌==◌, ◌&&◌, List, [], ◌∷◌, Option, Some, None, if◌then◌else◌}
use Rattle.std.specs.List.{list_any}
use Rattle.def_text.specs.Form.{Form, opens_do, opens_while, end_do, go_on, opens_if, otherwise, otherwise_if, end_if, Statement, at}
use Rattle.def_text.specs.declared.stated.Kind.{Kind}
use Rattle.def_text.specs.declared.stated.Kind.TheVariants.{Continue, End, EndIf, EndDo, Else, ElseIf}

-- an open block
pub data Open : Type 0 where
  -- the body of a DO with a label, and that of one without or of a DO WHILE
  to_label : ℕ → Open
  to_end : Open
  -- the statements of an IF before its ELSE, and those behind
  first_part : Open
  other_part : Open
  -- what stands behind the first part of an IF with an ELSE IF, which is an IF of its own
  chained : Open

abbrev pub body_of : Option ℕ → Open
body_of None = to_end
body_of (Some l) = to_label l

-- the blocks round the innermost
abbrev pub outer : List Open → List Open
outer [] = []
outer (b ∷ bs) = bs

-- the innermost blocks end, as long as they are such
abbrev pub closed : (Open → Bool) → List Open → List Open
closed is_such [] = []
closed is_such (b ∷ bs) = if is_such b then closed is_such bs else b ∷ bs

-- the first part of an IF ends, and another begins
abbrev pub turned : Open → List Open → List Open
turned part (first_part ∷ bs) = part ∷ bs
turned part bs = bs

abbrev pub is_chained : Open → Bool
is_chained chained = true
is_chained b = false

-- the body of a DO with this label, where 0 is none
abbrev pub ends_at : ℕ → Open → Bool
ends_at l (to_label k) = not (l == 0) && k == l
ends_at l b = false

-- the open blocks behind a statement with this label, the innermost first
abbrev pub behind : ℕ → Form → List Open → List Open
behind l (opens_do label r mark) bs = body_of label ∷ bs
behind l (opens_while c) bs = to_end ∷ bs
behind l end_do bs = outer bs
-- a CONTINUE ends each innermost DO of its label, one directly inside the other
behind l go_on bs = closed (ends_at l) bs
behind l (opens_if c) bs = first_part ∷ bs
behind l otherwise bs = turned other_part bs
behind l (otherwise_if c) bs = first_part ∷ turned chained bs
-- END IF ends the IF, and each whose ELSE IF it is
behind l end_if bs = closed is_chained (outer bs)
behind l f bs = bs

-- the open blocks behind statements in order
abbrev pub opened : List Open → List Statement → List Open
opened bs [] = bs
opened bs (at n l f ∷ ss) = opened (behind l f bs) ss

abbrev pub is_innermost : (Open → Bool) → List Open → Bool
is_innermost is_such [] = false
is_innermost is_such (b ∷ bs) = is_such b

abbrev pub has_label : Open → Bool
has_label (to_label l) = true
has_label b = false

abbrev pub is_to_end : Open → Bool
is_to_end to_end = true
is_to_end b = false

-- a part of an IF that END IF ends
abbrev pub is_part : Open → Bool
is_part first_part = true
is_part other_part = true
is_part b = false

-- whether the innermost open IF has no ELSE yet
abbrev pub awaits_else : List Open → Bool
awaits_else [] = false
awaits_else (first_part ∷ bs) = true
awaits_else (other_part ∷ bs) = false
awaits_else (b ∷ bs) = awaits_else bs

-- whether a statement of the class closes a block that is open, if only further out; the unit is one, and so is each part of an IF
abbrev pub closes : Kind → List Open → Bool
closes End bs = true
closes EndDo bs = list_any is_to_end bs
closes EndIf bs = list_any is_part bs
closes Else bs = awaits_else bs
closes ElseIf bs = awaits_else bs
closes kind bs = false

-- whether it does while a DO with a label is the innermost open block
abbrev pub leaves_loop : Kind → List Open → Bool
leaves_loop kind bs = is_innermost has_label bs && closes kind bs

abbrev pub is_continue : Kind → Bool
is_continue Continue = true
is_continue kind = false

-- whether a statement has the label of an open DO, and is no CONTINUE or that DO isn't the innermost open block
abbrev pub misses_loop : Kind → ℕ → List Open → Bool
misses_loop kind l bs = list_any (ends_at l) bs && not (is_continue kind && is_innermost (ends_at l) bs)
