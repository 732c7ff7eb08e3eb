-- Order: which statements may stand where in a unit.
use Rattle.std.specs.Prelude.{ℕ, Bool, true, false, not, ◌==◌, ◌&&◌, ◌||◌, List, [], ◌∷◌, length, Some, None}
use Rattle.std.specs.List.{list_any}
use Rattle.def_text.specs.declared.stated.Kind.{Kind}
use Rattle.def_text.specs.declared.stated.Kind.TheVariants.{Do, BlockIf, LogicalIf, Continue, Return, End, EndIf, EndDo, Else, ImplicitNone, ElseIf, DoWhile, Subroutine, Integer, Common}
use Rattle.adj_parse.specs.declared.phase.Phase.{Phase}
use Rattle.adj_parse.specs.declared.phase.Phase.TheVariants.{Heading, Declaring, Leaving}
use Rattle.adj_parse.specs.Blocks.{Part, of_loop, of_while, of_if, of_else, Block, is_labelled}

-- whether a unit has SUBROUTINE alone; no executable statement; a RETURN
abbrev pub is_bare : Phase → Bool
is_bare Heading = true
is_bare phase = false

abbrev pub is_early : Phase → Bool
is_early Heading = true
is_early Declaring = true
is_early phase = false

abbrev pub is_left : Phase → Bool
is_left Leaving = true
is_left phase = false

-- the statements of a unit in order: SUBROUTINE, at most one IMPLICIT NONE, INTEGER and COMMON, executable ones, at most one RETURN, END
abbrev pub may_follow : Kind → Phase → Bool
may_follow Subroutine phase = false
may_follow ImplicitNone phase = is_bare phase
may_follow Integer phase = is_early phase
may_follow Common phase = is_early phase
may_follow End phase = true
may_follow kind phase = not (is_left phase)

-- the body of a loop with a label, and of one without; a DO WHILE has none
abbrev pub has_label : Part → Bool
has_label (of_loop (Some l) r mark) = true
has_label part = false

abbrev pub has_no_label : Part → Bool
has_no_label (of_loop None r mark) = true
has_no_label (of_while c) = true
has_no_label part = false

-- an IF that has no ELSE yet, and one that has
abbrev pub is_first : Part → Bool
is_first (of_if c) = true
is_first part = false

abbrev pub is_second : Part → Bool
is_second (of_else c first) = true
is_second part = false

abbrev pub is_if : Part → Bool
is_if part = is_first part || is_second part

-- whether the innermost open block is such, and whether some open block is
abbrev pub innermost_is : (Part → Bool) → List Block → Bool
innermost_is is_such [] = false
innermost_is is_such (b ∷ bs) = is_such b.part

abbrev pub some_is : (Part → Bool) → List Block → Bool
some_is is_such bs = list_any (λ (b : Block). is_such b.part) bs

-- whether the innermost open IF has no ELSE yet
abbrev pub awaits_else : List Block → Bool
awaits_else [] = false
awaits_else (b ∷ bs) = is_first b.part || (not (is_second b.part) && awaits_else bs)

-- whether the innermost open block is the one that a statement of the class ends or turns; RETURN and END stand in no block
abbrev pub suits : Kind → List Block → Bool
suits Return bs = length bs == 0
suits End bs = length bs == 0
suits EndDo bs = innermost_is has_no_label bs
suits EndIf bs = innermost_is is_if bs
suits Else bs = innermost_is is_first bs
suits ElseIf bs = innermost_is is_first bs
suits kind bs = true

-- whether a statement of the class ends or turns a block that is open further out; the unit is one
abbrev pub reaches_out : Kind → List Block → Bool
reaches_out End bs = true
reaches_out EndDo bs = some_is has_no_label bs
reaches_out EndIf bs = some_is is_if bs
reaches_out Else bs = awaits_else bs
reaches_out ElseIf bs = awaits_else bs
reaches_out kind bs = false

-- whether a statement closes an outer block while a loop with a label is the innermost
abbrev pub leaves_loop : Kind → List Block → Bool
leaves_loop kind bs = innermost_is has_label bs && reaches_out kind bs

abbrev pub is_continue : Kind → Bool
is_continue Continue = true
is_continue kind = false

-- whether a labelled loop doesn't end on its CONTINUE: an outer block closes first, or its label stands at another statement or not in the innermost block
abbrev pub breaks_loop : Kind → ℕ → List Block → Bool
breaks_loop kind label bs = leaves_loop kind bs || (some_is (is_labelled label) bs && not (is_continue kind && innermost_is (is_labelled label) bs))

abbrev pub is_heading : Kind → Bool
is_heading Subroutine = true
is_heading kind = false

abbrev pub is_end : Kind → Bool
is_end End = true
is_end kind = false

-- whether a statement opens a block, if only for one statement
abbrev pub opens_block : Kind → Bool
opens_block Do = true
opens_block DoWhile = true
opens_block BlockIf = true
opens_block LogicalIf = true
opens_block ElseIf = true
opens_block kind = false
