-- Trees: the program that statements are, or their first fault.
use Rattle.std.specs.Prelude.{◌≡◌, ℕ, ◌-◌, ◌==◌, nat_le, Bool, true, false, not, ◌&&◌, ◌||◌, List, [], ◌∷◌, length, Option, Some, None, is_none, unwrap_or, Result, Ok, Err, ◌⊎◌, if◌then◌else◌}
use Rattle.adj_tree.specs.Code.{Mark, unmarked}
use Rattle.adj_tree.specs.View.{mark_of}
use Rattle.adj_tree.specs.declared.fault.Refusal.{Refusal}
use Rattle.adj_tree.specs.Common.{Shared}
use Rattle.adj_parse_expression.specs.declared.flaw.Flaw.{Flaw}
use Rattle.adj_parse_expression.specs.declared.flaw.Flaw.TheVariants.{Large, Deep}
use Rattle.def_text.specs.Form.{Form}
use Rattle.def_text.specs.Limits.{limits_of}
use Rattle.def_text.specs.Refused.{◌>>=◌, refused, limited}
use Rattle.def_text.specs.Stated.{statements_of}
use Rattle.def_text.specs.Lexeme.{lexemes_of}
use Rattle.def_text.specs.declared.mode.Mode.{Mode}
use Rattle.def_text.specs.declared.mode.Mode.TheVariants.{Source, Run}
use Rattle.def_text.specs.declared.stated.Kind.{Kind}
use Rattle.def_text.specs.declared.stated.Kind.TheVariants.{Do, Call}
use Rattle.def_text.specs.declared.stated.Stated.{Stated}
use Rattle.adj_parse.specs.declared.bounds.Bounds.{Bounds}
use Rattle.adj_parse.specs.Order.{breaks_loop, is_end, is_heading, opens_block}
use Rattle.adj_parse_statement.specs.Said.{said}
use Rattle.adj_parse.specs.Unit.{Current, Units, followed, open_blocks, is_misplaced}

-- these are the statements of a text
abbrev pub IsText : Mode → List Stated → Type 0
IsText mode stated = (bytes : List ℕ) × (statements_of (limits_of mode) bytes ≡ Ok stated)

-- what bounds a text: units, statements, the depth of an expression or a condition, and the open blocks round a statement
abbrev pub bounds_of : Mode → Bounds
bounds_of Source = record { units = Some 2000; statements = 200000; depth = 100; nesting = 30 }
bounds_of Run = record { units = None; statements = 4000000; depth = 120; nesting = 45 }

-- the units so far, and how many more statements the text may have
pub record State : Type 0 where
  pub units : Units
  pub room : ℕ

-- before the first statement
abbrev pub start : Mode → State
start mode = record { units = record { done = []; current = None }; room = (bounds_of mode).statements }

abbrev pub is_do : Kind → Bool
is_do Do = true
is_do kind = false

abbrev pub is_marked : Mark → Bool
is_marked unmarked = false
is_marked mark = true

abbrev pub is_call : Kind → Bool
is_call Call = true
is_call kind = false

-- a directive before another statement than one of its kind: a DO where it gives snapshots, and a DO WHILE is none; a CALL where it splits one, and a logical IF is none
abbrev pub has_stray_mark : Stated → Bool
has_stray_mark t = (is_marked (mark_of t.mark) && not (is_do t.kind)) || (t.split && not (is_call t.kind))

-- whether a statement has a literal above the greatest word, or too deep an expression
abbrev pub is_large : {A : Type 0} → Option (Result A Flaw) → Bool
is_large (Some (Err Large)) = true
is_large found = false

abbrev pub is_deep : {A : Type 0} → Option (Result A Flaw) → Bool
is_deep (Some (Err Deep)) = true
is_deep found = false

abbrev pub is_full : Option ℕ → ℕ → Bool
is_full None n = false
is_full (Some limit) n = nat_le limit n

-- what a statement says; where there is no other fault it may still have a bad exponent
abbrev pub with_form : {A : Type 0} → Option (Result A Flaw) → ℕ → Result A Refusal
with_form (Some (Ok f)) line = Ok f
with_form found line = refused 25 line

-- what the next statement says, or the first limit that it passes
abbrev pub limited_by : {A : Type 0} → Bounds → State → Stated → Option (Result A Flaw) → Result A Refusal
limited_by bounds s t found =
    if is_heading t.kind && is_full bounds.units (length s.units.done) then limited (unwrap_or bounds.units 0) t.line
    else (if s.room == 0 then limited bounds.statements t.line
    else (if is_deep found then limited bounds.depth t.line
    else (if opens_block t.kind && nat_le bounds.nesting (length (open_blocks s.units.current)) then limited bounds.nesting t.line
    else with_form found t.line)))

-- whether a statement stands wrongly: it can't follow those before it, or the text ends with it and it isn't END. `left` statements come behind it
abbrev pub is_astray : Stated → ℕ → Option Current → Bool
is_astray t left current = is_misplaced t.kind current || ((left == 0) && not (is_end t.kind))

-- what the next statement says, behind which some are left, or its first fault
abbrev pub checked : {A : Type 0} → Bounds → State → Stated → ℕ → Option (Result A Flaw) → Result A Refusal
checked bounds s t left found =
    if has_stray_mark t then refused 20 t.mark_line
    else (if is_none found || is_astray t left s.units.current then refused 4 t.line
    else (if is_large found then refused 5 t.line
    else (if breaks_loop t.kind t.label (open_blocks s.units.current) then refused 10 t.line
    else limited_by bounds s t found)))

-- behind the next statement, which says this
abbrev pub behind : State → Stated → Form → State
behind s t f = record { units = followed s.units.done s.units.current t.line t.label f; room = s.room - 1 }

-- the next statement, behind which some are left, is read or refused
unfoldable pub follow : Mode → State → Stated → ℕ → Result State Refusal
follow mode s t left = checked (bounds_of mode) s t left (said (bounds_of mode).depth (mark_of t.mark) t.kind (lexemes_of t.text t.tokens)) >>= λ f. Ok (behind s t f)

-- the units so far, and those of the statements that are left
unfoldable pub trees_from : Mode → State → List Stated → Result (List Shared) Refusal
trees_from mode s [] = Ok s.units.done
trees_from mode s (t ∷ ts) = follow mode s t (length ts) >>= λ next. trees_from mode next ts

-- a refusal of a literal or for a limit
abbrev pub IsBeyond : {A : Type 0} → Result A Refusal → Type 0
IsBeyond r = (e : Refusal) × (r ≡ Err e) × ((e.code ≡ 5) ⊎ (e.code ≡ 21))

-- the units of a text with their COMMON statements, or the first fault of its statements
abbrev pub trees_of : Mode → List Stated → Result (List Shared) Refusal
trees_of mode stated = trees_from mode (start mode) stated

-- the program of a text in a mode as it is read, with its blocks, or the first fault of its lines, its statements or its trees
abbrev pub shared_program_of : Mode → List ℕ → Result (List Shared) Refusal
shared_program_of mode bytes = statements_of (limits_of mode) bytes >>= trees_of mode
