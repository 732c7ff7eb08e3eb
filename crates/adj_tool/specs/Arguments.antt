-- Arguments: what the program is asked to do.
use Rattle.std.specs.Prelude.{ℕ, ◌-◌, ◌^◌, ◌==◌, nat_le, pos, List, [], ◌∷◌, length, map, Bool, true, not, ◌&&◌, if◌then◌else◌, Option, Some, None, is_some, option_map, option_and_then, codes}
use Rattle.std.specs.List.{list_all}
use Rattle.std.specs.Str.{bytes_eq}
use Rattle.clap.specs.Kinds.{Kinds}
use Rattle.clap.specs.Walk.{Row, Rule, Text, all_of, first_of}
use Rattle.clap.specs.Simple.{App, matches_of, new_app, new_rule, on_top, with_rule}
use Rattle.clap.specs.Faults.{fault_of}
use Rattle.def_text.specs.Char.{upper, number_of}
use Rattle.adj_data.specs.Items.{is_name, are_digits}
use Rattle.def_meaning.specs.Trap.{number_in}
use Rattle.adj_tool_answer.specs.Endings.{Asked}

-- ---- the command line

-- an option that takes one value
abbrev pub option_rule : Text → Rule
option_rule name = record (new_rule name) { long = Some name }

-- the command's own name, which is required
abbrev pub command_rule : Rule
command_rule = record (new_rule (codes "command")) { required = true }

-- the arguments behind it that are no options
abbrev pub numbers_rule : Rule
numbers_rule = record (new_rule (codes "numbers")) { range = Some (record { start_inclusive = 1; end_inclusive = 2 ^ 64 - 1 }) }

-- a command line without arguments, whose arguments begin behind the program's own name
abbrev pub bare_program : App
bare_program = on_top (λ s. record s { no_binary_name = true }) (new_app (codes "adjtool"))

-- what the arguments may be: a command, numbers, and options with a value each
abbrev pub program : App
program =
    with_rule (with_rule (with_rule (with_rule (with_rule (with_rule (with_rule bare_program
    command_rule) numbers_rule) (option_rule (codes "head"))) (option_rule (codes "vars"))) (option_rule (codes "outvars"))) (option_rule (codes "budget"))) (option_rule (codes "tape"))

-- ---- values

-- a name argument: a letter and then letters, digits and `_`, in either case, at most 63 characters
abbrev pub is_name_argument : Text → Bool
is_name_argument w = is_name w && nat_le (length w) 63

-- the name of a name argument, in upper case
abbrev pub name_of : Text → Option Text
name_of w = if is_name_argument w then Some (map upper w) else None

abbrev pub in_front : ℕ → List Text → List Text
in_front c [] = (c ∷ []) ∷ []
in_front c (w ∷ ws) = (c ∷ w) ∷ ws

-- the pieces of an argument between its commas
unfoldable pub pieces : Text → List Text
pieces [] = [] ∷ []
pieces (c ∷ cs) = if c == 44 then [] ∷ pieces cs else in_front c (pieces cs)

-- the pieces of what stands behind a comma, or none
abbrev pub pieces_behind : Option Text → List Text
pieces_behind None = []
pieces_behind (Some w) = pieces w

-- the names of a list argument, in upper case: name arguments separated by single commas
abbrev pub names_of : Text → Option (List Text)
names_of w = if list_all is_name_argument (pieces w) then Some (map (map upper) (pieces w)) else None

-- the number of a number argument, 1 to 20 digits, where it lies from `least` to `most`
abbrev pub number_argument : ℕ → ℕ → Text → Option ℕ
number_argument least most w =
    if are_digits w && nat_le (length w) 20 then number_in least most (pos (number_of w)) else None

-- ---- commands

-- a head with its independents and its dependents
pub record Request : Type 0 where
  pub head : List ℕ
  pub vars : List (List ℕ)
  pub outvars : List (List ℕ)

-- the commands
pub data Command : Type 0 where
  Adjoint : Request → Command
  Tangent : Request → Command
  Plan : Request → Command
  Run : Asked → Command
  -- a run, and the independents and the dependents of its head
  Check : Asked → List (List ℕ) → List (List ℕ) → Command
  -- steps and snapshots
  Schedule : ℕ → ℕ → Command
  -- a run whose derivative is asked for, and the independents and the dependents of its head
  Jacobian : Asked → List (List ℕ) → List (List ℕ) → Command
  -- the number of a sample
  Sample : ℕ → Command

-- the options of a command are absent
abbrev pub lacks : List Text → List Row → Bool
lacks ids rows = list_all (λ id. not (is_some (first_of id rows))) ids

abbrev pub with_request : Option Text → Option (List Text) → Option (List Text) → Option Request
with_request (Some head) (Some vars) (Some outvars) = Some (record { head = head; vars = vars; outvars = outvars })
with_request _ _ _ = None

-- --head NAME --vars LIST --outvars LIST
abbrev pub request_asked : List Row → Option Request
request_asked rows =
    if lacks (codes "numbers" ∷ codes "budget" ∷ codes "tape" ∷ []) rows
    then with_request (option_and_then name_of (first_of (codes "head") rows)) (option_and_then names_of (first_of (codes "vars") rows)) (option_and_then names_of (first_of (codes "outvars") rows))
    else None

-- the number of an option, or another where the option is absent
abbrev pub number_or : ℕ → ℕ → ℕ → Option Text → Option ℕ
number_or other least most None = Some other
number_or other least most (Some w) = number_argument least most w

abbrev pub with_limits : Option Text → Option ℕ → Option ℕ → Option Asked
with_limits (Some head) (Some budget) (Some room) = Some (record { head = head; budget = budget; room = room })
with_limits _ _ _ = None

-- --head NAME, with at most 100000000 statements or --budget N, and a tape for 16777216 arguments or --tape N
abbrev pub limits_asked : List Row → Option Asked
limits_asked rows = with_limits (option_and_then name_of (first_of (codes "head") rows)) (number_or 100000000 1 9223372036854775807 (first_of (codes "budget") rows)) (number_or 16777216 0 134217728 (first_of (codes "tape") rows))

-- run with these
abbrev pub run_asked : List Row → Option Command
run_asked rows = if lacks (codes "numbers" ∷ codes "vars" ∷ codes "outvars" ∷ []) rows then option_map Run (limits_asked rows) else None

abbrev pub with_lists : (Asked → List (List ℕ) → List (List ℕ) → Command) → Option Asked → Option (List Text) → Option (List Text) → Option Command
with_lists command (Some r) (Some vars) (Some outvars) = Some (command r vars outvars)
with_lists _ _ _ _ = None

-- check with these, --vars LIST and --outvars LIST
abbrev pub check_asked : List Row → Option Command
check_asked rows =
    if lacks (codes "numbers" ∷ []) rows
    then with_lists Check (limits_asked rows) (option_and_then names_of (first_of (codes "vars") rows)) (option_and_then names_of (first_of (codes "outvars") rows))
    else None

-- jacobian with --head NAME, --vars LIST, --outvars LIST, and at most 100000000 statements for each run or --budget N
abbrev pub jacobian_asked : List Row → Option Command
jacobian_asked rows =
    if lacks (codes "numbers" ∷ codes "tape" ∷ []) rows
    then with_lists Jacobian (limits_asked rows) (option_and_then names_of (first_of (codes "vars") rows)) (option_and_then names_of (first_of (codes "outvars") rows))
    else None

-- steps and snapshots
abbrev pub two_numbers : Option ℕ → Option ℕ → Option Command
two_numbers (Some l) (Some s) = Some (Schedule l s)
two_numbers _ _ = None

abbrev pub numbers_asked : List Text → Option Command
numbers_asked (l ∷ s ∷ []) = two_numbers (number_argument 0 100000 l) (number_argument 1 64 s)
numbers_asked _ = None

-- the options of a command that takes numbers alone are absent
abbrev pub lacks_options : List Row → Bool
lacks_options rows = lacks (codes "head" ∷ codes "vars" ∷ codes "outvars" ∷ codes "budget" ∷ codes "tape" ∷ []) rows

-- schedule STEPS SNAPSHOTS, at most 100000 steps and from 1 to 64 snapshots
abbrev pub schedule_asked : List Row → Option Command
schedule_asked rows =
    if lacks_options rows
    then option_and_then numbers_asked (all_of (codes "numbers") rows)
    else None

abbrev pub number_asked : List Text → Option Command
number_asked (n ∷ []) = option_map Sample (number_argument 0 18446744073709551615 n)
number_asked _ = None

-- sample NUMBER, at most 2^64 - 1
abbrev pub sample_asked : List Row → Option Command
sample_asked rows = if lacks_options rows then option_and_then number_asked (all_of (codes "numbers") rows) else None

-- the place where commands are listed
abbrev pub command_asked : Text → List Row → Option Command
command_asked name rows =
    if bytes_eq name (codes "adjoint") then option_map Adjoint (request_asked rows)
    else (if bytes_eq name (codes "tangent") then option_map Tangent (request_asked rows)
    else (if bytes_eq name (codes "plan") then option_map Plan (request_asked rows)
    else (if bytes_eq name (codes "run") then run_asked rows
    else (if bytes_eq name (codes "check") then check_asked rows
    else (if bytes_eq name (codes "jacobian") then jacobian_asked rows
    else (if bytes_eq name (codes "schedule") then schedule_asked rows
    else (if bytes_eq name (codes "sample") then sample_asked rows
    else None)))))))

abbrev pub asked : List Row → Option Command
asked rows = option_and_then (λ name. command_asked name rows) (first_of (codes "command") rows)

-- what is asked for by a parse with these faults and rows
abbrev pub taken_by : Kinds → List Row → Option Command
taken_by [] rows = asked rows
taken_by (fault ∷ faults) rows = None

-- what the arguments ask for, by the definition of the command line and the checks on values
unfoldable pub taken : List Text → Option Command
taken arguments = taken_by (fault_of program arguments) (matches_of program arguments)
