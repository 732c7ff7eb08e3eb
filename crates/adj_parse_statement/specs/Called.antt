-- Called: what the actuals of the runtime's calls are.
use Rattle.std.specs.Prelude.{ℕ, List, codes, Option, Some, None, option_map, option_and_then, if◌then◌else◌}
use Rattle.std.specs.Option.{option_or}
use Rattle.adj_tree.specs.Code.{Var, Term, Terms, var, elem, none, more, name_eq, Runtime, push_word, pop_word, push_array, pop_array, pop_control, zero_array, Act}
use Rattle.def_text.specs.Statement.{as_place, as_name, as_value, as_beginning, as_count, as_action, as_nothing, called_as}
use Rattle.adj_parse_statement.specs.declared.called.RuntimeName.{RuntimeName}
use Rattle.adj_parse_statement.specs.declared.called.RuntimeName.TheVariants.{PushWord, PopWord, PushArray, PopArray, PushControl, PopControl, Zero, Begin, Actions, Action, End}

-- a name, and a place
abbrev pub name_of : Term → Option Var
name_of (var x) = Some x
name_of e = None

-- three names
abbrev pub names_of : Term → Term → Term → Option (Var × Var × Var)
names_of a b c = option_and_then (λ x. option_and_then (λ y. option_map (λ z. (x, y, z)) (name_of c)) (name_of b)) (name_of a)

abbrev pub place_of : Term → Option (Var × Terms)
place_of (var x) = Some (x, none)
place_of (elem x subscripts) = Some (x, subscripts)
place_of e = None

-- what the only actual is
abbrev pub only_of : {A : Type 0} → (Term → Option A) → Terms → Option A
only_of form (more e none) = form e
only_of form actuals = None

-- the runtime's call that has a name: of lexemes and arrays, of control lexemes and zeroing, of schedules
unfoldable pub lexeme_name : List ℕ → Option RuntimeName
lexeme_name x =
    if name_eq x (codes "PUSHINTEGER8") then Some PushWord
    else (if name_eq x (codes "POPINTEGER8") then Some PopWord
    else (if name_eq x (codes "PUSHINTEGER8ARRAY") then Some PushArray
    else (if name_eq x (codes "POPINTEGER8ARRAY") then Some PopArray
    else None)))

unfoldable pub control_name : List ℕ → Option RuntimeName
control_name x =
    if name_eq x (codes "PUSHCONTROL1B") then Some PushControl
    else (if name_eq x (codes "POPCONTROL1B") then Some PopControl
    else (if name_eq x (codes "ADZERO8") then Some Zero
    else None))

unfoldable pub schedule_name : List ℕ → Option RuntimeName
schedule_name x =
    if name_eq x (codes "ADBEG") then Some Begin
    else (if name_eq x (codes "ADACTN") then Some Actions
    else (if name_eq x (codes "ADACT") then Some Action
    else (if name_eq x (codes "ADEND") then Some End
    else None)))

abbrev pub runtime_name : List ℕ → Option RuntimeName
runtime_name x = option_or (option_or (lexeme_name x) (control_name x)) (schedule_name x)

-- that call with these actuals, where they have its form
unfoldable pub with_actuals : RuntimeName → Terms → Option Runtime
with_actuals PushWord ts = as_place push_word ts
with_actuals PopWord ts = as_place pop_word ts
with_actuals PushArray ts = as_name push_array ts
with_actuals PopArray ts = as_name pop_array ts
with_actuals PushControl ts = as_value ts
with_actuals PopControl ts = as_name pop_control ts
with_actuals Zero ts = as_name zero_array ts
with_actuals Begin ts = as_beginning ts
with_actuals Actions ts = as_count ts
with_actuals Action ts = as_action ts
with_actuals End ts = as_nothing ts

-- what a CALL of a name does
unfoldable pub call_of : List ℕ → Terms → Act
call_of x ts = called_as x ts (option_and_then (λ n. with_actuals n ts) (runtime_name x))
