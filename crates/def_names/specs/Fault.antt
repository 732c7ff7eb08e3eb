-- Faults of a program, and the first of them. (docs/REFUSALS.md, "Order")
use Rattle.std.specs.Prelude.{ℕ, ◌==◌, nat_lt, List, [], ◌∷◌, ◌++◌, Bool, true, false, ◌&&◌, ◌||◌, Option, Some, None, if◌then◌else◌}
use Rattle.std.specs.Option.{option_or}
use Rattle.adj_tree.specs.declared.fault.Refusal.{Refusal}
use Rattle.def_meaning.specs.Apart.{has_name}
use Rattle.def_names.specs.Statements.{At}
use Rattle.def_names.specs.Variables.{Name}

-- a text as a user writes it, or as it is run
pub record Rules : Type 0 where
  -- whether the calls of the runtime may stand in it
  pub takes_runtime : Bool
  -- the most variables of a unit
  pub variables : Option ℕ
  -- the most units in a chain of calls
  pub chain : ℕ

abbrev pub source_rules : Rules
source_rules = record { takes_runtime = false; variables = Some 200; chain = 40 }

abbrev pub run_rules : Rules
run_rules = record { takes_runtime = true; variables = None; chain = 80 }

-- ---- faults

-- a fault with its code at a line
abbrev pub fault : ℕ → ℕ → Refusal
fault code line = record { code = code; line = line; number = 0 }

-- a limit that is passed at a line
abbrev pub passed : ℕ → ℕ → Refusal
passed limit line = record { code = 21; line = line; number = limit }

abbrev pub faults_if : Bool → Refusal → List Refusal
faults_if b r = if b then r ∷ [] else []

-- a fault at each name that is among those before it
abbrev pub again : ℕ → List Name → List (At Name) → List Refusal
again code before [] = []
again code before (p ∷ ps) = faults_if (has_name p.1 before) (fault code p.0) ++ again code (p.1 ∷ before) ps

-- ---- the first

-- an earlier line, at one line the lower code, and of two limits the lower
abbrev pub is_before : Refusal → Refusal → Bool
is_before r s = nat_lt r.line s.line || ((r.line == s.line) && (nat_lt r.code s.code || ((r.code == s.code) && nat_lt r.number s.number)))

abbrev pub earlier : Refusal → Option Refusal → Option Refusal
earlier r None = Some r
earlier r (Some s) = if is_before s r then Some s else Some r

-- that before which none of them is
abbrev pub first_of : List Refusal → Option Refusal
first_of [] = None
first_of (r ∷ rs) = earlier r (first_of rs)

-- the first of two
abbrev pub sooner : Option Refusal → Option Refusal → Option Refusal
sooner None later = later
sooner (Some r) later = earlier r later

-- the first of the first pass that has any
abbrev pub first_in_passes : List (List Refusal) → Option Refusal
first_in_passes [] = None
first_in_passes (rs ∷ later) = option_or (first_of rs) (first_in_passes later)
