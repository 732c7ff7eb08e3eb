-- What holds of faults and of names.
use Rattle.std.specs.Prelude.{◌≡◌, ◌<◌, ◌^◌, ◌⊎◌, ℕ, List, [], ◌∷◌, map, false, Some, None}
use Rattle.std.specs.Fmt.{decimal}
use Rattle.adj_tree.specs.Code.{Procedure}
use Rattle.adj_tree.specs.Lines.{unlined}
use Rattle.adj_tree.specs.declared.fault.Refusal.{Refusal}
pub use Rattle.def_meaning.specs.Apart.{AreApart}
use Rattle.def_meaning.specs.Apart.{has_name}
use Rattle.def_names.specs.Fresh.{digits, candidate, fresh}
use Rattle.def_names.specs.Variables.{Name, places, variables}
use Rattle.def_names.specs.Fault.{Rules, is_before, first_of}
use Rattle.def_names.specs.UnitFaults.{unit_faults}
use Rattle.def_names.specs.NameFaults.{name_faults}
use Rattle.def_names.specs.CallFaults.{call_faults}
use Rattle.def_names.specs.ChainFaults.{chain_faults}
use Rattle.def_names.specs.WriteFaults.{write_faults}
use Rattle.def_names.specs.Check.{IsSound}

-- a member of a list
abbrev pub IsIn : {X : Type 0} → X → List X → Type 0
IsIn x [] = ⊥
IsIn x (y ∷ ys) = (x ≡ y) ⊎ IsIn x ys

-- ---- the first fault

-- the first of some faults is one of them, and none of them is before it
abbrev pub FirstIsFirst : Type 0
FirstIsFirst = (rs : List Refusal) (r : Refusal) → first_of rs ≡ Some r → IsIn r rs × ((s : Refusal) → IsIn s rs → is_before s r ≡ false)

-- there is a first wherever there is a fault
abbrev pub NoFirst : Type 0
NoFirst = (rs : List Refusal) → first_of rs ≡ None → rs ≡ []

-- it doesn't depend on how faults are listed
abbrev pub FirstOfSame : Type 0
FirstOfSame = (rs ss : List Refusal) → ((r : Refusal) → IsIn r rs → IsIn r ss) → ((r : Refusal) → IsIn r ss → IsIn r rs) → first_of rs ≡ first_of ss

-- a program without a first fault has no fault in any pass
pub record HasNone (m : Rules) (ps : List Procedure) : Type 0 where
  pub units : unit_faults ps ≡ []
  pub names : name_faults m ps ≡ []
  pub calls : call_faults ps ≡ []
  pub chains : chain_faults m ps ≡ []
  pub writes : write_faults ps ≡ []

abbrev pub SoundHasNone : Type 0
SoundHasNone = (m : Rules) (ps : List Procedure) → IsSound m ps → HasNone m ps

-- of programs that are the same up to line numbers both have a fault, or neither
abbrev pub SoundByLines : Type 0
SoundByLines = (m : Rules) (ps qs : List Procedure) → unlined ps ≡ unlined qs → IsSound m ps → IsSound m qs

-- ---- variables

-- the variables of a unit are apart
abbrev pub VariablesApart : Type 0
VariablesApart = (u : Procedure) → AreApart (variables u)

-- and just the names that stand in it
abbrev pub VariablesStand : Type 0
VariablesStand = (u : Procedure) (x : Name) → has_name x (variables u) ≡ has_name x (map (λ p. p.1) (places u))

-- ---- fresh names

-- a fresh name isn't taken, is the name wanted where that is free, and else that with a number behind it
abbrev pub FreshIsFree : Type 0
FreshIsFree = (b : Name) (taken : List Name) → has_name (fresh b taken) taken ≡ false

abbrev pub FreshAsWanted : Type 0
FreshAsWanted = (b : Name) (taken : List Name) → has_name b taken ≡ false → fresh b taken ≡ b

abbrev pub FreshNumbered : Type 0
FreshNumbered = (b : Name) (taken : List Name) → (i : ℕ) × (fresh b taken ≡ candidate b i)

-- the digits in it are std's, which writes at most 64
abbrev pub DigitsAreDecimal : Type 0
DigitsAreDecimal = (n : ℕ) → n < 10 ^ 64 → digits n ≡ decimal n
