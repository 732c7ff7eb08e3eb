-- First: the first fault among those of some places in order.
use Rattle.std.specs.Prelude.{ℕ, ◌≤◌, ◌==◌, List, [], ◌∷◌, Result, Ok, Err, ◌⊎◌, if◌then◌else◌}
use Rattle.adj_tree.specs.declared.fault.Refusal.{Refusal}

-- a refusal with a code at a line, and one for a limit
abbrev pub code_at : ℕ → ℕ → Refusal
code_at code line = record { code = code; line = line; number = 0 }

abbrev pub limit_at : ℕ → ℕ → Refusal
limit_at limit line = record { code = 21; line = line; number = limit }

-- at one place the lowest code comes first, but that of a directive, which stands before its statement, comes before all
abbrev pub rank : Refusal → ℕ
rank r = if r.code == 20 then 0 else r.code

-- a fault before which no other of the same place comes
pub record IsLeast (Fault : Refusal → Type 0) (r : Refusal) : Type 0 where
  pub stands : Fault r
  pub least : (q : Refusal) → Fault q → rank r ≤ rank q

-- `Fault before place after r`: this place has the fault r, with those places before it, the nearest first, and those behind it in order
abbrev pub Faults : Type 0 → Type 1
Faults A = List A → A → List A → Refusal → Type 0

abbrev pub HasNone : (Refusal → Type 0) → Type 0
HasNone Fault = (r : Refusal) → Fault r → ⊥

-- no place has a fault
abbrev pub AreFaultless : {A : Type 0} → Faults A → List A → List A → Type 0
AreFaultless Fault before [] = Unit {0}
AreFaultless Fault before (a ∷ after) = HasNone (Fault before a after) × AreFaultless Fault (a ∷ before) after

-- r is the first fault: the next place has it, or has none and it is the first of the places behind
abbrev pub IsFirst : {A : Type 0} → Faults A → List A → List A → Refusal → Type 0
IsFirst Fault before [] r = ⊥
IsFirst Fault before (a ∷ after) r = IsLeast (Fault before a after) r ⊎ (HasNone (Fault before a after) × IsFirst Fault (a ∷ before) after r)

-- an answer is there where no place has a fault, and a refusal is the first one
abbrev pub IsAnswer : {A B : Type 0} → Faults A → List A → List A → Result B Refusal → Type 0
IsAnswer Fault before all (Ok x) = AreFaultless Fault before all
IsAnswer Fault before all (Err r) = IsFirst Fault before all r
