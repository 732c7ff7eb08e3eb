-- The first fault of the names, calls and writes of a program. (docs/REFUSALS.md)
use Rattle.std.specs.Prelude.{◌≡◌, List, [], ◌∷◌, Option, None}
use Rattle.adj_tree.specs.Code.{Procedure}
use Rattle.adj_tree.specs.declared.fault.Refusal.{Refusal}
use Rattle.def_names.specs.Fault.{Rules, first_in_passes}
use Rattle.def_names.specs.UnitFaults.{unit_faults}
use Rattle.def_names.specs.NameFaults.{name_faults}
use Rattle.def_names.specs.CallFaults.{call_faults}
use Rattle.def_names.specs.ChainFaults.{chain_faults}
use Rattle.def_names.specs.WriteFaults.{write_faults}

-- the faults of each pass, in the order of the passes
abbrev pub passes : Rules → List Procedure → List (List Refusal)
passes m ps = unit_faults ps ∷ name_faults m ps ∷ call_faults ps ∷ chain_faults m ps ∷ write_faults ps ∷ []

abbrev pub first_fault : Rules → List Procedure → Option Refusal
first_fault m ps = first_in_passes (passes m ps)

-- the program has none
abbrev pub IsSound : Rules → List Procedure → Type 0
IsSound m ps = first_fault m ps ≡ None
