-- What is known of the kernel of a program that is accepted, as a text that a user writes. (docs/KERNEL.md)
use Rattle.std.specs.Prelude.{◌≡◌, ℕ, ◌*◌, List, [], true, Option, Some}
use Rattle.adj_tree.specs.Code.{Procedure}
use Rattle.def_text.specs.Written.{IsWritten}
use Rattle.def_meaning.specs.Numbers.{Numbers}
use Rattle.def_meaning.specs.Written.{find_unit, handed_back}
use Rattle.def_meaning.specs.Units.{Slot, fits, run_unit}
use Rattle.def_names.specs.Variables.{variables}
use Rattle.def_names.specs.Fault.{source_rules, run_rules}
use Rattle.def_names.specs.UnitFaults.{unit_faults}
use Rattle.def_names.specs.NameFaults.{name_faults}
use Rattle.def_names.specs.CallFaults.{call_faults}
use Rattle.def_names.specs.ChainFaults.{chain_faults}
use Rattle.def_names.specs.WriteFaults.{write_faults}
use Rattle.def_names.specs.Check.{IsSound}
use Rattle.def_kernel.specs.Weights.{WeighsAtMost}
use Rattle.law_kernel.specs.Apart.{ShowWords}
use Rattle.def_kernel.specs.Kernel.{EachUnit}
use Rattle.def_kernel.specs.Form.{IsKernel}
use Rattle.def_kernel.specs.Stepped.{variables_of, stepped_program, kernel_of}
use Rattle.law_kernel.specs.StepTheorem.{IsSource}
use Rattle.law_kernel.specs.Means.{MeansAlike, MeansTheSame}
use Rattle.law_kernel.specs.StepMeans.{SameButCalls}
use Rattle.law_kernel.specs.WeighTheorem.{weighed_program, weighed_unit}

-- a program that can be written as a text, and that has no fault of names, calls, chains and writes
pub record IsAccepted (units : List Procedure) : Type 0 where
  pub written : IsWritten units
  pub sound : IsSound source_rules units

-- such a program is all that the laws on kernels ask for
abbrev pub AcceptedIsSource : Type 0 → Type 0
AcceptedIsSource C = (units : List Procedure) → IsAccepted units → IsSource C units

-- so its kernel means what it means, on each input that fits
abbrev pub AcceptedMeansAlike : Type 0 → Type 0
AcceptedMeansAlike C =
    (n : Numbers C) → ShowWords n → (units : List Procedure) → IsAccepted units → (m : ℕ) → EachUnit (λ u. WeighsAtMost m u.body) (stepped_program units) → (name : List ℕ) (u v : Procedure) → find_unit units name ≡ Some u → find_unit (kernel_of units) name ≡ Some v →
    (input : List (Slot C)) → fits n u input ≡ true → (tape : List C) (room : Option ℕ) → MeansAlike SameButCalls (run_unit n units u input tape room) (run_unit n (kernel_of units) v input tape room) (18 * m)

-- it is in kernel form
abbrev pub AcceptedHasItsForm : Type 0
AcceptedHasItsForm = (units : List Procedure) → IsAccepted units → IsKernel (kernel_of units)

-- it can be written as a text
abbrev pub AcceptedIsWritten : Type 0
AcceptedIsWritten = (units : List Procedure) → IsAccepted units → IsWritten (kernel_of units)

-- it writes the same dummies of each unit of the program
abbrev pub AcceptedWritesTheSame : Type 0
AcceptedWritesTheSame = (units : List Procedure) → IsAccepted units → (name : List ℕ) (u : Procedure) → find_unit units name ≡ Some u → handed_back (kernel_of units) name ≡ handed_back units name

-- after the first step, statements at their weights cost at most 9 * m for each one where no statement weighs more than m
abbrev pub AcceptedCostsItsWeight : Type 0 → Type 0
AcceptedCostsItsWeight C =
    (n : Numbers C) → ShowWords n → (units : List Procedure) → IsAccepted units → (m : ℕ) → EachUnit (λ u. WeighsAtMost m u.body) (stepped_program units) → (name : List ℕ) (u : Procedure) → find_unit (stepped_program units) name ≡ Some u →
    (input : List (Slot C)) (tape : List C) (room : Option ℕ) → MeansTheSame (run_unit n (stepped_program units) u input tape room) (run_unit n (weighed_program (stepped_program units)) (weighed_unit (stepped_program units) u) input tape room) (9 * m)

-- the variables that step units are made of are those of the unit, in their order
abbrev pub VariablesAreThose : Type 0
VariablesAreThose = (u : Procedure) → variables_of u ≡ variables u

-- ---- the kernel itself has no fault, as a text that is run

-- no two of its units have one name, and none is named like an intrinsic or a runtime call
abbrev pub KernelUnitsStand : Type 0
KernelUnitsStand = (units : List Procedure) → IsAccepted units → unit_faults (kernel_of units) ≡ []

-- its names are declared, have their types, ranks and extents, and are free
abbrev pub KernelNamesStand : Type 0
KernelNamesStand = (units : List Procedure) → IsAccepted units → name_faults run_rules (kernel_of units) ≡ []

-- its CALLs are of its units, with actuals that fit
abbrev pub KernelCallsStand : Type 0
KernelCallsStand = (units : List Procedure) → IsAccepted units → call_faults (kernel_of units) ≡ []

-- none of its CALLs lies on a cycle, and its chains have at most 80 units, marked loops counted
abbrev pub KernelChainsStand : Type 0
KernelChainsStand = (units : List Procedure) → IsAccepted units → chain_faults run_rules (kernel_of units) ≡ []

-- no statement of it writes what it may not
abbrev pub KernelWritesStand : Type 0
KernelWritesStand = (units : List Procedure) → IsAccepted units → write_faults (kernel_of units) ≡ []

-- so a check never refuses it
abbrev pub KernelIsSound : Type 0
KernelIsSound = (units : List Procedure) → IsAccepted units → IsSound run_rules (kernel_of units)
