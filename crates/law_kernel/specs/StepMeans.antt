-- The kernel, by all its steps, means what the program means, but for the events of the calls of step units.
use Rattle.std.specs.Prelude.{◌≡◌, ℕ, ◌*◌, List, true, Option, Some}
use Rattle.adj_tree.specs.Code.{Procedure}
use Rattle.def_meaning.specs.Numbers.{Numbers}
use Rattle.def_meaning.specs.Written.{find_unit, handed_back}
use Rattle.def_meaning.specs.Units.{Slot, Output, fits, run_unit}
use Rattle.def_kernel.specs.Weights.{WeighsAtMost}
use Rattle.law_kernel.specs.Apart.{ShowWords}
use Rattle.def_kernel.specs.Kernel.{EachUnit}
use Rattle.def_kernel.specs.Form.{IsKernel}
use Rattle.def_kernel.specs.Stepped.{stepped_program, kernel_of}
use Rattle.law_kernel.specs.StepTheorem.{marked_of, IsSource}
use Rattle.law_kernel.specs.Means.{MeansAlike}

-- equal values and tapes, and the same told of marked loops
pub record SameButCalls {C : Type 0} (out other : Output C) : Type 0 where
  pub slots : out.slots ≡ other.slots
  pub tape : out.tape ≡ other.tape
  pub marked : marked_of out.events ≡ marked_of other.events

-- the unit of the kernel that a unit of the source becomes: it has its name, its line and its dummies
pub record BecomesUnit (units : List Procedure) (name : List ℕ) (u : Procedure) : Type 0 where
  pub becomes : Procedure
  pub found : find_unit (kernel_of units) name ≡ Some becomes
  pub same_name : becomes.name ≡ u.name
  pub same_line : becomes.line ≡ u.line
  pub same_dummies : becomes.dummies ≡ u.dummies

-- each unit of a program is there in its kernel
abbrev pub WholeKernelHasUnits : Type 0
WholeKernelHasUnits = (units : List Procedure) (name : List ℕ) (u : Procedure) → find_unit units name ≡ Some u → BecomesUnit units name u

-- the kernel of a checked program means what the program means, on each input that fits, and takes at most 18 * m statements for
-- each one where no statement of the program weighs more than m, the calls of step units included
abbrev pub WholeKernelMeansAlike : Type 0 → Type 0
WholeKernelMeansAlike C =
    (n : Numbers C) → ShowWords n → (units : List Procedure) → IsSource C units → (m : ℕ) → EachUnit (λ u. WeighsAtMost m u.body) (stepped_program units) → (name : List ℕ) (u v : Procedure) → find_unit units name ≡ Some u → find_unit (kernel_of units) name ≡ Some v →
    (input : List (Slot C)) → fits n u input ≡ true → (tape : List C) (room : Option ℕ) → MeansAlike SameButCalls (run_unit n units u input tape room) (run_unit n (kernel_of units) v input tape room) (18 * m)

-- and it is in kernel form
abbrev pub WholeKernelHasItsForm : Type 0 → Type 0
WholeKernelHasItsForm C = (units : List Procedure) → IsSource C units → IsKernel (kernel_of units)

-- it writes the same dummies of each unit of the source
abbrev pub WholeKernelWritesTheSame : Type 0 → Type 0
WholeKernelWritesTheSame C = (units : List Procedure) → IsSource C units → (name : List ℕ) (u : Procedure) → find_unit units name ≡ Some u → handed_back (kernel_of units) name ≡ handed_back units name
