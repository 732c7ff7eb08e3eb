-- The lowered program means what the program means, over any numbers.
use Rattle.std.specs.Prelude.{◌≡◌, ℕ, ◌*◌, List, true, Option, Some}
use Rattle.adj_tree.specs.Code.{Var, Code, Procedure}
use Rattle.def_meaning.specs.Numbers.{Numbers, words, duals}
use Rattle.def_meaning.specs.Written.{find_unit, writes, handed_back}
use Rattle.def_meaning.specs.Units.{Slot, fits, run_unit}
use Rattle.def_kernel.specs.Lowered.{lowered}
use Rattle.def_kernel.specs.Weights.{WeighsAtMost}
use Rattle.law_kernel.specs.Apart.{ShowWords, CodeInside, EachCall}
use Rattle.law_kernel.specs.Fits.{is_of, IsFitCall, IsFit}
use Rattle.def_kernel.specs.Kernel.{local_in, lowered_unit, lowered_program, EachUnit}
use Rattle.def_kernel.specs.Form.{IsStepped, IsKernel}
use Rattle.law_kernel.specs.Means.{MeansTheSame}

-- words show what they were made of, and so do words with tangents
abbrev pub BothShowWords : Type 0
BothShowWords = ShowWords words × ShowWords duals

-- the lowered program of a program that fits means what the program means, with equal values, tapes and events, and takes at
-- most 9 * m statements for each one where no statement of the program weighs more than m
abbrev pub KernelMeansTheSame : Type 0 → Type 0
KernelMeansTheSame C =
    (n : Numbers C) → ShowWords n → (units : List Procedure) → IsFit units → (m : ℕ) → EachUnit (λ u. WeighsAtMost m u.body) units → (name : List ℕ) (u : Procedure) → find_unit units name ≡ Some u →
    (input : List (Slot C)) (tape : List C) (room : Option ℕ) → MeansTheSame (run_unit n units u input tape room) (run_unit n (lowered_program units) (lowered_unit units u) input tape room) (9 * m)

-- its units write the same dummies
abbrev pub KernelWritesTheSame : Type 0
KernelWritesTheSame = (units : List Procedure) → IsFit units → (name : List ℕ) → handed_back (lowered_program units) name ≡ handed_back units name

-- the same inputs fit
abbrev pub KernelFitsTheSame : Type 0 → Type 0
KernelFitsTheSame C = (n : Numbers C) (units : List Procedure) (u : Procedure) (input : List (Slot C)) → fits n (lowered_unit units u) input ≡ fits n u input

-- its statements write the same variables of the unit: the list that a list of the unit becomes
abbrev pub KernelStatementsWriteTheSame : Type 0
KernelStatementsWriteTheSame =
    (units : List Procedure) → IsFit units → (u : Procedure) (x : Var) → is_of u x ≡ true → (c : Code) → CodeInside (is_of u) c → EachCall (IsFitCall units u) c →
    writes (handed_back (lowered_program units)) x (lowered (local_in units u) (handed_back units) c) ≡ writes (handed_back units) x c

-- after the first step the kernel is in kernel form
abbrev pub KernelHasItsForm : Type 0
KernelHasItsForm = (units : List Procedure) → IsFit units → EachUnit (λ u. IsStepped u.body) units → IsKernel (lowered_program units)
