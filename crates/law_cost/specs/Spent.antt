-- What the emitted program takes for each statement of the program. (docs/THEOREMS.md, "What both sweeps cost")
use Rattle.std.specs.Prelude.{◌≡◌, ℕ, suc, ◌+◌, ◌*◌, ◌≤◌, List, Bool, Some}
use Rattle.adj_tree.specs.Code.{Procedure}
use Rattle.adj_tree.specs.Lines.{unlined}
use Rattle.def_meaning.specs.Written.{find_unit}
use Rattle.def_names.specs.Calls.{chain_from}
use Rattle.def_names.specs.HeadFaults.{unit_number}
use Rattle.def_sweep.specs.Marking.{SplitsNothing, ProgramFacts}
use Rattle.def_sweep.specs.Program.{emitted_program}
use Rattle.law_sweep.specs.Source.{SourceFits}
use Rattle.def_kernel.specs.Weights.{WeighsAtMost}
use Rattle.def_kernel.specs.Kernel.{EachUnit}
use Rattle.def_kernel.specs.Stepped.{marked_in, kernel_of}
use Rattle.law_kernel.specs.Sound.{IsAccepted}
use Rattle.def_adjoint.specs.CallsAtMost.{CallsAtMost}
use Rattle.def_sweep.specs.Reversals.{ReversedLines}
use Rattle.def_adjoint.specs.Spends.{SpendsAtMost, most_spent}

-- so does what is emitted for the kernel of an accepted program without marked loops, by marks that meet the laws and split no
-- call, and what differs from it in line numbers alone
abbrev pub EmittedSpends : Type 0
EmittedSpends =
    (ps : List Procedure) → IsAccepted ps → EachUnit (λ u. marked_in u.body ≡ 0) ps → (weight : ℕ) → EachUnit (λ u. WeighsAtMost weight u.body) ps → (name : List ℕ) (calls : ℕ) → CallsAtMost ps name calls →
    (lines : ReversedLines) (w : ProgramFacts) (kernel : Procedure) → find_unit (kernel_of ps) name ≡ Some kernel → SourceFits lines w (kernel_of ps) kernel → SplitsNothing w.marks → (vars outvars : List Bool) (qs : List Procedure) →
    unlined (emitted_program w.marks (kernel_of ps) (unit_number (kernel_of ps) name) vars outvars) ≡ unlined qs → SpendsAtMost w.marks ps name weight calls qs

-- a round bound
abbrev pub BoundIsWithin : Type 0
BoundIsWithin = (weight calls used dummies : ℕ) → most_spent weight calls used dummies ≤ 40 * weight * (calls + 2) * used + 2 * dummies

-- In an accepted program no chain from the unit of a name has more units than are counted where the program is checked: so it has fewer calls.
abbrev pub ChainsAreCounted : Type 0
ChainsAreCounted = (ps : List Procedure) → IsAccepted ps → (name : List ℕ) (calls : ℕ) → chain_from ps name ≤ suc calls → CallsAtMost ps name calls
