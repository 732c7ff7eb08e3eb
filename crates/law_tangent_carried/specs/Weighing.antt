-- The bound on the statements of a tangent's run by what the kernel's statements weigh.
use Rattle.std.specs.Prelude.{◌≡◌, ℕ, List, Bool, Some}
use Rattle.adj_tree.specs.Code.{Code, Procedure}
use Rattle.adj_tree.specs.Lines.{unlined}
use Rattle.def_meaning.specs.Written.{find_unit}
use Rattle.def_names.specs.HeadFaults.{unit_number}
use Rattle.def_names.specs.Numbers.{Vars}
use Rattle.def_kernel.specs.Kernel.{EachUnit}
use Rattle.def_kernel.specs.Stepped.{kernel_of}
use Rattle.def_kernel.specs.Weights.{WeighsAtMost}
use Rattle.def_planned.specs.Planned.{kernel_problem}
use Rattle.def_tangent.specs.Program.{tangent_program}
use Rattle.def_flow.specs.Carried.{IsCarrying, carried_by}
use Rattle.def_tangent.specs.IsTangent.{IsTangentOfSource}
use Rattle.law_kernel.specs.Sound.{IsAccepted}
use Rattle.law_tangent.specs.Sizes.{AreLight}

-- where no statement weighs more than m, no assignment has m or more nodes
abbrev pub WeighsIsLight : Type 0
WeighsIsLight = (m : ℕ) (c : Code) → WeighsAtMost m c → AreLight m c

-- the statements of each program weigh at most something
abbrev pub HasWeight : Type 0
HasWeight = (ps : List Procedure) → (weight : ℕ) × EachUnit (λ u. WeighsAtMost weight u.body) ps

-- what differs in line numbers alone from what is emitted for the kernel of an accepted program is a tangent of it, whatever its statements weigh
abbrev pub AcceptedByWeight : Type 0
AcceptedByWeight =
    (ps : List Procedure) → IsAccepted ps → (name : List ℕ) (u : Procedure) → find_unit ps name ≡ Some u → (vars outvars : List Bool) (varied on : ℕ → Vars) → IsCarrying (kernel_problem ps name vars outvars) varied on → (qs : List Procedure) →
    let c = carried_by (kernel_of ps) on in unlined (tangent_program c (kernel_of ps) (unit_number (kernel_of ps) name) vars) ≡ unlined qs → IsTangentOfSource c ps name vars qs
