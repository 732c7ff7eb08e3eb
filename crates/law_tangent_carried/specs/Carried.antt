-- What is emitted for a checked program, by exact analyses of what carries a tangent, is its tangent.
use Rattle.std.specs.Prelude.{◌≡◌, ◌≤◌, ◌*◌, ℕ, [], ◌∷◌}
use Rattle.adj_tree.specs.Code.{Procedure}
use Rattle.def_names.specs.Numbers.{Vars}
use Rattle.def_names.specs.Fault.{Rules}
use Rattle.def_sweep.specs.Declared.{unit_at}
use Rattle.def_kernel.specs.Kernel.{EachUnit}
use Rattle.def_flow.specs.Problem.{Problem}
use Rattle.def_tangent.specs.Program.{tangent_program}
use Rattle.law_tangent.specs.IsTangent.{IsTangent}
use Rattle.def_flow.specs.Carried.{IsCarrying, carried_by}
use Rattle.law_emitted.specs.Checked.{IsChecked}
use Rattle.law_tangent.specs.Sizes.{AreLight}
use Rattle.law_tangent.specs.Source.{TangentFits}

-- a checked program in kernel form, none of whose assignments has m or more nodes, is with them all that the law on tangents asks
abbrev pub CarryingFits : Type 0
CarryingFits =
    (rules : Rules) (k : Problem) → IsChecked rules k.units → (varied on : ℕ → Vars) → IsCarrying k varied on → (m : ℕ) → 1 ≤ m → EachUnit (λ u. AreLight m u.body) k.units → (u : Procedure) → unit_at k.head k.units ≡ u ∷ [] →
    TangentFits m (carried_by k.units on) varied k.units u k.vars

-- so what is emitted for it is its tangent
abbrev pub CarryingIsTangent : Type 0
CarryingIsTangent =
    (rules : Rules) (k : Problem) → IsChecked rules k.units → (varied on : ℕ → Vars) → IsCarrying k varied on → (m : ℕ) → 1 ≤ m → EachUnit (λ u. AreLight m u.body) k.units → (u : Procedure) → unit_at k.head k.units ≡ u ∷ [] →
    let c = carried_by k.units on in IsTangent (2 * m) c k.units k.head k.vars (tangent_program c k.units k.head k.vars)
