-- What the kernel's statements weigh, and what it costs to run them at their weights.
use Rattle.std.specs.Prelude.{◌≡◌, ℕ, zero, suc, ◌+◌, ◌*◌, ◌≤◌, List, Option, Some}
use Rattle.adj_tree.specs.Code.{Var, Term, var, abs, none, Act, assign, Code, Procedure}
use Rattle.def_meaning.specs.Numbers.{Numbers}
use Rattle.def_meaning.specs.LeastSet.{Dummies}
use Rattle.def_meaning.specs.Written.{find_unit}
use Rattle.def_meaning.specs.Units.{Slot, run_unit}
use Rattle.def_meaning.specs.Padded.{own_nodes, padded_procedure, padded_program}
use Rattle.def_kernel.specs.Lowered.{lowered_assign, lowered_act, lowered}
use Rattle.law_kernel.specs.Apart.{ShowWords}
use Rattle.def_kernel.specs.Kernel.{lowered_unit, lowered_program, EachUnit}
use Rattle.law_kernel.specs.Fits.{IsFit}
use Rattle.def_kernel.specs.Stepped.{marked_in, stepped_program}
use Rattle.law_kernel.specs.Means.{MeansTheSame}
use Rattle.def_kernel.specs.Weights.{weight, weight_with_bodies, total_weight, WeighsAtMost, capped}

-- the kernel statements that one statement becomes weigh at most nine times what it weighs, all bodies counted on both sides
abbrev pub StatementsWeigh : Type 0
StatementsWeigh = (local : ℕ → Var) (handed : Dummies) (line : ℕ) (a : Act) → total_weight (lowered_act local handed line a) ≤ 9 * weight_with_bodies a

-- so do those of lists
abbrev pub ListsWeigh : Type 0
ListsWeigh = (local : ℕ → Var) (handed : Dummies) (c : Code) → total_weight (lowered local handed c) ≤ 9 * total_weight c

-- the lowered program, each statement of it at its weight
abbrev pub weighed_program : List Procedure → List Procedure
weighed_program units = padded_program own_nodes (lowered_program units)

abbrev pub weighed_unit : List Procedure → Procedure → Procedure
weighed_unit units u = padded_procedure own_nodes (lowered_unit units u)

-- where no statement of the source weighs more than m, the lowered program with statements at their weights means what the
-- source means, and costs at most 9 * m for each statement of it
abbrev pub KernelCostsItsWeight : Type 0 → Type 0
KernelCostsItsWeight C =
    (n : Numbers C) → ShowWords n → (units : List Procedure) → IsFit units → (m : ℕ) → EachUnit (λ u. WeighsAtMost m u.body) units → (name : List ℕ) (u : Procedure) → find_unit units name ≡ Some u →
    (input : List (Slot C)) (tape : List C) (room : Option ℕ) → MeansTheSame (run_unit n units u input tape room) (run_unit n (weighed_program units) (weighed_unit units u) input tape room) (9 * m)

-- where no statement weighs more than m + 1, weights that are capped at m are the weights
abbrev pub CappedAreWeights : Type 0
CappedAreWeights = (m : ℕ) (units : List Procedure) → EachUnit (λ u. WeighsAtMost (m + 1) u.body) units → padded_program (capped m) units ≡ padded_program own_nodes units

-- ABS in ABS, k times, of a variable
abbrev pub tower : Var → ℕ → Term
tower x zero = var x
tower x (suc k) = abs (tower x k)

-- an assignment of weight k + 2 whose kernel statements weigh 9 * k + 2: so no constant below nine would do
abbrev pub TowersWeigh : Type 0
TowersWeigh = (local : ℕ → Var) (x y : Var) (line k : ℕ) → (weight (assign y none (tower x k)) ≡ k + 2) × (total_weight (lowered_assign local line y none (tower x k)) ≡ 9 * k + 2)

-- a program without marked loops is its own first step, so its kernel is the lowered program
abbrev pub NothingToStep : Type 0
NothingToStep = (units : List Procedure) → EachUnit (λ u. marked_in u.body ≡ 0) units → stepped_program units ≡ units
