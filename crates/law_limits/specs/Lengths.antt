-- Lengths: how long the names are that a kernel and its adjoints bring in. (docs/KERNEL.md, docs/EMITTED.md)
use Rattle.std.specs.Prelude.{◌≡◌, ◌≤◌, ◌<◌, ◌+◌, ◌^◌, ℕ, suc, true, List, [], ◌∷◌, length}
use Rattle.adj_tree.specs.Code.{Procedure}
use Rattle.def_names.specs.Variables.{variables}
use Rattle.def_meaning.specs.Apart.{has_name}
use Rattle.def_names.specs.Fresh.{candidate, fresh}
use Rattle.def_kernel.specs.Kernel.{EachUnit, locals_count, lowered_unit}
use Rattle.law_kernel.specs.Sound.{IsAccepted}
use Rattle.def_kernel.specs.Stepped.{marked_in, stepped_program, kernel_of}

-- `left` has each candidate for a name that is taken
abbrev pub HasCandidates : List ℕ → List (List ℕ) → List (List ℕ) → Type 0
HasCandidates b left taken = (j : ℕ) → has_name (candidate b j) taken ≡ true → has_name (candidate b j) left ≡ true

-- a fresh name is longer than the one that is wanted by an underscore and as many digits as count the taken candidates
abbrev pub FreshIsShort : Type 0
FreshIsShort = (k : ℕ) (b : List ℕ) (left taken : List (List ℕ)) → HasCandidates b left taken → length left < 10 ^ suc k → length (fresh b taken) ≤ length b + 1 + suc k

-- how many marked loops there are
abbrev pub marked_loops : List Procedure → ℕ
marked_loops [] = 0
marked_loops (u ∷ us) = marked_in u.body + marked_loops us

-- a program of at most 2000 units with names of at most 31 characters and at most 200 variables each, and at most 400000 marked loops
pub record IsSmall (ps : List Procedure) : Type 0 where
  pub few_units : length ps ≤ 2000
  pub names : EachUnit (λ u. length u.name ≤ 31) ps
  pub few_variables : EachUnit (λ u. length (variables u) ≤ 200) ps
  pub few_marked : marked_loops ps ≤ 400000

-- then its kernel has at most 402000 units, with names of at most 46 characters
pub record HasShortUnits (ps : List Procedure) : Type 0 where
  pub few_units : length (kernel_of ps) ≤ 402000
  pub names : EachUnit (λ u. length u.name ≤ 46) (kernel_of ps)

abbrev pub KernelUnitsAreShort : Type 0
KernelUnitsAreShort = (ps : List Procedure) → IsSmall ps → HasShortUnits ps

-- each of some names has at most n characters
abbrev pub AreShort : ℕ → List (List ℕ) → Type 0
AreShort n [] = Unit {0}
AreShort n (x ∷ xs) = (length x ≤ n) × AreShort n xs

-- the variables of the kernel of an accepted program have at most 40 characters, where those of the program have, and where it has fewer than ten thousand million locals in a unit
abbrev pub KernelVariablesAreShort : Type 0
KernelVariablesAreShort =
    (ps : List Procedure) → IsAccepted ps → IsSmall ps → EachUnit (λ u. AreShort 40 (variables u)) ps → EachUnit (λ v. locals_count (stepped_program ps) v < 10 ^ 10) (stepped_program ps) →
    EachUnit (λ v. AreShort 40 (variables v)) (kernel_of ps)

-- a unit of a kernel has no more locals than variables
abbrev pub LocalsAreVariables : Type 0
LocalsAreVariables = (all : List Procedure) (v : Procedure) → locals_count all v ≤ length (variables (lowered_unit all v))
