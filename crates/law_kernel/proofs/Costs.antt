-- A program and its lowered program, each statement counted once, and at its weight.
use Rattle.std.proofs.Common.{◌≡◌, ◌*◌, List, [], ◌∷◌, refl, subst, arith}
use Rattle.adj_tree.specs.Code.{Procedure}
use Rattle.def_meaning.specs.Units.{Output, run_unit}
use Rattle.law_meaning.specs.Follows.{Runs}
use Rattle.def_meaning.specs.Padded.{own_nodes, padded_procedure, padded_program}
use Rattle.law_meaning.proofs.PaddedPrograms.{unpadded}
use Rattle.def_kernel.specs.Kernel.{lowered_unit, lowered_program}
use Rattle.law_kernel.specs.Means.{MeansTheSame}
use Rattle.law_kernel.specs.Theorem.{KernelMeansTheSame}
use Rattle.law_kernel.specs.WeighTheorem.{KernelCostsItsWeight}
use Rattle.law_kernel.proofs.Meanings.{means_the_same}
use Rattle.law_kernel.proofs.SameWritten.{same_written}

-- a program whose statements cost nothing more is the program
unit_unpadded : (u : Procedure) → padded_procedure (λ a. 0) u ≡ u
unit_unpadded u = λ i. record u { body = unpadded u.body i }

-- nor is a program of such statements
program_unpadded : (units : List Procedure) → padded_program (λ a. 0) units ≡ units
program_unpadded [] = refl
program_unpadded (u ∷ us) = λ i. unit_unpadded u i ∷ program_unpadded us i

-- each statement counted once
pub lowered_means : {C : Type 0} → KernelMeansTheSame C
lowered_means n shows units fit m weighs name u found input tape room =
    let plain = means_the_same n shows (λ a. 0) (λ a. omega arith) units fit m weighs (same_written units fit) name u found input tape room in
    let run : List Procedure → Procedure → Runs (Output _) = λ ps v. run_unit n ps v input tape room in
    subst (λ ps. MeansTheSame (run units u) (run ps (lowered_unit units u)) (9 * m)) (program_unpadded (lowered_program units))
    (subst (λ v. MeansTheSame (run units u) (run (padded_program (λ a. 0) (lowered_program units)) v) (9 * m)) (unit_unpadded (lowered_unit units u)) plain)

-- each statement at its weight
pub weighed_means : {C : Type 0} → KernelCostsItsWeight C
weighed_means n shows units fit m weighs name u found input tape room = means_the_same n shows own_nodes (λ a. omega arith) units fit m weighs (same_written units fit) name u found input tape room
