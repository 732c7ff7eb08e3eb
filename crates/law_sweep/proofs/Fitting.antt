-- The worked program, with facts that spare its call, is as the theorem asks, and so the theorem holds of its sweeps.
use Rattle.std.proofs.Common.{ℕ, Bool, true, false, List, [], ◌∷◌, refl, arith, codes}
use Rattle.std.specs.Prelude.{None}
use Rattle.adj_tree.specs.Code.{Procedure}
use Rattle.def_sweep.specs.Callees.{CalleeFacts}
use Rattle.def_sweep.specs.Marking.{callee_facts, facts_in, entry_point, end_point}
use Rattle.def_sweep.specs.Program.{has_adjoint, has_pair, is_carried, emitted_program}
use Rattle.def_sweep.specs.Program as program
use Rattle.law_sweep.specs.Source.{SourceFits}
use Rattle.def_sweep.specs.Adjoint.{IsAdjoint}
use Rattle.def_sweep.specs.MarkedAdjoint.{SuitHead}
use Rattle.law_sweep.proofs.Adjoint.{emitted_is_adjoint}
use Rattle.law_sweep.specs.Examples.{twice, lean_facts}
use Rattle.law_sweep.proofs.Lean.{lean_squares, lean_twice}
use Rattle.law_sweep.proofs.SquaresFit.{both, squares_fit, twice_fit, both_fit}

abbrev g : List ℕ → CalleeFacts
g = callee_facts lean_facts both

abbrev qs : List Procedure
qs = emitted_program lean_facts.marks both 1 (true ∷ false ∷ []) (true ∷ false ∷ [])

abbrev answers : List ℕ → Bool
answers = program.answers lean_facts.marks both twice

abbrev there : List ℕ → Bool
there = has_adjoint lean_facts.marks both twice

abbrev paired : List ℕ → Bool
paired = has_pair lean_facts.marks both twice

abbrev carried : List ℕ → Bool
carried = is_carried lean_facts.marks both twice

-- the source is as the theorem on whole programs asks
pub source_fits : SourceFits (λ line. None) lean_facts both twice
source_fits = both_fit lean_facts
    (squares_fit lean_facts there answers paired carried (λ h. absurd cc) lean_squares (λ d h. refl) (λ h. absurd cc))
    (twice_fit lean_facts there answers paired carried (λ h. absurd cc) lean_twice (λ d h. refl) (λ h. absurd cc) (λ pr a. refl, λ pr k. absurd cc)) refl

suits : SuitHead (facts_in lean_facts (codes "T")).marks (entry_point both (codes "T")) (end_point both (codes "T")) twice (true ∷ false ∷ []) (true ∷ false ∷ [])
suits = record { varied = λ x h. refl; useful = λ x h. refl; shadowed = λ x h. refl }

-- the program that is emitted for T is its adjoint
pub twice_adjoint : IsAdjoint (λ line. None) lean_facts.marks both 1 (true ∷ false ∷ []) (true ∷ false ∷ []) qs
twice_adjoint = emitted_is_adjoint false (λ line. None) lean_facts both 1 (true ∷ false ∷ []) (true ∷ false ∷ []) twice refl source_fits suits
