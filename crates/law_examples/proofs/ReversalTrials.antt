-- The faulty programs of specs/Faulty.antt are no adjoints: each is tried on one input.
use Rattle.std.proofs.Common.{[], ◌∷◌, true, false, refl, codes}
use Rattle.std.specs.Prelude.{pos}
use Rattle.std.specs.Int.{int_wrap}
use Rattle.adj_revolve.specs.Binomial.{choose}
use Rattle.adj_revolve.specs.LeastCost.{greatest_up_to, least_cost}
use Rattle.adj_revolve.specs.Schedule.{body}
use Rattle.adj_revolve.specs.Split.{first_repetition, repetitions, split_of}
use Rattle.def_meaning.specs.Run.{most_tests}
use Rattle.def_sweep.specs.Marking.{full_marks}
use Rattle.law_examples.specs.Faulty.{unchanged, unrestored}
use Rattle.law_examples.specs.ReversalFaulty.{faulty_program, Serve, unpopped, unkept, farther, unended, enclosed, unheld, late, unbounded, enlarged}
use Rattle.law_examples.specs.ReversalSources.{repeated, repeating, numbered, numbering, twice_numbered, numbering_twice, counting_down, divided, fewer_left, leaving_fewer, with_arrays, clearing_arrays, sparing, one_loop, loops_of_both}
use Rattle.law_examples.proofs.ReversalRefusing.{adjoint_in, stuck, left, wrong}

-- the snapshot of the first step is left on the tape
pub unpopped_fails : Serve true unpopped (one_loop full_marks (repeating 1 1)) full_marks (repeating 1 1) 1 (true ∷ false ∷ []) (true ∷ false ∷ []) → ⊥
unfolding int_wrap most_tests body split_of repetitions first_repetition choose least_cost greatest_up_to
unpopped_fails =
    left (one_loop full_marks (repeating 1 1)) full_marks (repeating 1 1) 1 (true ∷ false ∷ []) (true ∷ false ∷ []) (faulty_program true unpopped full_marks (repeating 1 1) 1 (true ∷ false ∷ []) (true ∷ false ∷ [])) (repeated 1 1)
    (adjoint_in (repeating 1 1) (repeated 1 1) (faulty_program true unpopped full_marks (repeating 1 1) 1 (true ∷ false ∷ []) (true ∷ false ∷ []))) refl refl (pos 2 ∷ pos 7 ∷ []) (pos 1 ∷ pos 0 ∷ []) 200 refl refl refl (λ h. h) refl

-- what was saved for the statements before the loop is taken for the snapshot, and then the tape has a word too few
pub unkept_fails : Serve true unkept (one_loop full_marks (repeating 3 1)) full_marks (repeating 3 1) 1 (true ∷ false ∷ []) (true ∷ false ∷ []) → ⊥
unfolding int_wrap most_tests body split_of repetitions first_repetition choose least_cost greatest_up_to
unkept_fails =
    stuck (one_loop full_marks (repeating 3 1)) full_marks (repeating 3 1) 1 (true ∷ false ∷ []) (true ∷ false ∷ []) (faulty_program true unkept full_marks (repeating 3 1) 1 (true ∷ false ∷ []) (true ∷ false ∷ [])) (repeated 3 1)
    (adjoint_in (repeating 3 1) (repeated 3 1) (faulty_program true unkept full_marks (repeating 3 1) 1 (true ∷ false ∷ []) (true ∷ false ∷ []))) refl refl (pos 2 ∷ pos 7 ∷ []) (pos 1 ∷ pos 0 ∷ []) 300 refl refl refl (λ h. h) refl

-- two calls of the step unit, where one is enough
pub farther_fails : Serve true farther (one_loop full_marks (repeating 2 1)) full_marks (repeating 2 1) 1 (true ∷ false ∷ []) (true ∷ false ∷ []) → ⊥
unfolding int_wrap most_tests body split_of repetitions first_repetition choose least_cost greatest_up_to
farther_fails =
    wrong (one_loop full_marks (repeating 2 1)) full_marks (repeating 2 1) 1 (true ∷ false ∷ []) (true ∷ false ∷ []) (faulty_program true farther full_marks (repeating 2 1) 1 (true ∷ false ∷ []) (true ∷ false ∷ [])) (repeated 2 1)
    (adjoint_in (repeating 2 1) (repeated 2 1) (faulty_program true farther full_marks (repeating 2 1) 1 (true ∷ false ∷ []) (true ∷ false ∷ []))) refl refl (pos 2 ∷ pos 7 ∷ []) (pos 1 ∷ pos 0 ∷ []) 300 refl refl refl (λ h. h) refl

-- the unit ends with a reversal that is open
pub unended_fails : Serve true unended (one_loop full_marks (repeating 1 1)) full_marks (repeating 1 1) 1 (true ∷ false ∷ []) (true ∷ false ∷ []) → ⊥
unfolding int_wrap most_tests body split_of repetitions first_repetition choose least_cost greatest_up_to
unended_fails =
    stuck (one_loop full_marks (repeating 1 1)) full_marks (repeating 1 1) 1 (true ∷ false ∷ []) (true ∷ false ∷ []) (faulty_program true unended full_marks (repeating 1 1) 1 (true ∷ false ∷ []) (true ∷ false ∷ [])) (repeated 1 1)
    (adjoint_in (repeating 1 1) (repeated 1 1) (faulty_program true unended full_marks (repeating 1 1) 1 (true ∷ false ∷ []) (true ∷ false ∷ []))) refl refl (pos 2 ∷ pos 7 ∷ []) (pos 1 ∷ pos 0 ∷ []) 200 refl refl refl (λ h. h) refl

-- nothing is reversed
pub plain_fails : Serve false unchanged (one_loop full_marks (repeating 2 1)) full_marks (repeating 2 1) 1 (true ∷ false ∷ []) (true ∷ false ∷ []) → ⊥
unfolding int_wrap most_tests body split_of repetitions first_repetition choose least_cost greatest_up_to
plain_fails =
    wrong (one_loop full_marks (repeating 2 1)) full_marks (repeating 2 1) 1 (true ∷ false ∷ []) (true ∷ false ∷ []) (faulty_program false unchanged full_marks (repeating 2 1) 1 (true ∷ false ∷ []) (true ∷ false ∷ [])) (repeated 2 1)
    (adjoint_in (repeating 2 1) (repeated 2 1) (faulty_program false unchanged full_marks (repeating 2 1) 1 (true ∷ false ∷ []) (true ∷ false ∷ []))) refl refl (pos 2 ∷ pos 7 ∷ []) (pos 1 ∷ pos 0 ∷ []) 200 refl refl refl (λ h. h) refl

-- no call of the step unit, where no schedule has fewer than one
pub enclosed_fails : Serve false enclosed (one_loop full_marks (repeating 2 1)) full_marks (repeating 2 1) 1 (true ∷ false ∷ []) (true ∷ false ∷ []) → ⊥
unfolding int_wrap most_tests body split_of repetitions first_repetition choose least_cost greatest_up_to
enclosed_fails =
    wrong (one_loop full_marks (repeating 2 1)) full_marks (repeating 2 1) 1 (true ∷ false ∷ []) (true ∷ false ∷ []) (faulty_program false enclosed full_marks (repeating 2 1) 1 (true ∷ false ∷ []) (true ∷ false ∷ [])) (repeated 2 1)
    (adjoint_in (repeating 2 1) (repeated 2 1) (faulty_program false enclosed full_marks (repeating 2 1) 1 (true ∷ false ∷ []) (true ∷ false ∷ []))) refl refl (pos 2 ∷ pos 7 ∷ []) (pos 1 ∷ pos 0 ∷ []) 200 refl refl refl (λ h. h) refl

-- the advance to the second step divides by what the loop left in E, 0
pub unread_fails : Serve true (unrestored (codes "E")) (one_loop sparing divided) sparing divided 1 (true ∷ false ∷ false ∷ []) (true ∷ false ∷ false ∷ []) → ⊥
unfolding int_wrap most_tests body split_of repetitions first_repetition choose least_cost greatest_up_to
unread_fails =
    stuck (one_loop sparing divided) sparing divided 1 (true ∷ false ∷ false ∷ []) (true ∷ false ∷ false ∷ []) (faulty_program true (unrestored (codes "E")) sparing divided 1 (true ∷ false ∷ false ∷ []) (true ∷ false ∷ false ∷ [])) counting_down
    (adjoint_in divided counting_down (faulty_program true (unrestored (codes "E")) sparing divided 1 (true ∷ false ∷ false ∷ []) (true ∷ false ∷ false ∷ []))) refl refl (pos 2 ∷ pos 2 ∷ pos 7 ∷ []) (pos 1 ∷ pos 0 ∷ pos 0 ∷ []) 300 refl refl refl (λ h. h) refl

-- the first loop, with one snapshot, is reversed with the two of the second
pub unheld_fails : Serve true unheld (loops_of_both full_marks numbering_twice) full_marks numbering_twice 1 (true ∷ false ∷ false ∷ false ∷ []) (true ∷ false ∷ false ∷ false ∷ []) → ⊥
unfolding int_wrap most_tests body split_of repetitions first_repetition choose least_cost greatest_up_to
unheld_fails =
    wrong (loops_of_both full_marks numbering_twice) full_marks numbering_twice 1 (true ∷ false ∷ false ∷ false ∷ []) (true ∷ false ∷ false ∷ false ∷ []) (faulty_program true unheld full_marks numbering_twice 1 (true ∷ false ∷ false ∷ false ∷ []) (true ∷ false ∷ false ∷ false ∷ [])) twice_numbered
    (adjoint_in numbering_twice twice_numbered (faulty_program true unheld full_marks numbering_twice 1 (true ∷ false ∷ false ∷ false ∷ []) (true ∷ false ∷ false ∷ false ∷ []))) refl refl (pos 2 ∷ pos 7 ∷ pos 1 ∷ pos 2 ∷ []) (pos 1 ∷ pos 0 ∷ pos 0 ∷ pos 0 ∷ []) 600 refl refl refl (λ h. h) refl

-- before the loop E is 2, and behind it 0
pub late_fails : Serve true (late (codes "E")) (one_loop full_marks leaving_fewer) full_marks leaving_fewer 1 (true ∷ false ∷ false ∷ []) (true ∷ false ∷ false ∷ []) → ⊥
unfolding int_wrap most_tests body split_of repetitions first_repetition choose least_cost greatest_up_to
late_fails =
    wrong (one_loop full_marks leaving_fewer) full_marks leaving_fewer 1 (true ∷ false ∷ false ∷ []) (true ∷ false ∷ false ∷ []) (faulty_program true (late (codes "E")) full_marks leaving_fewer 1 (true ∷ false ∷ false ∷ []) (true ∷ false ∷ false ∷ [])) fewer_left
    (adjoint_in leaving_fewer fewer_left (faulty_program true (late (codes "E")) full_marks leaving_fewer 1 (true ∷ false ∷ false ∷ []) (true ∷ false ∷ false ∷ []))) refl refl (pos 2 ∷ pos 2 ∷ pos 7 ∷ []) (pos 1 ∷ pos 0 ∷ pos 0 ∷ []) 400 refl refl refl (λ h. h) refl

-- no reversal begins with no snapshot
pub unbounded_fails : Serve true (unbounded (codes "N")) (one_loop full_marks (numbering 1)) full_marks (numbering 1) 1 (true ∷ false ∷ false ∷ []) (true ∷ false ∷ false ∷ []) → ⊥
unfolding int_wrap most_tests body split_of repetitions first_repetition choose least_cost greatest_up_to
unbounded_fails =
    stuck (one_loop full_marks (numbering 1)) full_marks (numbering 1) 1 (true ∷ false ∷ false ∷ []) (true ∷ false ∷ false ∷ []) (faulty_program true (unbounded (codes "N")) full_marks (numbering 1) 1 (true ∷ false ∷ false ∷ []) (true ∷ false ∷ false ∷ [])) (numbered 1)
    (adjoint_in (numbering 1) (numbered 1) (faulty_program true (unbounded (codes "N")) full_marks (numbering 1) 1 (true ∷ false ∷ false ∷ []) (true ∷ false ∷ false ∷ []))) refl refl (pos 2 ∷ pos 7 ∷ pos 0 ∷ []) (pos 1 ∷ pos 0 ∷ pos 0 ∷ []) 200 refl refl refl (λ h. h) refl

-- the step unit gets one word of A, and its adjoint two of C
pub enlarged_fails : Serve true enlarged (one_loop full_marks clearing_arrays) full_marks clearing_arrays 1 (true ∷ false ∷ false ∷ false ∷ []) (true ∷ false ∷ false ∷ false ∷ []) → ⊥
unfolding int_wrap most_tests body split_of repetitions first_repetition choose least_cost greatest_up_to
enlarged_fails =
    wrong (one_loop full_marks clearing_arrays) full_marks clearing_arrays 1 (true ∷ false ∷ false ∷ false ∷ []) (true ∷ false ∷ false ∷ false ∷ []) (faulty_program true enlarged full_marks clearing_arrays 1 (true ∷ false ∷ false ∷ false ∷ []) (true ∷ false ∷ false ∷ false ∷ [])) with_arrays
    (adjoint_in clearing_arrays with_arrays (faulty_program true enlarged full_marks clearing_arrays 1 (true ∷ false ∷ false ∷ false ∷ []) (true ∷ false ∷ false ∷ false ∷ []))) refl refl (pos 2 ∷ pos 7 ∷ pos 1 ∷ pos 2 ∷ []) (pos 1 ∷ pos 0 ∷ pos 0 ∷ pos 0 ∷ []) 400 refl refl refl (λ h. h) refl
