-- An adjoint with an empty loop of many turns passes the bound: on one input.
use Rattle.std.proofs.Common.{arith, ◌≡◌, ◌≤◌, [], ◌∷◌, true, false, refl, codes}
use Rattle.std.specs.Prelude.{pos, None}
use Rattle.std.specs.Int.{int_wrap}
use Rattle.adj_revolve.specs.Binomial.{beta, choose}
use Rattle.adj_revolve.specs.Schedule.{body}
use Rattle.adj_revolve.specs.Split.{first_repetition, repetitions, split_of}
use Rattle.def_meaning.specs.Numbers.{words}
use Rattle.def_meaning.specs.Run.{most_tests}
use Rattle.def_meaning.specs.Units.{run_unit}
use Rattle.def_sweep.specs.Marking.{full_marks}
use Rattle.def_adjoint.specs.Scheduled.{most_scheduled}
use Rattle.law_examples.specs.Costs.{Keeps, idling}
use Rattle.law_examples.specs.ReversalFaulty.{faulty_program}
use Rattle.law_examples.specs.ReversalSources.{repeated, repeating, one_loop}
use Rattle.law_examples.proofs.ReversalRefusing.{output_in, word, adjoint_in}

pub idle_fails : Keeps (one_loop full_marks (repeating 1 1)) full_marks (repeating 1 1) (repeated 1 1) (faulty_program true (idling 600) full_marks (repeating 1 1) 1 (true ∷ false ∷ []) (true ∷ false ∷ [])) (codes "P_B") (λ reps used dummies. most_scheduled 4 1 reps used dummies) → ⊥
unfolding int_wrap most_tests body split_of repetitions first_repetition choose
idle_fails h =
    let ps = repeating 1 1 in
    let qs = faulty_program true (idling 600) full_marks (repeating 1 1) 1 (true ∷ false ∷ []) (true ∷ false ∷ []) in
    let a = adjoint_in ps (repeated 1 1) qs in
    let one : beta 1 0 ≡ 1 = refl in
    let enough : 1 ≤ beta 1 0 = omega (arith, one) in
    let l : 646 ≤ 548 =
    h a refl (word (pos 2) ∷ word (pos 7) ∷ []) (word (pos 1) ∷ word (pos 0) ∷ []) refl (refl, (refl, (refl, (refl, tt)))) 100 4 (output_in (run_unit words ps (repeated 1 1) (word (pos 2) ∷ word (pos 7) ∷ []) [] None 100)) refl 0 (tt, (tt, ((λ u e. enough), tt)))
    2000 646 (output_in (run_unit words qs a (word (pos 2) ∷ word (pos 1) ∷ word (pos 7) ∷ word (pos 0) ∷ []) [] None 2000)) refl in
    omega (arith, l)
