-- The faulty programs of specs/Faulty.antt, and those of marks that break a law, are no adjoints: each is tried on one input.
use Rattle.std.proofs.Common.{◌≡◌, ℕ, [], ◌∷◌, true, false, refl, sym, ◌∙◌, subst, codes}
use Rattle.std.specs.Prelude.{pos, ◌==◌}
use Rattle.std.specs.Int.{int_wrap}
use Rattle.adj_tree.proofs.Names.{nat_refl}
use Rattle.def_meaning.specs.Run.{most_tests}
use Rattle.def_sweep.specs.Marking.{full_marks}
use Rattle.def_sweep.specs.Program.{emitted_program}
use Rattle.law_sweep.specs.Examples.{branch, powers, power}
use Rattle.law_examples.specs.Faulty.{faulty_program, Serve, Fail, pushed_after, unreversed, assigned, unsigned, uncleared, unpopped, replayed, untold, unturned, unrestored, unreset, uncounted, unsnapped, popped_before, unguarded}
use Rattle.law_examples.specs.Sources.{squared, fourth, square, cube, difference, saving_nothing, keeping_nothing, sums, scaled, growing, squaring, raising, caller, calls_after, calls_before, sparing, unsaved, unsaved_call, unvaried, memberless, unadjointed, unkept, left_out}
use Rattle.law_examples.proofs.Trying.{tried, adjoint_in, differ, stuck, left, replays}

-- words of different numbers
pub differ_words : (m n : ℕ) → (m == n) ≡ false → pos m ≡ pos n → ⊥
differ_words m n d h = let e : m ≡ n = cc in let p : true ≡ false = sym (subst (λ k. (m == k) ≡ true) e (nat_refl m)) ∙ d in cc

-- ---- with a change

-- its adjoint reads 9 in place of 3: 18, where the tangent is 6
pub pushed_after_fails : Serve pushed_after full_marks (squared ∷ []) 0 (true ∷ []) (true ∷ []) → ⊥
unfolding int_wrap
pushed_after_fails =
    differ full_marks (squared ∷ []) 0 (true ∷ []) (true ∷ []) (faulty_program pushed_after full_marks (squared ∷ []) 0 (true ∷ []) (true ∷ [])) squared (adjoint_in (squared ∷ []) squared (faulty_program pushed_after full_marks (squared ∷ []) 0 (true ∷ []) (true ∷ []))) refl refl
    (tried (squared ∷ []) squared (true ∷ []) (pos 3 ∷ []) (pos 1 ∷ []) 40 refl refl refl)
    (λ h. h) (λ h. h) (differ_words 18 6 refl)

-- the adjoint of the first assignment has the adjoint of Y: 4, where the tangent is 12
pub unreversed_fails : Serve unreversed full_marks (cube ∷ []) 0 (true ∷ true ∷ []) (true ∷ true ∷ []) → ⊥
unfolding int_wrap
unreversed_fails =
    differ full_marks (cube ∷ []) 0 (true ∷ true ∷ []) (true ∷ true ∷ []) (faulty_program unreversed full_marks (cube ∷ []) 0 (true ∷ true ∷ []) (true ∷ true ∷ [])) cube (adjoint_in (cube ∷ []) cube (faulty_program unreversed full_marks (cube ∷ []) 0 (true ∷ true ∷ []) (true ∷ true ∷ []))) refl refl
    (tried (cube ∷ []) cube (true ∷ true ∷ []) (pos 2 ∷ pos 0 ∷ []) (pos 0 ∷ pos 1 ∷ []) 60 refl refl refl)
    (λ h. h) (λ h. h) (differ_words 4 12 refl)

-- the first of two equal terms is lost: 3, where the tangent is 6
pub assigned_fails : Serve assigned full_marks (square ∷ []) 0 (true ∷ false ∷ []) (false ∷ true ∷ []) → ⊥
unfolding int_wrap
assigned_fails =
    differ full_marks (square ∷ []) 0 (true ∷ false ∷ []) (false ∷ true ∷ []) (faulty_program assigned full_marks (square ∷ []) 0 (true ∷ false ∷ []) (false ∷ true ∷ [])) square (adjoint_in (square ∷ []) square (faulty_program assigned full_marks (square ∷ []) 0 (true ∷ false ∷ []) (false ∷ true ∷ []))) refl refl
    (tried (square ∷ []) square (true ∷ false ∷ []) (pos 3 ∷ pos 0 ∷ []) (pos 0 ∷ pos 1 ∷ []) 40 refl refl refl)
    (λ h. h) (λ h. h) (differ_words 3 6 refl)

-- what is to be taken away is added: 2, where the tangent is 0
pub unsigned_fails : Serve unsigned full_marks (difference ∷ []) 0 (true ∷ true ∷ []) (false ∷ true ∷ []) → ⊥
unfolding int_wrap
unsigned_fails =
    differ full_marks (difference ∷ []) 0 (true ∷ true ∷ []) (false ∷ true ∷ []) (faulty_program unsigned full_marks (difference ∷ []) 0 (true ∷ true ∷ []) (false ∷ true ∷ [])) difference (adjoint_in (difference ∷ []) difference (faulty_program unsigned full_marks (difference ∷ []) 0 (true ∷ true ∷ []) (false ∷ true ∷ []))) refl refl
    (tried (difference ∷ []) difference (true ∷ true ∷ []) (pos 3 ∷ pos 5 ∷ []) (pos 0 ∷ pos 1 ∷ []) 40 refl refl refl)
    (λ h. h) (λ h. h) (differ_words 2 0 refl)

-- the adjoint of what is overwritten stays: 7, where the tangent is 6
pub uncleared_fails : Serve uncleared full_marks (squared ∷ []) 0 (true ∷ []) (true ∷ []) → ⊥
unfolding int_wrap
uncleared_fails =
    differ full_marks (squared ∷ []) 0 (true ∷ []) (true ∷ []) (faulty_program uncleared full_marks (squared ∷ []) 0 (true ∷ []) (true ∷ [])) squared (adjoint_in (squared ∷ []) squared (faulty_program uncleared full_marks (squared ∷ []) 0 (true ∷ []) (true ∷ []))) refl refl
    (tried (squared ∷ []) squared (true ∷ []) (pos 3 ∷ []) (pos 1 ∷ []) 40 refl refl refl)
    (λ h. h) (λ h. h) (differ_words 7 6 refl)

-- a word is left on the tape
pub unpopped_fails : Serve unpopped full_marks (square ∷ []) 0 (true ∷ false ∷ []) (false ∷ true ∷ []) → ⊥
unfolding int_wrap
unpopped_fails =
    left full_marks (square ∷ []) 0 (true ∷ false ∷ []) (false ∷ true ∷ []) (faulty_program unpopped full_marks (square ∷ []) 0 (true ∷ false ∷ []) (false ∷ true ∷ [])) square (adjoint_in (square ∷ []) square (faulty_program unpopped full_marks (square ∷ []) 0 (true ∷ false ∷ []) (false ∷ true ∷ []))) refl refl
    (tried (square ∷ []) square (true ∷ false ∷ []) (pos 3 ∷ pos 5 ∷ []) (pos 0 ∷ pos 1 ∷ []) 40 refl refl refl)
    (λ h. h) refl

-- a reversal of no steps is one too many
pub replayed_fails : Serve replayed full_marks (square ∷ []) 0 (true ∷ false ∷ []) (false ∷ true ∷ []) → ⊥
unfolding int_wrap
replayed_fails =
    replays full_marks (square ∷ []) 0 (true ∷ false ∷ []) (false ∷ true ∷ []) (faulty_program replayed full_marks (square ∷ []) 0 (true ∷ false ∷ []) (false ∷ true ∷ [])) square (adjoint_in (square ∷ []) square (faulty_program replayed full_marks (square ∷ []) 0 (true ∷ false ∷ []) (false ∷ true ∷ []))) refl refl
    (tried (square ∷ []) square (true ∷ false ∷ []) (pos 3 ∷ pos 5 ∷ []) (pos 0 ∷ pos 1 ∷ []) 40 refl refl refl)
    (λ h. h) refl refl

-- the saved value of Y is taken for the control word, and then there is nothing to pop
pub untold_fails : Serve untold full_marks (branch ∷ []) 0 (true ∷ false ∷ []) (false ∷ true ∷ []) → ⊥
unfolding int_wrap
untold_fails =
    stuck full_marks (branch ∷ []) 0 (true ∷ false ∷ []) (false ∷ true ∷ []) (faulty_program untold full_marks (branch ∷ []) 0 (true ∷ false ∷ []) (false ∷ true ∷ [])) branch (adjoint_in (branch ∷ []) branch (faulty_program untold full_marks (branch ∷ []) 0 (true ∷ false ∷ []) (false ∷ true ∷ []))) refl refl (tried (branch ∷ []) branch (true ∷ false ∷ []) (pos 3 ∷ pos 5 ∷ []) (pos 0 ∷ pos 1 ∷ []) 80 refl refl refl) (λ h. h) refl

-- the turns in the order of the program: 2, where the tangent is 3
pub unturned_fails : Serve unturned full_marks (sums ∷ []) 0 (true ∷ false ∷ false ∷ []) (false ∷ true ∷ false ∷ []) → ⊥
unfolding int_wrap
unturned_fails =
    differ full_marks (sums ∷ []) 0 (true ∷ false ∷ false ∷ []) (false ∷ true ∷ false ∷ []) (faulty_program unturned full_marks (sums ∷ []) 0 (true ∷ false ∷ false ∷ []) (false ∷ true ∷ false ∷ [])) sums (adjoint_in (sums ∷ []) sums (faulty_program unturned full_marks (sums ∷ []) 0 (true ∷ false ∷ false ∷ []) (false ∷ true ∷ false ∷ []))) refl refl
    (tried (sums ∷ []) sums (true ∷ false ∷ false ∷ []) (pos 3 ∷ pos 1 ∷ pos 0 ∷ []) (pos 0 ∷ pos 1 ∷ pos 0 ∷ []) 80 refl refl refl)
    (λ h. h) (λ h. h) (differ_words 2 3 refl)

-- the first assignment has I as in the first turn, 1 in place of 5: 3, where the tangent is 7
pub unrestored_fails : Serve (unrestored (codes "I")) full_marks (scaled ∷ []) 0 (true ∷ false ∷ false ∷ []) (false ∷ true ∷ false ∷ []) → ⊥
unfolding int_wrap
unrestored_fails =
    differ full_marks (scaled ∷ []) 0 (true ∷ false ∷ false ∷ []) (false ∷ true ∷ false ∷ []) (faulty_program (unrestored (codes "I")) full_marks (scaled ∷ []) 0 (true ∷ false ∷ false ∷ []) (false ∷ true ∷ false ∷ [])) scaled (adjoint_in (scaled ∷ []) scaled (faulty_program (unrestored (codes "I")) full_marks (scaled ∷ []) 0 (true ∷ false ∷ false ∷ []) (false ∷ true ∷ false ∷ []))) refl refl
    (tried (scaled ∷ []) scaled (true ∷ false ∷ false ∷ []) (pos 3 ∷ pos 0 ∷ pos 5 ∷ []) (pos 0 ∷ pos 1 ∷ pos 0 ∷ []) 90 refl refl refl)
    (λ h. h) (λ h. h) (differ_words 3 7 refl)

-- the shadow of I has what both turns added: 2, where the tangent is 0
pub unreset_fails : Serve unreset full_marks (growing ∷ []) 0 (false ∷ true ∷ []) (true ∷ false ∷ []) → ⊥
unfolding int_wrap
unreset_fails =
    differ full_marks (growing ∷ []) 0 (false ∷ true ∷ []) (true ∷ false ∷ []) (faulty_program unreset full_marks (growing ∷ []) 0 (false ∷ true ∷ []) (true ∷ false ∷ [])) growing (adjoint_in (growing ∷ []) growing (faulty_program unreset full_marks (growing ∷ []) 0 (false ∷ true ∷ []) (true ∷ false ∷ []))) refl refl
    (tried (growing ∷ []) growing (false ∷ true ∷ []) (pos 0 ∷ pos 5 ∷ []) (pos 1 ∷ pos 0 ∷ []) 80 refl refl refl)
    (λ h. h) (λ h. h) (differ_words 2 0 refl)

-- no turn is gone through backward: 0, where the tangent is 6
pub uncounted_fails : Serve (uncounted (codes "ADL1")) full_marks (powers ∷ []) 0 (false ∷ true ∷ false ∷ false ∷ []) (false ∷ false ∷ true ∷ false ∷ []) → ⊥
unfolding int_wrap most_tests
uncounted_fails =
    differ full_marks (powers ∷ []) 0 (false ∷ true ∷ false ∷ false ∷ []) (false ∷ false ∷ true ∷ false ∷ []) (faulty_program (uncounted (codes "ADL1")) full_marks (powers ∷ []) 0 (false ∷ true ∷ false ∷ false ∷ []) (false ∷ false ∷ true ∷ false ∷ [])) powers (adjoint_in (powers ∷ []) powers (faulty_program (uncounted (codes "ADL1")) full_marks (powers ∷ []) 0 (false ∷ true ∷ false ∷ false ∷ []) (false ∷ false ∷ true ∷ false ∷ []))) refl refl
    (tried (powers ∷ []) powers (false ∷ true ∷ false ∷ false ∷ []) (pos 2 ∷ pos 3 ∷ pos 1 ∷ pos 0 ∷ []) (pos 0 ∷ pos 0 ∷ pos 1 ∷ pos 0 ∷ []) 90 refl refl refl)
    (λ h. h) (λ h. h) (differ_words 0 6 refl)

-- the adjoint is entered with 9 in place of 3: 18, where the tangent is 6
pub unsnapped_fails : Serve unsnapped full_marks (squaring ∷ caller ∷ []) 1 (true ∷ []) (true ∷ []) → ⊥
unfolding int_wrap
unsnapped_fails =
    differ full_marks (squaring ∷ caller ∷ []) 1 (true ∷ []) (true ∷ []) (faulty_program unsnapped full_marks (squaring ∷ caller ∷ []) 1 (true ∷ []) (true ∷ [])) caller (adjoint_in (squaring ∷ caller ∷ []) caller (faulty_program unsnapped full_marks (squaring ∷ caller ∷ []) 1 (true ∷ []) (true ∷ []))) refl refl
    (tried (squaring ∷ caller ∷ []) caller (true ∷ []) (pos 3 ∷ []) (pos 1 ∷ []) 80 refl refl refl)
    (λ h. h) (λ h. h) (differ_words 18 6 refl)

-- the adjoint of S leaves 4 in X, where 3 was saved: 8, where the tangent is 6
pub popped_before_fails : Serve popped_before sparing (raising ∷ calls_after ∷ []) 1 (true ∷ false ∷ []) (false ∷ true ∷ []) → ⊥
unfolding int_wrap
popped_before_fails =
    differ sparing (raising ∷ calls_after ∷ []) 1 (true ∷ false ∷ []) (false ∷ true ∷ []) (faulty_program popped_before sparing (raising ∷ calls_after ∷ []) 1 (true ∷ false ∷ []) (false ∷ true ∷ [])) calls_after (adjoint_in (raising ∷ calls_after ∷ []) calls_after (faulty_program popped_before sparing (raising ∷ calls_after ∷ []) 1 (true ∷ false ∷ []) (false ∷ true ∷ []))) refl refl
    (tried (raising ∷ calls_after ∷ []) calls_after (true ∷ false ∷ []) (pos 3 ∷ pos 0 ∷ []) (pos 0 ∷ pos 1 ∷ []) 80 refl refl refl)
    (λ h. h) (λ h. h) (differ_words 8 6 refl)

-- at N=0 the exponent falls to -1, which traps
pub unguarded_fails : Serve unguarded full_marks (power ∷ []) 0 (true ∷ false ∷ false ∷ []) (false ∷ false ∷ true ∷ []) → ⊥
unfolding int_wrap
unguarded_fails =
    stuck full_marks (power ∷ []) 0 (true ∷ false ∷ false ∷ []) (false ∷ false ∷ true ∷ []) (faulty_program unguarded full_marks (power ∷ []) 0 (true ∷ false ∷ false ∷ []) (false ∷ false ∷ true ∷ [])) power (adjoint_in (power ∷ []) power (faulty_program unguarded full_marks (power ∷ []) 0 (true ∷ false ∷ false ∷ []) (false ∷ false ∷ true ∷ []))) refl refl (tried (power ∷ []) power (true ∷ false ∷ false ∷ []) (pos 3 ∷ pos 0 ∷ pos 0 ∷ []) (pos 0 ∷ pos 0 ∷ pos 1 ∷ []) 80 refl refl refl) (λ h. h) refl

-- ---- by marks that break a law

-- both adjoints read 16: 1024, where the tangent is 32
pub value_unsaved_fails : Fail saving_nothing (fourth ∷ []) 0 (true ∷ []) (true ∷ [])
unfolding int_wrap
value_unsaved_fails =
    differ saving_nothing (fourth ∷ []) 0 (true ∷ []) (true ∷ []) (emitted_program saving_nothing (fourth ∷ []) 0 (true ∷ []) (true ∷ [])) fourth (adjoint_in (fourth ∷ []) fourth (emitted_program saving_nothing (fourth ∷ []) 0 (true ∷ []) (true ∷ []))) refl refl
    (tried (fourth ∷ []) fourth (true ∷ []) (pos 2 ∷ []) (pos 1 ∷ []) 60 refl refl refl)
    (λ h. h) (λ h. h) (differ_words 1024 32 refl)

-- both adjoints read 2: 16, where the tangent is 32
pub assignment_unkept_fails : Fail keeping_nothing (fourth ∷ []) 0 (true ∷ []) (true ∷ [])
unfolding int_wrap
assignment_unkept_fails =
    differ keeping_nothing (fourth ∷ []) 0 (true ∷ []) (true ∷ []) (emitted_program keeping_nothing (fourth ∷ []) 0 (true ∷ []) (true ∷ [])) fourth (adjoint_in (fourth ∷ []) fourth (emitted_program keeping_nothing (fourth ∷ []) 0 (true ∷ []) (true ∷ []))) refl refl
    (tried (fourth ∷ []) fourth (true ∷ []) (pos 2 ∷ []) (pos 1 ∷ []) 60 refl refl refl)
    (λ h. h) (λ h. h) (differ_words 16 32 refl)

-- the first assignment has I as in the first turn: 3, where the tangent is 7
pub variable_unsaved_fails : Fail unsaved (scaled ∷ []) 0 (true ∷ false ∷ false ∷ []) (false ∷ true ∷ false ∷ [])
unfolding int_wrap
variable_unsaved_fails =
    differ unsaved (scaled ∷ []) 0 (true ∷ false ∷ false ∷ []) (false ∷ true ∷ false ∷ []) (emitted_program unsaved (scaled ∷ []) 0 (true ∷ false ∷ false ∷ []) (false ∷ true ∷ false ∷ [])) scaled (adjoint_in (scaled ∷ []) scaled (emitted_program unsaved (scaled ∷ []) 0 (true ∷ false ∷ false ∷ []) (false ∷ true ∷ false ∷ []))) refl refl
    (tried (scaled ∷ []) scaled (true ∷ false ∷ false ∷ []) (pos 3 ∷ pos 0 ∷ pos 5 ∷ []) (pos 0 ∷ pos 1 ∷ pos 0 ∷ []) 90 refl refl refl)
    (λ h. h) (λ h. h) (differ_words 3 7 refl)

-- the shadow of I has what both turns added: 2, where the tangent is 0
pub variable_unvaried_fails : Fail unvaried (growing ∷ []) 0 (false ∷ true ∷ []) (true ∷ false ∷ [])
unfolding int_wrap
variable_unvaried_fails =
    differ unvaried (growing ∷ []) 0 (false ∷ true ∷ []) (true ∷ false ∷ []) (emitted_program unvaried (growing ∷ []) 0 (false ∷ true ∷ []) (true ∷ false ∷ [])) growing (adjoint_in (growing ∷ []) growing (emitted_program unvaried (growing ∷ []) 0 (false ∷ true ∷ []) (true ∷ false ∷ []))) refl refl
    (tried (growing ∷ []) growing (false ∷ true ∷ []) (pos 0 ∷ pos 5 ∷ []) (pos 1 ∷ pos 0 ∷ []) 80 refl refl refl)
    (λ h. h) (λ h. h) (differ_words 2 0 refl)

-- the adjoint is entered with 9 in place of 3: 18, where the tangent is 6
pub memberless_fails : Fail memberless (squaring ∷ caller ∷ []) 1 (true ∷ []) (true ∷ [])
unfolding int_wrap
memberless_fails =
    differ memberless (squaring ∷ caller ∷ []) 1 (true ∷ []) (true ∷ []) (emitted_program memberless (squaring ∷ caller ∷ []) 1 (true ∷ []) (true ∷ [])) caller (adjoint_in (squaring ∷ caller ∷ []) caller (emitted_program memberless (squaring ∷ caller ∷ []) 1 (true ∷ []) (true ∷ []))) refl refl
    (tried (squaring ∷ caller ∷ []) caller (true ∷ []) (pos 3 ∷ []) (pos 1 ∷ []) 80 refl refl refl)
    (λ h. h) (λ h. h) (differ_words 18 6 refl)

-- the shadow goes through no adjoint: 1, where the tangent is 6
pub call_unadjointed_fails : Fail unadjointed (squaring ∷ caller ∷ []) 1 (true ∷ []) (true ∷ [])
unfolding int_wrap
call_unadjointed_fails =
    differ unadjointed (squaring ∷ caller ∷ []) 1 (true ∷ []) (true ∷ []) (emitted_program unadjointed (squaring ∷ caller ∷ []) 1 (true ∷ []) (true ∷ [])) caller (adjoint_in (squaring ∷ caller ∷ []) caller (emitted_program unadjointed (squaring ∷ caller ∷ []) 1 (true ∷ []) (true ∷ []))) refl refl
    (tried (squaring ∷ caller ∷ []) caller (true ∷ []) (pos 3 ∷ []) (pos 1 ∷ []) 80 refl refl refl)
    (λ h. h) (λ h. h) (differ_words 1 6 refl)

-- Y is taken from 3 in place of 9: 36, where the tangent is 108
pub call_unkept_fails : Fail unkept (squaring ∷ calls_before ∷ []) 1 (true ∷ false ∷ []) (false ∷ true ∷ [])
unfolding int_wrap
call_unkept_fails =
    differ unkept (squaring ∷ calls_before ∷ []) 1 (true ∷ false ∷ []) (false ∷ true ∷ []) (emitted_program unkept (squaring ∷ calls_before ∷ []) 1 (true ∷ false ∷ []) (false ∷ true ∷ [])) calls_before (adjoint_in (squaring ∷ calls_before ∷ []) calls_before (emitted_program unkept (squaring ∷ calls_before ∷ []) 1 (true ∷ false ∷ []) (false ∷ true ∷ []))) refl refl
    (tried (squaring ∷ calls_before ∷ []) calls_before (true ∷ false ∷ []) (pos 3 ∷ pos 0 ∷ []) (pos 0 ∷ pos 1 ∷ []) 80 refl refl refl)
    (λ h. h) (λ h. h) (differ_words 36 108 refl)

-- the adjoint of S leaves 4 in X, where 3 was: 8, where the tangent is 6
pub call_unsaved_fails : Fail unsaved_call (raising ∷ calls_after ∷ []) 1 (true ∷ false ∷ []) (false ∷ true ∷ [])
unfolding int_wrap
call_unsaved_fails =
    differ unsaved_call (raising ∷ calls_after ∷ []) 1 (true ∷ false ∷ []) (false ∷ true ∷ []) (emitted_program unsaved_call (raising ∷ calls_after ∷ []) 1 (true ∷ false ∷ []) (false ∷ true ∷ [])) calls_after (adjoint_in (raising ∷ calls_after ∷ []) calls_after (emitted_program unsaved_call (raising ∷ calls_after ∷ []) 1 (true ∷ false ∷ []) (false ∷ true ∷ []))) refl refl
    (tried (raising ∷ calls_after ∷ []) calls_after (true ∷ false ∷ []) (pos 3 ∷ pos 0 ∷ []) (pos 0 ∷ pos 1 ∷ []) 80 refl refl refl)
    (λ h. h) (λ h. h) (differ_words 8 6 refl)

-- no part has an adjoint: 0, where the tangent is 1
pub branch_left_out_fails : Fail left_out (branch ∷ []) 0 (true ∷ false ∷ []) (false ∷ true ∷ [])
unfolding int_wrap
branch_left_out_fails =
    differ left_out (branch ∷ []) 0 (true ∷ false ∷ []) (false ∷ true ∷ []) (emitted_program left_out (branch ∷ []) 0 (true ∷ false ∷ []) (false ∷ true ∷ [])) branch (adjoint_in (branch ∷ []) branch (emitted_program left_out (branch ∷ []) 0 (true ∷ false ∷ []) (false ∷ true ∷ []))) refl refl
    (tried (branch ∷ []) branch (true ∷ false ∷ []) (pos 3 ∷ pos 5 ∷ []) (pos 0 ∷ pos 1 ∷ []) 80 refl refl refl)
    (λ h. h) (λ h. h) (differ_words 0 1 refl)
