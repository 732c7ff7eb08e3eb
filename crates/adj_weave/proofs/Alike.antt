-- What is emitted for a unit is the same by marks that say the same of it.
use Rattle.std.proofs.Common.{◌≡◌, ℕ, suc, List, [], ◌∷◌, ◌++◌, Bool, true, false, refl, sym, ap, ◌∙◌, subst, if◌then◌else◌}
use Rattle.std.specs.Prelude.{◌&&◌, ◌||◌, ◌==◌, not, max, Option, Some, None}
use Rattle.adj_tree.specs.Code.{plain, shadow, helper, Role, work, temp, control, first, stride, count, turn, entry, entries, kind, lower, upper, slots, none, Term, Mark, unmarked, with_count, count_from, Act, assign, choose, loop, during, call, runtime, push_word, pop_word, zero_array, Code, stop, step}
use Rattle.def_meaning.specs.Append.{◌+++◌, one}
use Rattle.def_names.specs.Numbers.{Vars, next, behind}
use Rattle.def_sweep.specs.Marks.{Marks}
use Rattle.def_sweep.specs.Marked.{code_if}
use Rattle.def_sweep.specs.Declared.{helpers_from}
use Rattle.def_sweep.specs.AdjointOf.{adjoint_where, works_in_where, temps_in_where}
use Rattle.def_sweep.specs.Plan.{Callee, Plan, names_of, actuals_named, found_or, group, snapshot_group, step_snapshot, Schedules, Step, step_in, reversed_by}
use Rattle.def_sweep.specs.Rows.{is_empty, push, pop, pushes, pops, literal, told_forward, told_backward, loop_forward, loop_backward, while_forward, while_backward, with_shadows, adjoint_call}
use Rattle.def_sweep.specs.SplitRows.{forth_body, back_body}
use Rattle.def_sweep.specs.Emission.{forward_act_with, forward_with, backward_act_with, backward_with, cleared, adjoint_body_with}
use Rattle.def_sweep.specs.ReversalCode.{reversed_forward, reversed_backward, row_forward, row_backward}
use Rattle.def_sweep.specs.Program.{works_act, works_used, temps_act, temps_used, depth_act_with, depth_used_with, tells_act_with, tells_some_with, goes_back_act_with, goes_back_with, any_step, has_slots, reverses_act_by, reverses_by, is_do, is_loop, helpers_among, loop_helpers_with, reversal_helpers, all_reversal_helpers, helpers_used_with, forth_slots, helpers_forth}
use Rattle.adj_weave.specs.Alike.{AreSameAt, AreSameIn, AreSameOver}

module _ (m n : Marks) (shadows : m.shadowed ≡ n.shadowed) where
  -- ---- work variables and temporaries

  mutual
    works_act_same : (i : ℕ) (a : Act) → AreSameAt m n i → AreSameIn m n i a → works_act m i a ≡ works_act n i a
    works_act_same i (assign x subs e) s h = λ j. if s.adjointed j then works_in_where (λ v. s.varied j v && shadows j v) e 1 else 0
    works_act_same i (choose c a b) s h = λ j. max (works_same (suc i) a h.0 j) (works_same (behind (suc i) a) b h.1 j)
    works_act_same i (loop x a b c body k) s h = works_same (suc i) body h
    works_act_same i (during c body) s h = works_same (suc i) body h
    works_act_same i (call name args) s h = refl
    works_act_same i (runtime r) s h = refl

    works_same : (i : ℕ) (c : Code) → AreSameOver m n i c → works_used m i c ≡ works_used n i c
    works_same i stop h = refl
    works_same i (step line a rest) h = λ j. max (works_act_same i a h.0 h.1 j) (works_same (next i a) rest h.2 j)

  mutual
    temps_act_same : (i : ℕ) (a : Act) → AreSameAt m n i → AreSameIn m n i a → temps_act m i a ≡ temps_act n i a
    temps_act_same i (assign x subs e) s h = λ j. if s.adjointed j then temps_in_where (λ v. s.varied j v && shadows j v) e else 0
    temps_act_same i (choose c a b) s h = λ j. max (temps_same (suc i) a h.0 j) (temps_same (behind (suc i) a) b h.1 j)
    temps_act_same i (loop x a b c body k) s h = temps_same (suc i) body h
    temps_act_same i (during c body) s h = temps_same (suc i) body h
    temps_act_same i (call name args) s h = refl
    temps_act_same i (runtime r) s h = refl

    temps_same : (i : ℕ) (c : Code) → AreSameOver m n i c → temps_used m i c ≡ temps_used n i c
    temps_same i stop h = refl
    temps_same i (step line a rest) h = λ j. max (temps_act_same i a h.0 h.1 j) (temps_same (next i a) rest h.2 j)

  module _ (sc : Schedules) (arrays : Vars) (callees : List ℕ → Callee) where
    abbrev p : Plan
    p = record { marks = m; arrays = arrays; callees = callees }

    abbrev q : Plan
    q = record { marks = n; arrays = arrays; callees = callees }

    -- ---- the sweeps

    pushes_same : (line : ℕ) (xs : List (List ℕ)) → pushes p line xs ≡ pushes q line xs
    pushes_same line [] = refl
    pushes_same line (x ∷ xs) = ap (λ c. push p line x +++ c) (pushes_same line xs)

    pops_same : (line : ℕ) (xs : List (List ℕ)) → pops p line xs ≡ pops q line xs
    pops_same line [] = refl
    pops_same line (x ∷ xs) = ap (λ c. c +++ pop p line x) (pops_same line xs)

    -- ---- loops that are reversed by schedules

    none_in : (f : ℕ → Bool) (i : ℕ) (k : Mark) → reversed_by sc f i stop k ≡ None
    none_in f i k = go sc k
      where
        neither : (b : Bool) (o : Option Step) → (if b then o else o) ≡ o
        neither true o = refl
        neither false o = refl

        go : (z : Schedules) (k : Mark) → reversed_by z f i stop k ≡ None
        go None k = refl
        go (Some reads) unmarked = refl
        go (Some reads) (with_count e) = neither (f (suc i)) None
        go (Some reads) (count_from x) = neither (f (suc i)) None

    reversed_at : (f g : ℕ → Bool) (i : ℕ) (body : Code) (k : Mark) → f (suc i) ≡ g (suc i) → reversed_by sc f i body k ≡ reversed_by sc g i body k
    reversed_at f g i body k e = go sc k
      where
        go : (z : Schedules) (k : Mark) → reversed_by z f i body k ≡ reversed_by z g i body k
        go None k = refl
        go (Some reads) unmarked = refl
        go (Some reads) (with_count c) = ap (λ b. if b then step_in reads (with_count c) body else None) e
        go (Some reads) (count_from x) = ap (λ b. if b then step_in reads (count_from x) body else None) e

    reversed_same : (i : ℕ) (body : Code) (k : Mark) → AreSameOver m n (suc i) body → reversed_by sc m.adjointed i body k ≡ reversed_by sc n.adjointed i body k
    reversed_same i stop k h = none_in m.adjointed i k ∙ sym (none_in n.adjointed i k)
    reversed_same i (step line a rest) k h = reversed_at m.adjointed n.adjointed i (step line a rest) k h.0.adjointed

    row_forward_same : (i d line : ℕ) (x : List ℕ) (a b c : Term) (t : Step) → AreSameAt m n i → m.kept (suc i) ≡ n.kept (suc i) → row_forward p i d line x a b c t ≡ row_forward q i d line x a b c t
    row_forward_same i d line x a b c t s kept =
        let g = callees t.name in
        let snapshot = pushes_same line (step_snapshot g t.read t.given) in
        λ j. reversed_forward d line (plain x) a b c t.mark (pushes_same line (group g.written (s.saved j) g.dummies t.given) j) (snapshot j) (code_if (kept j) (one line (call t.name (actuals_named t.given))))

    row_backward_same : (i d line : ℕ) (x : List ℕ) (t : Step) → AreSameAt m n i → row_backward p i d line x t ≡ row_backward q i d line x t
    row_backward_same i d line x t s =
        let g = callees t.name in
        let keep = pushes_same line (step_snapshot g t.read t.given) in
        let back = pops_same line (step_snapshot g t.read t.given) in
        λ j. reversed_backward d line (plain x) t.mark (keep j) (back j) (pops_same line (group g.written (s.saved j) g.dummies t.given) j) (one line (call t.name (actuals_named t.given))) (one line (adjoint_call g t.given))

    loop_forth : (i d line : ℕ) (x : List ℕ) (a b c : Term) (body : Code) (k : Mark) (y z : Code) → AreSameAt m n i → AreSameOver m n (suc i) body → y ≡ z →
        found_or (reversed_by sc m.adjointed i body k) y (λ t. row_forward p i d line x a b c t) ≡ found_or (reversed_by sc n.adjointed i body k) z (λ t. row_forward q i d line x a b c t)
    loop_forth i d line x a b c stop k y z s h e =
        ap (λ o. found_or o y (λ t. row_forward p i d line x a b c t)) (none_in m.adjointed i k) ∙ e ∙ ap (λ o. found_or o z (λ t. row_forward q i d line x a b c t)) (sym (none_in n.adjointed i k))
    loop_forth i d line x a b c (step l act rest) k y z s h e =
        λ j. found_or (reversed_same i (step l act rest) k h j) (e j) (λ t. row_forward_same i d line x a b c t s h.0.kept j)

    loop_back : (i d line : ℕ) (x : List ℕ) (body : Code) (k : Mark) (y z : Code) → AreSameAt m n i → AreSameOver m n (suc i) body → y ≡ z →
        found_or (reversed_by sc m.adjointed i body k) y (λ t. row_backward p i d line x t) ≡ found_or (reversed_by sc n.adjointed i body k) z (λ t. row_backward q i d line x t)
    loop_back i d line x body k y z s h e = λ j. found_or (reversed_same i body k h j) (e j) (λ t. row_backward_same i d line x t s j)

    -- ---- sweeps

    mutual
      backward_act_same : (i d line : ℕ) (a : Act) → AreSameAt m n i → AreSameIn m n i a → backward_act_with sc p i d line a ≡ backward_act_with sc q i d line a
      backward_act_same i d line (assign (plain x) subs e) s h =
          λ j. code_if (s.kept j && s.saved j (plain x)) (one line (runtime (pop_word (plain x) subs))) +++ code_if (s.adjointed j) (adjoint_where (λ v. s.varied j v && shadows j v) x subs e line)
      backward_act_same i d line (assign (shadow x) subs e) s h = refl
      backward_act_same i d line (assign (helper r k) subs e) s h = refl
      backward_act_same i d line (choose c a b) s h =
          let one = backward_same (suc i) d a h.0 in
          let other = backward_same (behind (suc i) a) d b h.1 in
          λ j. code_if (s.kept j || s.adjointed j) (told_backward (is_empty (one j) && is_empty (other j)) line (one j) (other j))
      backward_act_same i d line (loop (plain x) a b c body k) s h =
          let inside = backward_same (suc i) (suc d) body h in
          let turns = loop_back i (suc d) line x body k (loop_backward (is_empty (backward_with sc p (suc i) (suc d) body)) (suc d) line (plain x) (backward_with sc p (suc i) (suc d) body)) (loop_backward (is_empty (backward_with sc q (suc i) (suc d) body)) (suc d) line (plain x) (backward_with sc q (suc i) (suc d) body)) s h
          (λ j. loop_backward (is_empty (inside j)) (suc d) line (plain x) (inside j)) in
          λ j. code_if (s.kept j || s.adjointed j)
          (turns j
          +++ (code_if (s.saved j (plain x)) (one line (runtime (pop_word (plain x) none)))
          +++ code_if (shadows j (plain x) && s.varied j (plain x)) (one line (assign (shadow x) none (literal 0)))))
      backward_act_same i d line (loop (shadow x) a b c body k) s h = refl
      backward_act_same i d line (loop (helper r e) a b c body k) s h = refl
      backward_act_same i d line (during c body) s h =
          let inside = backward_same (suc i) (suc d) body h in
          λ j. code_if (s.kept j || s.adjointed j) (while_backward (is_empty (inside j)) (suc d) line (inside j))
      backward_act_same i d line (call name args) s h =
          let g = callees name in
          let given = names_of args in
          let snapshot = pops_same line (snapshot_group g given) in
          λ j. code_if (s.kept j || s.adjointed j)
          (if s.split j then one line (call g.back (with_shadows g.shadowed g.dummies given))
          else code_if (s.adjointed j) (snapshot j +++ one line (adjoint_call g given))
          +++ pops_same line (group g.written (s.saved j) g.dummies given) j)
      backward_act_same i d line (runtime r) s h = refl

      backward_same : (i d : ℕ) (c : Code) → AreSameOver m n i c → backward_with sc p i d c ≡ backward_with sc q i d c
      backward_same i d stop h = refl
      backward_same i d (step line a rest) h = λ j. backward_same (next i a) d rest h.2 j +++ backward_act_same i d line a h.0 h.1 j

    mutual
      forward_act_same : (i d line : ℕ) (a : Act) → AreSameAt m n i → AreSameIn m n i a → forward_act_with sc p i d line a ≡ forward_act_with sc q i d line a
      forward_act_same i d line (assign (plain x) subs e) s h =
          λ j. code_if (s.kept j) (code_if (s.saved j (plain x)) (one line (runtime (push_word (plain x) subs))) +++ one line (assign (plain x) subs e))
      forward_act_same i d line (assign (shadow x) subs e) s h = refl
      forward_act_same i d line (assign (helper r k) subs e) s h = refl
      forward_act_same i d line (choose c a b) s h =
          let one_back = backward_same (suc i) d a h.0 in
          let other_back = backward_same (behind (suc i) a) d b h.1 in
          let one_forth = forward_same (suc i) d a h.0 in
          let other_forth = forward_same (behind (suc i) a) d b h.1 in
          λ j. code_if (s.kept j || s.adjointed j)
          (one line (choose c (told_forward (is_empty (one_back j) && is_empty (other_back j)) line (one_forth j) 1) (told_forward (is_empty (one_back j) && is_empty (other_back j)) line (other_forth j) 0)))
      forward_act_same i d line (loop (plain x) a b c body k) s h =
          let back = backward_same (suc i) (suc d) body h in
          let forth = forward_same (suc i) (suc d) body h in
          let turns = loop_forth i (suc d) line x a b c body k (loop_forward (is_empty (backward_with sc p (suc i) (suc d) body)) (suc d) line (plain x) a b c (forward_with sc p (suc i) (suc d) body)) (loop_forward (is_empty (backward_with sc q (suc i) (suc d) body)) (suc d) line (plain x) a b c (forward_with sc q (suc i) (suc d) body)) s h
          (λ j. loop_forward (is_empty (back j)) (suc d) line (plain x) a b c (forth j)) in
          λ j. code_if (s.kept j || s.adjointed j)
          (code_if (s.saved j (plain x)) (one line (runtime (push_word (plain x) none)))
          +++ turns j)
      forward_act_same i d line (loop (shadow x) a b c body k) s h = refl
      forward_act_same i d line (loop (helper r e) a b c body k) s h = refl
      forward_act_same i d line (during c body) s h =
          let back = backward_same (suc i) (suc d) body h in
          let forth = forward_same (suc i) (suc d) body h in
          λ j. code_if (s.kept j || s.adjointed j) (while_forward (is_empty (back j)) (suc d) line c (forth j))
      forward_act_same i d line (call name args) s h =
          let g = callees name in
          let given = names_of args in
          let snapshot = pushes_same line (snapshot_group g given) in
          λ j. code_if (s.kept j || s.adjointed j)
          (if s.split j then one line (call g.forth args)
          else pushes_same line (group g.written (s.saved j) g.dummies given) j
          +++ (code_if (s.adjointed j) (snapshot j)
          +++ code_if (s.kept j) (one line (call name args))))
      forward_act_same i d line (runtime r) s h = refl

      forward_same : (i d : ℕ) (c : Code) → AreSameOver m n i c → forward_with sc p i d c ≡ forward_with sc q i d c
      forward_same i d stop h = refl
      forward_same i d (step line a rest) h = λ j. forward_act_same i d line a h.0 h.1 j +++ forward_same (next i a) d rest h.2 j

    cleared_same : (line : ℕ) (xs : List (List ℕ)) → cleared p line xs ≡ cleared q line xs
    cleared_same line [] = refl
    cleared_same line (x ∷ xs) = ap (λ c. (if arrays (plain x) then one line (runtime (zero_array (shadow x))) else one line (assign (shadow x) none (literal 0))) +++ c) (cleared_same line xs)

    -- ---- what loops and branches use

    mutual
      depth_act_same : (i d : ℕ) (a : Act) → AreSameIn m n i a → depth_act_with sc p i d a ≡ depth_act_with sc q i d a
      depth_act_same i d (assign x subs e) h = refl
      depth_act_same i d (choose c a b) h = λ j. max (depth_same (suc i) d a h.0 j) (depth_same (behind (suc i) a) d b h.1 j)
      depth_act_same i d (loop x a b c body k) h = λ j. found_or (reversed_same i body k h j) (if is_empty (backward_same (suc i) (suc d) body h j) then 0 else max (suc d) (depth_same (suc i) (suc d) body h j)) (λ t. suc d)
      depth_act_same i d (during c body) h = λ j. if is_empty (backward_same (suc i) (suc d) body h j) then 0 else max (suc d) (depth_same (suc i) (suc d) body h j)
      depth_act_same i d (call name args) h = refl
      depth_act_same i d (runtime r) h = refl

      depth_same : (i d : ℕ) (c : Code) → AreSameOver m n i c → depth_used_with sc p i d c ≡ depth_used_with sc q i d c
      depth_same i d stop h = refl
      depth_same i d (step line a rest) h = λ j. max (depth_act_same i d a h.1 j) (depth_same (next i a) d rest h.2 j)

    mutual
      tells_act_same : (i d : ℕ) (a : Act) → AreSameIn m n i a → tells_act_with sc p i d a ≡ tells_act_with sc q i d a
      tells_act_same i d (assign x subs e) h = refl
      tells_act_same i d (choose c a b) h = λ j. not (is_empty (backward_same (suc i) d a h.0 j) && is_empty (backward_same (behind (suc i) a) d b h.1 j))
      tells_act_same i d (loop x a b c body k) h = tells_same (suc i) (suc d) body h
      tells_act_same i d (during c body) h = tells_same (suc i) (suc d) body h
      tells_act_same i d (call name args) h = refl
      tells_act_same i d (runtime r) h = refl

      tells_same : (i d : ℕ) (c : Code) → AreSameOver m n i c → tells_some_with sc p i d c ≡ tells_some_with sc q i d c
      tells_same i d stop h = refl
      tells_same i d (step line a rest) h = λ j. tells_act_same i d a h.1 j || tells_same (next i a) d rest h.2 j

    module _ (sort : Act → Bool) (depth : ℕ) where
      mutual
        goes_act_same : (i d : ℕ) (a : Act) → AreSameIn m n i a → goes_back_act_with sc sort depth p i d a ≡ goes_back_act_with sc sort depth q i d a
        goes_act_same i d (assign x subs e) h = refl
        goes_act_same i d (choose c a b) h = λ j. goes_same (suc i) d a h.0 j || goes_same (behind (suc i) a) d b h.1 j
        goes_act_same i d (loop x a b c body k) h =
            λ j. found_or (reversed_same i body k h j) ((sort (loop x a b c body k) && ((depth == suc d) && not (is_empty (backward_same (suc i) (suc d) body h j)))) || goes_same (suc i) (suc d) body h j) (λ t. sort (loop x a b c body k) && (depth == suc d))
        goes_act_same i d (during c body) h =
            λ j. (sort (during c body) && ((depth == suc d) && not (is_empty (backward_same (suc i) (suc d) body h j)))) || goes_same (suc i) (suc d) body h j
        goes_act_same i d (call name args) h = refl
        goes_act_same i d (runtime r) h = refl

        goes_same : (i d : ℕ) (c : Code) → AreSameOver m n i c → goes_back_with sc sort depth p i d c ≡ goes_back_with sc sort depth q i d c
        goes_same i d stop h = refl
        goes_same i d (step line a rest) h = λ j. goes_act_same i d a h.1 j || goes_same (next i a) d rest h.2 j

    loops_same : (sort : Act → Bool) (r : Role) (i : ℕ) (c : Code) → AreSameOver m n i c → loop_helpers_with sc sort r p i c ≡ loop_helpers_with sc sort r q i c
    loops_same sort r i c h = λ j. helpers_among (λ k. goes_same sort k i 0 c h j) r 1 (depth_same i 0 c h j)

    module _ (sort : Step → Bool) (depth : ℕ) where
      mutual
        reverses_act_same : (i d : ℕ) (a : Act) → AreSameIn m n i a → reverses_act_by sc sort depth p i d a ≡ reverses_act_by sc sort depth q i d a
        reverses_act_same i d (assign x subs e) h = refl
        reverses_act_same i d (choose c a b) h = λ j. reverses_same (suc i) d a h.0 j || reverses_same (behind (suc i) a) d b h.1 j
        reverses_act_same i d (loop x a b c body k) h = λ j. found_or (reversed_same i body k h j) (reverses_same (suc i) (suc d) body h j) (λ t. sort t && (depth == suc d))
        reverses_act_same i d (during c body) h = reverses_same (suc i) (suc d) body h
        reverses_act_same i d (call name args) h = refl
        reverses_act_same i d (runtime r) h = refl

        reverses_same : (i d : ℕ) (c : Code) → AreSameOver m n i c → reverses_by sc sort depth p i d c ≡ reverses_by sc sort depth q i d c
        reverses_same i d stop h = refl
        reverses_same i d (step line a rest) h = λ j. reverses_act_same i d a h.1 j || reverses_same (next i a) d rest h.2 j

    reversals_same : (sort : Step → Bool) (r : Role) (i : ℕ) (c : Code) → AreSameOver m n i c → reversal_helpers sc sort r p i c ≡ reversal_helpers sc sort r q i c
    reversals_same sort r i c h = λ j. helpers_among (λ k. reverses_same sort k i 0 c h j) r 1 (depth_same i 0 c h j)

    all_reversals_same : (i : ℕ) (c : Code) → AreSameOver m n i c → all_reversal_helpers sc p i c ≡ all_reversal_helpers sc q i c
    all_reversals_same i c h = go sc refl
      where
        go : (z : Schedules) → sc ≡ z → all_reversal_helpers z p i c ≡ all_reversal_helpers z q i c
        go None e = refl
        go (Some reads) e =
            let same = λ (sort : Step → Bool) (o : Role). subst (λ z. reversal_helpers z sort o p i c ≡ reversal_helpers z sort o q i c) e (reversals_same sort o i c h) in
            λ j. same any_step entry j ++ (same any_step entries j ++ (same any_step kind j ++ (same any_step lower j ++ (same any_step upper j ++ same has_slots slots j))))

    -- ---- what is emitted

    pub helpers_same : (i : ℕ) (c : Code) → AreSameOver m n i c → helpers_used_with sc p i c ≡ helpers_used_with sc q i c
    helpers_same i c h =
        λ j. (if tells_same i 0 c h j then helper control 0 ∷ [] else [])
        ++ (loops_same is_loop count i c h j ++ (loops_same is_do first i c h j ++ (loops_same is_do stride i c h j ++ (loops_same is_loop turn i c h j
        ++ (all_reversals_same i c h j ++ (helpers_from work 1 (works_same i c h j) ++ helpers_from temp 1 (temps_same i c h j)))))))

    pub alike_body : (i line : ℕ) (c : Code) (at_turn at_end : List (List ℕ)) → AreSameOver m n i c → adjoint_body_with sc p i line c at_turn at_end ≡ adjoint_body_with sc q i line c at_turn at_end
    alike_body i line c at_turn at_end h = λ j. forward_same i 0 c h j +++ (cleared_same line at_turn j +++ (backward_same i 0 c h j +++ cleared_same line at_end j))

    -- of forward and backward units
    slots_same : (i : ℕ) (c : Code) → AreSameOver m n i c → forth_slots sc p i c ≡ forth_slots sc q i c
    slots_same i c h = go sc refl
      where
        go : (z : Schedules) → sc ≡ z → forth_slots z p i c ≡ forth_slots z q i c
        go None e = refl
        go (Some reads) e = subst (λ z. reversal_helpers z has_slots slots p i c ≡ reversal_helpers z has_slots slots q i c) e (reversals_same has_slots slots i c h)

    pub forth_helpers_same : (i : ℕ) (c : Code) → AreSameOver m n i c → helpers_forth sc p i c ≡ helpers_forth sc q i c
    forth_helpers_same i c h = λ j. loops_same is_loop count i c h j ++ (loops_same is_do first i c h j ++ (loops_same is_do stride i c h j ++ slots_same i c h j))

    pub alike_forth : (i line : ℕ) (left : List (List ℕ)) (c : Code) → AreSameOver m n i c → forth_body sc p i line left c ≡ forth_body sc q i line left c
    alike_forth i line left c h = λ j. forward_same i 0 c h j +++ pushes_same line left j

    pub alike_back : (i line : ℕ) (left : List (List ℕ)) (c : Code) → AreSameOver m n i c → back_body sc p i line left c ≡ back_body sc q i line left c
    alike_back i line left c h = λ j. pops_same line left j +++ backward_same i 0 c h j
