-- The sweeps of a list of statements transpose its derivative along each run that is done: one statement after the other.
use Rattle.std.proofs.Common.{◌≡◌, ◌<◌, ◌^◌, ℕ, suc, ◌+◌, Bool, true, false, List, [], ◌∷◌, map, refl, sym, ap, ◌∙◌, subst, arith, if◌then◌else◌}
use Rattle.std.specs.Prelude.{ℤ, pos, not, ◌&&◌, ◌||◌, Ok, Option, Some, None, IsTrue}
use Rattle.adj_tree.specs.Code.{Var, plain, shadow, helper, name_eq, var_eq, Term, Terms, none, Test, Mark, Act, assign, choose, loop, during, call, runtime, push_word, pop_word, Code, stop, step, Procedure}
use Rattle.adj_tree.proofs.Names.{name_refl}
use Rattle.adj_word.specs.Word.{wrap, add, mul}
use Rattle.adj_word.proofs.Counting.{start_step}
use Rattle.def_meaning.specs.Append.{◌+++◌, one}
use Rattle.def_meaning.specs.LeastSet.{Dummies}
use Rattle.def_meaning.specs.Store.{Shape, size_of, Store}
use Rattle.def_meaning.specs.Value.{Setting, value, holds}
use Rattle.def_meaning.specs.Scene.{Scene, Done, then_do}
use Rattle.def_meaning.specs.Run.{Calls, act, run, turns, stepped, with_turn, trips, in_force, after_loop}
use Rattle.def_meaning.specs.Read.{reads_test}
use Rattle.law_meaning.specs.Common.{CallsInside', CallsInside}
use Rattle.def_meaning.specs.Written.{find_unit, is_handed_back, act_writes, writes}
use Rattle.law_meaning.proofs.Inversions.{then_done, value_done, count_done, done_same}
use Rattle.def_names.specs.Numbers.{Vars, next, behind}
use Rattle.def_sweep.specs.Marks.{Marks}
use Rattle.def_names.specs.Numbering.{point_before, point_after}
use Rattle.def_sweep.specs.Marked.{code_if}
use Rattle.def_sweep.specs.Facts.{In, Facts}
use Rattle.def_meaning.specs.Apart.{AreApart}
use Rattle.law_sweep.specs.Pairs.{Key, on_words}
use Rattle.def_names.proofs.Variables.{or_false, and_true}
use Rattle.def_sweep.specs.Plan.{Plan, beside, names_of, save_group, snapshot_group, actuals_named, IsActual, is_emitted, found_or, Schedules, Step, reversed_by, ByStep, writes_actual}
use Rattle.def_sweep.specs.Rows.{pushes, pops, adjoint_call, with_shadows, is_empty, loop_forward, loop_backward, reset}
use Rattle.def_sweep.specs.Emission.{forward_act_with, forward_with, backward_act_with, backward_with}
use Rattle.def_sweep.specs.Callees.{nothing, is_plain', is_plain, CalleeFacts}
use Rattle.law_sweep.specs.Laws.{point_inside, last_point, AssignmentLaws, ChoiceLaws, LoopLaws, CallLaws, SplitLaws, CallLawsBy, ReversedLaws, StepLaws, ActLawsBy, ListLawsBy}
use Rattle.law_sweep.specs.Passing.{plainly}
use Rattle.law_sweep.specs.Cells.{cells_of}
use Rattle.law_sweep.specs.Kernel.{AsMany, AssignmentFits, LoopFits, ReversalFits, CallFits, IsThere, FitsBy, FitsListBy, AllText}
use Rattle.def_sweep.specs.MarkedUnits.{units_of}
use Rattle.law_sweep.proofs.Transposed.{Transposed, transposed_none, transposed_from, transposed_to, transposed_append, transposed_more}
use Rattle.law_sweep.proofs.CallSweeps.{CallTransposed, names_are}
use Rattle.law_sweep.specs.Theorem.{plan_of}
use Rattle.def_sweep.specs.Schedules.{schedules_by}
use Rattle.def_sweep.specs.ReversalCode.{row_forward, row_backward}
use Rattle.law_sweep.proofs.ByStep.{Reversed, step_known}
use Rattle.law_sweep.proofs.StepRuns.{steps_run}
use Rattle.law_sweep.proofs.Slots.{slots_marked, slots_found}
use Rattle.law_sweep.proofs.StepCalls.{AtAnyLine}
use Rattle.law_sweep.proofs.ReversedDone.{transposed_reversed}
use Rattle.law_sweep.proofs.CallStatements.{transposed_call}
use Rattle.def_sweep.specs.SplitRows.{split_forward, split_backward}
use Rattle.law_sweep.proofs.SplitRow.{dummies_in, SplitTransposed, transposed_split}
use Rattle.law_sweep.proofs.Snapshots.{KnowsArrays}
use Rattle.law_sweep.proofs.Choices.{part, transposed_choice}
use Rattle.law_sweep.proofs.Loops.{turning}
use Rattle.law_sweep.proofs.LoopStatements.{looped}
use Rattle.law_sweep.proofs.LoopDone.{transposed_done}
use Rattle.law_sweep.proofs.WhileDone.{transposed_while}
use Rattle.law_sweep.proofs.Cells.{cells_has, cells_apart}
use Rattle.def_sweep.specs.Reversals.{ReversedLines}

-- what an actual that isn't handed back is: no actual of a dummy that is written
pub unwritten_actual : (f : List ℕ → Bool) (x : List ℕ) (ds given : List (List ℕ)) → AsMany ds given → is_handed_back (plain x) (map f ds) (actuals_named given) ≡ false → found_or (beside given ds x) false f ≡ false
unwritten_actual f x [] [] m h = refl
unwritten_actual f x [] (a ∷ given) m h = absurd m
unwritten_actual f x (d ∷ ds) [] m h = absurd m
unwritten_actual f x (d ∷ ds) (a ∷ given) m h = go (name_eq x a) refl (f d) refl (or_false (f d && name_eq x a) (is_handed_back (plain x) (map f ds) (actuals_named given)) h) (unwritten_actual f x ds given m)
  where
    go : (b : Bool) → name_eq x a ≡ b → (t : Bool) → f d ≡ t → ((f d && name_eq x a) ≡ false) × (is_handed_back (plain x) (map f ds) (actuals_named given) ≡ false) → (is_handed_back (plain x) (map f ds) (actuals_named given) ≡ false → found_or (beside given ds x) false f ≡ false) → found_or (if b then Some d else beside given ds x) false f ≡ false
    go true e true t o ih = absurd (let c : true ≡ false = sym (rw (e, t) refl) ∙ o.0 in cc)
    go true e false t o ih = t
    go false e t et o ih = ih o.1

-- what is emitted for a call that isn't split
pub unsplit_there : (split answered paired carried present adjointed kept : Bool) → split ≡ false → IsThere split answered paired carried present adjointed kept → IsThere false answered paired carried present adjointed kept
unsplit_there split a p c r t k h there = subst (λ b. IsThere b a p c r t k) h there

module _ (sb : Bool) (p q : Calls ℤ) (free : AtAnyLine q) (lines : ReversedLines) (qd : Calls (ℤ × ℤ)) (ps : List Procedure) (handed : Dummies) (callees : List ℕ → CalleeFacts) (answers paired carried inside : List ℕ → Bool) (w : Facts) (present : Bool) (vars : List (List ℕ)) (arrays : Vars) (apart : AreApart vars) (sh : Var → Shape) (level : ℕ) (known : KnowsArrays (plan_of callees w arrays) sh)
    -- the units of the program: their names of dummies, what they hand back, and that what is varied and useful at their ends has a shadow
    (own : (name : List ℕ) (u : Procedure) → find_unit ps name ≡ Some u → IsTrue (inside name) → (v : Var) → (callees name).callee.shadowed v ≡ (callees name).facts.marks.shadowed v)
    (dummies_apart : (name : List ℕ) (u : Procedure) → find_unit ps name ≡ Some u → IsTrue (inside name) → AreApart (callees name).callee.dummies)
    (flags : (name : List ℕ) (u : Procedure) → find_unit ps name ≡ Some u → IsTrue (inside name) → handed name ≡ map (λ d. (callees name).callee.written (plain d)) (callees name).callee.dummies)
    (entry_shadows : (name : List ℕ) (u : Procedure) → find_unit ps name ≡ Some u → IsTrue (inside name) → (v : Var) → In v ((callees name).facts.marks.varied (callees name).entry) → In v ((callees name).facts.marks.useful (callees name).entry) → In v (callees name).facts.marks.shadowed)
    (end_shadows : (name : List ℕ) (u : Procedure) → find_unit ps name ≡ Some u → IsTrue (inside name) → (v : Var) → In v ((callees name).facts.marks.varied (callees name).end) → In v ((callees name).facts.marks.useful (callees name).end) → In v (callees name).facts.marks.shadowed)
    -- a run changes nothing that it may not write
    (keeps : (c : Code) (s e : Scene ℤ) (k left : ℕ) → run p (on_words (plainly sh) level) c s k ≡ Done e left → (x : Var) → writes handed x c ≡ false → (j : ℕ) → e.store x j ≡ s.store x j) where
  abbrev plan : Plan
  plan = plan_of callees w arrays

  abbrev sc : Schedules
  sc = schedules_by sb callees

  abbrev np : Setting ℤ
  np = on_words (plainly sh) level

  abbrev xs : List Key
  xs = cells_of sh vars

  abbrev m : Marks
  m = w.marks

  -- a statement that was done
  abbrev ActDone : ℕ → ℕ → ℕ → Act → Scene ℤ → Scene ℤ → Type 0
  ActDone i d line a s e = Transposed q lines qd sh level xs w d present (λ x. act_writes handed x a) (is_plain' m i a) (point_before i) (point_after i) (one line a) (forward_act_with sc plan i d line a) (backward_act_with sc plan i d line a) s.store e.store

  module _
      (calls : (name given : _) (line : ℕ) (s e : Scene ℤ) (k left : ℕ) (kept adjointed : Bool) → IsTrue (inside name) → ((d a : List ℕ) → IsActual (callees name).callee.dummies given d a → In (plain d) (callees name).callee.shadowed → In (plain a) m.shadowed) → CallFits ps vars arrays (callees name) name given → (present ≡ true → adjointed ≡ true → answers name ≡ true) → (present ≡ true → kept ≡ true → carried name ≡ true) → p np name (actuals_named given) line s k ≡ Done e left → CallTransposed q lines qd sh level xs (callees name) given name line kept adjointed present s.store e.store)
      (splits : (name given : _) (line : ℕ) (s e : Scene ℤ) (k left : ℕ) (also : Vars) → IsTrue (inside name) → ((d a : List ℕ) → IsActual (callees name).callee.dummies given d a → In (plain d) (callees name).callee.shadowed → In (plain a) m.shadowed) → CallFits ps vars arrays (callees name) name given → (present ≡ true → paired name ≡ true) → p np name (actuals_named given) line s k ≡ Done e left → SplitTransposed q lines qd sh level xs (callees name) given name line also present s.store e.store)
      (assigns : (x : List ℕ) (subs : Terms) (a : Term) (i d line : ℕ) (s e : Scene ℤ) (k left : ℕ) → AssignmentLaws w i (plain x) subs a → AssignmentFits vars arrays x subs a → act p np (assign (plain x) subs a) line s k ≡ Done e left → ActDone i d line (assign (plain x) subs a) s e) where
    -- the call of a unit
    call_done : (name given : _) (i d line : ℕ) (s e : Scene ℤ) (k left : ℕ) → IsTrue (inside name) → CallLaws w i (callees name) given → CallFits ps vars arrays (callees name) name given → (present ≡ true → m.adjointed i ≡ true → answers name ≡ true) → (present ≡ true → m.kept i ≡ true → carried name ≡ true) → p np name (actuals_named given) line s k ≡ Done e left → m.split i ≡ false → ActDone i d line (call name (actuals_named given)) s e
    call_done name given i d line s e k left ins laws fits t c h is =
        let apart_ds = dummies_apart name fits.unit fits.found ins in
        transposed_more q lines qd sh level xs w d present (writes_actual (callees name).callee given) (λ x. is_handed_back x (handed name) (actuals_named given)) (not (m.adjointed i)) (not (m.adjointed i)) (point_before i) (point_after i) (one line (call name (actuals_named given))) (forward_act_with sc plan i d line (call name (actuals_named given))) (backward_act_with sc plan i d line (call name (actuals_named given))) s.store e.store
        (λ x n. unwritten_actual (λ d. (callees name).callee.written (plain d)) x (callees name).callee.dummies given fits.many (ap (λ ws. is_handed_back (plain x) ws (actuals_named given)) (sym (flags name fits.unit fits.found ins)) ∙ n))
        (λ o. o)
        (transposed_call q lines qd sh level xs w d present callees arrays known i name given laws (own name fits.unit fits.found ins) apart_ds fits.apart (entry_shadows name fits.unit fits.found ins) (end_shadows name fits.unit fits.found ins) line s.store e.store (calls name given line s e k left (m.kept i) (m.adjointed i) ins laws.shadows_actual fits t c h) is sc)

    -- the rows of a call, by whether it is split
    abbrev forth_row : (emitted split : Bool) → ℕ → ℕ → List ℕ → Terms → Code
    forth_row emitted split i line name args =
        let g = (callees name).callee in
        code_if emitted
        (if split then one line (call g.forth args)
        else pushes plan line (save_group m i g (names_of args))
        +++ (code_if (m.adjointed i) (pushes plan line (snapshot_group g (names_of args)))
        +++ code_if (m.kept i) (one line (call name args))))

    abbrev back_row : (emitted split : Bool) → ℕ → ℕ → List ℕ → Terms → Code
    back_row emitted split i line name args =
        let g = (callees name).callee in
        code_if emitted
        (if split then one line (call g.back (with_shadows g.shadowed g.dummies (names_of args)))
        else code_if (m.adjointed i) (pops plan line (snapshot_group g (names_of args)) +++ one line (adjoint_call g (names_of args)))
        +++ pops plan line (save_group m i g (names_of args)))

    -- a call that is split
    split_done : (name given : _) (i d line : ℕ) (s e : Scene ℤ) (k left : ℕ) → IsTrue (inside name) → SplitLaws w i (callees name) given → CallFits ps vars arrays (callees name) name given → (present ≡ true → paired name ≡ true) → p np name (actuals_named given) line s k ≡ Done e left → m.split i ≡ true → ActDone i d line (call name (actuals_named given)) s e
    split_done name given i d line s e k left ins laws fits t h is =
        let apart_ds = dummies_apart name fits.unit fits.found ins in
        let row = transposed_split q lines qd sh level xs d w i (callees name) given apart_ds fits.apart laws name line present s.store e.store
        (splits name given line s e k left (dummies_in (w.needed (point_before i)) (callees name).callee.dummies given) ins laws.call.shadows_actual fits t h)
        (own name fits.unit fits.found ins) (entry_shadows name fits.unit fits.found ins) (end_shadows name fits.unit fits.found ins) in
        let kept : is_emitted m i ≡ true = rw laws.kept refl in
        let forth_is : split_forward (callees name).callee.forth line given ≡ forward_act_with sc plan i d line (call name (actuals_named given)) =
        λ j. forth_row (sym kept j) (sym is j) i line name (actuals_named given) in
        let back_is : split_backward (callees name).callee.back line (callees name).callee given ≡ backward_act_with sc plan i d line (call name (actuals_named given)) =
        ap (λ l. split_backward (callees name).callee.back line (callees name).callee l) (sym (names_are given)) ∙ (λ j. back_row (sym kept j) (sym is j) i line name (actuals_named given)) in
        transposed_more q lines qd sh level xs w d present (writes_actual (callees name).callee given) (λ x. is_handed_back x (handed name) (actuals_named given)) (not (m.adjointed i)) (not (m.adjointed i)) (point_before i) (point_after i) (one line (call name (actuals_named given))) (forward_act_with sc plan i d line (call name (actuals_named given))) (backward_act_with sc plan i d line (call name (actuals_named given))) s.store e.store
        (λ x n. unwritten_actual (λ d. (callees name).callee.written (plain d)) x (callees name).callee.dummies given fits.many (ap (λ ws. is_handed_back (plain x) ws (actuals_named given)) (sym (flags name fits.unit fits.found ins)) ∙ n))
        (λ o. o)
        (subst (λ f. Transposed q lines qd sh level xs w d present (writes_actual (callees name).callee given) (not (m.adjointed i)) (point_before i) (point_after i) (one line (call name (actuals_named given))) f (backward_act_with sc plan i d line (call name (actuals_named given))) s.store e.store) forth_is
        (subst (λ b. Transposed q lines qd sh level xs w d present (writes_actual (callees name).callee given) (not (m.adjointed i)) (point_before i) (point_after i) (one line (call name (actuals_named given))) (split_forward (callees name).callee.forth line given) b s.store e.store) back_is row))

    -- a call, by whether it is split
    call_by : (name given : _) (i d line : ℕ) (s e : Scene ℤ) (k left : ℕ) → IsTrue (inside name) → (b : Bool) → m.split i ≡ b → CallLawsBy b w i (callees name) given → CallFits ps vars arrays (callees name) name given → IsThere b (answers name) (paired name) (carried name) present (m.adjointed i) (m.kept i) → p np name (actuals_named given) line s k ≡ Done e left → ActDone i d line (call name (actuals_named given)) s e
    call_by name given i d line s e k left ins true is laws fits t h = split_done name given i d line s e k left ins laws fits (λ pr. t pr laws.adjointed) h is
    call_by name given i d line s e k left ins false is laws fits t h = call_done name given i d line s e k left ins laws fits t.0 t.1 h is

    same_loop_store : (line n : ℕ) (mark : Option ℕ) (s1 e : Scene ℤ) → after_loop line n mark s1 ≡ e → s1.store ≡ e.store
    same_loop_store line n None s1 e h = ap (λ (z : Scene ℤ). z.store) h
    same_loop_store line n (Some mark) s1 e h = ap (λ (z : Scene ℤ). z.store) h

    -- an IF, by the part that ran
    choice_swept : (c : Test) (a b : Code) (i d line : ℕ) (s e : Scene ℤ) (k left : ℕ) (ran : Bool) → AllText (λ v. reads_test v c) → ChoiceLaws w i c a b → holds np c s.store ≡ Ok ran → (if ran then run p np a s k else run p np b s k) ≡ Done e left →
        (run p np a s k ≡ Done e left → Transposed q lines qd sh level xs w d present (λ x. writes handed x a) (is_plain m (suc i) a) (point_before i) (last_point (point_before i) (suc i) a) a (forward_with sc plan (suc i) d a) (backward_with sc plan (suc i) d a) s.store e.store) →
        (run p np b s k ≡ Done e left → Transposed q lines qd sh level xs w d present (λ x. writes handed x b) (is_plain m (behind (suc i) a) b) (point_before i) (last_point (point_before i) (behind (suc i) a) b) b (forward_with sc plan (behind (suc i) a) d b) (backward_with sc plan (behind (suc i) a) d b) s.store e.store) →
        ActDone i d line (choose c a b) s e
    choice_swept c a b i d line s e k left ran text laws is h first other =
        transposed_choice sc q lines qd sh level xs w d present callees arrays i line c a b laws text ran (λ x. writes handed x a || writes handed x b) (not (m.adjointed i) && (is_plain m (suc i) a && is_plain m (behind (suc i) a) b)) s.store e.store is (go ran h)
      where
        go : (r : Bool) → (if r then run p np a s k else run p np b s k) ≡ Done e left → Transposed q lines qd sh level xs w d present (λ x. writes handed x a || writes handed x b) (not (m.adjointed i) && (is_plain m (suc i) a && is_plain m (behind (suc i) a) b)) (point_before i) (point_after i) (part r a b) (part r (forward_with sc plan (suc i) d a) (forward_with sc plan (behind (suc i) a) d b)) (part r (backward_with sc plan (suc i) d a) (backward_with sc plan (behind (suc i) a) d b)) s.store e.store
        go true h =
            transposed_more q lines qd sh level xs w d present (λ x. writes handed x a) (λ x. writes handed x a || writes handed x b) (is_plain m (suc i) a) (not (m.adjointed i) && (is_plain m (suc i) a && is_plain m (behind (suc i) a) b)) (point_before i) (point_after i) a (forward_with sc plan (suc i) d a) (backward_with sc plan (suc i) d a) s.store e.store
            (λ x n. (or_false (writes handed (plain x) a) (writes handed (plain x) b) n).0)
            (λ n. (and_true (is_plain m (suc i) a) (is_plain m (behind (suc i) a) b) (and_true (not (m.adjointed i)) (is_plain m (suc i) a && is_plain m (behind (suc i) a) b) n).1).0)
            (transposed_to q lines qd sh level xs w d present (λ x. writes handed x a) (is_plain m (suc i) a) (point_before i) (last_point (point_before i) (suc i) a) (point_after i) a (forward_with sc plan (suc i) d a) (backward_with sc plan (suc i) d a) s.store e.store laws.first_end (first h))
        go false h =
            transposed_more q lines qd sh level xs w d present (λ x. writes handed x b) (λ x. writes handed x a || writes handed x b) (is_plain m (behind (suc i) a) b) (not (m.adjointed i) && (is_plain m (suc i) a && is_plain m (behind (suc i) a) b)) (point_before i) (point_after i) b (forward_with sc plan (behind (suc i) a) d b) (backward_with sc plan (behind (suc i) a) d b) s.store e.store
            (λ x n. (or_false (writes handed (plain x) a) (writes handed (plain x) b) n).1)
            (λ n. (and_true (is_plain m (suc i) a) (is_plain m (behind (suc i) a) b) (and_true (not (m.adjointed i)) (is_plain m (suc i) a && is_plain m (behind (suc i) a) b) n).1).1)
            (transposed_to q lines qd sh level xs w d present (λ x. writes handed x b) (is_plain m (behind (suc i) a) b) (point_before i) (last_point (point_before i) (behind (suc i) a) b) (point_after i) b (forward_with sc plan (behind (suc i) a) d b) (backward_with sc plan (behind (suc i) a) d b) s.store e.store laws.other_end (other h))

    zero_more : (n : ℕ) → n < 2 ^ 63 → 0 + n < 2 ^ 63
    zero_more n h = omega arith

    -- the sweeps of a DO, by how it is reversed
    abbrev forth_by : (x : List ℕ) (a b c : Term) (body : Code) (i d line : ℕ) → Option Step → Code
    forth_by x a b c body i d line o =
        code_if (is_emitted m i)
        (code_if (m.saved i (plain x)) (one line (runtime (push_word (plain x) none)))
        +++ found_or o (loop_forward (is_empty (backward_with sc plan (suc i) (suc d) body)) (suc d) line (plain x) a b c (forward_with sc plan (suc i) (suc d) body)) (λ s. row_forward plan i (suc d) line x a b c s))

    abbrev back_by : (x : List ℕ) (a b c : Term) (body : Code) (i d line : ℕ) → Option Step → Code
    back_by x a b c body i d line o =
        code_if (is_emitted m i)
        (found_or o (loop_backward (is_empty (backward_with sc plan (suc i) (suc d) body)) (suc d) line (plain x) (backward_with sc plan (suc i) (suc d) body)) (λ s. row_backward plan i (suc d) line x s)
        +++ (code_if (m.saved i (plain x)) (one line (runtime (pop_word (plain x) none)))
        +++ reset m i line x))

    -- a DO that was done, where it is reversed so
    abbrev LoopDone' : (x : List ℕ) (a b c : Term) (body : Code) (mark : Mark) (i d line : ℕ) → Scene ℤ → Scene ℤ → Option Step → Type 0
    LoopDone' x a b c body mark i d line s e o = Transposed q lines qd sh level xs w d present (λ v. var_eq v (plain x) || writes handed v body) (not (m.adjointed i) && is_plain m (suc i) body) (point_before i) (point_after i) (one line (loop (plain x) a b c body mark)) (forth_by x a b c body i d line o) (back_by x a b c body i d line o) s.store e.store

    -- a DO whose bounds have these values, turn by turn
    turns_swept : (x : List ℕ) (a b c : Term) (body : Code) (mark : Mark) (i d line : ℕ) (s o : Scene ℤ) (k left : ℕ) (a0 b0 c0 : ℤ) (n : ℕ) → LoopFits lines line mark None vars arrays handed x a b c body → LoopLaws w i (plain x) a b c body → value np a s.store ≡ Ok a0 → value np b s.store ≡ Ok b0 → value np c s.store ≡ Ok c0 → trips mark a0 b0 c0 ≡ Ok n → turns np n (run p np body) (stepped np (plain x) c0) (with_turn np (plain x) (wrap a0) s) k ≡ Done o left →
        ((s0 e0 : Scene ℤ) (k0 l0 : ℕ) → run p np body s0 k0 ≡ Done e0 l0 → Transposed q lines qd sh level xs w (suc d) present (λ x. writes handed x body) (is_plain m (suc i) body) (point_inside i) (last_point (point_inside i) (suc i) body) body (forward_with sc plan (suc i) (suc d) body) (backward_with sc plan (suc i) (suc d) body) s0.store e0.store) →
        Transposed q lines qd sh level xs w d present (λ v. var_eq v (plain x) || writes handed v body) (not (m.adjointed i) && is_plain m (suc i) body) (point_before i) (point_after i) (one line (loop (plain x) a b c body mark)) (forth_by x a b c body i d line None) (back_by x a b c body i d line None) s.store o.store
    turns_swept x a b c body mark i d line s o k left a0 b0 c0 n f laws is_a is_b is_c is_n h each =
        let start = with_turn np (plain x) (wrap a0) s in
        let one_cell = known x f.scalar in
        let at_first : start.store (plain x) 0 ≡ add a0 (mul (pos 0) c0) = rw (name_refl x) (start_step a0 c0) in
        let l = looped p q lines qd sh level xs w d present i line x one_cell a b c body (forward_with sc plan (suc i) (suc d) body) (backward_with sc plan (suc i) (suc d) body) laws (λ x. writes handed x body) f.spares (is_plain m (suc i) body) a0 c0
        (λ s0 e0 k0 l0 g. record { transposed = each s0 e0 k0 l0 g; keeps = keeps body s0 e0 k0 l0 g (plain x) f.spares 0 })
        n 0 start o k left (zero_more n (turning mark a0 b0 c0 n is_n).small) at_first h in
        let first_cell : 0 < size_of (sh (plain x)) = subst (λ z. 0 < z) (sym one_cell) (omega arith) in
        transposed_done sc p q lines qd sh level xs (cells_apart sh vars apart) w d present callees arrays i line x one_cell (cells_has sh vars x 0 f.variable first_cell) a b c body mark f.told laws f.text_first f.text_last f.text_step (λ x. writes handed x body) f.spares (is_plain m (suc i) body)
        a0 b0 c0 n s.store o.store is_a is_b is_c is_n l

    plain_swept : (x : List ℕ) (a b c : Term) (body : Code) (mark : Mark) (i d line : ℕ) (s e : Scene ℤ) (k left : ℕ) → LoopFits lines line mark None vars arrays handed x a b c body → LoopLaws w i (plain x) a b c body → act p np (loop (plain x) a b c body mark) line s k ≡ Done e left →
        ((s0 e0 : Scene ℤ) (k0 l0 : ℕ) → run p np body s0 k0 ≡ Done e0 l0 → Transposed q lines qd sh level xs w (suc d) present (λ x. writes handed x body) (is_plain m (suc i) body) (point_inside i) (last_point (point_inside i) (suc i) body) body (forward_with sc plan (suc i) (suc d) body) (backward_with sc plan (suc i) (suc d) body) s0.store e0.store) →
        LoopDone' x a b c body mark i d line s e None
    plain_swept x a b c body mark i d line s e k left f laws h each =
        let va = value_done (value np a s.store) line _ _ e left h in
        let vb = value_done (value np b s.store) line _ _ e left va.goes in
        let vc = value_done (value np c s.store) line _ _ e left vb.goes in
        let n = value_done (trips mark va.value vb.value vc.value) line _ _ e left vc.goes in
        let o = then_done (turns np n.value (run p np body) (stepped np (plain x) vc.value) (with_turn np (plain x) (wrap va.value) s) k) (λ s1 j. Done (after_loop line n.value (in_force np mark s.store) s1) j) e left n.goes in
        subst (λ (u' : Store ℤ). Transposed q lines qd sh level xs w d present (λ v. var_eq v (plain x) || writes handed v body) (not (m.adjointed i) && is_plain m (suc i) body) (point_before i) (point_after i) (one line (loop (plain x) a b c body mark)) (forth_by x a b c body i d line None) (back_by x a b c body i d line None) s.store u')
        (same_loop_store line n.value (in_force np mark s.store) o.scene e (done_same (after_loop line n.value (in_force np mark s.store) o.scene) e o.left left o.second))
        (turns_swept x a b c body mark i d line s o.scene k o.left va.value vb.value vc.value n.value f laws va.is vb.is vc.is n.is o.first each)

    -- a DO that is reversed by a schedule: its body is its step call
    step_swept : (x : List ℕ) (a b c : Term) (at : ℕ) (t : Step) (i d line : ℕ) (s e : Scene ℤ) (k left : ℕ) →
        let body = one at (call t.name (actuals_named t.given)) in
        let mark = t.mark in
        t.read ≡ (callees t.name).read → LoopFits lines line mark (units_of callees (Some t)) vars arrays handed x a b c body → ReversalFits (callees t.name) present (carried t.name) t → FitsListBy sc lines ps callees answers paired carried present m vars arrays handed (suc i) body → ReversedLaws w i x a b c mark (callees t.name) t.given → m.adjointed (suc i) ≡ true → CallsInside inside body → act p np (loop (plain x) a b c body mark) line s k ≡ Done e left → LoopDone' x a b c body mark i d line s e (Some t)
    step_swept x a b c at t i d line s e k left read_is f rf fl laws reached n h =
        let body = one at (call t.name (actuals_named t.given)) in
        let mark = t.mark in
        let va = value_done (value np a s.store) line _ _ e left h in
        let vb = value_done (value np b s.store) line _ _ e left va.goes in
        let vc = value_done (value np c s.store) line _ _ e left vb.goes in
        let l = value_done (trips mark va.value vb.value vc.value) line _ _ e left vc.goes in
        let o = then_done (turns np l.value (run p np body) (stepped np (plain x) vc.value) (with_turn np (plain x) (wrap va.value) s) k) (λ s1 j. Done (after_loop line l.value (in_force np mark s.store) s1) j) e left l.goes in
        let force = slots_found np mark s.store rf.slots in
        let one_cell = known x f.scalar in
        let first_cell : 0 < size_of (sh (plain x)) = subst (λ z. 0 < z) (sym one_cell) (omega arith) in
        let fc = fl.0.0 t.given refl in
        let apart_ds = dummies_apart t.name fc.unit fc.found n.0 in
        let r = steps_run np l.value (run p np body) (stepped np (plain x) vc.value) (with_turn np (plain x) (wrap va.value) s) o.scene k o.left o.first in
        let free_of = λ (y : List ℕ) (z : writes handed (plain y) body ≡ false). unwritten_actual (λ v. (callees t.name).callee.written (plain v)) y (callees t.name).callee.dummies t.given fc.many (ap (λ ws. is_handed_back (plain y) ws (actuals_named t.given)) (sym (flags t.name fc.unit fc.found n.0)) ∙ (or_false (is_handed_back (plain y) (handed t.name) (actuals_named t.given)) false z).0) in
        let stores : o.scene.store ≡ e.store = same_loop_store line l.value (in_force np mark s.store) o.scene e (done_same (after_loop line l.value (in_force np mark s.store) o.scene) e o.left left o.second) in
        transposed_more q lines qd sh level xs w d present (λ v. var_eq v (plain x) || writes_actual (callees t.name).callee t.given v) (λ v. var_eq v (plain x) || writes handed v body) (not (m.adjointed i) && is_plain m (suc i) body) (not (m.adjointed i) && is_plain m (suc i) body) (point_before i) (point_after i) (one line (loop (plain x) a b c body mark)) (forth_by x a b c body i d line (Some t)) (back_by x a b c body i d line (Some t)) s.store e.store
        (λ y z. let g = or_false (name_eq y x) (writes handed (plain y) body) z in rw (g.0, free_of y g.1) refl)
        (λ z. z)
        (transposed_reversed q free lines qd sh level xs (cells_apart sh vars apart) w d present (carried t.name) callees arrays known i line at x one_cell (cells_has sh vars x 0 f.variable first_cell) a b c t f.text_first f.text_last f.text_step laws read_is (f.told (slots_marked mark rf.slots)) rf
        (own t.name fc.unit fc.found n.0) apart_ds fc.apart (entry_shadows t.name fc.unit fc.found n.0) (end_shadows t.name fc.unit fc.found n.0) (free_of x f.spares)
        va.value vb.value vc.value l.value s.store e.store va.is vb.is vc.is l.is force.0 force.1 (λ j. (r.before j).store) (λ j. (r.behind j).store)
        (ap (λ (z : Scene ℤ). z.store) r.starts) (λ j less. ap (λ (z : Scene ℤ). z.store) (r.next j less)) (ap (λ (z : Scene ℤ). z.store) r.ends ∙ stores)
        (λ j less. turn_call (r.before j) (r.behind j) (r.given j) (r.left j) (r.done j less) (laws.call.shadows_actual) fc (unsplit_there (m.split (suc i)) (answers t.name) (paired t.name) (carried t.name) present (m.adjointed (suc i)) (m.kept (suc i)) laws.unsplit fl.0.1).0 rf.emitted n.0)
        (is_plain m (suc i) body))
      where
        turn_call : (s0 e0 : Scene ℤ) (k0 l0 : ℕ) → run p np (one at (call t.name (actuals_named t.given))) s0 k0 ≡ Done e0 l0 → ((g a : List ℕ) → IsActual (callees t.name).callee.dummies t.given g a → In (plain g) (callees t.name).callee.shadowed → In (plain a) m.shadowed) → CallFits ps vars arrays (callees t.name) t.name t.given → (present ≡ true → m.adjointed (suc i) ≡ true → answers t.name ≡ true) → (present ≡ true → carried t.name ≡ true) → IsTrue (inside t.name) → CallTransposed q lines qd sh level xs (callees t.name) t.given t.name at true true present s0.store e0.store
        turn_call s0 e0 k0 l0 g sa cf adj kept ins =
            let r = count_done _ k0 (λ j. then_do (p np t.name (actuals_named t.given) at s0 j) (run p np stop)) e0 l0 g in
            let o = then_done (p np t.name (actuals_named t.given) at s0 r.left) (run p np stop) e0 l0 r.goes in
            subst (λ (z : Scene ℤ). CallTransposed q lines qd sh level xs (callees t.name) t.given t.name at true true present s0.store z.store) (done_same o.scene e0 o.left l0 o.second)
            (calls t.name t.given at s0 o.scene r.left o.left true true ins sa cf (λ pr z. adj pr reached) (λ pr z. kept pr) o.first)

    -- a DO that was done, by how it is reversed
    loop_swept : (x : List ℕ) (a b c : Term) (body : Code) (mark : Mark) (i d line : ℕ) (s e : Scene ℤ) (k left : ℕ) → FitsBy sc lines ps callees answers paired carried present m vars arrays handed i line (loop (plain x) a b c body mark) → ActLawsBy sc callees w i (loop (plain x) a b c body mark) → CallsInside inside body → act p np (loop (plain x) a b c body mark) line s k ≡ Done e left →
        (FitsListBy sc lines ps callees answers paired carried present m vars arrays handed (suc i) body → ListLawsBy sc callees w (point_inside i) (suc i) body → (s0 e0 : Scene ℤ) (k0 l0 : ℕ) → run p np body s0 k0 ≡ Done e0 l0 → Transposed q lines qd sh level xs w (suc d) present (λ x. writes handed x body) (is_plain m (suc i) body) (point_inside i) (last_point (point_inside i) (suc i) body) body (forward_with sc plan (suc i) (suc d) body) (backward_with sc plan (suc i) (suc d) body) s0.store e0.store) →
        ActDone i d line (loop (plain x) a b c body mark) s e
    loop_swept x a b c body mark i d line s e k left f laws n h each = go (reversed_by sc m.adjointed i body mark) refl f.0 f.1 laws
      where
        go : (o : Option Step) → reversed_by sc m.adjointed i body mark ≡ o → LoopFits lines line mark (units_of callees o) vars arrays handed x a b c body → ByStep o (FitsListBy sc lines ps callees answers paired carried present m vars arrays handed (suc i) body) (λ t. ReversalFits (callees t.name) present (carried t.name) t × FitsListBy sc lines ps callees answers paired carried present m vars arrays handed (suc i) body) → ByStep o (LoopLaws w i (plain x) a b c body × ListLawsBy sc callees w (point_inside i) (suc i) body) (StepLaws callees w i (plain x) a b c body) → ActDone i d line (loop (plain x) a b c body mark) s e
        go None is f fb laws = subst (LoopDone' x a b c body mark i d line s e) (sym is) (plain_swept x a b c body mark i d line s e k left f laws.0 h (each fb laws.1))
        go (Some t) is f fb laws = subst (LoopDone' x a b c body mark i d line s e) (sym is) (stepped_by t (step_known sb callees m.adjointed i body mark t is) f fb.0 fb.1 laws.0 laws.1.0 laws.1.1)
          where
            stepped_by : (t : Step) → Reversed (λ name. (callees name).read) m.adjointed i body mark t → LoopFits lines line mark (units_of callees (Some t)) vars arrays handed x a b c body → ReversalFits (callees t.name) present (carried t.name) t → FitsListBy sc lines ps callees answers paired carried present m vars arrays handed (suc i) body → (at : ℕ) → body ≡ one at (call t.name (actuals_named t.given)) → ReversedLaws w i x a b c t.mark (callees t.name) t.given → LoopDone' x a b c body mark i d line s e (Some t)
            stepped_by t known f rf fl at body_is rl =
                subst (λ z. LoopFits lines line z (units_of callees (Some t)) vars arrays handed x a b c body → act p np (loop (plain x) a b c body z) line s k ≡ Done e left → LoopDone' x a b c body z i d line s e (Some t)) (sym known.marked)
                (subst (λ z. FitsListBy sc lines ps callees answers paired carried present m vars arrays handed (suc i) z → CallsInside inside z → LoopFits lines line t.mark (units_of callees (Some t)) vars arrays handed x a b c z → act p np (loop (plain x) a b c z t.mark) line s k ≡ Done e left → LoopDone' x a b c z t.mark i d line s e (Some t)) (sym body_is)
                (λ fl n f h. step_swept x a b c at t i d line s e k left known.read f rf fl rl known.reached n h) fl n)
                f h

    mutual
      act_swept : (a : Act) (i d line : ℕ) (s e : Scene ℤ) (k left : ℕ) → CallsInside' inside a → FitsBy sc lines ps callees answers paired carried present m vars arrays handed i line a → ActLawsBy sc callees w i a → act p np a line s k ≡ Done e left → ActDone i d line a s e
      act_swept (assign (plain x) subs a) i d line s e k left n f laws h = assigns x subs a i d line s e k left laws f h
      act_swept (assign (shadow x) subs a) i d line s e k left n f laws h = absurd f
      act_swept (assign (helper r x) subs a) i d line s e k left n f laws h = absurd f
      act_swept (choose c a b) i d line s e k left n f laws h =
          let v = value_done (holds np c s.store) line _ (λ t. if t then run p np a s k else run p np b s k) e left h in
          choice_swept c a b i d line s e k left v.value f.0 laws.0 v.is v.goes
          (λ g. list_swept a (suc i) d (point_before i) s e k left n.0 f.1.0 laws.1.0 g)
          (λ g. list_swept b (behind (suc i) a) d (point_before i) s e k left n.1 f.1.1 laws.1.1 g)
      act_swept (loop (plain x) a b c body mark) i d line s e k left n f laws h =
          loop_swept x a b c body mark i d line s e k left f laws n h (λ fb lb s0 e0 k0 l0 g. list_swept body (suc i) (suc d) (point_inside i) s0 e0 k0 l0 n fb lb g)
      act_swept (loop (shadow x) a b c body mark) i d line s e k left n f laws h = absurd f
      act_swept (loop (helper r x) a b c body mark) i d line s e k left n f laws h = absurd f
      act_swept (during c body) i d line s e k left n f laws h =
          transposed_while sc p q lines qd sh level xs w d present callees arrays i line c body laws.0 f.0 (λ x. writes handed x body) (is_plain m (suc i) body)
          (λ s0 e0 k0 l0 g. list_swept body (suc i) (suc d) (point_inside i) s0 e0 k0 l0 n f.1 laws.1 g) s e k left h
      act_swept (call name args) i d line s e k left n f laws h =
          let given = laws.0 in
          let is : args ≡ actuals_named given = laws.1.0 in
          subst (λ es. ActDone i d line (call name es) s e) (sym is) (call_by name given i d line s e k left n (m.split i) refl laws.1.1 (f.0 given is) f.1 (ap (λ es. p np name es line s k) (sym is) ∙ h))
      act_swept (runtime r) i d line s e k left n f laws h = absurd f

      pub list_swept : (c : Code) (i d from : ℕ) (s e : Scene ℤ) (k left : ℕ) → CallsInside inside c → FitsListBy sc lines ps callees answers paired carried present m vars arrays handed i c → ListLawsBy sc callees w from i c → run p np c s k ≡ Done e left → Transposed q lines qd sh level xs w d present (λ x. writes handed x c) (is_plain m i c) from (last_point from i c) c (forward_with sc plan i d c) (backward_with sc plan i d c) s.store e.store
      list_swept stop i d from s e k left n f laws h =
          subst (λ (z : Scene ℤ). Transposed q lines qd sh level xs w d present nothing true from from stop stop stop s.store z.store) (done_same s e k left h) (transposed_none q lines qd sh level xs w d present from s.store)
      list_swept (step line a rest) i d from s e k left n f laws h =
          let r = count_done _ k (λ j. then_do (act p np a line s j) (run p np rest)) e left h in
          let o = then_done (act p np a line s r.left) (run p np rest) e left r.goes in
          let first = act_swept a i d line s o.scene r.left o.left n.0 f.0 laws.1.0 o.first in
          let others = list_swept rest (next i a) d (point_after i) o.scene e o.left left n.1 f.1 laws.1.1 o.second in
          transposed_append q lines qd sh level xs w d present (λ x. act_writes handed x a) (λ x. writes handed x rest) (is_plain' m i a) (is_plain m (next i a) rest) from (point_after i) (last_point (point_after i) (next i a) rest) (one line a) rest (forward_act_with sc plan i d line a) (forward_with sc plan (next i a) d rest) (backward_act_with sc plan i d line a) (backward_with sc plan (next i a) d rest) s.store o.scene.store e.store
          (transposed_from q lines qd sh level xs w d present (λ x. act_writes handed x a) (is_plain' m i a) from (point_before i) (point_after i) (one line a) (forward_act_with sc plan i d line a) (backward_act_with sc plan i d line a) s.store o.scene.store laws.0 first)
          others
