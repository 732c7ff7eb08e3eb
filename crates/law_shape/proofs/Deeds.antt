-- What the backward sweep does besides restoring and adjointing: it pushes and calls units of the kernel in the actions of reversals alone.
use Rattle.std.proofs.Common.{◌≡◌, ℕ, suc, Bool, true, false, List, [], ◌∷◌, ◌++◌, map, refl, sym, ap, ◌∙◌, append_assoc, append-nil, if◌then◌else◌}
use Rattle.std.specs.Prelude.{◌||◌, ◌&&◌, pos, Option, Some, None}
use Rattle.std.specs.List.{list_any}
use Rattle.std.proofs.lemmas.Grind.{flat_map-append}
use Rattle.adj_tree.proofs.Names.{name_same}
use Rattle.adj_tree.specs.Code.{Var, plain, shadow, helper, name_eq, var_eq, first, stride, entry, kind, lower, lit, var, none, Terms, slots, Mark, unmarked, with_count, count_from, Runtime, push_word, pop_word, push_array, pop_array, push_control, pop_control, zero_array, begin_reversal, count_actions, give_action, end_reversal, Act, assign, choose, loop, during, call, runtime, Code, stop, step, Procedure}
use Rattle.def_meaning.specs.Append.{◌+++◌, one}
use Rattle.law_meaning.specs.Common.{CallsInside', CallsInside}
use Rattle.def_meaning.specs.Rename.{rename_term, rename_terms}
use Rattle.def_names.specs.Statements.{At, statements}
use Rattle.def_meaning.specs.Apart.{has_name}
use Rattle.def_names.specs.Numbers.{Vars, next, behind}
use Rattle.def_sweep.specs.Marks.{active_at}
use Rattle.def_sweep.specs.Marked.{code_if}
use Rattle.def_names.proofs.Variables.{and_true, or_false, or_assoc}
use Rattle.def_meaning.proofs.Variables.{var_refl}
use Rattle.def_sweep.specs.Plan.{Callee, Plan, is_emitted, names_of, actuals_named, found_or, save_group, snapshot_group, step_snapshot, Schedules, Step, reversed_by}
use Rattle.def_sweep.specs.AdjointOf.{adjoint_where}
use Rattle.def_sweep.specs.Rows.{is_empty, push, pop, pushes, pops, literal, told_backward, loop_backward, while_backward, pop_own, reset, resets, with_shadows, adjoint_call}
use Rattle.def_sweep.specs.Emission.{backward_act_with, backward_with}
use Rattle.def_sweep.specs.ReversalCode.{at_turn, arm, advance, arms, reversal, slots_of, pop_slots, row_backward}
use Rattle.law_sweep.specs.Laws.{IsIdle', IsIdle}
use Rattle.def_sweep.specs.Program.{turns_act, turns_in}
use Rattle.law_sweep.proofs.ByStep.{step_inside}
use Rattle.law_sweep.proofs.Names.{has-append}
use Rattle.law_emitted.proofs.Over.{OverAct, OverCode, Any}
use Rattle.law_emitted.proofs.Assigned.{AreMaking, making_adjoint}
use Rattle.law_emitted.proofs.StepCalls.{from_keep, from_turn, from_advance}
use Rattle.def_adjoint.specs.Shape.{gathered, is_own, called, push_whole, told_in, action_of, done_act, done_list, number_told, deeds, number_due, deeds_of, deeds_act, deeds_back}
use Rattle.law_shape.specs.Closed.{IsClosed', IsClosed}
use Rattle.law_shape.proofs.Gathered.{gathered_step, inside, seen, seen_append}
use Rattle.law_shape.proofs.Forward.{OwnVar, NoArray, AreOwn, step_own, never_idle}
use Rattle.law_shape.proofs.Rows.{step_members_own, same_named}
use Rattle.law_shape.proofs.Through.{any_append}

-- ---- lists one after another

pub done_append : {X : Type 0} (f : ℕ → Act → List X) (told : Option Var) (k : ℕ) (c d : Code) → done_list f told k (c +++ d) ≡ done_list f told k c ++ done_list f told k d
done_append f told k stop d = refl
done_append f told k (step line a c) d = ap (λ l. done_act f told k a ++ l) (done_append f told k c d) ∙ sym (append_assoc (done_act f told k a) (done_list f told k c) (done_list f told k d))

-- ---- what idle statements hold

module _ (sc : Schedules) (p : Plan) where
  idle_loop : (i : ℕ) (body : Code) (m : Mark) → IsIdle p.marks (suc i) body → deeds_back sc p (suc i) body ≡ [] → found_or (reversed_by sc p.marks.adjointed i body m) (deeds_back sc p (suc i) body) (deeds_of p) ≡ []
  idle_loop i body m k ih = go (reversed_by sc p.marks.adjointed i body m) refl
    where
      go : (t : Option Step) → reversed_by sc p.marks.adjointed i body m ≡ t → found_or t (deeds_back sc p (suc i) body) (deeds_of p) ≡ []
      go None e = ih
      go (Some s) e = absurd (never_idle sc p.marks i body m s e k)

  mutual
    idle_act : (i : ℕ) (a : Act) → IsIdle' p.marks i a → deeds_act sc p i a ≡ []
    idle_act i (assign x subs e) k = refl
    idle_act i (choose c a b) k = λ j. idle_code (suc i) a k.1.0 j ++ idle_code (behind (suc i) a) b k.1.1 j
    idle_act i (loop x a b c body m) k = idle_loop i body m k.1 (idle_code (suc i) body k.1)
    idle_act i (during c body) k = idle_code (suc i) body k.1
    idle_act i (call name args) k = refl
    idle_act i (runtime c) k = refl

    idle_code : (i : ℕ) (c : Code) → IsIdle p.marks i c → deeds_back sc p i c ≡ []
    idle_code i stop k = refl
    idle_code i (step line a rest) k = λ j. idle_code (next i a) rest k.1 j ++ idle_act i a k.0 j

-- ---- the backward sweep

module _ (u : Procedure) (r : Var → Var) (own_kept : (v : Var) → is_own u v ≡ true → r v ≡ v) (own_same : (v : Var) → is_own u (r v) ≡ is_own u v) (units inside_units : List ℕ → Bool) (sc : Schedules) (p : Plan)
    (apart : (name : List ℕ) → inside_units name ≡ true → (units (p.callees name).adjoint ≡ false) × (units (p.callees name).back ≡ false)) (there : (name : List ℕ) → inside_units name ≡ true → units name ≡ true) where
  -- what is done in a list
  abbrev done : Option Var → ℕ → Code → List (ℕ × Act)
  done told k c = done_list (deeds (is_own u) units) told k (seen r c)

  done_join : (told : Option Var) (k : ℕ) (c d : Code) → done told k (c +++ d) ≡ done told k c ++ done told k d
  done_join told k c d = ap (done_list (deeds (is_own u) units) told k) (seen_append r c d) ∙ done_append (deeds (is_own u) units) told k (seen r c) (seen r d)

  -- of two lists of which nothing is done in the first, or in the second
  done_behind : (told : Option Var) (k : ℕ) (c d : Code) → done told k c ≡ [] → done told k (c +++ d) ≡ done told k d
  done_behind told k c d h = done_join told k c d ∙ ap (λ l. l ++ done told k d) h

  done_before : (told : Option Var) (k : ℕ) (c d : Code) → done told k d ≡ [] → done told k (c +++ d) ≡ done told k c
  done_before told k c d h = done_join told k c d ∙ ap (λ l. done told k c ++ l) h ∙ append-nil (done told k c)

  none_if : (told : Option Var) (k : ℕ) (b : Bool) (c : Code) → done told k c ≡ [] → done told k (code_if b c) ≡ []
  none_if told k true c h = h
  none_if told k false c h = refl

  -- in an empty list
  none_empty : (told : Option Var) (k : ℕ) (c : Code) → is_empty c ≡ true → done told k c ≡ []
  none_empty told k stop h = refl
  none_empty told k (step line a c) h = absurd cc

  making_none : (told : Option Var) (k : ℕ) (c : Code) → AreMaking c → done told k c ≡ []
  making_none told k stop h = refl
  making_none told k (step line (assign x s e) c) h = making_none told k c h.1
  making_none told k (step line (choose t a b) c) h = absurd h.0
  making_none told k (step line (loop x a b by body m) c) h = absurd h.0
  making_none told k (step line (during t body) c) h = absurd h.0
  making_none told k (step line (call name args) c) h = absurd h.0
  making_none told k (step line (runtime t) c) h = absurd h.0

  pops_none : (told : Option Var) (k line : ℕ) (xs : List (List ℕ)) → done told k (pops p line xs) ≡ []
  pops_none told k line [] = refl
  pops_none told k line (x ∷ xs) = done_behind told k (pops p line xs) (pop p line x) (pops_none told k line xs) ∙ here (p.arrays (plain x))
    where
      here : (b : Bool) → done told k (one line (runtime (if b then pop_array (plain x) else pop_word (plain x) none))) ≡ []
      here true = refl
      here false = refl

  -- what is pushed
  pushes_done : (told : Option Var) (k line : ℕ) (xs : List (List ℕ)) → AreOwn u xs → done told k (pushes p line xs) ≡ map (λ c. (k, runtime c)) (map (push_whole p.arrays) xs)
  pushes_done told k line [] o = refl
  pushes_done told k line (x ∷ xs) o = done_join told k (push p line x) (pushes p line xs) ∙ (λ j. here (p.arrays (plain x)) j ++ pushes_done told k line xs o.1 j)
    where
      here : (b : Bool) → done told k (one line (runtime (if b then push_array (plain x) else push_word (plain x) none))) ≡ (k, runtime (if b then push_array (plain x) else push_word (plain x) none)) ∷ []
      here true = λ j. (k, runtime (push_array (own_kept (plain x) o.0 j))) ∷ []
      here false = λ j. (k, runtime (push_word (own_kept (plain x) o.0 j) none)) ∷ []

  -- a call of an adjoint is none of a unit of the kernel
  adjoint_none : (told : Option Var) (k line : ℕ) (name : List ℕ) (given : List (List ℕ)) → inside_units name ≡ true → done told k (one line (adjoint_call (p.callees name) given)) ≡ []
  adjoint_none told k line name given h =
      ap (λ b. (if b then (k, call (p.callees name).adjoint (rename_terms r (with_shadows (p.callees name).shadowed (p.callees name).dummies given))) ∷ [] else []) ++ []) (apart name h).0

  -- that of a step unit is
  step_done : (told : Option Var) (k line : ℕ) (s : Step) → AreOwn u s.given → inside_units s.name ≡ true → done told k (one line (call s.name (actuals_named s.given))) ≡ (k, call s.name (actuals_named s.given)) ∷ []
  step_done told k line s o h =
      ap (λ b. (if b then (k, call s.name (rename_terms r (actuals_named s.given))) ∷ [] else []) ++ []) (there s.name h) ∙ ap (λ es. (k, call s.name es) ∷ []) (same_named u r own_kept own_same p s.given o)

  -- ---- a reversal

  -- the arm of an action holds what is done in it
  arm_done : (line d n : ℕ) (c : Code) → done (Some (r (helper kind d))) 0 (arm line d n c) ≡ done None n c
  arm_done line d n stop = refl
  arm_done line d n (step l a c) =
      append-nil (done_list (deeds (is_own u) units) None (if var_eq (r (helper kind d)) (r (helper kind d)) then n else 0) (seen r (step l a c)) ++ [])
      ∙ append-nil (done_list (deeds (is_own u) units) None (if var_eq (r (helper kind d)) (r (helper kind d)) then n else 0) (seen r (step l a c)))
      ∙ ap (λ b. done_list (deeds (is_own u) units) None (if b then n else 0) (seen r (step l a c))) (var_refl (r (helper kind d)))

  module _ (i d line : ℕ) (x : List ℕ) (s : Step) (own : AreOwn u s.given) (known : inside_units s.name ≡ true) where
    abbrev snapshot : List (List ℕ)
    snapshot = step_snapshot (p.callees s.name) s.read s.given

    abbrev keep : Code
    keep = pushes p line snapshot

    abbrev back : Code
    back = pops p line snapshot

    abbrev unsave : Code
    unsave = pops p line (save_group p.marks i (p.callees s.name) s.given)

    abbrev plain_call : Code
    plain_call = one line (call s.name (actuals_named s.given))

    abbrev adjoint : Code
    adjoint = one line (adjoint_call (p.callees s.name) s.given)

    -- the snapshot pushed in an action
    abbrev taken : ℕ → List (ℕ × Act)
    taken k = map (λ c. (k, runtime c)) (map (push_whole p.arrays) snapshot)

    taken_is : (told : Option Var) (k : ℕ) → done told k keep ≡ taken k
    taken_is told k = pushes_done told k line snapshot (step_members_own u p s own)

    advance_done : done None 2 (advance line d (plain x) plain_call) ≡ (2, call s.name (actuals_named s.given)) ∷ []
    advance_done = append-nil (done None 2 plain_call) ∙ step_done None 2 line s own known

    arms_done : done (Some (r (helper kind d))) 0 (arms line d (plain x) keep back plain_call adjoint) ≡ taken 1 ++ ((2, call s.name (actuals_named s.given)) ∷ taken 4)
    arms_done =
        done_join at 0 (arm line d 1 keep) (from_advance line d (plain x) keep back plain_call adjoint)
        ∙ (λ j. (arm_done line d 1 keep ∙ taken_is None 1) j ++ (
        done_join at 0 (arm line d 2 (advance line d (plain x) plain_call)) (from_turn line d (plain x) keep back adjoint)
        ∙ (λ i. (arm_done line d 2 (advance line d (plain x) plain_call) ∙ advance_done) i ++ (
        done_behind at 0 (arm line d 3 (at_turn line d (plain x) lower adjoint)) (from_keep line d keep back) (arm_done line d 3 (at_turn line d (plain x) lower adjoint) ∙ adjoint_none None 3 line s.name s.given known)
        ∙ done_before at 0 (arm line d 4 (back +++ keep)) (arm line d 5 back) (arm_done line d 5 back ∙ pops_none None 5 line snapshot)
        ∙ arm_done line d 4 (back +++ keep)
        ∙ done_behind None 4 back keep (pops_none None 4 line snapshot)
        ∙ taken_is None 4) i)) j)
      where
        at : Option Var
        at = Some (r (helper kind d))

    -- the number of snapshots
    number_same : (m : Mark) → number_told (is_own u) (rename_term r (slots_of d m)) ≡ number_due m
    number_same unmarked = refl
    number_same (with_count n) = refl
    number_same (count_from y) = ap (λ b. if b then var (r (helper slots d)) else lit (pos 0)) (own_same (helper slots d))

    reversal_done : done None 0 (reversal line d (plain x) (slots_of d s.mark) keep back plain_call adjoint) ≡ deeds_of p s
    reversal_done =
        (λ j. (0, runtime (begin_reversal (lit (pos 0)) (number_same s.mark j)))
        ∷ ((ap (λ b. done_list (deeds (is_own u) units) (if b then Some (r (helper kind d)) else None) 0 (seen r (arms line d (plain x) keep back plain_call adjoint))) (var_refl (r (helper entry d))) ∙ arms_done) j ++ ((0, runtime end_reversal) ∷ [])))
        ∙ ap (λ l. (0, runtime (begin_reversal (lit (pos 0)) (number_due s.mark))) ∷ l) (append_assoc (taken 1) ((2, call s.name (actuals_named s.given)) ∷ taken 4) ((0, runtime end_reversal) ∷ []))

    pop_done : (m : Mark) (rest : Code) → done None 0 (pop_slots line d m rest) ≡ done None 0 rest
    pop_done unmarked rest = refl
    pop_done (with_count n) rest = refl
    pop_done (count_from y) rest = refl

    row_done : done None 0 (row_backward p i d line x s) ≡ deeds_of p s
    row_done =
        pop_done s.mark (pop_own line (helper stride d) (pop_own line (helper first d) (back +++ (reversal line d (plain x) (slots_of d s.mark) keep back plain_call adjoint +++ unsave))))
        ∙ done_behind None 0 back (reversal line d (plain x) (slots_of d s.mark) keep back plain_call adjoint +++ unsave) (pops_none None 0 line snapshot)
        ∙ done_before None 0 (reversal line d (plain x) (slots_of d s.mark) keep back plain_call adjoint) unsave (pops_none None 0 line (save_group p.marks i (p.callees s.name) s.given))
        ∙ reversal_done

  -- ---- the other rows

  told_done : (line : ℕ) (a b : Code) (xs ys : List (ℕ × Act)) → done None 0 a ≡ xs → done None 0 b ≡ ys → (idle : Bool) → (is_empty a && is_empty b) ≡ idle → done None 0 (told_backward idle line a b) ≡ xs ++ ys
  told_done line a b xs ys h g true e = let none = and_true (is_empty a) (is_empty b) e in λ j. (sym (none_empty None 0 a none.0) ∙ h) j ++ (sym (none_empty None 0 b none.1) ∙ g) j
  told_done line a b xs ys h g false e = append-nil (done None 0 a ++ done None 0 b) ∙ (λ j. h j ++ g j)

  loop_done : (k line : ℕ) (x : Var) (body : Code) (xs : List (ℕ × Act)) → done None 0 body ≡ xs → (idle : Bool) → is_empty body ≡ idle → done None 0 (loop_backward idle k line x body) ≡ xs
  loop_done k line x body xs h true e = sym (none_empty None 0 body e) ∙ h
  loop_done k line x body xs h false e = append-nil (done None 0 body) ∙ h

  while_done : (k line : ℕ) (body : Code) (xs : List (ℕ × Act)) → done None 0 body ≡ xs → (idle : Bool) → is_empty body ≡ idle → done None 0 (while_backward idle k line body) ≡ xs
  while_done k line body xs h true e = sym (none_empty None 0 body e) ∙ h
  while_done k line body xs h false e = append-nil (done None 0 body) ∙ h

  mutual
    act_done : (i d line : ℕ) (a : Act) → OverAct (OwnVar u) NoArray Any a → CallsInside' inside_units a → IsClosed' p.marks i a → done None 0 (backward_act_with sc p i d line a) ≡ deeds_act sc p i a
    act_done i d line (assign (plain x) subs e) o c k =
        done_behind None 0 (code_if (p.marks.kept i && p.marks.saved i (plain x)) (one line (runtime (pop_word (plain x) subs)))) (code_if (p.marks.adjointed i) (adjoint_where (active_at p.marks i) x subs e line))
        (none_if None 0 (p.marks.kept i && p.marks.saved i (plain x)) (one line (runtime (pop_word (plain x) subs))) refl)
        ∙ none_if None 0 (p.marks.adjointed i) (adjoint_where (active_at p.marks i) x subs e line) (making_none None 0 (adjoint_where (active_at p.marks i) x subs e line) (making_adjoint (active_at p.marks i) x subs e line))
    act_done i d line (assign (shadow x) subs e) o c k = refl
    act_done i d line (assign (helper t n) subs e) o c k = refl
    act_done i d line (choose t a b) o c k = go (is_emitted p.marks i) refl (code_done (suc i) d a o.1.0 c.0 k.1.0) (code_done (behind (suc i) a) d b o.1.1 c.1 k.1.1)
      where
        one_part : Code
        one_part = backward_with sc p (suc i) d a

        other_part : Code
        other_part = backward_with sc p (behind (suc i) a) d b

        go : (e : Bool) → is_emitted p.marks i ≡ e → done None 0 one_part ≡ deeds_back sc p (suc i) a → done None 0 other_part ≡ deeds_back sc p (behind (suc i) a) b → done None 0 (code_if e (told_backward (is_empty one_part && is_empty other_part) line one_part other_part)) ≡ deeds_act sc p i (choose t a b)
        go true e h g = told_done line one_part other_part (deeds_back sc p (suc i) a) (deeds_back sc p (behind (suc i) a) b) h g (is_empty one_part && is_empty other_part) refl
        go false e h g = let none = or_false (p.marks.kept i) (p.marks.adjointed i) e in sym (idle_act sc p i (choose t a b) ((none.0, none.1), k.0 e))
    act_done i d line (loop (plain x) a b by body m) o c k = go (is_emitted p.marks i) refl (code_done (suc i) (suc d) body o.1.1.1.1.0 c k.1)
      where
        swept : Code
        swept = backward_with sc p (suc i) (suc d) body

        row : Option Step → Code
        row t = found_or t (loop_backward (is_empty swept) (suc d) line (plain x) swept) (λ s. row_backward p i (suc d) line x s)

        later : Code
        later = code_if (p.marks.saved i (plain x)) (one line (runtime (pop_word (plain x) none))) +++ reset p.marks i line x

        none_later : done None 0 later ≡ []
        none_later =
            done_behind None 0 (code_if (p.marks.saved i (plain x)) (one line (runtime (pop_word (plain x) none)))) (reset p.marks i line x) (none_if None 0 (p.marks.saved i (plain x)) (one line (runtime (pop_word (plain x) none))) refl)
            ∙ none_if None 0 (resets p.marks i x) (one line (assign (shadow x) none (literal 0))) refl

        of_row : (t : Option Step) → reversed_by sc p.marks.adjointed i body m ≡ t → done None 0 swept ≡ deeds_back sc p (suc i) body → done None 0 (row t) ≡ found_or t (deeds_back sc p (suc i) body) (deeds_of p)
        of_row None e h = loop_done (suc d) line (plain x) swept (deeds_back sc p (suc i) body) h (is_empty swept) refl
        of_row (Some s) e h = row_done i (suc d) line x s (step_own u sc p.marks.adjointed i body m s e o.1.1.1.1.0) (step_inside inside_units sc p.marks.adjointed i body m s e c)

        go : (e : Bool) → is_emitted p.marks i ≡ e → done None 0 swept ≡ deeds_back sc p (suc i) body → done None 0 (code_if e (row (reversed_by sc p.marks.adjointed i body m) +++ later)) ≡ deeds_act sc p i (loop (plain x) a b by body m)
        go true e h = done_before None 0 (row (reversed_by sc p.marks.adjointed i body m)) later none_later ∙ of_row (reversed_by sc p.marks.adjointed i body m) refl h
        go false e h = let none = or_false (p.marks.kept i) (p.marks.adjointed i) e in sym (idle_act sc p i (loop (plain x) a b by body m) ((none.0, none.1), k.0 e))
    act_done i d line (loop (shadow x) a b by body m) o c k = absurd (let z : false ≡ true = o.0 in cc)
    act_done i d line (loop (helper t n) a b by body m) o c k = absurd (let z : false ≡ true = o.0 in cc)
    act_done i d line (during t body) o c k = go (is_emitted p.marks i) refl (code_done (suc i) (suc d) body o.1 c k.1)
      where
        swept : Code
        swept = backward_with sc p (suc i) (suc d) body

        go : (e : Bool) → is_emitted p.marks i ≡ e → done None 0 swept ≡ deeds_back sc p (suc i) body → done None 0 (code_if e (while_backward (is_empty swept) (suc d) line swept)) ≡ deeds_back sc p (suc i) body
        go true e h = while_done (suc d) line swept (deeds_back sc p (suc i) body) h (is_empty swept) refl
        go false e h = let none = or_false (p.marks.kept i) (p.marks.adjointed i) e in sym (idle_act sc p i (during t body) ((none.0, none.1), k.0 e))
    act_done i d line (call name args) o c k = none_if None 0 (is_emitted p.marks i) (if p.marks.split i then one line (call g.back (with_shadows g.shadowed g.dummies (names_of args))) else row) (of_split (p.marks.split i))
      where
        g : Callee
        g = p.callees name

        saves : List (List ℕ)
        saves = save_group p.marks i g (names_of args)

        members : List (List ℕ)
        members = snapshot_group g (names_of args)

        row : Code
        row = code_if (p.marks.adjointed i) (pops p line members +++ one line (adjoint_call g (names_of args))) +++ pops p line saves

        of_split : (s : Bool) → done None 0 (if s then one line (call g.back (with_shadows g.shadowed g.dummies (names_of args))) else row) ≡ []
        of_split true = ap (λ b. (if b then (0, call g.back (rename_terms r (with_shadows g.shadowed g.dummies (names_of args)))) ∷ [] else []) ++ []) (apart name c).1
        of_split false =
            done_behind None 0 (code_if (p.marks.adjointed i) (pops p line members +++ one line (adjoint_call g (names_of args)))) (pops p line saves)
            (none_if None 0 (p.marks.adjointed i) (pops p line members +++ one line (adjoint_call g (names_of args))) (done_behind None 0 (pops p line members) (one line (adjoint_call g (names_of args))) (pops_none None 0 line members) ∙ adjoint_none None 0 line name (names_of args) c))
            ∙ pops_none None 0 line saves
    act_done i d line (runtime t) o c k = refl

    pub code_done : (i d : ℕ) (c : Code) → OverCode (OwnVar u) NoArray Any c → CallsInside inside_units c → IsClosed p.marks i c → done_list (deeds (is_own u) units) None 0 (seen r (backward_with sc p i d c)) ≡ deeds_back sc p i c
    code_done i d stop o c k = refl
    code_done i d (step line a rest) o c k = done_join None 0 (backward_with sc p (next i a) d rest) (backward_act_with sc p i d line a) ∙ (λ j. code_done (next i a) d rest o.1 c.1 k.1 j ++ act_done i d line a o.0 c.0 k.0 j)

-- ---- calls among what is done

-- a call of the unit of a name
abbrev is_call : List ℕ → Act → Bool
is_call x (call name args) = name_eq x name
is_call x a = false

abbrev pub calls_unit : List ℕ → ℕ × Act → Bool
calls_unit x d = is_call x d.1

module _ (own : Vars) (units : List ℕ → Bool) (x : List ℕ) (known : units x ≡ true) where
  or_none : (b : Bool) → (b || false) ≡ b
  or_none true = refl
  or_none false = refl

  one_called : (k : ℕ) (name : List ℕ) (args : Terms) → ((name_eq x name || false) || false) ≡ list_any (calls_unit x) (if units name then (k, call name args) ∷ [] else [])
  one_called k name args = or_none (name_eq x name || false) ∙ go (units name) refl
    where
      other : (b : Bool) → name_eq x name ≡ b → units name ≡ false → b ≡ false
      other true e h = absurd (let z : true ≡ false = sym known ∙ ap units (name_same x name e) ∙ h in cc)
      other false e h = refl

      go : (b : Bool) → units name ≡ b → (name_eq x name || false) ≡ list_any (calls_unit x) (if b then (k, call name args) ∷ [] else [])
      go true h = refl
      go false h = or_none (name_eq x name) ∙ other (name_eq x name) refl h

  none_ran : (k : ℕ) (c : Runtime) → false ≡ list_any (calls_unit x) (deeds own units k (runtime c))
  none_ran k (push_word y s) = refl
  none_ran k (pop_word y s) = refl
  none_ran k (push_array y) = refl
  none_ran k (pop_array y) = refl
  none_ran k (push_control e) = refl
  none_ran k (pop_control y) = refl
  none_ran k (zero_array y) = refl
  none_ran k (begin_reversal l s) = refl
  none_ran k (count_actions l s n) = refl
  none_ran k (give_action l s e a f t) = refl
  none_ran k end_reversal = refl

  mutual
    called_act : (told : Option Var) (k : ℕ) (a : Act) → (has_name x (called a) || has_name x (inside called a)) ≡ list_any (calls_unit x) (done_act (deeds own units) told k a)
    called_act told k (assign y s e) = refl
    called_act told k (choose c a b) =
        ap (has_name x) (flat_map-append (λ (s : At Act). called s.1) (statements a) (statements b))
        ∙ has-append x (gathered called a) (gathered called b)
        ∙ (λ j. called_code None (action_of told k c) a j || called_code None k b j)
        ∙ sym (any_append (calls_unit x) (done_list (deeds own units) None (action_of told k c) a) (done_list (deeds own units) None k b))
    called_act told k (loop y a b c body m) = called_code (told_in (loop y a b c body m)) k body
    called_act told k (during c body) = called_code None k body
    called_act told k (call name args) = one_called k name args
    called_act told k (runtime c) = none_ran k c

    pub called_code : (told : Option Var) (k : ℕ) (c : Code) → has_name x (gathered called c) ≡ list_any (calls_unit x) (done_list (deeds own units) told k c)
    called_code told k stop = refl
    called_code told k (step line a c) =
        ap (has_name x) (gathered_step called line a c)
        ∙ has-append x (called a) (inside called a ++ gathered called c)
        ∙ ap (λ b. has_name x (called a) || b) (has-append x (inside called a) (gathered called c))
        ∙ sym (or_assoc (has_name x (called a)) (has_name x (inside called a)) (has_name x (gathered called c)))
        ∙ (λ j. called_act told k a j || called_code told k c j)
        ∙ sym (any_append (calls_unit x) (done_act (deeds own units) told k a) (done_list (deeds own units) told k c))

-- the step units of the loops that are reversed
module _ (sc : Schedules) (p : Plan) (x : List ℕ) where
  none_taken : (k : ℕ) (cs : List Runtime) → list_any (calls_unit x) (map (λ c. (k, runtime c)) cs) ≡ false
  none_taken k [] = refl
  none_taken k (c ∷ cs) = none_taken k cs

  step_called : (s : Step) → list_any (calls_unit x) (deeds_of p s) ≡ name_eq x s.name
  step_called s =
      any_append (calls_unit x) (map (λ c. (1, runtime c)) snapshot) ((2, call s.name (actuals_named s.given)) ∷ (map (λ c. (4, runtime c)) snapshot ++ ((0, runtime end_reversal) ∷ [])))
      ∙ (λ j. none_taken 1 snapshot j || (name_eq x s.name || (any_append (calls_unit x) (map (λ c. (4, runtime c)) snapshot) ((0, runtime end_reversal) ∷ []) ∙ (λ i. none_taken 4 snapshot i || false)) j))
      ∙ or_none (name_eq x s.name)
    where
      snapshot : List Runtime
      snapshot = map (push_whole p.arrays) (step_snapshot (p.callees s.name) s.read s.given)

      or_none : (b : Bool) → (b || false) ≡ b
      or_none true = refl
      or_none false = refl

  or_comm : (a b : Bool) → (a || b) ≡ (b || a)
  or_comm true true = refl
  or_comm true false = refl
  or_comm false true = refl
  or_comm false false = refl

  mutual
    turned_act : (i : ℕ) (a : Act) → list_any (calls_unit x) (deeds_act sc p i a) ≡ turns_act sc p.marks.adjointed x i a
    turned_act i (assign y s e) = refl
    turned_act i (choose c a b) = any_append (calls_unit x) (deeds_back sc p (suc i) a) (deeds_back sc p (behind (suc i) a) b) ∙ (λ j. turned_code (suc i) a j || turned_code (behind (suc i) a) b j)
    turned_act i (loop y a b c body m) = go (reversed_by sc p.marks.adjointed i body m) (turned_code (suc i) body)
      where
        go : (t : Option Step) → list_any (calls_unit x) (deeds_back sc p (suc i) body) ≡ turns_in sc p.marks.adjointed x (suc i) body →
            list_any (calls_unit x) (found_or t (deeds_back sc p (suc i) body) (deeds_of p)) ≡ found_or t (turns_in sc p.marks.adjointed x (suc i) body) (λ s. name_eq x s.name)
        go None ih = ih
        go (Some s) ih = step_called s
    turned_act i (during c body) = turned_code (suc i) body
    turned_act i (call name args) = refl
    turned_act i (runtime c) = refl

    pub turned_code : (i : ℕ) (c : Code) → list_any (calls_unit x) (deeds_back sc p i c) ≡ turns_in sc p.marks.adjointed x i c
    turned_code i stop = refl
    turned_code i (step line a c) =
        any_append (calls_unit x) (deeds_back sc p (next i a) c) (deeds_act sc p i a)
        ∙ (λ j. turned_code (next i a) c j || turned_act i a j)
        ∙ or_comm (turns_in sc p.marks.adjointed x (next i a) c) (turns_act sc p.marks.adjointed x i a)
