-- The forward sweep assigns no shadow and has pushes alone of the runtime's calls, and the backward sweep assigns the unit's variables only as those of DOs.
use Rattle.std.proofs.Common.{◌≡◌, ℕ, suc, Bool, true, false, List, [], ◌∷◌, ◌++◌, refl, ap, ◌∙◌, if◌then◌else◌}
use Rattle.std.specs.Prelude.{◌||◌, ◌&&◌, not, Option, Some, None}
use Rattle.std.specs.List.{list_any, list_all}
use Rattle.std.proofs.lemmas.Grind.{flat_map-append}
use Rattle.adj_tree.specs.Code.{Role, Var, plain, shadow, helper, var_eq, first, stride, count, turn, entry, entries, kind, lower, upper, slots, plus, is_same, Term, var, bin, none, Test, compare, Mark, unmarked, with_count, count_from, push_word, pop_word, push_array, pop_array, push_control, Act, assign, choose, loop, during, call, runtime, Code, stop, step, Procedure}
use Rattle.def_meaning.specs.Append.{◌+++◌, one}
use Rattle.def_names.specs.Statements.{At, statements}
use Rattle.def_names.specs.Numbers.{Vars, next, behind}
use Rattle.def_sweep.specs.Marks.{active_at}
use Rattle.def_sweep.specs.Marked.{code_if}
use Rattle.def_names.proofs.Variables.{or_left, or_right}
use Rattle.def_meaning.proofs.Variables.{var_refl}
use Rattle.def_sweep.specs.Plan.{Callee, Plan, is_emitted, names_of, actuals_named, found_or, save_group, snapshot_group, step_snapshot, Schedules, Step, reversed_by}
use Rattle.def_sweep.specs.AdjointOf.{adjoint_where}
use Rattle.def_sweep.specs.Rows.{is_empty, push, pop, pushes, pops, literal, told_forward, told_backward, loop_forward, loop_backward, while_forward, while_backward, push_own, pop_own, set_own, reset, resets, with_shadows, adjoint_call}
use Rattle.def_sweep.specs.Emission.{forward_act_with, forward_with, backward_act_with, backward_with}
use Rattle.def_sweep.specs.ReversalCode.{at_turn, arm, advance, arms, reversal, slots_of, set_slots, push_slots, pop_slots, row_forward, row_backward}
use Rattle.law_emitted.proofs.Over.{OverAct, OverCode, Any}
use Rattle.law_emitted.proofs.Assigned.{AreMaking, making_adjoint}
use Rattle.law_emitted.proofs.StepCalls.{from_keep, from_turn, from_advance}
use Rattle.def_adjoint.specs.Shape.{gathered, is_own, ran, is_push, assigned, turned, restores_act, restores}
use Rattle.law_shape.proofs.Gathered.{gathered_step, inside, seen}
use Rattle.law_shape.proofs.Forward.{OwnVar, NoArray}
use Rattle.law_shape.proofs.Through.{Through, seen_through, guarded_through, Placed, Placed', seen_placed, guarded_placed, gathered_has, any_append, any_join, all_join}

-- ---- forward

module _ (r : Var → Var) (made : Vars) (plain_unmade : (x : List ℕ) → made (r (plain x)) ≡ false) (helper_unmade : (o : Role) (k : ℕ) → made (r (helper o k)) ≡ false) (sc : Schedules) (p : Plan) where
  -- it assigns no shadow, and calls of the runtime pushes alone
  abbrev Clean : Act → Type 0
  Clean a = (list_any made (assigned a) ≡ false) × (list_all is_push (ran a) ≡ true)

  abbrev IsClean : Code → Type 0
  IsClean c = Through (λ a. (list_any made (assigned a) ≡ false) × (list_all is_push (ran a) ≡ true)) (seen r c)

  clean_join : (c d : Code) → IsClean c → IsClean d → IsClean (c +++ d)
  clean_join c d h g = seen_through (λ a. (list_any made (assigned a) ≡ false) × (list_all is_push (ran a) ≡ true)) r c d h g

  clean_if : (b : Bool) (c : Code) → IsClean c → IsClean (code_if b c)
  clean_if b c h = guarded_through (λ a. (list_any made (assigned a) ≡ false) × (list_all is_push (ran a) ≡ true)) r b c (λ t. h)

  not_plain : (x : List ℕ) → (made (r (plain x)) || false) ≡ false
  not_plain x = ap (λ b. b || false) (plain_unmade x)

  not_helper : (o : Role) (k : ℕ) → (made (r (helper o k)) || false) ≡ false
  not_helper o k = ap (λ b. b || false) (helper_unmade o k)

  clean_pushes : (line : ℕ) (xs : List (List ℕ)) → IsClean (pushes p line xs)
  clean_pushes line [] = tt
  clean_pushes line (x ∷ xs) = clean_join (push p line x) (pushes p line xs) (here (p.arrays (plain x))) (clean_pushes line xs)
    where
      here : (b : Bool) → IsClean (one line (runtime (if b then push_array (plain x) else push_word (plain x) none)))
      here true = ((refl, refl), tt)
      here false = ((refl, refl), tt)

  clean_told : (idle : Bool) (line n : ℕ) (c : Code) → IsClean c → IsClean (told_forward idle line c n)
  clean_told true line n c h = h
  clean_told false line n c h = clean_join c (one line (runtime (push_control (literal n)))) h ((refl, refl), tt)

  abbrev raised : ℕ → ℕ → Code
  raised k line = one line (assign (helper count k) none (bin plus (var (helper count k)) (literal 1)))

  clean_counted : (k line : ℕ) (c : Code) → IsClean c → IsClean (c +++ raised k line)
  clean_counted k line c h = clean_join c (raised k line) h ((not_helper count k, refl), tt)

  clean_loop : (idle : Bool) (k line : ℕ) (x : List ℕ) (a b c : Term) (body : Code) → IsClean body → IsClean (loop_forward idle k line (plain x) a b c body)
  clean_loop true k line x a b c body h = (((not_plain x, refl), h), tt)
  clean_loop false k line x a b c body h = ((not_helper first k, refl), ((not_helper stride k, refl), ((not_helper count k, refl), (((not_plain x, refl), clean_counted k line body h), ((refl, refl), ((refl, refl), ((refl, refl), tt)))))))

  -- the number of snapshots of a loop that is reversed
  clean_set : (line k : ℕ) (m : Mark) (rest : Code) → IsClean rest → IsClean (set_slots line k m rest)
  clean_set line k unmarked rest h = h
  clean_set line k (with_count n) rest h = h
  clean_set line k (count_from y) rest h = ((not_helper slots k, refl), h)

  clean_push : (line k : ℕ) (m : Mark) (rest : Code) → IsClean rest → IsClean (push_slots line k m rest)
  clean_push line k unmarked rest h = h
  clean_push line k (with_count n) rest h = h
  clean_push line k (count_from y) rest h = ((refl, refl), h)

  -- a loop that is reversed
  clean_turns : (i k line : ℕ) (x : List ℕ) (a b c : Term) (s : Step) → IsClean (row_forward p i k line x a b c s)
  clean_turns i k line x a b c s = (
    (not_helper first k, refl),
    ((not_helper stride k, refl), clean_set line k s.mark (set_own line (helper count k) (literal 0) (saves +++ (members +++ turns))) ((not_helper count k, refl), clean_join saves (members +++ turns) (clean_pushes line (save_group p.marks i (p.callees s.name) s.given)) (clean_join members turns (clean_pushes line (step_snapshot (p.callees s.name) s.read s.given)) clean))),
  )
    where
      saves : Code
      saves = pushes p line (save_group p.marks i (p.callees s.name) s.given)

      members : Code
      members = pushes p line (step_snapshot (p.callees s.name) s.read s.given)

      swept : Code
      swept = code_if (p.marks.kept (suc i)) (one line (call s.name (actuals_named s.given)))

      turns : Code
      turns = step line (loop (plain x) (var (helper first k)) b (var (helper stride k)) (swept +++ raised k line) unmarked) (push_own line (helper first k) (push_own line (helper stride k) (push_slots line k s.mark (push_own line (helper count k) stop))))

      clean : IsClean turns
      clean = (
        ((not_plain x, refl), clean_counted k line swept (clean_if (p.marks.kept (suc i)) (one line (call s.name (actuals_named s.given))) ((refl, refl), tt))),
        ((refl, refl), ((refl, refl), clean_push line k s.mark (push_own line (helper count k) stop) ((refl, refl), tt))),
      )

  clean_while : (idle : Bool) (k line : ℕ) (c : Test) (body : Code) → IsClean body → IsClean (while_forward idle k line c body)
  clean_while true k line c body h = (((refl, refl), h), tt)
  clean_while false k line c body h = ((not_helper count k, refl), (((refl, refl), clean_counted k line body h), ((refl, refl), tt)))

  mutual
    clean_act : (i d line : ℕ) (a : Act) → IsClean (forward_act_with sc p i d line a)
    clean_act i d line (assign (plain x) subs e) =
        clean_if (p.marks.kept i) (code_if (p.marks.saved i (plain x)) (one line (runtime (push_word (plain x) subs))) +++ one line (assign (plain x) subs e))
        (clean_join (code_if (p.marks.saved i (plain x)) (one line (runtime (push_word (plain x) subs)))) (one line (assign (plain x) subs e)) (clean_if (p.marks.saved i (plain x)) (one line (runtime (push_word (plain x) subs))) ((refl, refl), tt)) ((not_plain x, refl), tt))
    clean_act i d line (assign (shadow x) subs e) = tt
    clean_act i d line (assign (helper t k) subs e) = tt
    clean_act i d line (choose c a b) =
        let idle = is_empty (backward_with sc p (suc i) d a) && is_empty (backward_with sc p (behind (suc i) a) d b) in
        clean_if (is_emitted p.marks i) (one line (choose c (told_forward idle line (forward_with sc p (suc i) d a) 1) (told_forward idle line (forward_with sc p (behind (suc i) a) d b) 0)))
        (((refl, refl), (clean_told idle line 1 (forward_with sc p (suc i) d a) (clean_code (suc i) d a), clean_told idle line 0 (forward_with sc p (behind (suc i) a) d b) (clean_code (behind (suc i) a) d b))), tt)
    clean_act i d line (loop (plain x) a b c body m) =
        clean_if (is_emitted p.marks i) (code_if (p.marks.saved i (plain x)) (one line (runtime (push_word (plain x) none))) +++ row (reversed_by sc p.marks.adjointed i body m))
        (clean_join (code_if (p.marks.saved i (plain x)) (one line (runtime (push_word (plain x) none)))) (row (reversed_by sc p.marks.adjointed i body m)) (clean_if (p.marks.saved i (plain x)) (one line (runtime (push_word (plain x) none))) ((refl, refl), tt)) (of_row (reversed_by sc p.marks.adjointed i body m) (clean_code (suc i) (suc d) body)))
      where
        idle : Bool
        idle = is_empty (backward_with sc p (suc i) (suc d) body)

        row : Option Step → Code
        row t = found_or t (loop_forward idle (suc d) line (plain x) a b c (forward_with sc p (suc i) (suc d) body)) (λ s. row_forward p i (suc d) line x a b c s)

        of_row : (t : Option Step) → IsClean (forward_with sc p (suc i) (suc d) body) → IsClean (row t)
        of_row None h = clean_loop idle (suc d) line x a b c (forward_with sc p (suc i) (suc d) body) h
        of_row (Some s) h = clean_turns i (suc d) line x a b c s
    clean_act i d line (loop (shadow x) a b c body m) = tt
    clean_act i d line (loop (helper t k) a b c body m) = tt
    clean_act i d line (during c body) =
        let idle = is_empty (backward_with sc p (suc i) (suc d) body) in
        clean_if (is_emitted p.marks i) (while_forward idle (suc d) line c (forward_with sc p (suc i) (suc d) body)) (clean_while idle (suc d) line c (forward_with sc p (suc i) (suc d) body) (clean_code (suc i) (suc d) body))
    clean_act i d line (call name args) = clean_if (is_emitted p.marks i) (if p.marks.split i then one line (call (p.callees name).forth args) else row) (of_split (p.marks.split i))
      where
        saves : List (List ℕ)
        saves = save_group p.marks i (p.callees name) (names_of args)

        members : List (List ℕ)
        members = snapshot_group (p.callees name) (names_of args)

        row : Code
        row = pushes p line saves +++ (code_if (p.marks.adjointed i) (pushes p line members) +++ code_if (p.marks.kept i) (one line (call name args)))

        of_split : (s : Bool) → IsClean (if s then one line (call (p.callees name).forth args) else row)
        of_split true = ((refl, refl), tt)
        of_split false =
            clean_join (pushes p line saves) (code_if (p.marks.adjointed i) (pushes p line members) +++ code_if (p.marks.kept i) (one line (call name args))) (clean_pushes line saves)
            (clean_join (code_if (p.marks.adjointed i) (pushes p line members)) (code_if (p.marks.kept i) (one line (call name args))) (clean_if (p.marks.adjointed i) (pushes p line members) (clean_pushes line members)) (clean_if (p.marks.kept i) (one line (call name args)) ((refl, refl), tt)))
    clean_act i d line (runtime c) = tt

    clean_code : (i d : ℕ) (c : Code) → IsClean (forward_with sc p i d c)
    clean_code i d stop = tt
    clean_code i d (step line a rest) = clean_join (forward_act_with sc p i d line a) (forward_with sc p (next i a) d rest) (clean_act i d line a) (clean_code (next i a) d rest)

  pub forward_clean : (i d : ℕ) (c : Code) → list_any made (gathered assigned (seen r (forward_with sc p i d c))) ≡ false
  forward_clean i d c = gathered_has (λ l. list_any made l ≡ false) refl (any_join made) assigned (λ a. (list_any made (assigned a) ≡ false) × (list_all is_push (ran a) ≡ true)) (λ a h. h.0) (seen r (forward_with sc p i d c)) (clean_code i d c)

  -- and of the runtime's calls it has pushes alone
  pub forward_pushes : (i d : ℕ) (c : Code) → list_all is_push (gathered ran (seen r (forward_with sc p i d c))) ≡ true
  forward_pushes i d c = gathered_has (λ l. list_all is_push l ≡ true) refl (all_join is_push) ran (λ a. (list_any made (assigned a) ≡ false) × (list_all is_push (ran a) ≡ true)) (λ a h. h.1) (seen r (forward_with sc p i d c)) (clean_code i d c)

-- ---- the loops of a list

module _ (counts : Vars) where
  abbrev mutual
    LoopsIn' : Act → Type 0
    LoopsIn' (assign x subs e) = Unit {0}
    LoopsIn' (choose c a b) = LoopsIn a × LoopsIn b
    LoopsIn' (loop x a b c body m) = (counts x ≡ true) × LoopsIn body
    LoopsIn' (during c body) = LoopsIn body
    LoopsIn' (call name args) = Unit {0}
    LoopsIn' (runtime r) = Unit {0}

    -- their variables are in a set
    pub LoopsIn : Code → Type 0
    LoopsIn stop = Unit {0}
    LoopsIn (step line a rest) = LoopsIn' a × LoopsIn rest

  abbrev Within : List Var → Type 0
  Within xs = (v : Var) → list_any (var_eq v) xs ≡ true → counts v ≡ true

  within_front : (xs ys : List Var) → Within (xs ++ ys) → Within xs
  within_front xs ys w v h = w v (any_append (var_eq v) xs ys ∙ or_left (list_any (var_eq v) xs) (list_any (var_eq v) ys) h)

  within_behind : (xs ys : List Var) → Within (xs ++ ys) → Within ys
  within_behind xs ys w v h = w v (any_append (var_eq v) xs ys ∙ or_right (list_any (var_eq v) xs) (list_any (var_eq v) ys) h)

  mutual
    loops_act : (a : Act) → Within (turned a) → Within (inside turned a) → LoopsIn' a
    loops_act (assign x subs e) w v = tt
    loops_act (choose c a b) w v =
        let all = λ (x : Var). v x in
        let parts = λ (x : Var) (h : list_any (var_eq x) (gathered turned a ++ gathered turned b) ≡ true). all x (ap (list_any (var_eq x)) (flat_map-append (λ (s : At Act). turned s.1) (statements a) (statements b)) ∙ h) in
        (loops_in a (within_front (gathered turned a) (gathered turned b) parts), loops_in b (within_behind (gathered turned a) (gathered turned b) parts))
    loops_act (loop x a b c body m) w v = (w x (or_left (var_eq x x) false (var_refl x)), loops_in body v)
    loops_act (during c body) w v = loops_in body v
    loops_act (call name args) w v = tt
    loops_act (runtime r) w v = tt

    pub loops_in : (c : Code) → Within (gathered turned c) → LoopsIn c
    loops_in stop w = tt
    loops_in (step line a rest) w =
        let all = λ (x : Var) (h : list_any (var_eq x) (turned a ++ (inside turned a ++ gathered turned rest)) ≡ true). w x (ap (list_any (var_eq x)) (gathered_step turned line a rest) ∙ h) in
        let later = within_behind (turned a) (inside turned a ++ gathered turned rest) all in
        (loops_act a (within_front (turned a) (inside turned a ++ gathered turned rest) all) (within_front (inside turned a) (gathered turned rest) later), loops_in rest (within_behind (inside turned a) (gathered turned rest) later))

-- ---- backward

module _ (u : Procedure) (r : Var → Var) (own_kept : (v : Var) → is_own u v ≡ true → r v ≡ v) (own_same : (v : Var) → is_own u (r v) ≡ is_own u v) (counts : Vars) (sc : Schedules) (p : Plan) where
  -- a variable that isn't the unit's, or is that of a DO and stands in the body of a loop
  abbrev restored : Bool → Var → Bool
  restored z v = not (is_own u v) || (z && counts v)

  -- no other variable is assigned
  abbrev IsTurning : Bool → Code → Type 0
  IsTurning z c = Placed (λ y a. list_all (λ v. not (is_own u v) || (y && counts v)) (assigned a) ≡ true) z (seen r c)

  turning_join : (z : Bool) (c d : Code) → IsTurning z c → IsTurning z d → IsTurning z (c +++ d)
  turning_join z c d h g = seen_placed (λ y a. list_all (λ v. not (is_own u v) || (y && counts v)) (assigned a) ≡ true) z r c d h g

  turning_if : (z b : Bool) (c : Code) → (b ≡ true → IsTurning z c) → IsTurning z (code_if b c)
  turning_if z b c h = guarded_placed (λ y a. list_all (λ v. not (is_own u v) || (y && counts v)) (assigned a) ≡ true) z r b c h

  -- a variable that isn't the unit's, before others
  free_before : (z : Bool) (v : Var) (b : Bool) → is_own u v ≡ false → b ≡ true → (restored z (r v) && b) ≡ true
  free_before z v b h e = λ j. (not ((own_same v ∙ h) j) || (z && counts (r v))) && e j

  free : (z : Bool) (v : Var) → is_own u v ≡ false → (restored z (r v) && true) ≡ true
  free z v h = free_before z v true h refl

  -- the variable of a DO, in the body of a loop
  of_loop : (x : List ℕ) → is_own u (plain x) ≡ true → counts (plain x) ≡ true → (restored true (r (plain x)) && true) ≡ true
  of_loop x o h = (λ j. restored true (own_kept (plain x) o j) && true) ∙ (λ j. or_right (not (is_own u (plain x))) (counts (plain x)) h j && true)

  making_turns : (z : Bool) (c : Code) → AreMaking c → IsTurning z c
  making_turns z stop h = tt
  making_turns z (step line (assign (plain x) s e) c) h = absurd h.0
  making_turns z (step line (assign (shadow x) s e) c) h = (free z (shadow x) refl, making_turns z c h.1)
  making_turns z (step line (assign (helper o k) s e) c) h = (free z (helper o k) refl, making_turns z c h.1)
  making_turns z (step line (choose t a b) c) h = absurd h.0
  making_turns z (step line (loop x a b by body m) c) h = absurd h.0
  making_turns z (step line (during t body) c) h = absurd h.0
  making_turns z (step line (call name args) c) h = absurd h.0
  making_turns z (step line (runtime t) c) h = absurd h.0

  pushes_turn : (z : Bool) (line : ℕ) (xs : List (List ℕ)) → IsTurning z (pushes p line xs)
  pushes_turn z line [] = tt
  pushes_turn z line (x ∷ xs) = turning_join z (push p line x) (pushes p line xs) (here (p.arrays (plain x))) (pushes_turn z line xs)
    where
      here : (b : Bool) → IsTurning z (one line (runtime (if b then push_array (plain x) else push_word (plain x) none)))
      here true = (refl, tt)
      here false = (refl, tt)

  pops_turn : (z : Bool) (line : ℕ) (xs : List (List ℕ)) → IsTurning z (pops p line xs)
  pops_turn z line [] = tt
  pops_turn z line (x ∷ xs) = turning_join z (pops p line xs) (pop p line x) (pops_turn z line xs) (here (p.arrays (plain x)))
    where
      here : (b : Bool) → IsTurning z (one line (runtime (if b then pop_array (plain x) else pop_word (plain x) none)))
      here true = (refl, tt)
      here false = (refl, tt)

  told_turns : (z idle : Bool) (line : ℕ) (a b : Code) → IsTurning z a → IsTurning z b → IsTurning z (told_backward idle line a b)
  told_turns z true line a b h g = tt
  told_turns z false line a b h g = (refl, ((refl, (h, g)), tt))

  loop_turns : (z idle : Bool) (k line : ℕ) (x : List ℕ) (body : Code) → is_own u (plain x) ≡ true → counts (plain x) ≡ true → IsTurning true body → IsTurning z (loop_backward idle k line (plain x) body)
  loop_turns z true k line x body o n h = tt
  loop_turns z false k line x body o n h = (refl, (refl, (refl, ((free z (helper turn k) refl, (of_loop x o n, h)), tt))))

  while_turns : (z idle : Bool) (k line : ℕ) (body : Code) → IsTurning true body → IsTurning z (while_backward idle k line body)
  while_turns z true k line body h = tt
  while_turns z false k line body h = (refl, ((free z (helper turn k) refl, h), tt))

  -- the arm of one action
  arm_turns : (z : Bool) (line k n : ℕ) (c : Code) → IsTurning z c → IsTurning z (arm line k n c)
  arm_turns z line k n c h = turning_if z (not (is_empty c)) (one line (choose (compare is_same (var (helper kind k)) (literal n)) c stop)) (λ t. ((refl, (h, tt)), tt))

  -- a reversal
  reversal_turns : (z : Bool) (line k : ℕ) (x : List ℕ) (m : Term) (keep back plain_call adjoint : Code) → is_own u (plain x) ≡ true → counts (plain x) ≡ true → IsTurning true keep → IsTurning true back → IsTurning true plain_call → IsTurning true adjoint → IsTurning z (reversal line k (plain x) m keep back plain_call adjoint)
  reversal_turns z line k x m keep back plain_call adjoint o n hk hb hp ha = (
    refl,
    (
      free z (helper entries k) refl,
      ((free z (helper entry k) refl, (free_before true (helper kind k) (restored true (r (helper lower k)) && (restored true (r (helper upper k)) && true)) refl (free_before true (helper lower k) (restored true (r (helper upper k)) && true) refl (free true (helper upper k) refl)), all_arms)), (refl, tt)),
    ),
  )
    where
      all_arms : IsTurning true (arms line k (plain x) keep back plain_call adjoint)
      all_arms =
          turning_join true (arm line k 1 keep) (from_advance line k (plain x) keep back plain_call adjoint) (arm_turns true line k 1 keep hk)
          (turning_join true (arm line k 2 (advance line k (plain x) plain_call)) (from_turn line k (plain x) keep back adjoint) (arm_turns true line k 2 (advance line k (plain x) plain_call) ((free true (helper turn k) refl, (of_loop x o n, hp)), tt))
          (turning_join true (arm line k 3 (at_turn line k (plain x) lower adjoint)) (from_keep line k keep back) (arm_turns true line k 3 (at_turn line k (plain x) lower adjoint) (of_loop x o n, ha))
          (turning_join true (arm line k 4 (back +++ keep)) (arm line k 5 back) (arm_turns true line k 4 (back +++ keep) (turning_join true back keep hb hk)) (arm_turns true line k 5 back hb))))

  pop_turns : (z : Bool) (line k : ℕ) (m : Mark) (rest : Code) → IsTurning z rest → IsTurning z (pop_slots line k m rest)
  pop_turns z line k unmarked rest h = h
  pop_turns z line k (with_count n) rest h = h
  pop_turns z line k (count_from y) rest h = (refl, h)

  turns_turn : (z : Bool) (i k line : ℕ) (x : List ℕ) (s : Step) → is_own u (plain x) ≡ true → counts (plain x) ≡ true → IsTurning z (row_backward p i k line x s)
  turns_turn z i k line x s o n = (
    refl,
    pop_turns z line k s.mark (pop_own line (helper stride k) (pop_own line (helper first k) (back +++ (turns +++ unsave))))
        (refl, (refl, turning_join z back (turns +++ unsave) (pops_turn z line snapshot) (turning_join z turns unsave (reversal_turns z line k x (slots_of k s.mark) keep back plain_call adjoint o n (pushes_turn true line snapshot) (pops_turn true line snapshot) (refl, tt) (refl, tt)) (pops_turn z line (save_group p.marks i (p.callees s.name) s.given))))),
  )
    where
      snapshot : List (List ℕ)
      snapshot = step_snapshot (p.callees s.name) s.read s.given

      keep : Code
      keep = pushes p line snapshot

      back : Code
      back = pops p line snapshot

      unsave : Code
      unsave = pops p line (save_group p.marks i (p.callees s.name) s.given)

      plain_call : Code
      plain_call = one line (call s.name (actuals_named s.given))

      adjoint : Code
      adjoint = one line (adjoint_call (p.callees s.name) s.given)

      turns : Code
      turns = reversal line k (plain x) (slots_of k s.mark) keep back plain_call adjoint

  mutual
    act_turns : (z : Bool) (i d line : ℕ) (a : Act) → OverAct (OwnVar u) NoArray Any a → LoopsIn' counts a → IsTurning z (backward_act_with sc p i d line a)
    act_turns z i d line (assign (plain x) subs e) o l =
        turning_join z (code_if (p.marks.kept i && p.marks.saved i (plain x)) (one line (runtime (pop_word (plain x) subs)))) (code_if (p.marks.adjointed i) (adjoint_where (active_at p.marks i) x subs e line))
        (turning_if z (p.marks.kept i && p.marks.saved i (plain x)) (one line (runtime (pop_word (plain x) subs))) (λ t. (refl, tt)))
        (turning_if z (p.marks.adjointed i) (adjoint_where (active_at p.marks i) x subs e line) (λ t. making_turns z (adjoint_where (active_at p.marks i) x subs e line) (making_adjoint (active_at p.marks i) x subs e line)))
    act_turns z i d line (assign (shadow x) subs e) o l = tt
    act_turns z i d line (assign (helper t k) subs e) o l = tt
    act_turns z i d line (choose t a b) o l =
        let one_part = code_turns z (suc i) d a o.1.0 l.0 in
        let other_part = code_turns z (behind (suc i) a) d b o.1.1 l.1 in
        turning_if z (is_emitted p.marks i) (told_backward (is_empty (backward_with sc p (suc i) d a) && is_empty (backward_with sc p (behind (suc i) a) d b)) line (backward_with sc p (suc i) d a) (backward_with sc p (behind (suc i) a) d b))
        (λ e. told_turns z (is_empty (backward_with sc p (suc i) d a) && is_empty (backward_with sc p (behind (suc i) a) d b)) line (backward_with sc p (suc i) d a) (backward_with sc p (behind (suc i) a) d b) one_part other_part)
    act_turns z i d line (loop (plain x) a b by body m) o l =
        turning_if z (is_emitted p.marks i) (row (reversed_by sc p.marks.adjointed i body m) +++ (code_if (p.marks.saved i (plain x)) (one line (runtime (pop_word (plain x) none))) +++ reset p.marks i line x)) (λ e.
        turning_join z (row (reversed_by sc p.marks.adjointed i body m)) (code_if (p.marks.saved i (plain x)) (one line (runtime (pop_word (plain x) none))) +++ reset p.marks i line x) (of_row (reversed_by sc p.marks.adjointed i body m) (code_turns true (suc i) (suc d) body o.1.1.1.1.0 l.1))
        (turning_join z (code_if (p.marks.saved i (plain x)) (one line (runtime (pop_word (plain x) none)))) (reset p.marks i line x)
        (turning_if z (p.marks.saved i (plain x)) (one line (runtime (pop_word (plain x) none))) (λ t. (refl, tt)))
        (turning_if z (resets p.marks i x) (one line (assign (shadow x) none (literal 0))) (λ t. (free z (shadow x) refl, tt)))))
      where
        idle : Bool
        idle = is_empty (backward_with sc p (suc i) (suc d) body)

        row : Option Step → Code
        row t = found_or t (loop_backward idle (suc d) line (plain x) (backward_with sc p (suc i) (suc d) body)) (λ s. row_backward p i (suc d) line x s)

        of_row : (t : Option Step) → IsTurning true (backward_with sc p (suc i) (suc d) body) → IsTurning z (row t)
        of_row None h = loop_turns z idle (suc d) line x (backward_with sc p (suc i) (suc d) body) o.0 l.0 h
        of_row (Some s) h = turns_turn z i (suc d) line x s o.0 l.0
    act_turns z i d line (loop (shadow x) a b by body m) o l = tt
    act_turns z i d line (loop (helper t k) a b by body m) o l = tt
    act_turns z i d line (during t body) o l =
        let idle = is_empty (backward_with sc p (suc i) (suc d) body) in
        let inside_it = code_turns true (suc i) (suc d) body o.1 l in
        turning_if z (is_emitted p.marks i) (while_backward idle (suc d) line (backward_with sc p (suc i) (suc d) body)) (λ e. while_turns z idle (suc d) line (backward_with sc p (suc i) (suc d) body) inside_it)
    act_turns z i d line (call name args) o l = turning_if z (is_emitted p.marks i) (if p.marks.split i then one line (call g.back (with_shadows g.shadowed g.dummies (names_of args))) else row) (λ e. of_split (p.marks.split i))
      where
        g : Callee
        g = p.callees name

        saves : List (List ℕ)
        saves = save_group p.marks i g (names_of args)

        members : List (List ℕ)
        members = snapshot_group g (names_of args)

        row : Code
        row = code_if (p.marks.adjointed i) (pops p line members +++ one line (adjoint_call g (names_of args))) +++ pops p line saves

        of_split : (s : Bool) → IsTurning z (if s then one line (call g.back (with_shadows g.shadowed g.dummies (names_of args))) else row)
        of_split true = (refl, tt)
        of_split false =
            turning_join z (code_if (p.marks.adjointed i) (pops p line members +++ one line (adjoint_call g (names_of args)))) (pops p line saves)
            (turning_if z (p.marks.adjointed i) (pops p line members +++ one line (adjoint_call g (names_of args))) (λ t. turning_join z (pops p line members) (one line (adjoint_call g (names_of args))) (pops_turn z line members) (refl, tt)))
            (pops_turn z line saves)
    act_turns z i d line (runtime t) o l = tt

    code_turns : (z : Bool) (i d : ℕ) (c : Code) → OverCode (OwnVar u) NoArray Any c → LoopsIn counts c → IsTurning z (backward_with sc p i d c)
    code_turns z i d stop o l = tt
    code_turns z i d (step line a rest) o l = turning_join z (backward_with sc p (next i a) d rest) (backward_act_with sc p i d line a) (code_turns z (next i a) d rest o.1 l.1) (act_turns z i d line a o.0 l.0)

  mutual
    act_restores : (z : Bool) (a : Act) → Placed' (λ y a. list_all (λ v. not (is_own u v) || (y && counts v)) (assigned a) ≡ true) z a → restores_act (is_own u) counts z a ≡ true
    act_restores z (assign x subs e) h = h
    act_restores z (choose c a b) h = λ j. code_restores z a h.1.0 j && code_restores z b h.1.1 j
    act_restores z (loop x a b c body m) h = λ j. h.0 j && code_restores true body h.1 j
    act_restores z (during c body) h = code_restores true body h.1
    act_restores z (call name args) h = refl
    act_restores z (runtime t) h = h

    code_restores : (z : Bool) (c : Code) → Placed (λ y a. list_all (λ v. not (is_own u v) || (y && counts v)) (assigned a) ≡ true) z c → restores (is_own u) counts z c ≡ true
    code_restores z stop h = refl
    code_restores z (step line a rest) h = λ j. act_restores z a h.0 j && code_restores z rest h.1 j

  pub backward_assigns : (i d : ℕ) (c : Code) → OverCode (OwnVar u) NoArray Any c → LoopsIn counts c → restores (is_own u) counts false (seen r (backward_with sc p i d c)) ≡ true
  backward_assigns i d c o l = code_restores false (seen r (backward_with sc p i d c)) (code_turns false i d c o l)
