-- No loop in the sweeps of a unit may write its variable: not in its body.
use Rattle.std.proofs.Common.{◌≡◌, ℕ, suc, ◌<◌, Bool, true, false, List, [], ◌∷◌, refl, sym, ◌∙◌, arith, if◌then◌else◌}
use Rattle.std.specs.Prelude.{◌&&◌, ◌||◌, ◌==◌, not, Option, Some, None}
use Rattle.adj_tree.specs.Code.{Var, var_eq, plain, shadow, helper, turn, Role, entry, kind, lower, is_same, compare, Term, var, none, Test, Mark, unmarked, with_count, count_from, push_array, pop_array, push_word, pop_word, push_control, zero_array, Act, assign, choose, loop, during, call, runtime, Code, stop, step}
use Rattle.adj_tree.proofs.Names.{nat_same}
use Rattle.def_meaning.specs.Append.{◌+++◌, one}
use Rattle.def_meaning.specs.LeastSet.{Dummies}
use Rattle.def_meaning.specs.Written.{is_handed_back, writes}
use Rattle.law_kernel.proofs.Holding.{HoldsIn, holds_join}
use Rattle.law_kernel.proofs.Sparing.{Spares, AreSpared}
use Rattle.law_kernel.proofs.Writes.{writes_append}
use Rattle.def_names.specs.Numbers.{next, behind}
use Rattle.def_sweep.specs.Marks.{active_at}
use Rattle.def_sweep.specs.Marked.{code_if}
use Rattle.def_names.proofs.Variables.{not_true}
use Rattle.def_sweep.specs.AdjointOf.{adjoint_where}
use Rattle.def_sweep.specs.Plan.{Callee, Plan, is_emitted, names_of, actuals_named, save_group, snapshot_group, step_snapshot, Schedules, Step, reversed_by, ByStep}
use Rattle.def_sweep.specs.ReversalCode.{at_turn, arm, advance, arms, one_action, reversal, slots_of, set_slots, push_slots, pop_slots, row_forward, row_backward}
use Rattle.def_sweep.specs.Rows.{is_empty, push, pop, pushes, pops, literal, with_shadows, adjoint_call, told_forward, told_backward, loop_forward, loop_backward, while_forward, while_backward, resets, reset}
use Rattle.def_sweep.specs.Emission.{forward_act_with, forward_with, backward_act_with, backward_with, cleared, adjoint_body_with}
use Rattle.def_sweep.specs.SplitRows.{forth_body, back_body}
use Rattle.law_emitted.proofs.StepCalls.{from_keep, from_turn, from_advance}
use Rattle.law_emitted.proofs.Assigned.{AreMaking, making_adjoint}
use Rattle.law_emitted.proofs.Writing.{plain_apart, turn_apart, no_given, no_shadows_given, Turned, KnownAct, Known, no_turns, rows_forth, rows_back, neither, Only, raised, only_raised, list_only}

module _ (f g : Dummies) (sc : Schedules) (p : Plan) where
  abbrev Own : ℕ → Act → Type 0
  Own line a = Spares f a

  join : (c d : Code) → AreSpared f c → AreSpared f d → AreSpared f (c +++ d)
  join c d h k = holds_join Own c d h k

  spared_if : (b : Bool) (c : Code) → AreSpared f c → AreSpared f (code_if b c)
  spared_if true c h = h
  spared_if false c h = tt

  spared_either : (b : Bool) (c d : Code) → AreSpared f c → AreSpared f d → AreSpared f (if b then c else d)
  spared_either true c d h k = h
  spared_either false c d h k = k

  spared_making : (c : Code) → AreMaking c → AreSpared f c
  spared_making stop h = tt
  spared_making (step line (assign x s e) rest) h = (tt, (tt, spared_making rest h.1))
  spared_making (step line (choose c a b) rest) h = absurd h.0
  spared_making (step line (loop x a b c body m) rest) h = absurd h.0
  spared_making (step line (during c body) rest) h = absurd h.0
  spared_making (step line (call name args) rest) h = absurd h.0
  spared_making (step line (runtime r) rest) h = absurd h.0

  spared_pushes : (line : ℕ) (xs : List (List ℕ)) → AreSpared f (pushes p line xs)
  spared_pushes line [] = tt
  spared_pushes line (x ∷ xs) = join (push p line x) (pushes p line xs) (tt, (tt, tt)) (spared_pushes line xs)

  spared_pops : (line : ℕ) (xs : List (List ℕ)) → AreSpared f (pops p line xs)
  spared_pops line [] = tt
  spared_pops line (x ∷ xs) = join (pops p line xs) (pop p line x) (spared_pops line xs) (tt, (tt, tt))

  -- ---- rows

  told_forward_spared : (idle : Bool) (line : ℕ) (c : Code) (k : ℕ) → AreSpared f c → AreSpared f (told_forward idle line c k)
  told_forward_spared true line c k h = h
  told_forward_spared false line c k h = join c (one line (runtime (push_control (literal k)))) h (tt, (tt, tt))

  told_backward_spared : (idle : Bool) (line : ℕ) (a b : Code) → AreSpared f a → AreSpared f b → AreSpared f (told_backward idle line a b)
  told_backward_spared true line a b h k = tt
  told_backward_spared false line a b h k = (tt, (tt, (tt, ((h, k), tt))))

  counted : (k line : ℕ) (body : Code) → AreSpared f body → AreSpared f (body +++ raised k line)
  counted k line body h = join body (raised k line) h (tt, (tt, tt))

  loop_forward_spared : (idle : Bool) (k line : ℕ) (x : Var) (a b c : Term) (body : Code) → writes f x body ≡ false → writes f x (body +++ raised k line) ≡ false → AreSpared f body → AreSpared f (loop_forward idle k line x a b c body)
  loop_forward_spared true k line x a b c body w v h = (w, (h, tt))
  loop_forward_spared false k line x a b c body w v h = (tt, (tt, (tt, (tt, (tt, (tt, (v, (counted k line body h, (tt, (tt, (tt, (tt, (tt, (tt, tt))))))))))))))

  loop_backward_spared : (idle : Bool) (k line : ℕ) (x : Var) (body : Code) → (var_eq (helper turn k) x || writes f (helper turn k) body) ≡ false → AreSpared f body → AreSpared f (loop_backward idle k line x body)
  loop_backward_spared true k line x body w h = tt
  loop_backward_spared false k line x body w h = (tt, (tt, (tt, (tt, (tt, (tt, (w, ((tt, (tt, h)), tt))))))))

  while_forward_spared : (idle : Bool) (k line : ℕ) (c : Test) (body : Code) → AreSpared f body → AreSpared f (while_forward idle k line c body)
  while_forward_spared true k line c body h = (tt, (h, tt))
  while_forward_spared false k line c body h = (tt, (tt, (tt, (counted k line body h, (tt, (tt, tt))))))

  while_backward_spared : (idle : Bool) (k line : ℕ) (body : Code) → writes f (helper turn k) body ≡ false → AreSpared f body → AreSpared f (while_backward idle k line body)
  while_backward_spared true k line body w h = tt
  while_backward_spared false k line body w h = (tt, (tt, (w, (h, tt))))

  -- ---- the sweeps of a body

  -- what is written only where nothing holds isn't written
  unwritten : (b : Bool) → (b ≡ true → false ≡ true) → b ≡ false
  unwritten true h = sym (h refl)
  unwritten false h = refl

  -- an outer turn is none of an inner loop
  outer_turn : (d k : ℕ) → suc d < k → var_eq (helper turn (suc d)) (helper turn k) ≡ false
  outer_turn d k l = not_true (suc d == k) (λ e. let same : suc d ≡ k = nat_same (suc d) k e in absurd (omega arith))

  -- the variable of a DO in its forward sweep
  forward_leaves : (i d : ℕ) (x : List ℕ) (body : Code) → Known f g sc p i body → writes g (plain x) body ≡ false → Only f g sc p (plain x) (plain_apart x) false (forward_with sc p i d body)
  forward_leaves i d x body w h = (list_only f g sc p (plain x) (plain_apart x) false i d body w (λ k l. cc) (λ e. sym h ∙ e)).0

  -- the turn in the backward sweep
  backward_leaves : (i d : ℕ) (body : Code) → Known f g sc p i body → Only f g sc p (helper turn (suc d)) (turn_apart (suc d)) false (backward_with sc p i (suc d) body)
  backward_leaves i d body w = (list_only f g sc p (helper turn (suc d)) (turn_apart (suc d)) false i (suc d) body w (outer_turn d) (λ e. sym (no_turns f g sc p (suc d) i body w) ∙ e)).1

  -- ---- loops that are reversed by schedules

  -- a helper that isn't popped, assigned or given stays
  module _ (line k : ℕ) (x : List ℕ) (j : Term) (keep back plain_call adjoint : Code) (no_keep : writes f (helper entry k) keep ≡ false) (no_back : writes f (helper entry k) back ≡ false) (no_call : writes f (helper entry k) plain_call ≡ false) (no_adjoint : writes f (helper entry k) adjoint ≡ false) where
    still_append : (c d : Code) → writes f (helper entry k) c ≡ false → writes f (helper entry k) d ≡ false → writes f (helper entry k) (c +++ d) ≡ false
    still_append c d h e = writes_append f (helper entry k) c d ∙ neither f g sc p (writes f (helper entry k) c) (writes f (helper entry k) d) h e

    still_arm : (n : ℕ) (c : Code) → writes f (helper entry k) c ≡ false → writes f (helper entry k) (arm line k n c) ≡ false
    still_arm n c h = go (not (is_empty c))
      where
        go : (b : Bool) → writes f (helper entry k) (code_if b (one line (choose (compare is_same (var (helper kind k)) (literal n)) c stop))) ≡ false
        go true = neither f g sc p (writes f (helper entry k) c || false) false (neither f g sc p (writes f (helper entry k) c) false h refl) refl
        go false = refl

    -- no action sets its own number
    still_action : writes f (helper entry k) (one_action line k (plain x) j keep back plain_call adjoint) ≡ false
    still_action =
        still_append (arm line k 1 keep) (from_advance line k (plain x) keep back plain_call adjoint) (still_arm 1 keep no_keep)
        (still_append (arm line k 2 (advance line k (plain x) plain_call)) (from_turn line k (plain x) keep back adjoint) (still_arm 2 (advance line k (plain x) plain_call) (neither f g sc p (writes f (helper entry k) plain_call) false no_call refl))
        (still_append (arm line k 3 (at_turn line k (plain x) lower adjoint)) (from_keep line k keep back) (still_arm 3 (at_turn line k (plain x) lower adjoint) no_adjoint)
        (still_append (arm line k 4 (back +++ keep)) (arm line k 5 back) (still_arm 4 (back +++ keep) (still_append back keep no_back no_keep)) (still_arm 5 back no_back))))

  still_pushes : (v : Var) (line : ℕ) (xs : List (List ℕ)) → writes f v (pushes p line xs) ≡ false
  still_pushes v line [] = refl
  still_pushes v line (x ∷ xs) = writes_append f v (push p line x) (pushes p line xs) ∙ neither f g sc p (writes f v (push p line x)) (writes f v (pushes p line xs)) (go (p.arrays (plain x))) (still_pushes v line xs)
    where
      go : (b : Bool) → writes f v (one line (runtime (if b then push_array (plain x) else push_word (plain x) none))) ≡ false
      go true = refl
      go false = refl

  still_pops : (r : Role) (k line : ℕ) (xs : List (List ℕ)) → writes f (helper r k) (pops p line xs) ≡ false
  still_pops r k line [] = refl
  still_pops r k line (x ∷ xs) = writes_append f (helper r k) (pops p line xs) (pop p line x) ∙ neither f g sc p (writes f (helper r k) (pops p line xs)) (writes f (helper r k) (pop p line x)) (still_pops r k line xs) (go (p.arrays (plain x)))
    where
      go : (b : Bool) → writes f (helper r k) (one line (runtime (if b then pop_array (plain x) else pop_word (plain x) none))) ≡ false
      go true = refl
      go false = refl

  arm_spared : (line k n : ℕ) (c : Code) → AreSpared f c → AreSpared f (arm line k n c)
  arm_spared line k n c h = spared_if (not (is_empty c)) (one line (choose (compare is_same (var (helper kind k)) (literal n)) c stop)) (tt, ((h, tt), tt))

  -- the actuals of a call in one statement
  no_call : (r : Role) (k : ℕ) (line : ℕ) (name : List ℕ) (given : List (List ℕ)) → writes f (helper r k) (one line (call name (actuals_named given))) ≡ false
  no_call r k line name given = neither f g sc p (is_handed_back (helper r k) (f name) (actuals_named given)) false (no_given r k (f name) given) refl

  no_adjoint : (r : Role) (k : ℕ) (line : ℕ) (callee : Callee) (given : List (List ℕ)) → writes f (helper r k) (one line (adjoint_call callee given)) ≡ false
  no_adjoint r k line callee given = neither f g sc p (is_handed_back (helper r k) (f callee.adjoint) (with_shadows callee.shadowed callee.dummies given)) false (no_shadows_given r k (f callee.adjoint) callee.shadowed callee.dummies given) refl

  set_slots_spared : (line k : ℕ) (m : Mark) (rest : Code) → AreSpared f rest → AreSpared f (set_slots line k m rest)
  set_slots_spared line k unmarked rest h = h
  set_slots_spared line k (with_count j) rest h = h
  set_slots_spared line k (count_from y) rest h = (tt, (tt, h))

  push_slots_spared : (line k : ℕ) (m : Mark) (rest : Code) → AreSpared f rest → AreSpared f (push_slots line k m rest)
  push_slots_spared line k unmarked rest h = h
  push_slots_spared line k (with_count j) rest h = h
  push_slots_spared line k (count_from y) rest h = (tt, (tt, h))

  pop_slots_spared : (line k : ℕ) (m : Mark) (rest : Code) → AreSpared f rest → AreSpared f (pop_slots line k m rest)
  pop_slots_spared line k unmarked rest h = h
  pop_slots_spared line k (with_count j) rest h = h
  pop_slots_spared line k (count_from y) rest h = (tt, (tt, h))

  -- the rows of such a loop
  reversed_spared : (i k line : ℕ) (x : List ℕ) (a b c : Term) (body : Code) (s : Step) → Turned f g sc p body s → writes g (plain x) body ≡ false → AreSpared f (row_forward p i k line x a b c s) × AreSpared f (row_backward p i k line x s)
  reversed_spared i k line x a b c body s turned own = (
    (
      tt,
      (
        tt,
        (
          tt,
          (
            tt,
            set_slots_spared line k s.mark _ (
              tt,
              (
                tt,
                join (pushes p line saves) _ (spared_pushes line saves)
                    (join (pushes p line shot) _ (spared_pushes line shot) (unwritten _ ahead, (counted k line (code_if (p.marks.kept (suc i)) plain_call) (spared_if (p.marks.kept (suc i)) plain_call (tt, (tt, tt))), (tt, (tt, (tt, (tt, push_slots_spared line k s.mark _ (tt, (tt, tt))))))))),
              ),
            ),
          ),
        ),
      ),
    ),
    (
      tt,
      (
        tt,
        pop_slots_spared line k s.mark _ (
          tt,
          (
            tt,
            (
              tt,
              (
                tt,
                join (pops p line shot) _ (spared_pops line shot)
                    (join (reversal line k (plain x) (slots_of k s.mark) (pushes p line shot) (pops p line shot) plain_call turned_back) (pops p line saves)
                    (tt, (tt, (tt, (tt, (still, ((tt, (tt, arms_spared)), (tt, (tt, tt))))))))
                    (spared_pops line saves)),
              ),
            ),
          ),
        ),
      ),
    ),
  )
    where
      saves : List (List ℕ)
      saves = save_group p.marks i (p.callees s.name) s.given

      shot : List (List ℕ)
      shot = step_snapshot (p.callees s.name) s.read s.given

      plain_call : Code
      plain_call = one line (call s.name (actuals_named s.given))

      turned_back : Code
      turned_back = one line (adjoint_call (p.callees s.name) s.given)

      -- the variable of the loop isn't handed back by its step call
      kept_call : (t : Bool) → Only f g sc p (plain x) (plain_apart x) false (code_if t (one line (call s.name (actuals_named s.given))))
      kept_call true e = sym own ∙ turned.plainly (plain x) (handed (is_handed_back (plain x) (f s.name) (actuals_named s.given)) e)
        where
          handed : (q : Bool) → (q || false) ≡ true → q ≡ true
          handed true h = refl
          handed false h = absurd cc
      kept_call false e = e

      ahead : Only f g sc p (plain x) (plain_apart x) false (code_if (p.marks.kept (suc i)) (one line (call s.name (actuals_named s.given))) +++ raised k line)
      ahead = only_raised f g sc p (plain x) (plain_apart x) false k line (code_if (p.marks.kept (suc i)) (one line (call s.name (actuals_named s.given)))) (kept_call (p.marks.kept (suc i)))

      still : writes f (helper entry k) (one_action line k (plain x) (slots_of k s.mark) (pushes p line shot) (pops p line shot) plain_call turned_back) ≡ false
      still = still_action line k x (slots_of k s.mark) (pushes p line shot) (pops p line shot) plain_call turned_back (still_pushes (helper entry k) line shot) (still_pops entry k line shot) (no_call entry k line s.name s.given) (no_adjoint entry k line (p.callees s.name) s.given)

      turns_still : writes f (helper turn k) (at_turn line k (plain x) turn plain_call) ≡ false
      turns_still = no_call turn k line s.name s.given

      arms_spared : AreSpared f (arms line k (plain x) (pushes p line shot) (pops p line shot) plain_call turned_back)
      arms_spared =
          join (arm line k 1 (pushes p line shot)) (from_advance line k (plain x) (pushes p line shot) (pops p line shot) plain_call turned_back) (arm_spared line k 1 (pushes p line shot) (spared_pushes line shot))
          (join (arm line k 2 (advance line k (plain x) plain_call)) (from_turn line k (plain x) (pushes p line shot) (pops p line shot) turned_back) (arm_spared line k 2 (advance line k (plain x) plain_call) (turns_still, ((tt, (tt, (tt, (tt, tt)))), tt)))
          (join (arm line k 3 (at_turn line k (plain x) lower turned_back)) (from_keep line k (pushes p line shot) (pops p line shot)) (arm_spared line k 3 (at_turn line k (plain x) lower turned_back) (tt, (tt, (tt, (tt, tt)))))
          (join (arm line k 4 (pops p line shot +++ pushes p line shot)) (arm line k 5 (pops p line shot)) (arm_spared line k 4 (pops p line shot +++ pushes p line shot) (join (pops p line shot) (pushes p line shot) (spared_pops line shot) (spared_pushes line shot))) (arm_spared line k 5 (pops p line shot) (spared_pops line shot)))))

  -- the rows of a loop, by how it is reversed
  rows_spared : (i d line : ℕ) (x : List ℕ) (a b c : Term) (body : Code) (m : Mark) (o : Option Step) → ByStep o (Unit {0}) (Turned f g sc p body) → Known f g sc p (suc i) body → writes g (plain x) body ≡ false → AreSpared f (forward_with sc p (suc i) (suc d) body) × AreSpared f (backward_with sc p (suc i) (suc d) body) →
      AreSpared f (rows_forth f g sc p i d line x a b c body o) × AreSpared f (rows_back f g sc p i d line x body o)
  rows_spared i d line x a b c body m None turned w own inside =
      let ahead = forward_leaves (suc i) (suc d) x body w own in
      let back = backward_leaves (suc i) d body w in
      let idle = is_empty (backward_with sc p (suc i) (suc d) body) in (
        loop_forward_spared idle (suc d) line (plain x) a b c (forward_with sc p (suc i) (suc d) body) (unwritten _ ahead) (unwritten _ (only_raised f g sc p (plain x) (plain_apart x) false (suc d) line (forward_with sc p (suc i) (suc d) body) ahead)) inside.0,
        loop_backward_spared idle (suc d) line (plain x) (backward_with sc p (suc i) (suc d) body) (unwritten _ back) inside.1,
      )
  rows_spared i d line x a b c body m (Some s) turned w own inside = reversed_spared i (suc d) line x a b c body s turned own

  mutual
    act_spared : (i d line : ℕ) (a : Act) → KnownAct f g sc p i a → Spares g a → HoldsIn (λ l b. Spares g b) a → AreSpared f (forward_act_with sc p i d line a) × AreSpared f (backward_act_with sc p i d line a)
    act_spared i d line (assign (plain x) subs e) w s h = (
      spared_if (p.marks.kept i) _ (join (code_if (p.marks.saved i (plain x)) (one line (runtime (push_word (plain x) subs)))) (one line (assign (plain x) subs e)) (spared_if (p.marks.saved i (plain x)) (one line (runtime (push_word (plain x) subs))) (tt, (tt, tt))) (tt, (tt, tt))),
      join (code_if (p.marks.kept i && p.marks.saved i (plain x)) (one line (runtime (pop_word (plain x) subs)))) (code_if (p.marks.adjointed i) (adjoint_where (active_at p.marks i) x subs e line)) (spared_if (p.marks.kept i && p.marks.saved i (plain x)) (one line (runtime (pop_word (plain x) subs))) (tt, (tt, tt)))
          (spared_if (p.marks.adjointed i) (adjoint_where (active_at p.marks i) x subs e line) (spared_making (adjoint_where (active_at p.marks i) x subs e line) (making_adjoint (active_at p.marks i) x subs e line))),
    )
    act_spared i d line (assign (shadow x) subs e) w s h = (tt, tt)
    act_spared i d line (assign (helper r k) subs e) w s h = (tt, tt)
    act_spared i d line (choose c a b) w s h =
        let there = list_spared (suc i) d a w.0 h.0 in
        let other = list_spared (behind (suc i) a) d b w.1 h.1 in
        let idle = is_empty (backward_with sc p (suc i) d a) && is_empty (backward_with sc p (behind (suc i) a) d b) in (
          spared_if (is_emitted p.marks i) (one line (choose c (told_forward idle line (forward_with sc p (suc i) d a) 1) (told_forward idle line (forward_with sc p (behind (suc i) a) d b) 0))) (tt, ((told_forward_spared idle line (forward_with sc p (suc i) d a) 1 there.0, told_forward_spared idle line (forward_with sc p (behind (suc i) a) d b) 0 other.0), tt)),
          spared_if (is_emitted p.marks i) _ (told_backward_spared idle line (backward_with sc p (suc i) d a) (backward_with sc p (behind (suc i) a) d b) there.1 other.1),
        )
    act_spared i d line (loop (plain x) a b c body m) w s h =
        let rows = rows_spared i d line x a b c body m (reversed_by sc p.marks.adjointed i body m) w.1.0 w.1.1 s (list_spared (suc i) (suc d) body w.1.1 h) in (
          spared_if (is_emitted p.marks i) _ (join (code_if (p.marks.saved i (plain x)) (one line (runtime (push_word (plain x) none)))) _ (spared_if (p.marks.saved i (plain x)) (one line (runtime (push_word (plain x) none))) (tt, (tt, tt))) rows.0),
          spared_if (is_emitted p.marks i) _
              (join (rows_back f g sc p i d line x body (reversed_by sc p.marks.adjointed i body m)) _ rows.1
              (join (code_if (p.marks.saved i (plain x)) (one line (runtime (pop_word (plain x) none)))) (reset p.marks i line x) (spared_if (p.marks.saved i (plain x)) (one line (runtime (pop_word (plain x) none))) (tt, (tt, tt))) (spared_if (resets p.marks i x) (one line (assign (shadow x) none (literal 0))) (tt, (tt, tt))))),
        )
    act_spared i d line (loop (shadow x) a b c body m) w s h = (tt, tt)
    act_spared i d line (loop (helper r k) a b c body m) w s h = (tt, tt)
    act_spared i d line (during c body) w s h =
        let inside = list_spared (suc i) (suc d) body w h in
        let back = backward_leaves (suc i) d body w in
        let idle = is_empty (backward_with sc p (suc i) (suc d) body) in (
          spared_if (is_emitted p.marks i) _ (while_forward_spared idle (suc d) line c (forward_with sc p (suc i) (suc d) body) inside.0),
          spared_if (is_emitted p.marks i) _ (while_backward_spared idle (suc d) line (backward_with sc p (suc i) (suc d) body) (unwritten _ back) inside.1),
        )
    act_spared i d line (call name args) w s h =
        let callee = p.callees name in
        let given = names_of args in (
          spared_if (is_emitted p.marks i) _
              (spared_either (p.marks.split i) (one line (call callee.forth args)) _ (tt, (tt, tt))
              (join (pushes p line (save_group p.marks i callee given)) _ (spared_pushes line (save_group p.marks i callee given))
              (join (code_if (p.marks.adjointed i) (pushes p line (snapshot_group callee given))) _ (spared_if (p.marks.adjointed i) _ (spared_pushes line (snapshot_group callee given))) (spared_if (p.marks.kept i) (one line (call name args)) (tt, (tt, tt)))))),
          spared_if (is_emitted p.marks i) _
              (spared_either (p.marks.split i) (one line (call callee.back (with_shadows callee.shadowed callee.dummies given))) _ (tt, (tt, tt))
              (join (code_if (p.marks.adjointed i) (pops p line (snapshot_group callee given) +++ one line (adjoint_call callee given))) _
              (spared_if (p.marks.adjointed i) _ (join (pops p line (snapshot_group callee given)) (one line (adjoint_call callee given)) (spared_pops line (snapshot_group callee given)) (tt, (tt, tt))))
              (spared_pops line (save_group p.marks i callee given)))),
        )
    act_spared i d line (runtime r) w s h = absurd w

    list_spared : (i d : ℕ) (c : Code) → Known f g sc p i c → AreSpared g c → AreSpared f (forward_with sc p i d c) × AreSpared f (backward_with sc p i d c)
    list_spared i d stop w h = (tt, tt)
    list_spared i d (step line a rest) w h =
        let here = act_spared i d line a w.0 h.0 h.1.0 in
        let later = list_spared (next i a) d rest w.1 h.1.1 in (
          join (forward_act_with sc p i d line a) (forward_with sc p (next i a) d rest) here.0 later.0,
          join (backward_with sc p (next i a) d rest) (backward_act_with sc p i d line a) later.1 here.1,
        )

  spared_cleared : (line : ℕ) (xs : List (List ℕ)) → AreSpared f (cleared p line xs)
  spared_cleared line [] = tt
  spared_cleared line (x ∷ xs) = join (if p.arrays (plain x) then one line (runtime (zero_array (shadow x))) else one line (assign (shadow x) none (literal 0))) (cleared p line xs) (go (p.arrays (plain x))) (spared_cleared line xs)
    where
      go : (b : Bool) → AreSpared f (if b then one line (runtime (zero_array (shadow x))) else one line (assign (shadow x) none (literal 0)))
      go true = (tt, (tt, tt))
      go false = (tt, (tt, tt))

  -- so in the body of an adjoint
  pub body_spared : (i line : ℕ) (c : Code) (at_turn at_end : List (List ℕ)) → Known f g sc p i c → AreSpared g c → AreSpared f (adjoint_body_with sc p i line c at_turn at_end)
  body_spared i line c at_turn at_end w h =
      let sweeps = list_spared i 0 c w h in
      join (forward_with sc p i 0 c) _ sweeps.0 (join (cleared p line at_turn) _ (spared_cleared line at_turn) (join (backward_with sc p i 0 c) (cleared p line at_end) sweeps.1 (spared_cleared line at_end)))

  -- and in those of a forward and of a backward unit
  pub forth_spared : (i line : ℕ) (left : List (List ℕ)) (c : Code) → Known f g sc p i c → AreSpared g c → AreSpared f (forth_body sc p i line left c)
  forth_spared i line left c w h = join (forward_with sc p i 0 c) (pushes p line left) (list_spared i 0 c w h).0 (spared_pushes line left)

  pub back_spared : (i line : ℕ) (left : List (List ℕ)) (c : Code) → Known f g sc p i c → AreSpared g c → AreSpared f (back_body sc p i line left c)
  back_spared i line left c w h = join (pops p line left) (backward_with sc p i 0 c) (spared_pops line left) (list_spared i 0 c w h).1
