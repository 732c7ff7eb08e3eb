-- A forward sweep pushes what is due, and besides it control words at the ends of IFs' parts and few helpers behind loops.
use Rattle.std.proofs.Common.{◌≡◌, ℕ, suc, Bool, true, false, List, [], ◌∷◌, refl, sym, ap, ◌∙◌, if◌then◌else◌}
use Rattle.std.specs.Prelude.{◌&&◌, ◌-◌, not, nat_lt, Option, Some, None}
use Rattle.adj_tree.specs.Code.{Role, Var, plain, shadow, helper, first, stride, count, slots, plus, Term, var, bin, Terms, none, more, Test, Mark, unmarked, with_count, count_from, push_word, push_array, push_control, Act, assign, choose, loop, during, call, runtime, Code, stop, step, Procedure}
use Rattle.def_meaning.specs.Append.{◌+++◌, one}
use Rattle.def_meaning.specs.Rename.{rename_terms}
use Rattle.def_meaning.proofs.Appends.{append_assoc, append-stop}
use Rattle.def_names.specs.Numbers.{Vars, next, behind}
use Rattle.def_sweep.specs.Marked.{code_if}
use Rattle.def_sweep.specs.Plan.{Plan, is_emitted, names_of, actuals_named, found_or, save_group, snapshot_group, step_snapshot, Schedules, Step, reversed_by}
use Rattle.def_sweep.specs.Rows.{is_empty, pushes, push_own, set_own, literal, told_forward, loop_forward, while_forward}
use Rattle.def_sweep.specs.Emission.{forward_act_with, forward_with, backward_with}
use Rattle.def_sweep.specs.ReversalCode.{set_slots, push_slots, row_forward}
use Rattle.law_emitted.proofs.Over.{OverPlace, OverAct, OverCode, Any}
use Rattle.def_adjoint.specs.Shape.{is_own, is_bare, is_sparing}
use Rattle.law_shape.proofs.Gathered.{seen, seen_append}
use Rattle.law_shape.proofs.Forward.{OwnVar, NoArray, AreOwn, step_own}
use Rattle.law_shape.proofs.Rows.{saved_own, members_own, step_saved_own, step_members_own}

both : (a b : Bool) → a ≡ true → b ≡ true → (a && b) ≡ true
both a b e f = λ j. e j && f j

module _ (u : Procedure) (r : Var → Var) (own_same : (v : Var) → is_own u (r v) ≡ is_own u v) (made : Vars) (unmade : (o : Role) (k : ℕ) → made (r (helper o k)) ≡ false) (sc : Schedules) (p : Plan) where
  abbrev sparing : Bool → ℕ → Code → Bool
  sparing part room c = is_sparing (is_own u) made part room c

  -- a list is sparing before any that is
  abbrev Spares : Code → Type 0
  Spares c = (part : Bool) (room : ℕ) (d : Code) → ((n : ℕ) → is_sparing (is_own u) made part n d ≡ true) → is_sparing (is_own u) made part room (seen r c +++ d) ≡ true

  join : (c d : Code) → Spares c → Spares d → Spares (c +++ d)
  join c d h g part room e k =
      ap (λ z. sparing part room (z +++ e)) (seen_append r c d)
      ∙ ap (sparing part room) (append_assoc (seen r c) (seen r d) e)
      ∙ h part room (seen r d +++ e) (λ n. g part n e k)

  nothing : Spares stop
  nothing part room d k = k room

  guard : (b : Bool) (c : Code) → (b ≡ true → Spares c) → Spares (code_if b c)
  guard true c h = h refl
  guard false c h = nothing

  -- alone, in no part of an IF or in one
  alone : (part : Bool) (c : Code) → Spares c → sparing part 0 (seen r c) ≡ true
  alone part c h = ap (sparing part 0) (sym (append-stop (seen r c))) ∙ h part 0 stop (λ n. refl)

  -- ---- single statements

  set_spares : (line : ℕ) (x : Var) (subs : Terms) (e : Term) → Spares (one line (assign x subs e))
  set_spares line x subs e part room d k = k 0

  call_spares : (line : ℕ) (name : List ℕ) (args : Terms) → Spares (one line (call name args))
  call_spares line name args part room d k = k 0

  own_pushed : (line : ℕ) (x : Var) (subs : Terms) → is_own u x ≡ true → Spares (one line (runtime (push_word x subs)))
  own_pushed line x subs o part room d k =
      ap (λ b. if b then sparing part 0 d else (not (made (r x)) && is_bare (rename_terms r subs)) && (nat_lt 0 room && sparing part (room - 1) d)) (own_same x ∙ o) ∙ k 0

  pushes_spare : (line : ℕ) (xs : List (List ℕ)) → AreOwn u xs → Spares (pushes p line xs)
  pushes_spare line [] o = nothing
  pushes_spare line (x ∷ xs) o = join (one line (runtime (if p.arrays (plain x) then push_array (plain x) else push_word (plain x) none))) (pushes p line xs) (here (p.arrays (plain x))) (pushes_spare line xs o.1)
    where
      here : (b : Bool) → Spares (one line (runtime (if b then push_array (plain x) else push_word (plain x) none)))
      here true part room d k = both (is_own u (r (plain x))) (sparing part 0 d) (own_same (plain x) ∙ o.0) (k 0)
      here false part room d k = own_pushed line (plain x) none o.0 part room d k

  -- a helper is pushed where there is room
  helper_pushed : (part : Bool) (room : ℕ) (o : Role) (k : ℕ) (d : Code) → nat_lt 0 room ≡ true → sparing part (room - 1) d ≡ true → sparing part room (step 0 (runtime (push_word (r (helper o k)) none)) d) ≡ true
  helper_pushed part room o k d h g =
      ap (λ b. if b then sparing part 0 d else (not (made (r (helper o k))) && true) && (nat_lt 0 room && sparing part (room - 1) d)) (own_same (helper o k))
      ∙ ap (λ b. (not b && true) && (nat_lt 0 room && sparing part (room - 1) d)) (unmade o k)
      ∙ both (nat_lt 0 room) (sparing part (room - 1) d) h g

  -- ---- rows

  -- a part of an IF
  told_sparing : (idle : Bool) (line n : ℕ) (c : Code) → Spares c → sparing true 0 (seen r (told_forward idle line c n)) ≡ true
  told_sparing true line n c h = alone true c h
  told_sparing false line n c h = ap (sparing true 0) (seen_append r c (one line (runtime (push_control (literal n))))) ∙ h true 0 (step 0 (runtime (push_control (literal n))) stop) (λ m. refl)

  abbrev raised : ℕ → ℕ → Code
  raised k line = one line (assign (helper count k) none (bin plus (var (helper count k)) (literal 1)))

  counted_sparing : (line k : ℕ) (c : Code) → Spares c → sparing false 0 (seen r (c +++ raised k line)) ≡ true
  counted_sparing line k c h = alone false (c +++ raised k line) (join c (raised k line) h (set_spares line (helper count k) none (bin plus (var (helper count k)) (literal 1))))

  loop_spares : (idle : Bool) (line k : ℕ) (x : Var) (a b c : Term) (body : Code) → Spares body → Spares (loop_forward idle k line x a b c body)
  loop_spares true line k x a b c body h part room d g = both (sparing false 0 (seen r body)) (sparing part 4 d) (alone false body h) (g 4)
  loop_spares false line k x a b c body h part room d g =
      both (sparing false 0 (seen r (body +++ raised k line))) _ (counted_sparing line k body h)
      (helper_pushed part 4 first k (step 0 (runtime (push_word (r (helper stride k)) none)) (step 0 (runtime (push_word (r (helper count k)) none)) d)) refl
      (helper_pushed part 3 stride k (step 0 (runtime (push_word (r (helper count k)) none)) d) refl (helper_pushed part 2 count k d refl (g 1))))

  -- the number of snapshots of a loop that is reversed
  set_slots_spare : (line k : ℕ) (m : Mark) (rest : Code) → Spares rest → Spares (set_slots line k m rest)
  set_slots_spare line k unmarked rest h part room d g = h part room d g
  set_slots_spare line k (with_count n) rest h part room d g = h part room d g
  set_slots_spare line k (count_from y) rest h part room d g = h part 0 d g

  -- it and the count are pushed where there is room for two
  push_slots_spare : (line k : ℕ) (m : Mark) (part : Bool) (d : Code) → ((n : ℕ) → is_sparing (is_own u) made part n d ≡ true) → is_sparing (is_own u) made part 2 (seen r (push_slots line k m (push_own line (helper count k) stop)) +++ d) ≡ true
  push_slots_spare line k unmarked part d g = helper_pushed part 2 count k d refl (g 1)
  push_slots_spare line k (with_count n) part d g = helper_pushed part 2 count k d refl (g 1)
  push_slots_spare line k (count_from y) part d g = helper_pushed part 2 slots k (step 0 (runtime (push_word (r (helper count k)) none)) d) refl (helper_pushed part 1 count k d refl (g 0))

  -- a loop that is reversed, between what is pushed before it and its helpers
  turns_spare : (i line k : ℕ) (x : List ℕ) (a b c : Term) (s : Step) → AreOwn u s.given → Spares (row_forward p i k line x a b c s)
  turns_spare i line k x a b c s o part room d g = set_slots_spare line k s.mark (set_own line (helper count k) (literal 0) (saves +++ (members +++ turns))) counted part 0 d g
    where
      saves : Code
      saves = pushes p line (save_group p.marks i (p.callees s.name) s.given)

      members : Code
      members = pushes p line (step_snapshot (p.callees s.name) s.read s.given)

      swept : Code
      swept = code_if (p.marks.kept (suc i)) (one line (call s.name (actuals_named s.given)))

      turns : Code
      turns = step line (loop (plain x) (var (helper first k)) b (var (helper stride k)) (swept +++ raised k line) unmarked) (push_own line (helper first k) (push_own line (helper stride k) (push_slots line k s.mark (push_own line (helper count k) stop))))

      turns_alone : Spares turns
      turns_alone part room d g =
          let behind = seen r (push_slots line k s.mark (push_own line (helper count k) stop)) +++ d in
          both (sparing false 0 (seen r (swept +++ raised k line))) _ (counted_sparing line k swept (guard (p.marks.kept (suc i)) (one line (call s.name (actuals_named s.given))) (λ t. call_spares line s.name (actuals_named s.given))))
          (helper_pushed part 4 first k (step 0 (runtime (push_word (r (helper stride k)) none)) behind) refl (helper_pushed part 3 stride k behind refl (push_slots_spare line k s.mark part d g)))

      counted : Spares (set_own line (helper count k) (literal 0) (saves +++ (members +++ turns)))
      counted part room d g =
          join saves (members +++ turns) (pushes_spare line (save_group p.marks i (p.callees s.name) s.given) (step_saved_own u p i s o))
          (join members turns (pushes_spare line (step_snapshot (p.callees s.name) s.read s.given) (step_members_own u p s o)) turns_alone) part 0 d g

  while_spares : (idle : Bool) (line k : ℕ) (c : Test) (body : Code) → Spares body → Spares (while_forward idle k line c body)
  while_spares true line k c body h part room d g = both (sparing false 0 (seen r body)) (sparing part 4 d) (alone false body h) (g 4)
  while_spares false line k c body h part room d g = both (sparing false 0 (seen r (body +++ raised k line))) _ (counted_sparing line k body h) (helper_pushed part 4 count k d refl (g 3))

  place_own : (x : Var) (s : Terms) → OverPlace (OwnVar u) NoArray x s → is_own u x ≡ true
  place_own x none o = o
  place_own x (more e es) o = o.0

  mutual
    act_spares : (i d line : ℕ) (a : Act) → OverAct (OwnVar u) NoArray Any a → Spares (forward_act_with sc p i d line a)
    act_spares i d line (assign (plain x) subs e) o =
        guard (p.marks.kept i) (code_if (p.marks.saved i (plain x)) (one line (runtime (push_word (plain x) subs))) +++ one line (assign (plain x) subs e)) (λ t.
        join (code_if (p.marks.saved i (plain x)) (one line (runtime (push_word (plain x) subs)))) (one line (assign (plain x) subs e))
        (guard (p.marks.saved i (plain x)) (one line (runtime (push_word (plain x) subs))) (λ s. own_pushed line (plain x) subs (place_own (plain x) subs o.0))) (set_spares line (plain x) subs e))
    act_spares i d line (assign (shadow x) subs e) o = nothing
    act_spares i d line (assign (helper t k) subs e) o = nothing
    act_spares i d line (choose c a b) o =
        let idle = is_empty (backward_with sc p (suc i) d a) && is_empty (backward_with sc p (behind (suc i) a) d b) in
        let one_part = code_spares (suc i) d a o.1.0 in
        let other_part = code_spares (behind (suc i) a) d b o.1.1 in
        guard (is_emitted p.marks i) (one line (choose c (told_forward idle line (forward_with sc p (suc i) d a) 1) (told_forward idle line (forward_with sc p (behind (suc i) a) d b) 0))) (λ t part room e k.
        both (sparing true 0 (seen r (told_forward idle line (forward_with sc p (suc i) d a) 1))) _ (told_sparing idle line 1 (forward_with sc p (suc i) d a) one_part)
        (both (sparing true 0 (seen r (told_forward idle line (forward_with sc p (behind (suc i) a) d b) 0))) (sparing part 0 e) (told_sparing idle line 0 (forward_with sc p (behind (suc i) a) d b) other_part) (k 0)))
    act_spares i d line (loop (plain x) a b c body m) o =
        guard (is_emitted p.marks i) (code_if (p.marks.saved i (plain x)) (one line (runtime (push_word (plain x) none))) +++ row (reversed_by sc p.marks.adjointed i body m)) (λ t.
        join (code_if (p.marks.saved i (plain x)) (one line (runtime (push_word (plain x) none)))) (row (reversed_by sc p.marks.adjointed i body m))
        (guard (p.marks.saved i (plain x)) (one line (runtime (push_word (plain x) none))) (λ s. own_pushed line (plain x) none o.0)) (of_row (reversed_by sc p.marks.adjointed i body m) refl (code_spares (suc i) (suc d) body o.1.1.1.1.0)))
      where
        row : Option Step → Code
        row t = found_or t (loop_forward (is_empty (backward_with sc p (suc i) (suc d) body)) (suc d) line (plain x) a b c (forward_with sc p (suc i) (suc d) body)) (λ s. row_forward p i (suc d) line x a b c s)

        of_row : (t : Option Step) → reversed_by sc p.marks.adjointed i body m ≡ t → Spares (forward_with sc p (suc i) (suc d) body) → Spares (row t)
        of_row None e turn = loop_spares (is_empty (backward_with sc p (suc i) (suc d) body)) line (suc d) (plain x) a b c (forward_with sc p (suc i) (suc d) body) turn
        of_row (Some s) e turn = turns_spare i line (suc d) x a b c s (step_own u sc p.marks.adjointed i body m s e o.1.1.1.1.0)
    act_spares i d line (loop (shadow x) a b c body m) o = nothing
    act_spares i d line (loop (helper t k) a b c body m) o = nothing
    act_spares i d line (during c body) o =
        let idle = is_empty (backward_with sc p (suc i) (suc d) body) in
        let turn = code_spares (suc i) (suc d) body o.1 in
        guard (is_emitted p.marks i) (while_forward idle (suc d) line c (forward_with sc p (suc i) (suc d) body)) (λ t. while_spares idle line (suc d) c (forward_with sc p (suc i) (suc d) body) turn)
    act_spares i d line (call name args) o = guard (is_emitted p.marks i) (if p.marks.split i then one line (call (p.callees name).forth args) else row) (λ t. of_split (p.marks.split i))
      where
        saves : List (List ℕ)
        saves = save_group p.marks i (p.callees name) (names_of args)

        members : List (List ℕ)
        members = snapshot_group (p.callees name) (names_of args)

        row : Code
        row = pushes p line saves +++ (code_if (p.marks.adjointed i) (pushes p line members) +++ code_if (p.marks.kept i) (one line (call name args)))

        of_split : (s : Bool) → Spares (if s then one line (call (p.callees name).forth args) else row)
        of_split true = call_spares line (p.callees name).forth args
        of_split false =
            join (pushes p line saves) (code_if (p.marks.adjointed i) (pushes p line members) +++ code_if (p.marks.kept i) (one line (call name args))) (pushes_spare line saves (saved_own u p i name args o.1.0))
            (join (code_if (p.marks.adjointed i) (pushes p line members)) (code_if (p.marks.kept i) (one line (call name args)))
            (guard (p.marks.adjointed i) (pushes p line members) (λ s. pushes_spare line members (members_own u p name args o.1.0))) (guard (p.marks.kept i) (one line (call name args)) (λ s. call_spares line name args)))
    act_spares i d line (runtime c) o = nothing

    code_spares : (i d : ℕ) (c : Code) → OverCode (OwnVar u) NoArray Any c → Spares (forward_with sc p i d c)
    code_spares i d stop o = nothing
    code_spares i d (step line a rest) o = join (forward_act_with sc p i d line a) (forward_with sc p (next i a) d rest) (act_spares i d line a o.0) (code_spares (next i a) d rest o.1)

  pub forward_sparing : (i d : ℕ) (c : Code) → OverCode (OwnVar u) NoArray Any c → is_sparing (is_own u) made false 0 (seen r (forward_with sc p i d c)) ≡ true
  forward_sparing i d c o = alone false (forward_with sc p i d c) (code_spares i d c o)
