-- Chains of calls in what is emitted are no longer than in the source: an adjoint calls adjoints of what its unit calls, and carried units.
use Rattle.std.proofs.Common.{◌≡◌, ℕ, suc, ◌≤◌, max, Bool, true, false, List, [], ◌∷◌, refl, ap, ◌∙◌, arith, if◌then◌else◌}
use Rattle.std.specs.Prelude.{◌&&◌, not, Option, Some, None}
use Rattle.adj_tree.specs.Code.{Var, plain, shadow, helper, first, stride, count, lower, plus, Term, var, bin, Terms, none, Test, push_word, pop_word, zero_array, Mark, unmarked, with_count, count_from, Act, assign, choose, loop, during, call, runtime, Code, stop, step}
use Rattle.def_meaning.specs.Append.{◌+++◌, one}
use Rattle.law_meaning.specs.Common.{CallsInside', CallsInside}
use Rattle.def_meaning.specs.Rename.{rename_mark, rename_act, rename}
use Rattle.def_names.specs.Statements.{At, inner, statements}
use Rattle.def_names.specs.Variables.{Name}
use Rattle.def_names.specs.Calls.{with_mark, act_chain, chain}
use Rattle.def_names.specs.Numbers.{Vars, next, behind}
use Rattle.def_sweep.specs.Marks.{active_at}
use Rattle.def_sweep.specs.Marked.{code_if}
use Rattle.def_sweep.specs.AdjointOf.{adjoint_where}
use Rattle.def_sweep.specs.Plan.{Plan, is_emitted, names_of, actuals_named, save_group, snapshot_group, step_snapshot, found_or, Schedules, Step, reversed_by, ByStep}
use Rattle.def_sweep.specs.ReversalCode.{at_turn, arm, advance, arms, reversal, slots_of, set_slots, push_slots, pop_slots, reversed_forward, reversed_backward, row_forward, row_backward}
use Rattle.def_sweep.specs.Rows.{is_empty, push, pop, pushes, pops, literal, with_shadows, adjoint_call, told_forward, told_backward, loop_forward, loop_backward, while_forward, while_backward, push_own, pop_own, set_own}
use Rattle.def_sweep.specs.Emission.{forward_act_with, forward_with, backward_act_with, backward_with, cleared, adjoint_body_with}
use Rattle.def_sweep.specs.SplitRows.{forth_body, back_body}
use Rattle.law_emitted.proofs.Lists.{Each, each_append}
use Rattle.law_emitted.proofs.StepCalls.{step_body, from_keep, from_turn, from_advance}
use Rattle.law_emitted.proofs.Calling.{MayCall', MayCall}
use Rattle.law_emitted.proofs.Assigned.{AreMaking, making_adjoint}

-- a mark makes no chain shorter
marked_grows : (m : Mark) (a : ℕ) → a ≤ with_mark m a
marked_grows unmarked a = omega arith
marked_grows (with_count n) a = omega arith
marked_grows (count_from x) a = omega arith

marked_more : (m : Mark) (a b : ℕ) → a ≤ b → with_mark m a ≤ with_mark m b
marked_more unmarked a b l = l
marked_more (with_count n) a b l = omega arith
marked_more (count_from x) a b l = omega arith

-- ---- chains of lists; f says how long they are from called units on

module _ (f : Name → ℕ) where
  low_append : (n : ℕ) (c d : Code) → chain f c ≤ n → chain f d ≤ n → chain f (c +++ d) ≤ n
  low_append n stop d h g = g
  low_append n (step line a c) d h g = let rest = low_append n c d (omega arith) g in omega arith

  low_if : (n : ℕ) (b : Bool) (c : Code) → (b ≡ true → chain f c ≤ n) → chain f (code_if b c) ≤ n
  low_if n true c h = h refl
  low_if n false c h = omega arith

  low_making : (n : ℕ) (c : Code) → AreMaking c → chain f c ≤ n
  low_making n stop h = omega arith
  low_making n (step line (assign x s e) rest) h = let later = low_making n rest h.1 in omega arith
  low_making n (step line (choose c a b) rest) h = absurd h.0
  low_making n (step line (loop x a b c body m) rest) h = absurd h.0
  low_making n (step line (during c body) rest) h = absurd h.0
  low_making n (step line (call name args) rest) h = absurd h.0
  low_making n (step line (runtime r) rest) h = absurd h.0

  -- no statement of a list begins a longer one
  mutual
    low_act : (n line : ℕ) (a : Act) → act_chain f a ≤ n → Each (λ (s : At Act). act_chain f s.1 ≤ n) ((line, a) ∷ inner a)
    low_act n line (assign x s e) h = (h, tt)
    low_act n line (choose c a b) h = (h, each_append (λ (s : At Act). act_chain f s.1 ≤ n) (statements a) (statements b) (low_statements n a (omega arith)) (low_statements n b (omega arith)))
    low_act n line (loop x a b c body m) h = let grows = marked_grows m (chain f body) in (h, low_statements n body (omega arith))
    low_act n line (during c body) h = (h, low_statements n body h)
    low_act n line (call name args) h = (h, tt)
    low_act n line (runtime r) h = (h, tt)

    pub low_statements : (n : ℕ) (c : Code) → chain f c ≤ n → Each (λ (s : At Act). act_chain f s.1 ≤ n) (statements c)
    low_statements n stop h = tt
    low_statements n (step line a rest) h =
        let here = low_act n line a (omega arith) in
        (here.0, each_append (λ (s : At Act). act_chain f s.1 ≤ n) (inner a) (statements rest) here.1 (low_statements n rest (omega arith)))

  -- nor is any longer with other variables
  renamed_mark : (r : Var → Var) (m : Mark) (n : ℕ) → with_mark (rename_mark r m) n ≡ with_mark m n
  renamed_mark r unmarked n = refl
  renamed_mark r (with_count k) n = refl
  renamed_mark r (count_from x) n = refl

  mutual
    renamed_act : (r : Var → Var) (a : Act) → act_chain f (rename_act r a) ≡ act_chain f a
    renamed_act r (assign x s e) = refl
    renamed_act r (choose c a b) = λ i. max (renamed_chain r a i) (renamed_chain r b i)
    renamed_act r (loop x a b c body m) = renamed_mark r m (chain f (rename r body)) ∙ ap (with_mark m) (renamed_chain r body)
    renamed_act r (during c body) = renamed_chain r body
    renamed_act r (call name args) = refl
    renamed_act r (runtime c) = refl

    pub renamed_chain : (r : Var → Var) (c : Code) → chain f (rename r c) ≡ chain f c
    renamed_chain r stop = refl
    renamed_chain r (step line a rest) = λ i. max (renamed_act r a i) (renamed_chain r rest i)

-- ---- a list that calls units of a set alone

module _ (f g : Name → ℕ) (inside : Name → Bool) (less : (x : Name) → inside x ≡ true → f x ≤ g x) where
  mutual
    inside_act : (a : Act) → CallsInside' inside a → act_chain f a ≤ act_chain g a
    inside_act (assign x s e) h = omega arith
    inside_act (choose c a b) h = let first = inside_chain a h.0 in let other = inside_chain b h.1 in omega arith
    inside_act (loop x a b c body m) h = marked_more m (chain f body) (chain g body) (inside_chain body h)
    inside_act (during c body) h = inside_chain body h
    inside_act (call name args) h = less name h
    inside_act (runtime r) h = omega arith

    pub inside_chain : (c : Code) → CallsInside inside c → chain f c ≤ chain g c
    inside_chain stop h = omega arith
    inside_chain (step line a rest) h = let here = inside_act a h.0 in let later = inside_chain rest h.1 in omega arith

-- ---- the sweeps of a unit

module _ (f g : Name → ℕ) (sc : Schedules) (p : Plan) (n : ℕ) where
  low_push : (line : ℕ) (x : List ℕ) → chain f (push p line x) ≤ n
  low_push line x = omega arith

  low_pop : (line : ℕ) (x : List ℕ) → chain f (pop p line x) ≤ n
  low_pop line x = omega arith

  low_pushes : (line : ℕ) (xs : List (List ℕ)) → chain f (pushes p line xs) ≤ n
  low_pushes line [] = omega arith
  low_pushes line (x ∷ xs) = low_append f n (push p line x) (pushes p line xs) (low_push line x) (low_pushes line xs)

  low_pops : (line : ℕ) (xs : List (List ℕ)) → chain f (pops p line xs) ≤ n
  low_pops line [] = omega arith
  low_pops line (x ∷ xs) = low_append f n (pops p line xs) (pop p line x) (low_pops line xs) (low_pop line x)

  -- one call of the runtime, or one assignment
  low_one : (b : Bool) (line : ℕ) (a : Act) → act_chain f a ≡ 0 → chain f (code_if b (one line a)) ≤ n
  low_one b line a h = low_if f n b (one line a) (λ t. omega arith)

  told_forward_low : (idle : Bool) (line : ℕ) (c : Code) (k : ℕ) → chain f c ≤ n → chain f (told_forward idle line c k) ≤ n
  told_forward_low true line c k h = h
  told_forward_low false line c k h = low_append f n c _ h (omega arith)

  told_backward_low : (idle : Bool) (line : ℕ) (a b : Code) → chain f a ≤ n → chain f b ≤ n → chain f (told_backward idle line a b) ≤ n
  told_backward_low true line a b h k = omega arith
  told_backward_low false line a b h k = omega arith

  -- the count goes up
  abbrev raised : ℕ → ℕ → Code
  raised k line = one line (assign (helper count k) none (bin plus (var (helper count k)) (literal 1)))

  loop_forward_low : (idle : Bool) (k line : ℕ) (x : Var) (a b c : Term) (body : Code) → chain f body ≤ n → chain f (loop_forward idle k line x a b c body) ≤ n
  loop_forward_low true k line x a b c body h = omega arith
  loop_forward_low false k line x a b c body h = let inside = low_append f n body (raised k line) h (omega arith) in omega arith

  loop_backward_low : (idle : Bool) (k line : ℕ) (x : Var) (body : Code) → chain f body ≤ n → chain f (loop_backward idle k line x body) ≤ n
  loop_backward_low true k line x body h = omega arith
  loop_backward_low false k line x body h = omega arith

  while_forward_low : (idle : Bool) (k line : ℕ) (c : Test) (body : Code) → chain f body ≤ n → chain f (while_forward idle k line c body) ≤ n
  while_forward_low true k line c body h = omega arith
  while_forward_low false k line c body h = let inside = low_append f n body (raised k line) h (omega arith) in omega arith

  while_backward_low : (idle : Bool) (k line : ℕ) (body : Code) → chain f body ≤ n → chain f (while_backward idle k line body) ≤ n
  while_backward_low true k line body h = omega arith
  while_backward_low false k line body h = omega arith

  -- ---- loops that are reversed by schedules

  arm_low : (line k j : ℕ) (c : Code) → chain f c ≤ n → chain f (arm line k j c) ≤ n
  arm_low line k j c h = low_if f n (not (is_empty c)) _ (λ t. omega arith)

  set_slots_low : (line k : ℕ) (m : Mark) (rest : Code) → chain f rest ≤ n → chain f (set_slots line k m rest) ≤ n
  set_slots_low line k unmarked rest h = h
  set_slots_low line k (with_count j) rest h = h
  set_slots_low line k (count_from y) rest h = omega arith

  push_slots_low : (line k : ℕ) (m : Mark) (rest : Code) → chain f rest ≤ n → chain f (push_slots line k m rest) ≤ n
  push_slots_low line k unmarked rest h = h
  push_slots_low line k (with_count j) rest h = h
  push_slots_low line k (count_from y) rest h = omega arith

  pop_slots_low : (line k : ℕ) (m : Mark) (rest : Code) → chain f rest ≤ n → chain f (pop_slots line k m rest) ≤ n
  pop_slots_low line k unmarked rest h = h
  pop_slots_low line k (with_count j) rest h = h
  pop_slots_low line k (count_from y) rest h = omega arith

  module _ (line k : ℕ) (x : Var) (m : Mark) (keep back plain_call adjoint : Code) (low_keep : chain f keep ≤ n) (low_back : chain f back ≤ n) (low_call : chain f plain_call ≤ n) (low_adjoint : chain f adjoint ≤ n) where
    arms_low : chain f (arms line k x keep back plain_call adjoint) ≤ n
    arms_low =
        low_append f n (arm line k 1 keep) (from_advance line k x keep back plain_call adjoint) (arm_low line k 1 keep low_keep)
        (low_append f n (arm line k 2 (advance line k x plain_call)) (from_turn line k x keep back adjoint) (arm_low line k 2 (advance line k x plain_call) (omega arith))
        (low_append f n (arm line k 3 (at_turn line k x lower adjoint)) (from_keep line k keep back) (arm_low line k 3 (at_turn line k x lower adjoint) (omega arith))
        (low_append f n (arm line k 4 (back +++ keep)) (arm line k 5 back) (arm_low line k 4 (back +++ keep) (low_append f n back keep low_back low_keep)) (arm_low line k 5 back low_back))))

    reversal_low : chain f (reversal line k x (slots_of k m) keep back plain_call adjoint) ≤ n
    reversal_low = let inside = arms_low in omega arith

    reversed_backward_low : (unsave : Code) → chain f unsave ≤ n → chain f (reversed_backward k line x m keep back unsave plain_call adjoint) ≤ n
    reversed_backward_low unsave h =
        let inside = low_append f n back (reversal line k x (slots_of k m) keep back plain_call adjoint +++ unsave) low_back (low_append f n (reversal line k x (slots_of k m) keep back plain_call adjoint) unsave reversal_low h) in
        let popped = pop_slots_low line k m (pop_own line (helper stride k) (pop_own line (helper first k) (back +++ (reversal line k x (slots_of k m) keep back plain_call adjoint +++ unsave)))) (omega arith) in
        omega arith

  module _ (k line : ℕ) (x : Var) (a b c : Term) (m : Mark) (save keep plain_call : Code) (low_save : chain f save ≤ n) (low_keep : chain f keep ≤ n) (low_call : chain f plain_call ≤ n) where
    -- the loop and what is pushed behind it
    abbrev turned : Code
    turned = step line (loop x (var (helper first k)) b (var (helper stride k)) (plain_call +++ raised k line) unmarked) (push_own line (helper first k) (push_own line (helper stride k) (push_slots line k m (push_own line (helper count k) stop))))

    turned_low : chain f turned ≤ n
    turned_low = let inside = low_append f n plain_call (raised k line) low_call (omega arith) in let pushed = push_slots_low line k m (push_own line (helper count k) stop) (omega arith) in omega arith

    reversed_forward_low : chain f (reversed_forward k line x a b c m save keep plain_call) ≤ n
    reversed_forward_low =
        let inside = low_append f n save (keep +++ turned) low_save (low_append f n keep turned low_keep turned_low) in
        let counted = set_slots_low line k m (set_own line (helper count k) (literal 0) (save +++ (keep +++ turned))) (omega arith) in
        omega arith

  -- from what is called, and from what is made of it, chains are no longer
  abbrev pub KeptLow : Name → Type 0
  KeptLow x = f x ≤ g x

  abbrev pub AdjointLow : Name → Type 0
  AdjointLow x = f (p.callees x).adjoint ≤ g x

  abbrev pub PairLow : Name → Type 0
  PairLow x = (f (p.callees x).forth ≤ g x) × (f (p.callees x).back ≤ g x)

  abbrev Calls' : ℕ → Act → Type 0
  Calls' i a = MayCall' KeptLow AdjointLow PairLow sc p.marks.kept p.marks.adjointed p.marks.split i a

  abbrev pub Calls : ℕ → Code → Type 0
  Calls i c = MayCall KeptLow AdjointLow PairLow sc p.marks.kept p.marks.adjointed p.marks.split i c

  low_either : (b : Bool) (c d : Code) → (b ≡ true → chain f c ≤ n) → (b ≡ false → chain f d ≤ n) → chain f (if b then c else d) ≤ n
  low_either true c d h k = h refl
  low_either false c d h k = k refl

  call_low : (i d line : ℕ) (name : Name) (args : Terms) → g name ≤ n → Calls' i (call name args) → (chain f (forward_act_with sc p i d line (call name args)) ≤ n) × (chain f (backward_act_with sc p i d line (call name args)) ≤ n)
  call_low i d line name args h may =
      let callee = p.callees name in (
        low_if f n (is_emitted p.marks i) _ (λ e.
            low_either (p.marks.split i) (one line (call callee.forth args)) _ (λ s. let l = (may.1.1 s).1.0 in omega arith)
            (λ u. low_append f n (pushes p line (save_group p.marks i callee (names_of args))) _ (low_pushes line (save_group p.marks i callee (names_of args)))
            (low_append f n (code_if (p.marks.adjointed i) _) _ (low_if f n (p.marks.adjointed i) _ (λ t. low_pushes line (snapshot_group callee (names_of args))))
            (low_if f n (p.marks.kept i) (one line (call name args)) (λ t. let l = may.0 t u in omega arith))))),
        low_if f n (is_emitted p.marks i) _ (λ e.
            low_either (p.marks.split i) (one line (call callee.back (with_shadows callee.shadowed callee.dummies (names_of args)))) _ (λ s. let l = (may.1.1 s).1.1 in omega arith)
            (λ u. low_append f n (code_if (p.marks.adjointed i) _) _
            (low_if f n (p.marks.adjointed i) _ (λ t.
            let l = may.1.0 t u in
            low_append f n (pops p line (snapshot_group callee (names_of args))) (one line (adjoint_call callee (names_of args))) (low_pops line (snapshot_group callee (names_of args))) (omega arith)))
            (low_pops line (save_group p.marks i callee (names_of args))))),
      )

  -- the rows of a loop, by how it is reversed
  abbrev rows_forth : ℕ → ℕ → ℕ → Name → Term → Term → Term → Code → Option Step → Code
  rows_forth i d line x a b c body o = found_or o (loop_forward (is_empty (backward_with sc p (suc i) (suc d) body)) (suc d) line (plain x) a b c (forward_with sc p (suc i) (suc d) body)) (λ s. row_forward p i (suc d) line x a b c s)

  abbrev rows_back : ℕ → ℕ → ℕ → Name → Code → Option Step → Code
  rows_back i d line x body o = found_or o (loop_backward (is_empty (backward_with sc p (suc i) (suc d) body)) (suc d) line (plain x) (backward_with sc p (suc i) (suc d) body)) (λ s. row_backward p i (suc d) line x s)

  -- the step call of a loop that is reversed
  step_low : (i : ℕ) (body : Code) (m : Mark) (s : Step) → reversed_by sc p.marks.adjointed i body m ≡ Some s → chain g body ≤ n → g s.name ≤ n
  step_low i body m s e = step_body (λ c s. chain g c ≤ n → g s.name ≤ n) there sc p.marks.adjointed i body m s e
    where
      there : (l : ℕ) (name : Name) (args : Terms) (read : Vars) (k : Mark) → chain g (step l (call name args) stop) ≤ n → g name ≤ n
      there l name args read k h = omega arith

  rows_low : (i d line : ℕ) (x : Name) (a b c : Term) (body : Code) (m : Mark) (o : Option Step) → reversed_by sc p.marks.adjointed i body m ≡ o → chain g body ≤ n → ByStep o (Unit {0}) (λ s. KeptLow s.name × AdjointLow s.name) →
      (chain f (forward_with sc p (suc i) (suc d) body) ≤ n) × (chain f (backward_with sc p (suc i) (suc d) body) ≤ n) → (chain f (rows_forth i d line x a b c body o) ≤ n) × (chain f (rows_back i d line x body o) ≤ n)
  rows_low i d line x a b c body m None e h may inside =
      let idle = is_empty (backward_with sc p (suc i) (suc d) body) in
      (loop_forward_low idle (suc d) line (plain x) a b c (forward_with sc p (suc i) (suc d) body) inside.0, loop_backward_low idle (suc d) line (plain x) (backward_with sc p (suc i) (suc d) body) inside.1)
  rows_low i d line x a b c body m (Some s) e h may inside =
      let callee = p.callees s.name in
      let known = step_low i body m s e h in
      let own = may.0 in
      let back = may.1 in
      let plain_call = one line (call s.name (actuals_named s.given)) in
      let saves = save_group p.marks i callee s.given in
      let shot = step_snapshot callee s.read s.given in (
        reversed_forward_low (suc d) line (plain x) a b c s.mark (pushes p line saves) (pushes p line shot) (code_if (p.marks.kept (suc i)) plain_call) (low_pushes line saves) (low_pushes line shot) (low_if f n (p.marks.kept (suc i)) plain_call (λ t. omega arith)),
        reversed_backward_low line (suc d) (plain x) s.mark (pushes p line shot) (pops p line shot) plain_call (one line (adjoint_call callee s.given)) (low_pushes line shot) (low_pops line shot) (omega arith) (omega arith) (pops p line saves) (low_pops line saves),
      )

  mutual
    act_low : (i d line : ℕ) (a : Act) → act_chain g a ≤ n → Calls' i a → (chain f (forward_act_with sc p i d line a) ≤ n) × (chain f (backward_act_with sc p i d line a) ≤ n)
    act_low i d line (assign (plain x) subs e) h may = (
      low_if f n (p.marks.kept i) _ (λ t. low_append f n (code_if (p.marks.saved i (plain x)) (one line (runtime (push_word (plain x) subs)))) (one line (assign (plain x) subs e)) (low_one (p.marks.saved i (plain x)) line (runtime (push_word (plain x) subs)) refl) (omega arith)),
      low_append f n (code_if (p.marks.kept i && p.marks.saved i (plain x)) (one line (runtime (pop_word (plain x) subs)))) (code_if (p.marks.adjointed i) (adjoint_where (active_at p.marks i) x subs e line)) (low_one (p.marks.kept i && p.marks.saved i (plain x)) line (runtime (pop_word (plain x) subs)) refl)
          (low_if f n (p.marks.adjointed i) (adjoint_where (active_at p.marks i) x subs e line) (λ t. low_making f n (adjoint_where (active_at p.marks i) x subs e line) (making_adjoint (active_at p.marks i) x subs e line))),
    )
    act_low i d line (assign (shadow x) subs e) h may = (omega arith, omega arith)
    act_low i d line (assign (helper r k) subs e) h may = (omega arith, omega arith)
    act_low i d line (choose c a b) h may =
        let first = list_low (suc i) d a (omega arith) may.0 in
        let other = list_low (behind (suc i) a) d b (omega arith) may.1 in
        let idle = is_empty (backward_with sc p (suc i) d a) && is_empty (backward_with sc p (behind (suc i) a) d b) in
        let there = told_forward_low idle line (forward_with sc p (suc i) d a) 1 first.0 in
        let back = told_forward_low idle line (forward_with sc p (behind (suc i) a) d b) 0 other.0 in (
          low_if f n (is_emitted p.marks i) (one line (choose c (told_forward idle line (forward_with sc p (suc i) d a) 1) (told_forward idle line (forward_with sc p (behind (suc i) a) d b) 0))) (λ e. omega arith),
          low_if f n (is_emitted p.marks i) _ (λ e. told_backward_low idle line (backward_with sc p (suc i) d a) (backward_with sc p (behind (suc i) a) d b) first.1 other.1),
        )
    act_low i d line (loop (plain x) a b c body m) h may =
        let grows = marked_grows m (chain g body) in
        let rows = rows_low i d line x a b c body m (reversed_by sc p.marks.adjointed i body m) refl (omega arith) may.0 (list_low (suc i) (suc d) body (omega arith) may.1) in (
          low_if f n (is_emitted p.marks i) _ (λ e. low_append f n (code_if (p.marks.saved i (plain x)) (one line (runtime (push_word (plain x) none)))) _ (low_one (p.marks.saved i (plain x)) line (runtime (push_word (plain x) none)) refl) rows.0),
          low_if f n (is_emitted p.marks i) _ (λ e.
              low_append f n (rows_back i d line x body (reversed_by sc p.marks.adjointed i body m)) _ rows.1
              (low_append f n (code_if (p.marks.saved i (plain x)) (one line (runtime (pop_word (plain x) none)))) _ (low_one (p.marks.saved i (plain x)) line (runtime (pop_word (plain x) none)) refl) (low_one _ line (assign (shadow x) none (literal 0)) refl))),
        )
    act_low i d line (loop (shadow x) a b c body m) h may = (omega arith, omega arith)
    act_low i d line (loop (helper r k) a b c body m) h may = (omega arith, omega arith)
    act_low i d line (during c body) h may =
        let inside = list_low (suc i) (suc d) body h may in
        let idle = is_empty (backward_with sc p (suc i) (suc d) body) in (
          low_if f n (is_emitted p.marks i) _ (λ e. while_forward_low idle (suc d) line c (forward_with sc p (suc i) (suc d) body) inside.0),
          low_if f n (is_emitted p.marks i) _ (λ e. while_backward_low idle (suc d) line (backward_with sc p (suc i) (suc d) body) inside.1),
        )
    act_low i d line (call name args) h may = call_low i d line name args h may
    act_low i d line (runtime r) h may = (omega arith, omega arith)

    list_low : (i d : ℕ) (c : Code) → chain g c ≤ n → Calls i c → (chain f (forward_with sc p i d c) ≤ n) × (chain f (backward_with sc p i d c) ≤ n)
    list_low i d stop h may = (omega arith, omega arith)
    list_low i d (step line a rest) h may =
        let here = act_low i d line a (omega arith) may.0 in
        let later = list_low (next i a) d rest (omega arith) may.1 in (
          low_append f n (forward_act_with sc p i d line a) (forward_with sc p (next i a) d rest) here.0 later.0,
          low_append f n (backward_with sc p (next i a) d rest) (backward_act_with sc p i d line a) later.1 here.1,
        )

  cleared_low : (line : ℕ) (xs : List (List ℕ)) → chain f (cleared p line xs) ≤ n
  cleared_low line [] = omega arith
  cleared_low line (x ∷ xs) = low_append f n (if p.arrays (plain x) then one line (runtime (zero_array (shadow x))) else one line (assign (shadow x) none (literal 0))) (cleared p line xs) (go (p.arrays (plain x))) (cleared_low line xs)
    where
      go : (b : Bool) → chain f (if b then one line (runtime (zero_array (shadow x))) else one line (assign (shadow x) none (literal 0))) ≤ n
      go true = omega arith
      go false = omega arith

  -- so in the bodies of what is made of a unit
  pub body_low : (i line : ℕ) (c : Code) (at_turn at_end : List (List ℕ)) → chain g c ≤ n → Calls i c → chain f (adjoint_body_with sc p i line c at_turn at_end) ≤ n
  body_low i line c at_turn at_end h may =
      let both = list_low i 0 c h may in
      low_append f n (forward_with sc p i 0 c) _ both.0 (low_append f n (cleared p line at_turn) _ (cleared_low line at_turn) (low_append f n (backward_with sc p i 0 c) (cleared p line at_end) both.1 (cleared_low line at_end)))

  pub forth_low : (i line : ℕ) (left : List (List ℕ)) (c : Code) → chain g c ≤ n → Calls i c → chain f (forth_body sc p i line left c) ≤ n
  forth_low i line left c h may = low_append f n (forward_with sc p i 0 c) (pushes p line left) (list_low i 0 c h may).0 (low_pushes line left)

  pub back_low : (i line : ℕ) (left : List (List ℕ)) (c : Code) → chain g c ≤ n → Calls i c → chain f (back_body sc p i line left c) ≤ n
  back_low i line left c h may = low_append f n (pops p line left) (backward_with sc p i 0 c) (low_pops line left) (list_low i 0 c h may).1
