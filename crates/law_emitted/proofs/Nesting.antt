-- The sweeps of statements are nested no deeper than these.
use Rattle.std.proofs.Common.{◌≡◌, ℕ, zero, suc, ◌+◌, ◌≤◌, max, Bool, true, false, List, [], ◌∷◌, refl, sym, subst, arith, if◌then◌else◌}
use Rattle.std.specs.Prelude.{◌&&◌, not, Option, Some, None}
use Rattle.adj_tree.specs.Code.{Var, plain, shadow, helper, first, stride, count, lower, plus, minus, times, quot, modulo, greater, lesser, Term, lit, var, elem, neg, bin, pow, power_of, abs, Terms, none, Test, Mark, unmarked as no_mark, with_count, count_from, push_word, pop_word, zero_array, name_eq, Act, assign, choose, loop, during, call, runtime, Code, stop, step, Procedure}
use Rattle.adj_tree.specs.Size.{act_depth, code_depth, IsNested}
use Rattle.def_meaning.specs.Append.{◌+++◌, one}
use Rattle.def_meaning.specs.Rename.{rename_act, rename}
use Rattle.def_names.specs.Numbers.{Vars, next, behind}
use Rattle.def_sweep.specs.Marks.{active_at}
use Rattle.def_sweep.specs.Marked.{code_if, count_of, own_code, names_in}
use Rattle.def_sweep.specs.Naming.{naming}
use Rattle.def_sweep.specs.Declared.{unmarked, unit_at}
use Rattle.def_sweep.specs.Occurrences.{is_active_where}
use Rattle.def_sweep.specs.AdjointOf.{has_own_where, temps_in_where, shrunk_where, temps_where, back_where, adjoint_where}
use Rattle.def_sweep.specs.Plan.{Plan, is_emitted, names_of, actuals_named, save_group, snapshot_group, step_snapshot, found_or, Schedules, Step, reversed_by}
use Rattle.def_sweep.specs.ReversalCode.{at_turn, arm, advance, arms, reversal, slots_of, set_slots, push_slots, pop_slots, reversed_forward, reversed_backward, row_forward, row_backward}
use Rattle.def_sweep.specs.Rows.{is_empty, push, pop, pushes, pops, literal, adjoint_call, told_forward, told_backward, loop_forward, loop_backward, while_forward, while_backward, push_own, pop_own, set_own, reset, with_shadows}
use Rattle.def_sweep.specs.Emission.{forward_act_with, forward_with, backward_act_with, backward_with, cleared, adjoint_body_with}
use Rattle.def_sweep.specs.SplitRows.{forth_body, back_body}
use Rattle.def_sweep.specs.Marking.{ProgramMarks, first_statement, plan_in}
use Rattle.def_sweep.specs.Program.{has_adjoint, is_carried_with, all_units, adjoint_names_with, adjoint_unit_with, emitted_adjoint_with, emitted_units_with, emitted_for_with, emitted_program_with, schedules_in, has_pair, split_plan, left_by, forth_unit, back_unit}
use Rattle.law_emitted.proofs.Lists.{Each, each_more}
use Rattle.law_emitted.specs.Emitted.{nested_with, KeepsNesting}
use Rattle.law_emitted.proofs.StepCalls.{from_keep, from_turn, from_advance}
use Rattle.law_emitted.proofs.UnitFaults.{each_made}

-- ---- lists

pub below_append : (n : ℕ) (c d : Code) → code_depth c ≤ n → code_depth d ≤ n → code_depth (c +++ d) ≤ n
below_append n stop d h g = g
below_append n (step line a c) d h g = let rest = below_append n c d (omega arith) g in omega arith

below_if : (n : ℕ) (b : Bool) (c : Code) → code_depth c ≤ n → code_depth (code_if b c) ≤ n
below_if n true c h = h
below_if n false c h = omega arith

-- of two
below_choice : (n : ℕ) (b : Bool) (c d : Code) → code_depth c ≤ n → code_depth d ≤ n → code_depth (if b then c else d) ≤ n
below_choice n true c d h g = h
below_choice n false c d h g = g

-- ---- assignments

flat_own : (n : ℕ) (t : Bool) (line j : ℕ) (e : Term) → code_depth (own_code t line j e) ≤ n
flat_own n true line j e = omega arith
flat_own n false line j e = omega arith

module _ (on : Vars) (n : ℕ) where
  flat_temps : (e : Term) (j line : ℕ) → code_depth (temps_where on e j line) ≤ n
  flat_temps (lit z) j line = omega arith
  flat_temps (var x) j line = omega arith
  flat_temps (elem x subs) j line = omega arith
  flat_temps (neg a) j line = flat_temps a j line
  flat_temps (bin plus a b) j line = below_append n (temps_where on a j line) _ (flat_temps a j line) (flat_temps b (j + temps_in_where on a) line)
  flat_temps (bin minus a b) j line = below_append n (temps_where on a j line) _ (flat_temps a j line) (flat_temps b (j + temps_in_where on a) line)
  flat_temps (bin times a b) j line =
      let m = j + temps_in_where on a + count_of (has_own_where on a b) in
      below_append n (temps_where on a j line) _ (flat_temps a j line)
      (below_append n (own_code (has_own_where on a b) line (j + temps_in_where on a) (shrunk_where on a j)) _ (flat_own n (has_own_where on a b) line (j + temps_in_where on a) (shrunk_where on a j))
      (below_append n (temps_where on b m line) _ (flat_temps b m line) (flat_own n (has_own_where on b a) line (m + temps_in_where on b) (shrunk_where on b m))))
  flat_temps (bin quot a b) j line = omega arith
  flat_temps (bin modulo a b) j line = omega arith
  flat_temps (bin greater a b) j line = omega arith
  flat_temps (bin lesser a b) j line = omega arith
  flat_temps (pow a zero) j line = omega arith
  flat_temps (pow a (suc zero)) j line = flat_temps a j line
  flat_temps (pow a (suc (suc k))) j line = below_append n (temps_where on a j line) _ (flat_temps a j line) (flat_own n (has_own_where on a a) line (j + temps_in_where on a) (shrunk_where on a j))
  flat_temps (power_of a b) j line =
      below_append n (temps_where on a j line) _ (flat_temps a j line)
      (below_append n (own_code (has_own_where on a a) line (j + temps_in_where on a) (shrunk_where on a j)) _ (flat_own n (has_own_where on a a) line (j + temps_in_where on a) (shrunk_where on a j)) (flat_own n (has_own_where on b a) line (j + temps_in_where on a + count_of (has_own_where on a a)) b))
  flat_temps (abs a) j line = omega arith

  -- an assignment and more
  flat_more : (t : Bool) (line : ℕ) (x : Var) (v : Term) (c : Code) → code_depth c ≤ n → code_depth (code_if t (step line (assign x none v) c)) ≤ n
  flat_more t line x v c h = below_if n t (step line (assign x none v) c) (omega arith)

  flat_back : (e : Term) (k j line : ℕ) → code_depth (back_where on e k j line) ≤ n
  flat_back (lit z) k j line = omega arith
  flat_back (var (plain x)) k j line = omega arith
  flat_back (var (shadow x)) k j line = omega arith
  flat_back (var (helper r i)) k j line = omega arith
  flat_back (elem (plain x) subs) k j line = omega arith
  flat_back (elem (shadow x) subs) k j line = omega arith
  flat_back (elem (helper r i) subs) k j line = omega arith
  flat_back (neg a) k j line = flat_more (is_active_where on a) line _ _ (back_where on a (suc k) j line) (flat_back a (suc k) j line)
  flat_back (bin plus a b) k j line =
      below_append n (code_if (is_active_where on a) (back_where on a k j line)) _ (below_if n (is_active_where on a) (back_where on a k j line) (flat_back a k j line)) (below_if n (is_active_where on b) (back_where on b k (j + temps_in_where on a) line) (flat_back b k (j + temps_in_where on a) line))
  flat_back (bin minus a b) k j line =
      below_append n (code_if (is_active_where on a) (back_where on a k j line)) _ (below_if n (is_active_where on a) (back_where on a k j line) (flat_back a k j line)) (flat_more (is_active_where on b) line _ _ (back_where on b (suc k) (j + temps_in_where on a) line) (flat_back b (suc k) (j + temps_in_where on a) line))
  flat_back (bin times a b) k j line =
      let m = j + temps_in_where on a + count_of (has_own_where on a b) in
      below_append n (code_if (is_active_where on a) _) _ (flat_more (is_active_where on a) line _ _ (back_where on a (suc k) j line) (flat_back a (suc k) j line)) (flat_more (is_active_where on b) line _ _ (back_where on b (suc k) m line) (flat_back b (suc k) m line))
  flat_back (bin quot a b) k j line = omega arith
  flat_back (bin modulo a b) k j line = omega arith
  flat_back (bin greater a b) k j line = omega arith
  flat_back (bin lesser a b) k j line = omega arith
  flat_back (pow a zero) k j line = omega arith
  flat_back (pow a (suc zero)) k j line = below_if n (is_active_where on a) (back_where on a k j line) (flat_back a k j line)
  flat_back (pow a (suc (suc i))) k j line = flat_more (is_active_where on a) line _ _ (back_where on a (suc k) j line) (flat_back a (suc k) j line)
  flat_back (power_of a b) k j line = flat_more (is_active_where on a) line _ _ (back_where on a (suc k) j line) (flat_back a (suc k) j line)
  flat_back (abs a) k j line = omega arith

  flat_adjoint : (t : List ℕ) (subs : Terms) (e : Term) (line : ℕ) → code_depth (adjoint_where on t subs e line) ≤ n
  flat_adjoint t subs e line =
      let later = below_if n (is_active_where on e) (back_where on e 1 1 line) (flat_back e 1 1 line) in
      below_append n (code_if (is_active_where on e) _) _ (below_if n (is_active_where on e) _ (below_append n (temps_where on e 1 line) _ (flat_temps e 1 line) (omega arith))) (omega arith)

-- ---- the sweeps of a unit

module _ (p : Plan) where
  flat_push : (n line : ℕ) (x : List ℕ) → code_depth (push p line x) ≤ n
  flat_push n line x = omega arith

  flat_pop : (n line : ℕ) (x : List ℕ) → code_depth (pop p line x) ≤ n
  flat_pop n line x = omega arith

  flat_pushes : (n line : ℕ) (xs : List (List ℕ)) → code_depth (pushes p line xs) ≤ n
  flat_pushes n line [] = omega arith
  flat_pushes n line (x ∷ xs) = below_append n (push p line x) (pushes p line xs) (flat_push n line x) (flat_pushes n line xs)

  flat_pops : (n line : ℕ) (xs : List (List ℕ)) → code_depth (pops p line xs) ≤ n
  flat_pops n line [] = omega arith
  flat_pops n line (x ∷ xs) = below_append n (pops p line xs) (pop p line x) (flat_pops n line xs) (flat_pop n line x)

  flat_reset : (n i line : ℕ) (x : List ℕ) → code_depth (reset p.marks i line x) ≤ n
  flat_reset n i line x = below_if n _ (one line (assign (shadow x) none _)) (omega arith)

  told_forward_below : (n : ℕ) (idle : Bool) (line : ℕ) (c : Code) (k : ℕ) → code_depth c ≤ n → code_depth (told_forward idle line c k) ≤ n
  told_forward_below n true line c k h = h
  told_forward_below n false line c k h = below_append n c _ h (omega arith)

  told_backward_below : (n : ℕ) (idle : Bool) (line : ℕ) (a b : Code) → code_depth a ≤ n → code_depth b ≤ n → code_depth (told_backward idle line a b) ≤ n + 1
  told_backward_below n true line a b h g = omega arith
  told_backward_below n false line a b h g = omega arith

  -- the count goes up
  abbrev raised : ℕ → ℕ → Code
  raised k line = one line (assign (helper count k) none (bin plus (var (helper count k)) (literal 1)))

  loop_forward_below : (n : ℕ) (idle : Bool) (k line : ℕ) (x : Var) (a b c : Term) (body : Code) → code_depth body ≤ n → code_depth (loop_forward idle k line x a b c body) ≤ n + 1
  loop_forward_below n true k line x a b c body h = omega arith
  loop_forward_below n false k line x a b c body h = let inside = below_append n body (raised k line) h (omega arith) in omega arith

  loop_backward_below : (n : ℕ) (idle : Bool) (k line : ℕ) (x : Var) (body : Code) → code_depth body ≤ n → code_depth (loop_backward idle k line x body) ≤ n + 1
  loop_backward_below n true k line x body h = omega arith
  loop_backward_below n false k line x body h = omega arith

  while_forward_below : (n : ℕ) (idle : Bool) (k line : ℕ) (c : Test) (body : Code) → code_depth body ≤ n → code_depth (while_forward idle k line c body) ≤ n + 1
  while_forward_below n true k line c body h = omega arith
  while_forward_below n false k line c body h = let inside = below_append n body (raised k line) h (omega arith) in omega arith

  while_backward_below : (n : ℕ) (idle : Bool) (k line : ℕ) (body : Code) → code_depth body ≤ n → code_depth (while_backward idle k line body) ≤ n + 1
  while_backward_below n true k line body h = omega arith
  while_backward_below n false k line body h = omega arith

  cleared_below : (n line : ℕ) (xs : List (List ℕ)) → code_depth (cleared p line xs) ≤ n
  cleared_below n line [] = omega arith
  cleared_below n line (x ∷ xs) = below_append n (if p.arrays (plain x) then one line (runtime (zero_array (shadow x))) else one line (assign (shadow x) none (literal 0))) (cleared p line xs) (go (p.arrays (plain x))) (cleared_below n line xs)
    where
      go : (b : Bool) → code_depth (if b then one line (runtime (zero_array (shadow x))) else one line (assign (shadow x) none (literal 0))) ≤ n
      go true = omega arith
      go false = omega arith

  -- ---- loops that are reversed by schedules: a loop over the actions, an IF, and a loop over the steps of an advance

  arm_below : (n line k j : ℕ) (c : Code) → code_depth c + 1 ≤ n → code_depth (arm line k j c) ≤ n
  arm_below n line k j c h = below_if n (not (is_empty c)) _ (omega arith)

  set_slots_below : (n line k : ℕ) (m : Mark) (rest : Code) → code_depth rest ≤ n → code_depth (set_slots line k m rest) ≤ n
  set_slots_below n line k no_mark rest h = h
  set_slots_below n line k (with_count j) rest h = h
  set_slots_below n line k (count_from y) rest h = omega arith

  push_slots_below : (n line k : ℕ) (m : Mark) (rest : Code) → code_depth rest ≤ n → code_depth (push_slots line k m rest) ≤ n
  push_slots_below n line k no_mark rest h = h
  push_slots_below n line k (with_count j) rest h = h
  push_slots_below n line k (count_from y) rest h = omega arith

  pop_slots_below : (n line k : ℕ) (m : Mark) (rest : Code) → code_depth rest ≤ n → code_depth (pop_slots line k m rest) ≤ n
  pop_slots_below n line k no_mark rest h = h
  pop_slots_below n line k (with_count j) rest h = h
  pop_slots_below n line k (count_from y) rest h = omega arith

  module _ (line k : ℕ) (x : Var) (m : Mark) (keep back plain_call adjoint : Code) (flat_keep : code_depth keep ≤ 0) (flat_back : code_depth back ≤ 0) (flat_call : code_depth plain_call ≤ 0) (flat_adjoint : code_depth adjoint ≤ 0) where
    arms_below : code_depth (arms line k x keep back plain_call adjoint) ≤ 2
    arms_below =
        let again = below_append 0 back keep flat_back flat_keep in
        below_append 2 (arm line k 1 keep) (from_advance line k x keep back plain_call adjoint) (arm_below 2 line k 1 keep (omega arith))
        (below_append 2 (arm line k 2 (advance line k x plain_call)) (from_turn line k x keep back adjoint) (arm_below 2 line k 2 (advance line k x plain_call) (omega arith))
        (below_append 2 (arm line k 3 (at_turn line k x lower adjoint)) (from_keep line k keep back) (arm_below 2 line k 3 (at_turn line k x lower adjoint) (omega arith))
        (below_append 2 (arm line k 4 (back +++ keep)) (arm line k 5 back) (arm_below 2 line k 4 (back +++ keep) (omega arith)) (arm_below 2 line k 5 back (omega arith)))))

    reversal_below : code_depth (reversal line k x (slots_of k m) keep back plain_call adjoint) ≤ 3
    reversal_below = let inside = arms_below in omega arith

    reversed_backward_below : (unsave : Code) → code_depth unsave ≤ 0 → code_depth (reversed_backward k line x m keep back unsave plain_call adjoint) ≤ 3
    reversed_backward_below unsave h =
        let inside = below_append 3 back (reversal line k x (slots_of k m) keep back plain_call adjoint +++ unsave) (omega arith) (below_append 3 (reversal line k x (slots_of k m) keep back plain_call adjoint) unsave reversal_below (omega arith)) in
        let popped = pop_slots_below 3 line k m (pop_own line (helper stride k) (pop_own line (helper first k) (back +++ (reversal line k x (slots_of k m) keep back plain_call adjoint +++ unsave)))) (omega arith) in
        omega arith

  module _ (k line : ℕ) (x : Var) (a b c : Term) (m : Mark) (save keep plain_call : Code) (flat_save : code_depth save ≤ 0) (flat_keep : code_depth keep ≤ 0) (flat_call : code_depth plain_call ≤ 0) where
    -- the loop and what is pushed behind it
    abbrev turned : Code
    turned = step line (loop x (var (helper first k)) b (var (helper stride k)) (plain_call +++ raised k line) no_mark) (push_own line (helper first k) (push_own line (helper stride k) (push_slots line k m (push_own line (helper count k) stop))))

    turned_below : code_depth turned ≤ 1
    turned_below = let inside = below_append 0 plain_call (raised k line) flat_call (omega arith) in let pushed = push_slots_below 1 line k m (push_own line (helper count k) stop) (omega arith) in omega arith

    reversed_forward_below : code_depth (reversed_forward k line x a b c m save keep plain_call) ≤ 1
    reversed_forward_below =
        let inside = below_append 1 save (keep +++ turned) (omega arith) (below_append 1 keep turned (omega arith) turned_below) in
        let counted = set_slots_below 1 line k m (set_own line (helper count k) (literal 0) (save +++ (keep +++ turned))) (omega arith) in
        omega arith

  rows_reversed : (i k line : ℕ) (x : List ℕ) (a b c : Term) (s : Step) → (code_depth (row_forward p i k line x a b c s) ≤ 1) × (code_depth (row_backward p i k line x s) ≤ 3)
  rows_reversed i k line x a b c s =
      let callee = p.callees s.name in
      let plain_call = one line (call s.name (actuals_named s.given)) in
      let saves = save_group p.marks i callee s.given in
      let shot = step_snapshot callee s.read s.given in (
        reversed_forward_below k line (plain x) a b c s.mark (pushes p line saves) (pushes p line shot) (code_if (p.marks.kept (suc i)) plain_call) (flat_pushes 0 line saves) (flat_pushes 0 line shot) (below_if 0 (p.marks.kept (suc i)) plain_call (omega arith)),
        reversed_backward_below line k (plain x) s.mark (pushes p line shot) (pops p line shot) plain_call (one line (adjoint_call callee s.given)) (flat_pushes 0 line shot) (flat_pops 0 line shot) (omega arith) (omega arith) (pops p line saves) (flat_pops 0 line saves),
      )

  -- so many levels more, where loops are reversed by schedules
  module _ (sc : Schedules) (extra : ℕ) (room : (f : ℕ → Bool) (i : ℕ) (body : Code) (mark : Mark) (s : Step) → reversed_by sc f i body mark ≡ Some s → 2 ≤ extra) where
    abbrev Below : ℕ → Code → Type 0
    Below n c = code_depth c ≤ n + extra

    rows_below : (i d line : ℕ) (x : List ℕ) (a b c : Term) (body : Code) (m : Mark) (o : Option Step) → reversed_by sc p.marks.adjointed i body m ≡ o → Below (code_depth body) (forward_with sc p (suc i) (suc d) body) × Below (code_depth body) (backward_with sc p (suc i) (suc d) body) →
        Below (code_depth body + 1) (found_or o (loop_forward (is_empty (backward_with sc p (suc i) (suc d) body)) (suc d) line (plain x) a b c (forward_with sc p (suc i) (suc d) body)) (λ s. row_forward p i (suc d) line x a b c s))
        × Below (code_depth body + 1) (found_or o (loop_backward (is_empty (backward_with sc p (suc i) (suc d) body)) (suc d) line (plain x) (backward_with sc p (suc i) (suc d) body)) (λ s. row_backward p i (suc d) line x s))
    rows_below i d line x a b c body m None e inside =
        let idle = is_empty (backward_with sc p (suc i) (suc d) body) in
        let forth = loop_forward_below (code_depth body + extra) idle (suc d) line (plain x) a b c (forward_with sc p (suc i) (suc d) body) inside.0 in
        let back = loop_backward_below (code_depth body + extra) idle (suc d) line (plain x) (backward_with sc p (suc i) (suc d) body) inside.1 in
        (omega arith, omega arith)
    rows_below i d line x a b c body m (Some s) e inside =
        let enough = room p.marks.adjointed i body m s e in
        let rows = rows_reversed i (suc d) line x a b c s in
        (omega arith, omega arith)

    mutual
      act_below : (i d line : ℕ) (a : Act) → Below (act_depth a) (forward_act_with sc p i d line a) × Below (act_depth a) (backward_act_with sc p i d line a)
      act_below i d line (assign (plain x) subs e) =
          let added = flat_adjoint (active_at p.marks i) extra x subs e line in (
            below_if (0 + extra) (p.marks.kept i) _ (below_append (0 + extra) (code_if (p.marks.saved i (plain x)) (one line (runtime (push_word (plain x) subs)))) (one line (assign (plain x) subs e)) (below_if (0 + extra) (p.marks.saved i (plain x)) (one line (runtime (push_word (plain x) subs))) (omega arith)) (omega arith)),
            below_append (0 + extra) (code_if (p.marks.kept i && p.marks.saved i (plain x)) (one line (runtime (pop_word (plain x) subs)))) (code_if (p.marks.adjointed i) (adjoint_where (active_at p.marks i) x subs e line)) (below_if (0 + extra) (p.marks.kept i && p.marks.saved i (plain x)) (one line (runtime (pop_word (plain x) subs))) (omega arith)) (below_if (0 + extra) (p.marks.adjointed i) (adjoint_where (active_at p.marks i) x subs e line) (omega arith)),
          )
      act_below i d line (assign (shadow x) subs e) = (omega arith, omega arith)
      act_below i d line (assign (helper r k) subs e) = (omega arith, omega arith)
      act_below i d line (choose c a b) =
          let most = max (code_depth a) (code_depth b) in
          let first = list_below (suc i) d a in
          let other = list_below (behind (suc i) a) d b in
          let idle = is_empty (backward_with sc p (suc i) d a) && is_empty (backward_with sc p (behind (suc i) a) d b) in
          let fa = told_forward_below (most + extra) idle line (forward_with sc p (suc i) d a) 1 (omega arith) in
          let fb = told_forward_below (most + extra) idle line (forward_with sc p (behind (suc i) a) d b) 0 (omega arith) in
          let back = told_backward_below (most + extra) idle line (backward_with sc p (suc i) d a) (backward_with sc p (behind (suc i) a) d b) (omega arith) (omega arith) in (
            below_if (most + 1 + extra) (is_emitted p.marks i) (one line (choose c (told_forward idle line (forward_with sc p (suc i) d a) 1) (told_forward idle line (forward_with sc p (behind (suc i) a) d b) 0))) (omega arith),
            below_if (most + 1 + extra) (is_emitted p.marks i) (told_backward idle line (backward_with sc p (suc i) d a) (backward_with sc p (behind (suc i) a) d b)) (omega arith),
          )
      act_below i d line (loop (plain x) a b c body m) =
          let rows = rows_below i d line x a b c body m (reversed_by sc p.marks.adjointed i body m) refl (list_below (suc i) (suc d) body) in
          let high = code_depth body + 1 + extra in (
            below_if high (is_emitted p.marks i) _ (below_append high (code_if (p.marks.saved i (plain x)) (one line (runtime (push_word (plain x) none)))) _ (below_if high (p.marks.saved i (plain x)) (one line (runtime (push_word (plain x) none))) (omega arith)) rows.0),
            below_if high (is_emitted p.marks i) _
                (below_append high (found_or (reversed_by sc p.marks.adjointed i body m) (loop_backward (is_empty (backward_with sc p (suc i) (suc d) body)) (suc d) line (plain x) (backward_with sc p (suc i) (suc d) body)) (λ s. row_backward p i (suc d) line x s)) _ rows.1
                (below_append high (code_if (p.marks.saved i (plain x)) (one line (runtime (pop_word (plain x) none)))) _ (below_if high (p.marks.saved i (plain x)) (one line (runtime (pop_word (plain x) none))) (omega arith)) (flat_reset high i line x))),
          )
      act_below i d line (loop (shadow x) a b c body m) = (omega arith, omega arith)
      act_below i d line (loop (helper r k) a b c body m) = (omega arith, omega arith)
      act_below i d line (during c body) =
          let inside = list_below (suc i) (suc d) body in
          let idle = is_empty (backward_with sc p (suc i) (suc d) body) in
          let forth = while_forward_below (code_depth body + extra) idle (suc d) line c (forward_with sc p (suc i) (suc d) body) inside.0 in
          let back = while_backward_below (code_depth body + extra) idle (suc d) line (backward_with sc p (suc i) (suc d) body) inside.1 in (
            below_if (code_depth body + 1 + extra) (is_emitted p.marks i) (while_forward idle (suc d) line c (forward_with sc p (suc i) (suc d) body)) (omega arith),
            below_if (code_depth body + 1 + extra) (is_emitted p.marks i) (while_backward idle (suc d) line (backward_with sc p (suc i) (suc d) body)) (omega arith),
          )
      act_below i d line (call name args) =
          let g = p.callees name in
          let high = 0 + extra in (
            below_if high (is_emitted p.marks i) _ (below_choice high (p.marks.split i) (one line (call g.forth args)) _ (omega arith)
                (below_append high (pushes p line (save_group p.marks i g (names_of args))) _ (flat_pushes high line (save_group p.marks i g (names_of args)))
                (below_append high (code_if (p.marks.adjointed i) _) _ (below_if high (p.marks.adjointed i) _ (flat_pushes high line (snapshot_group g (names_of args)))) (below_if high (p.marks.kept i) (one line (call name args)) (omega arith))))),
            below_if high (is_emitted p.marks i) _ (below_choice high (p.marks.split i) (one line (call g.back (with_shadows g.shadowed g.dummies (names_of args)))) _ (omega arith)
                (below_append high (code_if (p.marks.adjointed i) _) _ (below_if high (p.marks.adjointed i) _ (below_append high (pops p line (snapshot_group g (names_of args))) (one line (adjoint_call g (names_of args))) (flat_pops high line (snapshot_group g (names_of args))) (omega arith))) (flat_pops high line (save_group p.marks i g (names_of args))))),
          )
      act_below i d line (runtime r) = (omega arith, omega arith)

      list_below : (i d : ℕ) (c : Code) → Below (code_depth c) (forward_with sc p i d c) × Below (code_depth c) (backward_with sc p i d c)
      list_below i d stop = (omega arith, omega arith)
      list_below i d (step line a rest) =
          let here = act_below i d line a in
          let later = list_below (next i a) d rest in
          let high = code_depth (step line a rest) + extra in (
            below_append high (forward_act_with sc p i d line a) (forward_with sc p (next i a) d rest) (omega arith) (omega arith),
            below_append high (backward_with sc p (next i a) d rest) (backward_act_with sc p i d line a) (omega arith) (omega arith),
          )

    body_below : (n i line : ℕ) (c : Code) (at_turn at_end : List (List ℕ)) → code_depth c ≤ n → Below n (adjoint_body_with sc p i line c at_turn at_end)
    body_below n i line c at_turn at_end h =
        let both = list_below i 0 c in
        below_append (n + extra) (forward_with sc p i 0 c) _ (omega arith) (below_append (n + extra) (cleared p line at_turn) _ (cleared_below (n + extra) line at_turn) (below_append (n + extra) (backward_with sc p i 0 c) (cleared p line at_end) (omega arith) (cleared_below (n + extra) line at_end)))

    -- the bodies of the forward and the backward unit
    forth_below : (n i line : ℕ) (left : List (List ℕ)) (c : Code) → code_depth c ≤ n → Below n (forth_body sc p i line left c)
    forth_below n i line left c h = let both = list_below i 0 c in below_append (n + extra) (forward_with sc p i 0 c) (pushes p line left) (omega arith) (flat_pushes (n + extra) line left)

    back_below : (n i line : ℕ) (left : List (List ℕ)) (c : Code) → code_depth c ≤ n → Below n (back_body sc p i line left c)
    back_below n i line left c h = let both = list_below i 0 c in below_append (n + extra) (pops p line left) (backward_with sc p i 0 c) (flat_pops (n + extra) line left) (omega arith)

-- ---- renaming keeps it

mutual
  renamed_act : (r : Var → Var) (a : Act) → act_depth (rename_act r a) ≡ act_depth a
  renamed_act r (assign x s e) = refl
  renamed_act r (choose c a b) = λ i. max (renamed_depth r a i) (renamed_depth r b i) + 1
  renamed_act r (loop x a b c body m) = λ i. renamed_depth r body i + 1
  renamed_act r (during c body) = λ i. renamed_depth r body i + 1
  renamed_act r (call name args) = refl
  renamed_act r (runtime c) = refl

  pub renamed_depth : (r : Var → Var) (c : Code) → code_depth (rename r c) ≡ code_depth c
  renamed_depth r stop = refl
  renamed_depth r (step line a rest) = λ i. max (renamed_act r a i) (renamed_depth r rest i)

-- ---- the emitted program

nested_each : (n : ℕ) (us : List Procedure) → IsNested n us → Each (λ u. code_depth u.body ≤ n) us
nested_each n [] h = tt
nested_each n (u ∷ us) h = (h.0, nested_each n us h.1)

each_nested : (n : ℕ) (us : List Procedure) → Each (λ u. code_depth u.body ≤ n) us → IsNested n us
each_nested n [] h = tt
each_nested n (u ∷ us) h = (h.0, each_nested n us h.1)

-- so many levels more
abbrev levels : Bool → ℕ
levels false = 0
levels true = 2

levels_enough : (sb : Bool) (ps : List Procedure) (f : ℕ → Bool) (i : ℕ) (body : Code) (mark : Mark) (s : Step) → reversed_by (schedules_in sb ps) f i body mark ≡ Some s → 2 ≤ levels sb
levels_enough false ps f i body mark s e = absurd cc
levels_enough true ps f i body mark s e = omega arith

adjoint_below : (n : ℕ) (sb : Bool) (m : ProgramMarks) (ps : List Procedure) (head : Procedure) (vars outvars : List Bool) (u : Procedure) → code_depth u.body ≤ n → code_depth (emitted_adjoint_with sb m ps head vars outvars u).body ≤ n + levels sb
adjoint_below n sb m ps head vars outvars u h = go (name_eq head.name u.name)
  where
    below : (at_turn at_end : List (List ℕ)) → code_depth (adjoint_unit_with sb m ps (all_units m ps head) u at_turn at_end).body ≤ n + levels sb
    below at_turn at_end =
        subst (λ k. k ≤ n + levels sb) (sym (renamed_depth (naming (adjoint_names_with sb m ps (all_units m ps head) u)) (adjoint_body_with (schedules_in sb ps) (plan_in m ps u) (first_statement ps u.name) u.line u.body at_turn at_end)))
        (body_below (plan_in m ps u) (schedules_in sb ps) (levels sb) (levels_enough sb ps) n (first_statement ps u.name) u.line u.body at_turn at_end h)

    go : (b : Bool) → code_depth (if b then adjoint_unit_with sb m ps (all_units m ps head) u (names_in (m.shadowed u.name) (unmarked u.dummies outvars)) (names_in (m.shadowed u.name) (unmarked u.dummies vars)) else adjoint_unit_with sb m ps (all_units m ps head) u [] []).body ≤ n + levels sb
    go true = below _ _
    go false = below [] []

-- the units of a pair
pair_below : (n : ℕ) (sb : Bool) (m : ProgramMarks) (ps : List Procedure) (units : List (List ℕ)) (u : Procedure) → code_depth u.body ≤ n → (code_depth (forth_unit sb m ps units u).body ≤ n + levels sb) × (code_depth (back_unit sb m ps units u).body ≤ n + levels sb)
pair_below n sb m ps units u h =
    let p = split_plan m ps u in
    let i = first_statement ps u.name in (
      subst (λ k. k ≤ n + levels sb) (sym (renamed_depth _ (forth_body (schedules_in sb ps) p i u.line (left_by ps u) u.body))) (forth_below p (schedules_in sb ps) (levels sb) (levels_enough sb ps) n i u.line (left_by ps u) u.body h),
      subst (λ k. k ≤ n + levels sb) (sym (renamed_depth _ (back_body (schedules_in sb ps) p i u.line (left_by ps u) u.body))) (back_below p (schedules_in sb ps) (levels sb) (levels_enough sb ps) n i u.line (left_by ps u) u.body h),
    )

levels_are : (sb : Bool) (n : ℕ) → n + levels sb ≡ nested_with sb n
levels_are false n = omega arith
levels_are true n = refl

pub keeps_nesting : KeepsNesting
keeps_nesting n ps h sb m head vars outvars = subst (λ k. IsNested k (emitted_program_with sb m ps head vars outvars)) (levels_are sb n) (go (unit_at head ps))
  where
    go : (us : List Procedure) → IsNested (n + levels sb) (emitted_for_with sb m ps vars outvars us)
    go [] = tt
    go (u ∷ us) =
        each_nested (n + levels sb) (emitted_units_with sb m ps u vars outvars ps)
        (each_made sb m ps u vars outvars (λ v. code_depth v.body ≤ n + levels sb) ps (each_more (λ v. code_depth v.body ≤ n) (λ v. is_carried_with sb m ps u v.name ≡ true → code_depth v.body ≤ n + levels sb) (λ v k t. omega arith) ps (nested_each n ps h))
        (each_more (λ v. code_depth v.body ≤ n) (λ v. has_adjoint m ps u v.name ≡ true → code_depth (emitted_adjoint_with sb m ps u vars outvars v).body ≤ n + levels sb) (λ v k t. adjoint_below n sb m ps u vars outvars v k) ps (nested_each n ps h))
        (each_more (λ v. code_depth v.body ≤ n) (λ v. has_pair m ps u v.name ≡ true → (code_depth (forth_unit sb m ps (all_units m ps u) v).body ≤ n + levels sb) × (code_depth (back_unit sb m ps (all_units m ps u) v).body ≤ n + levels sb)) (λ v k t. pair_below n sb m ps (all_units m ps u) v k) ps (nested_each n ps h)))
