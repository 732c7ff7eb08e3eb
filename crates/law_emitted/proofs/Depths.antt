-- The expressions in the sweeps of statements are at most 3 deeper than those in the statements.
use Rattle.std.proofs.Common.{◌≡◌, ℕ, zero, suc, ◌+◌, ◌≤◌, max, Bool, true, false, List, [], ◌∷◌, refl, sym, subst, arith, if◌then◌else◌}
use Rattle.std.specs.Prelude.{◌&&◌, not, Option, Some, None}
use Rattle.adj_tree.specs.Code.{Var, plain, shadow, helper, work, first, stride, count, lower, plus, minus, times, quot, modulo, greater, lesser, Term, lit, var, elem, neg, bin, pow, power_of, abs, Terms, none, more, Test, compare, negation, conjunction, disjunction, Runtime, push_word, pop_word, push_array, pop_array, push_control, pop_control, zero_array, begin_reversal, count_actions, give_action, end_reversal, Mark, unmarked as no_mark, with_count, count_from, name_eq, Act, assign, choose, loop, during, call, runtime, Code, stop, step, Procedure}
use Rattle.adj_tree.specs.Size.{term_depth, terms_depth, test_depth}
use Rattle.def_meaning.specs.Append.{◌+++◌, one}
use Rattle.def_meaning.specs.Rename.{rename_term, rename_terms, rename_test, rename_runtime, rename_act, rename}
use Rattle.def_names.specs.Numbers.{Vars, next, behind}
use Rattle.def_sweep.specs.Marks.{active_at}
use Rattle.def_sweep.specs.Marked.{code_if, count_of, own_code, own_or, work_var, place, names_in}
use Rattle.def_sweep.specs.Naming.{naming}
use Rattle.def_sweep.specs.Declared.{unmarked, unit_at}
use Rattle.def_sweep.specs.Occurrences.{is_active_where}
use Rattle.def_sweep.specs.AdjointOf.{has_own_where, temps_in_where, shrunk_where, temps_where, back_where, adjoint_where}
use Rattle.def_sweep.specs.Plan.{Plan, is_emitted, names_of, actuals_named, save_group, snapshot_group, step_snapshot, found_or, Schedules, Step, reversed_by}
use Rattle.def_sweep.specs.ReversalCode.{at_turn, arm, advance, arms, reversal, slots_of, set_slots, push_slots, pop_slots, reversed_forward, reversed_backward, row_forward, row_backward}
use Rattle.def_sweep.specs.Rows.{is_empty, push, pop, pushes, pops, literal, with_shadows, adjoint_call, told_forward, told_backward, loop_forward, loop_backward, while_forward, while_backward, push_own, pop_own, set_own, resets, reset}
use Rattle.def_sweep.specs.Emission.{forward_act_with, forward_with, backward_act_with, backward_with, cleared, adjoint_body_with}
use Rattle.def_sweep.specs.SplitRows.{forth_body, back_body}
use Rattle.def_sweep.specs.Marking.{ProgramMarks, first_statement, plan_in}
use Rattle.def_sweep.specs.Program.{has_adjoint, is_carried_with, all_units, adjoint_names_with, adjoint_unit_with, emitted_adjoint_with, emitted_units_with, emitted_for_with, schedules_in, has_pair, split_plan, left_by, forth_unit, back_unit}
use Rattle.law_emitted.proofs.Lists.{Each, each_more}
use Rattle.law_emitted.specs.Emitted.{runtime_deepest, act_deepest, deepest, AreShallow, KeepsDepth}
use Rattle.law_emitted.proofs.StepCalls.{from_keep, from_turn, from_advance}
use Rattle.law_emitted.proofs.UnitFaults.{each_made}

-- ---- lists

-- two lists, one after the other; and a list that may be left out
pub deep_append : (n : ℕ) (c d : Code) → deepest c ≤ n → deepest d ≤ n → deepest (c +++ d) ≤ n
deep_append n stop d h g = g
deep_append n (step line a c) d h g = let rest = deep_append n c d (omega arith) g in omega arith

pub deep_if : (n : ℕ) (b : Bool) (c : Code) → deepest c ≤ n → deepest (code_if b c) ≤ n
deep_if n true c h = h
deep_if n false c h = omega arith

-- of two
deep_choice : (n : ℕ) (b : Bool) (c d : Code) → deepest c ≤ n → deepest d ≤ n → deepest (if b then c else d) ≤ n
deep_choice n true c d h g = h
deep_choice n false c d h g = g

-- ---- assignments

-- an operand by its temporary or by itself, and the assignment of the temporary
pub deep_own : (n : ℕ) (t : Bool) (j : ℕ) (e : Term) → 1 ≤ n → term_depth e ≤ n → term_depth (own_or t j e) ≤ n
deep_own n true j e l h = l
deep_own n false j e l h = h

deep_own_code : (n : ℕ) (t : Bool) (line j : ℕ) (e : Term) → term_depth e ≤ n → deepest (own_code t line j e) ≤ n
deep_own_code n true line j e h = omega arith
deep_own_code n false line j e h = omega arith

-- a term has a depth
pub some_depth : (e : Term) → 1 ≤ term_depth e
some_depth (lit z) = omega arith
some_depth (var x) = omega arith
some_depth (elem x s) = omega arith
some_depth (neg a) = omega arith
some_depth (bin op a b) = omega arith
some_depth (pow a k) = omega arith
some_depth (power_of a b) = omega arith
some_depth (abs a) = omega arith

module _ (on : Vars) where
  deep_shrunk : (n : ℕ) (e : Term) (j : ℕ) → term_depth e ≤ n → term_depth (shrunk_where on e j) ≤ n
  deep_shrunk n (lit z) j h = h
  deep_shrunk n (var x) j h = h
  deep_shrunk n (elem x subs) j h = h
  deep_shrunk zero (neg a) j h = absurd (omega arith)
  deep_shrunk (suc n) (neg a) j h = let l = deep_shrunk n a j (omega arith) in omega arith
  deep_shrunk zero (bin plus a b) j h = absurd (omega arith)
  deep_shrunk (suc n) (bin plus a b) j h = let l = deep_shrunk n a j (omega arith) in let r = deep_shrunk n b (j + temps_in_where on a) (omega arith) in omega arith
  deep_shrunk zero (bin minus a b) j h = absurd (omega arith)
  deep_shrunk (suc n) (bin minus a b) j h = let l = deep_shrunk n a j (omega arith) in let r = deep_shrunk n b (j + temps_in_where on a) (omega arith) in omega arith
  deep_shrunk zero (bin times a b) j h = absurd (omega arith)
  deep_shrunk (suc n) (bin times a b) j h =
      let some = some_depth a in
      let k = j + temps_in_where on a + count_of (has_own_where on a b) in
      let l = deep_own n (has_own_where on a b) (j + temps_in_where on a) (shrunk_where on a j) (omega arith) (deep_shrunk n a j (omega arith)) in
      let r = deep_own n (has_own_where on b a) (j + temps_in_where on a + count_of (has_own_where on a b) + temps_in_where on b) (shrunk_where on b k) (omega arith) (deep_shrunk n b k (omega arith)) in
      omega arith
  deep_shrunk n (bin quot a b) j h = h
  deep_shrunk n (bin modulo a b) j h = h
  deep_shrunk n (bin greater a b) j h = h
  deep_shrunk n (bin lesser a b) j h = h
  deep_shrunk n (pow a zero) j h = h
  deep_shrunk zero (pow a (suc zero)) j h = absurd (omega arith)
  deep_shrunk (suc n) (pow a (suc zero)) j h = let l = deep_shrunk n a j (omega arith) in omega arith
  deep_shrunk zero (pow a (suc (suc k))) j h = absurd (omega arith)
  deep_shrunk (suc n) (pow a (suc (suc k))) j h = let some = some_depth a in let l = deep_own n (has_own_where on a a) (j + temps_in_where on a) (shrunk_where on a j) (omega arith) (deep_shrunk n a j (omega arith)) in omega arith
  deep_shrunk zero (power_of a b) j h = absurd (omega arith)
  deep_shrunk (suc n) (power_of a b) j h =
      let some = some_depth a in
      let l = deep_own n (has_own_where on a a) (j + temps_in_where on a) (shrunk_where on a j) (omega arith) (deep_shrunk n a j (omega arith)) in
      let r = deep_own n (has_own_where on b a) (j + temps_in_where on a + count_of (has_own_where on a a)) b (omega arith) (omega arith) in
      omega arith
  deep_shrunk n (abs a) j h = h

  -- the assignments of the temporaries
  pub deep_temps : (n : ℕ) (e : Term) (j line : ℕ) → term_depth e ≤ n → deepest (temps_where on e j line) ≤ n
  deep_temps n (lit z) j line h = omega arith
  deep_temps n (var x) j line h = omega arith
  deep_temps n (elem x subs) j line h = omega arith
  deep_temps n (neg a) j line h = deep_temps n a j line (omega arith)
  deep_temps n (bin plus a b) j line h = deep_append n (temps_where on a j line) _ (deep_temps n a j line (omega arith)) (deep_temps n b (j + temps_in_where on a) line (omega arith))
  deep_temps n (bin minus a b) j line h = deep_append n (temps_where on a j line) _ (deep_temps n a j line (omega arith)) (deep_temps n b (j + temps_in_where on a) line (omega arith))
  deep_temps n (bin times a b) j line h =
      let k = j + temps_in_where on a + count_of (has_own_where on a b) in
      deep_append n (temps_where on a j line) _ (deep_temps n a j line (omega arith))
      (deep_append n (own_code (has_own_where on a b) line (j + temps_in_where on a) (shrunk_where on a j)) _ (deep_own_code n (has_own_where on a b) line (j + temps_in_where on a) (shrunk_where on a j) (deep_shrunk n a j (omega arith)))
      (deep_append n (temps_where on b (j + temps_in_where on a + count_of (has_own_where on a b)) line) _ (deep_temps n b (j + temps_in_where on a + count_of (has_own_where on a b)) line (omega arith)) (deep_own_code n (has_own_where on b a) line (k + temps_in_where on b) (shrunk_where on b k) (deep_shrunk n b k (omega arith)))))
  deep_temps n (bin quot a b) j line h = omega arith
  deep_temps n (bin modulo a b) j line h = omega arith
  deep_temps n (bin greater a b) j line h = omega arith
  deep_temps n (bin lesser a b) j line h = omega arith
  deep_temps n (pow a zero) j line h = omega arith
  deep_temps n (pow a (suc zero)) j line h = deep_temps n a j line (omega arith)
  deep_temps n (pow a (suc (suc k))) j line h = deep_append n (temps_where on a j line) _ (deep_temps n a j line (omega arith)) (deep_own_code n (has_own_where on a a) line (j + temps_in_where on a) (shrunk_where on a j) (deep_shrunk n a j (omega arith)))
  deep_temps n (power_of a b) j line h =
      deep_append n (temps_where on a j line) _ (deep_temps n a j line (omega arith))
      (deep_append n (own_code (has_own_where on a a) line (j + temps_in_where on a) (shrunk_where on a j)) _ (deep_own_code n (has_own_where on a a) line (j + temps_in_where on a) (shrunk_where on a j) (deep_shrunk n a j (omega arith))) (deep_own_code n (has_own_where on b a) line (j + temps_in_where on a + count_of (has_own_where on a a)) b (omega arith)))
  deep_temps n (abs a) j line h = omega arith

  -- an assignment to a scalar and more
  deep_more : (n : ℕ) (t : Bool) (line : ℕ) (x : Var) (v : Term) (c : Code) → term_depth v ≤ n → deepest c ≤ n → deepest (code_if t (step line (assign x none v) c)) ≤ n
  deep_more n t line x v c l h = deep_if n t (step line (assign x none v) c) (omega arith)

  deep_back : (n : ℕ) (e : Term) (k j line : ℕ) → term_depth e ≤ n → deepest (back_where on e k j line) ≤ n + 3
  deep_back n (lit z) k j line h = omega arith
  deep_back n (var (plain x)) k j line h = omega arith
  deep_back n (var (shadow x)) k j line h = omega arith
  deep_back n (var (helper r i)) k j line h = omega arith
  deep_back n (elem (plain x) subs) k j line h = omega arith
  deep_back n (elem (shadow x) subs) k j line h = omega arith
  deep_back n (elem (helper r i) subs) k j line h = omega arith
  deep_back n (neg a) k j line h = deep_more (n + 3) (is_active_where on a) line (helper work (suc k)) (neg (work_var k)) (back_where on a (suc k) j line) (omega arith) (deep_back n a (suc k) j line (omega arith))
  deep_back n (bin plus a b) k j line h =
      deep_append (n + 3) (code_if (is_active_where on a) (back_where on a k j line)) _ (deep_if (n + 3) (is_active_where on a) (back_where on a k j line) (deep_back n a k j line (omega arith))) (deep_if (n + 3) (is_active_where on b) (back_where on b k (j + temps_in_where on a) line) (deep_back n b k (j + temps_in_where on a) line (omega arith)))
  deep_back n (bin minus a b) k j line h =
      deep_append (n + 3) (code_if (is_active_where on a) (back_where on a k j line)) _ (deep_if (n + 3) (is_active_where on a) (back_where on a k j line) (deep_back n a k j line (omega arith)))
      (deep_more (n + 3) (is_active_where on b) line (helper work (suc k)) (neg (work_var k)) (back_where on b (suc k) (j + temps_in_where on a) line) (omega arith) (deep_back n b (suc k) (j + temps_in_where on a) line (omega arith)))
  deep_back n (bin times a b) k j line h =
      let some = some_depth a in
      let right = deep_own n (has_own_where on b a) (j + temps_in_where on a + count_of (has_own_where on a b) + temps_in_where on b) b (omega arith) (omega arith) in
      let left = deep_own n (has_own_where on a b) (j + temps_in_where on a) a (omega arith) (omega arith) in
      let first = deep_back n a (suc k) j line (omega arith) in
      let other = deep_back n b (suc k) (j + temps_in_where on a + count_of (has_own_where on a b)) line (omega arith) in
      deep_append (n + 3) (code_if (is_active_where on a) (step line (assign (helper work (suc k)) none (bin times (work_var k) (own_or (has_own_where on b a) (j + temps_in_where on a + count_of (has_own_where on a b) + temps_in_where on b) b))) (back_where on a (suc k) j line))) _
      (deep_if (n + 3) (is_active_where on a) _ (omega arith)) (deep_if (n + 3) (is_active_where on b) _ (omega arith))
  deep_back n (bin quot a b) k j line h = omega arith
  deep_back n (bin modulo a b) k j line h = omega arith
  deep_back n (bin greater a b) k j line h = omega arith
  deep_back n (bin lesser a b) k j line h = omega arith
  deep_back n (pow a zero) k j line h = omega arith
  deep_back n (pow a (suc zero)) k j line h = deep_if (n + 3) (is_active_where on a) (back_where on a k j line) (deep_back n a k j line (omega arith))
  deep_back n (pow a (suc (suc i))) k j line h =
      let some = some_depth a in
      let base = deep_own n (has_own_where on a a) (j + temps_in_where on a) a (omega arith) (omega arith) in
      let first = deep_back n a (suc k) j line (omega arith) in
      deep_if (n + 3) (is_active_where on a) _ (omega arith)
  deep_back zero (power_of a b) k j line h = absurd (omega arith)
  deep_back (suc n) (power_of a b) k j line h =
      let some = some_depth a in
      let base = deep_own n (has_own_where on a a) (j + temps_in_where on a) a (omega arith) (omega arith) in
      let exponent = deep_own n (has_own_where on b a) (j + temps_in_where on a + count_of (has_own_where on a a)) b (omega arith) (omega arith) in
      let first = deep_back (suc n) a (suc k) j line (omega arith) in
      deep_if (suc n + 3) (is_active_where on a) _ (omega arith)
  deep_back n (abs a) k j line h = omega arith

  deep_place : (n : ℕ) (x : Var) (subs : Terms) → terms_depth subs ≤ n → term_depth (place x subs) ≤ n + 3
  deep_place n x none h = omega arith
  deep_place n x (more e es) h = omega arith

  deep_adjoint : (n : ℕ) (t : List ℕ) (subs : Terms) (e : Term) (line : ℕ) → terms_depth subs ≤ n → term_depth e ≤ n → deepest (adjoint_where on t subs e line) ≤ n + 3
  deep_adjoint n t subs e line l h =
      let before = deep_temps n e 1 line h in
      let held = deep_place n (shadow t) subs l in
      let later = deep_if (n + 3) (is_active_where on e) (back_where on e 1 1 line) (deep_back n e 1 1 line h) in
      deep_append (n + 3) (code_if (is_active_where on e) _) _ (deep_if (n + 3) (is_active_where on e) _ (deep_append (n + 3) (temps_where on e 1 line) (one line (assign (helper work 1) none (place (shadow t) subs))) (omega arith) (omega arith))) (omega arith)

-- ---- the sweeps of a unit

module _ (sc : Schedules) (p : Plan) (n : ℕ) where
  deep_pushes : (line : ℕ) (xs : List (List ℕ)) → deepest (pushes p line xs) ≤ n
  deep_pushes line [] = omega arith
  deep_pushes line (x ∷ xs) = deep_append n (push p line x) (pushes p line xs) (go (p.arrays (plain x))) (deep_pushes line xs)
    where
      go : (b : Bool) → deepest (one line (runtime (if b then push_array (plain x) else push_word (plain x) none))) ≤ n
      go true = omega arith
      go false = omega arith

  deep_pops : (line : ℕ) (xs : List (List ℕ)) → deepest (pops p line xs) ≤ n
  deep_pops line [] = omega arith
  deep_pops line (x ∷ xs) = deep_append n (pops p line xs) (pop p line x) (deep_pops line xs) (go (p.arrays (plain x)))
    where
      go : (b : Bool) → deepest (one line (runtime (if b then pop_array (plain x) else pop_word (plain x) none))) ≤ n
      go true = omega arith
      go false = omega arith

  deep_given : (sh : Vars) (ds given : List (List ℕ)) → terms_depth (with_shadows sh ds given) ≤ n + 3
  deep_given sh [] given = omega arith
  deep_given sh (d ∷ ds) [] = omega arith
  deep_given sh (d ∷ ds) (a ∷ given) = go (sh (plain d)) (deep_given sh ds given)
    where
      go : (b : Bool) → terms_depth (with_shadows sh ds given) ≤ n + 3 → terms_depth (if b then more (var (plain a)) (more (var (shadow a)) (with_shadows sh ds given)) else more (var (plain a)) (with_shadows sh ds given)) ≤ n + 3
      go true h = omega arith
      go false h = omega arith

  told_forward_deep : (idle : Bool) (line : ℕ) (c : Code) (k : ℕ) → deepest c ≤ n + 3 → deepest (told_forward idle line c k) ≤ n + 3
  told_forward_deep true line c k h = h
  told_forward_deep false line c k h = deep_append (n + 3) c (one line (runtime (push_control (literal k)))) h (omega arith)

  told_backward_deep : (idle : Bool) (line : ℕ) (a b : Code) → deepest a ≤ n + 3 → deepest b ≤ n + 3 → deepest (told_backward idle line a b) ≤ n + 3
  told_backward_deep true line a b h g = omega arith
  told_backward_deep false line a b h g = omega arith

  -- the count goes up
  abbrev raised : ℕ → ℕ → Code
  raised k line = one line (assign (helper count k) none (bin plus (var (helper count k)) (literal 1)))

  deep_raised : (k line : ℕ) (body : Code) → deepest body ≤ n + 3 → deepest (body +++ raised k line) ≤ n + 3
  deep_raised k line body h = deep_append (n + 3) body (raised k line) h (omega arith)

  loop_forward_deep : (idle : Bool) (k line : ℕ) (x : Var) (a b c : Term) (body : Code) → term_depth a ≤ n → term_depth b ≤ n → term_depth c ≤ n → deepest body ≤ n + 3 → deepest (loop_forward idle k line x a b c body) ≤ n + 3
  loop_forward_deep true k line x a b c body ha hb hc h = omega arith
  loop_forward_deep false k line x a b c body ha hb hc h = let inside = deep_raised k line body h in omega arith

  loop_backward_deep : (idle : Bool) (k line : ℕ) (x : Var) (body : Code) → deepest body ≤ n + 3 → deepest (loop_backward idle k line x body) ≤ n + 3
  loop_backward_deep true k line x body h = omega arith
  loop_backward_deep false k line x body h = omega arith

  while_forward_deep : (idle : Bool) (k line : ℕ) (c : Test) (body : Code) → test_depth c ≤ n → deepest body ≤ n + 3 → deepest (while_forward idle k line c body) ≤ n + 3
  while_forward_deep true k line c body t h = omega arith
  while_forward_deep false k line c body t h = let inside = deep_raised k line body h in omega arith

  while_backward_deep : (idle : Bool) (k line : ℕ) (body : Code) → deepest body ≤ n + 3 → deepest (while_backward idle k line body) ≤ n + 3
  while_backward_deep true k line body h = omega arith
  while_backward_deep false k line body h = omega arith

  -- ---- loops that are reversed by schedules

  deep_named : (given : List (List ℕ)) → terms_depth (actuals_named given) ≤ n + 3
  deep_named [] = omega arith
  deep_named (a ∷ given) = let others = deep_named given in omega arith

  arm_deep : (line k j : ℕ) (c : Code) → deepest c ≤ n + 3 → deepest (arm line k j c) ≤ n + 3
  arm_deep line k j c h = deep_if (n + 3) (not (is_empty c)) _ (omega arith)

  slots_deep : (k : ℕ) (m : Mark) → term_depth (slots_of k m) ≤ n + 3
  slots_deep k no_mark = omega arith
  slots_deep k (with_count j) = omega arith
  slots_deep k (count_from y) = omega arith

  set_slots_deep : (line k : ℕ) (m : Mark) (rest : Code) → deepest rest ≤ n + 3 → deepest (set_slots line k m rest) ≤ n + 3
  set_slots_deep line k no_mark rest h = h
  set_slots_deep line k (with_count j) rest h = h
  set_slots_deep line k (count_from y) rest h = omega arith

  push_slots_deep : (line k : ℕ) (m : Mark) (rest : Code) → deepest rest ≤ n + 3 → deepest (push_slots line k m rest) ≤ n + 3
  push_slots_deep line k no_mark rest h = h
  push_slots_deep line k (with_count j) rest h = h
  push_slots_deep line k (count_from y) rest h = omega arith

  pop_slots_deep : (line k : ℕ) (m : Mark) (rest : Code) → deepest rest ≤ n + 3 → deepest (pop_slots line k m rest) ≤ n + 3
  pop_slots_deep line k no_mark rest h = h
  pop_slots_deep line k (with_count j) rest h = h
  pop_slots_deep line k (count_from y) rest h = omega arith

  module _ (line k : ℕ) (x : Var) (m : Mark) (keep back plain_call adjoint : Code) (deep_keep : deepest keep ≤ n + 3) (deep_back : deepest back ≤ n + 3) (deep_call : deepest plain_call ≤ n + 3) (deep_turned : deepest adjoint ≤ n + 3) where
    arms_deep : deepest (arms line k x keep back plain_call adjoint) ≤ n + 3
    arms_deep =
        deep_append (n + 3) (arm line k 1 keep) (from_advance line k x keep back plain_call adjoint) (arm_deep line k 1 keep deep_keep)
        (deep_append (n + 3) (arm line k 2 (advance line k x plain_call)) (from_turn line k x keep back adjoint) (arm_deep line k 2 (advance line k x plain_call) (omega arith))
        (deep_append (n + 3) (arm line k 3 (at_turn line k x lower adjoint)) (from_keep line k keep back) (arm_deep line k 3 (at_turn line k x lower adjoint) (omega arith))
        (deep_append (n + 3) (arm line k 4 (back +++ keep)) (arm line k 5 back) (arm_deep line k 4 (back +++ keep) (deep_append (n + 3) back keep deep_back deep_keep)) (arm_deep line k 5 back deep_back))))

    reversal_deep : deepest (reversal line k x (slots_of k m) keep back plain_call adjoint) ≤ n + 3
    reversal_deep = let inside = arms_deep in let number = slots_deep k m in omega arith

    reversed_backward_deep : (unsave : Code) → deepest unsave ≤ n + 3 → deepest (reversed_backward k line x m keep back unsave plain_call adjoint) ≤ n + 3
    reversed_backward_deep unsave h =
        let inside = deep_append (n + 3) back (reversal line k x (slots_of k m) keep back plain_call adjoint +++ unsave) deep_back (deep_append (n + 3) (reversal line k x (slots_of k m) keep back plain_call adjoint) unsave reversal_deep h) in
        let popped = pop_slots_deep line k m (pop_own line (helper stride k) (pop_own line (helper first k) (back +++ (reversal line k x (slots_of k m) keep back plain_call adjoint +++ unsave)))) (omega arith) in
        omega arith

  module _ (k line : ℕ) (x : Var) (a b c : Term) (m : Mark) (save keep plain_call : Code) (deep_first : term_depth a ≤ n) (deep_last : term_depth b ≤ n) (deep_step : term_depth c ≤ n) (deep_save : deepest save ≤ n + 3) (deep_keep : deepest keep ≤ n + 3) (deep_call : deepest plain_call ≤ n + 3) where
    -- the loop and what is pushed behind it
    abbrev turned : Code
    turned = step line (loop x (var (helper first k)) b (var (helper stride k)) (plain_call +++ raised k line) no_mark) (push_own line (helper first k) (push_own line (helper stride k) (push_slots line k m (push_own line (helper count k) stop))))

    turned_deep : deepest turned ≤ n + 3
    turned_deep = let inside = deep_raised k line plain_call deep_call in let pushed = push_slots_deep line k m (push_own line (helper count k) stop) (omega arith) in omega arith

    reversed_forward_deep : deepest (reversed_forward k line x a b c m save keep plain_call) ≤ n + 3
    reversed_forward_deep =
        let inside = deep_append (n + 3) save (keep +++ turned) deep_save (deep_append (n + 3) keep turned deep_keep turned_deep) in
        let counted = set_slots_deep line k m (set_own line (helper count k) (literal 0) (save +++ (keep +++ turned))) (omega arith) in
        omega arith

  -- the rows of a loop, by how it is reversed
  rows_deep : (i d line : ℕ) (x : List ℕ) (a b c : Term) (body : Code) (o : Option Step) → term_depth a ≤ n → term_depth b ≤ n → term_depth c ≤ n → (deepest (forward_with sc p (suc i) (suc d) body) ≤ n + 3) × (deepest (backward_with sc p (suc i) (suc d) body) ≤ n + 3) →
      (deepest (found_or o (loop_forward (is_empty (backward_with sc p (suc i) (suc d) body)) (suc d) line (plain x) a b c (forward_with sc p (suc i) (suc d) body)) (λ s. row_forward p i (suc d) line x a b c s)) ≤ n + 3)
      × (deepest (found_or o (loop_backward (is_empty (backward_with sc p (suc i) (suc d) body)) (suc d) line (plain x) (backward_with sc p (suc i) (suc d) body)) (λ s. row_backward p i (suc d) line x s)) ≤ n + 3)
  rows_deep i d line x a b c body None ha hb hc inside =
      let idle = is_empty (backward_with sc p (suc i) (suc d) body) in
      (loop_forward_deep idle (suc d) line (plain x) a b c (forward_with sc p (suc i) (suc d) body) ha hb hc inside.0, loop_backward_deep idle (suc d) line (plain x) (backward_with sc p (suc i) (suc d) body) inside.1)
  rows_deep i d line x a b c body (Some s) ha hb hc inside =
      let callee = p.callees s.name in
      let plain_call = one line (call s.name (actuals_named s.given)) in
      let saves = save_group p.marks i callee s.given in
      let shot = step_snapshot callee s.read s.given in
      let saved_pushes = deep_pushes line saves in
      let saved_pops = deep_pops line saves in
      let shot_pushes = deep_pushes line shot in
      let shot_pops = deep_pops line shot in
      let named = deep_named s.given in
      let handed = deep_given callee.shadowed callee.dummies s.given in (
        reversed_forward_deep (suc d) line (plain x) a b c s.mark (pushes p line saves) (pushes p line shot) (code_if (p.marks.kept (suc i)) plain_call) ha hb hc (omega arith) (omega arith) (deep_if (n + 3) (p.marks.kept (suc i)) plain_call (omega arith)),
        reversed_backward_deep line (suc d) (plain x) s.mark (pushes p line shot) (pops p line shot) plain_call (one line (adjoint_call callee s.given)) (omega arith) (omega arith) (omega arith) (omega arith) (pops p line saves) (omega arith),
      )

  mutual
    act_deep : (i d line : ℕ) (a : Act) → act_deepest a ≤ n → (deepest (forward_act_with sc p i d line a) ≤ n + 3) × (deepest (backward_act_with sc p i d line a) ≤ n + 3)
    act_deep i d line (assign (plain x) subs e) h =
        let added = deep_adjoint (active_at p.marks i) n x subs e line (omega arith) (omega arith) in (
          deep_if (n + 3) (p.marks.kept i) _ (deep_append (n + 3) (code_if (p.marks.saved i (plain x)) (one line (runtime (push_word (plain x) subs)))) (one line (assign (plain x) subs e)) (deep_if (n + 3) (p.marks.saved i (plain x)) (one line (runtime (push_word (plain x) subs))) (omega arith)) (omega arith)),
          deep_append (n + 3) (code_if (p.marks.kept i && p.marks.saved i (plain x)) (one line (runtime (pop_word (plain x) subs)))) (code_if (p.marks.adjointed i) (adjoint_where (active_at p.marks i) x subs e line)) (deep_if (n + 3) (p.marks.kept i && p.marks.saved i (plain x)) (one line (runtime (pop_word (plain x) subs))) (omega arith)) (deep_if (n + 3) (p.marks.adjointed i) (adjoint_where (active_at p.marks i) x subs e line) added),
        )
    act_deep i d line (assign (shadow x) subs e) h = (omega arith, omega arith)
    act_deep i d line (assign (helper r k) subs e) h = (omega arith, omega arith)
    act_deep i d line (choose c a b) h =
        let there = list_deep (suc i) d a (omega arith) in
        let other = list_deep (behind (suc i) a) d b (omega arith) in
        let idle = is_empty (backward_with sc p (suc i) d a) && is_empty (backward_with sc p (behind (suc i) a) d b) in
        let fa = told_forward_deep idle line (forward_with sc p (suc i) d a) 1 there.0 in
        let fb = told_forward_deep idle line (forward_with sc p (behind (suc i) a) d b) 0 other.0 in (
          deep_if (n + 3) (is_emitted p.marks i) (one line (choose c (told_forward idle line (forward_with sc p (suc i) d a) 1) (told_forward idle line (forward_with sc p (behind (suc i) a) d b) 0))) (omega arith),
          deep_if (n + 3) (is_emitted p.marks i) _ (told_backward_deep idle line (backward_with sc p (suc i) d a) (backward_with sc p (behind (suc i) a) d b) there.1 other.1),
        )
    act_deep i d line (loop (plain x) a b c body m) h =
        let rows = rows_deep i d line x a b c body (reversed_by sc p.marks.adjointed i body m) (omega arith) (omega arith) (omega arith) (list_deep (suc i) (suc d) body (omega arith)) in (
          deep_if (n + 3) (is_emitted p.marks i) _ (deep_append (n + 3) (code_if (p.marks.saved i (plain x)) (one line (runtime (push_word (plain x) none)))) _ (deep_if (n + 3) (p.marks.saved i (plain x)) (one line (runtime (push_word (plain x) none))) (omega arith)) rows.0),
          deep_if (n + 3) (is_emitted p.marks i) _
              (deep_append (n + 3) (found_or (reversed_by sc p.marks.adjointed i body m) (loop_backward (is_empty (backward_with sc p (suc i) (suc d) body)) (suc d) line (plain x) (backward_with sc p (suc i) (suc d) body)) (λ s. row_backward p i (suc d) line x s)) _ rows.1
              (deep_append (n + 3) (code_if (p.marks.saved i (plain x)) (one line (runtime (pop_word (plain x) none)))) (reset p.marks i line x) (deep_if (n + 3) (p.marks.saved i (plain x)) (one line (runtime (pop_word (plain x) none))) (omega arith)) (deep_if (n + 3) (resets p.marks i x) (one line (assign (shadow x) none (literal 0))) (omega arith)))),
        )
    act_deep i d line (loop (shadow x) a b c body m) h = (omega arith, omega arith)
    act_deep i d line (loop (helper r k) a b c body m) h = (omega arith, omega arith)
    act_deep i d line (during c body) h =
        let inside = list_deep (suc i) (suc d) body (omega arith) in
        let idle = is_empty (backward_with sc p (suc i) (suc d) body) in (
          deep_if (n + 3) (is_emitted p.marks i) _ (while_forward_deep idle (suc d) line c (forward_with sc p (suc i) (suc d) body) (omega arith) inside.0),
          deep_if (n + 3) (is_emitted p.marks i) _ (while_backward_deep idle (suc d) line (backward_with sc p (suc i) (suc d) body) inside.1),
        )
    act_deep i d line (call name args) h =
        let callee = p.callees name in
        let handed = deep_given callee.shadowed callee.dummies (names_of args) in
        let saved_pushes = deep_pushes line (save_group p.marks i callee (names_of args)) in
        let shot_pushes = deep_pushes line (snapshot_group callee (names_of args)) in
        let saved_pops = deep_pops line (save_group p.marks i callee (names_of args)) in
        let shot_pops = deep_pops line (snapshot_group callee (names_of args)) in (
          deep_if (n + 3) (is_emitted p.marks i) _ (deep_choice (n + 3) (p.marks.split i) (one line (call callee.forth args)) _ (omega arith)
              (deep_append (n + 3) (pushes p line (save_group p.marks i callee (names_of args))) _ (omega arith)
              (deep_append (n + 3) (code_if (p.marks.adjointed i) (pushes p line (snapshot_group callee (names_of args)))) _ (deep_if (n + 3) (p.marks.adjointed i) (pushes p line (snapshot_group callee (names_of args))) (omega arith)) (deep_if (n + 3) (p.marks.kept i) (one line (call name args)) (omega arith))))),
          deep_if (n + 3) (is_emitted p.marks i) _ (deep_choice (n + 3) (p.marks.split i) (one line (call callee.back (with_shadows callee.shadowed callee.dummies (names_of args)))) _ (omega arith)
              (deep_append (n + 3) (code_if (p.marks.adjointed i) (pops p line (snapshot_group callee (names_of args)) +++ one line (adjoint_call callee (names_of args)))) _
              (deep_if (n + 3) (p.marks.adjointed i) _ (deep_append (n + 3) (pops p line (snapshot_group callee (names_of args))) (one line (adjoint_call callee (names_of args))) (omega arith) (omega arith))) (omega arith))),
        )
    act_deep i d line (runtime r) h = (omega arith, omega arith)

    list_deep : (i d : ℕ) (c : Code) → deepest c ≤ n → (deepest (forward_with sc p i d c) ≤ n + 3) × (deepest (backward_with sc p i d c) ≤ n + 3)
    list_deep i d stop h = (omega arith, omega arith)
    list_deep i d (step line a rest) h =
        let here = act_deep i d line a (omega arith) in
        let later = list_deep (next i a) d rest (omega arith) in (
          deep_append (n + 3) (forward_act_with sc p i d line a) (forward_with sc p (next i a) d rest) here.0 later.0,
          deep_append (n + 3) (backward_with sc p (next i a) d rest) (backward_act_with sc p i d line a) later.1 here.1,
        )

  deep_cleared : (line : ℕ) (xs : List (List ℕ)) → deepest (cleared p line xs) ≤ n + 3
  deep_cleared line [] = omega arith
  deep_cleared line (x ∷ xs) = deep_append (n + 3) (if p.arrays (plain x) then one line (runtime (zero_array (shadow x))) else one line (assign (shadow x) none (literal 0))) (cleared p line xs) (go (p.arrays (plain x))) (deep_cleared line xs)
    where
      go : (b : Bool) → deepest (if b then one line (runtime (zero_array (shadow x))) else one line (assign (shadow x) none (literal 0))) ≤ n + 3
      go true = omega arith
      go false = omega arith

  body_deep : (i line : ℕ) (c : Code) (at_turn at_end : List (List ℕ)) → deepest c ≤ n → deepest (adjoint_body_with sc p i line c at_turn at_end) ≤ n + 3
  body_deep i line c at_turn at_end h =
      let sweeps = list_deep i 0 c h in
      deep_append (n + 3) (forward_with sc p i 0 c) _ sweeps.0 (deep_append (n + 3) (cleared p line at_turn) _ (deep_cleared line at_turn) (deep_append (n + 3) (backward_with sc p i 0 c) (cleared p line at_end) sweeps.1 (deep_cleared line at_end)))

  -- the bodies of the forward and the backward unit
  forth_deep : (i line : ℕ) (left : List (List ℕ)) (c : Code) → deepest c ≤ n → deepest (forth_body sc p i line left c) ≤ n + 3
  forth_deep i line left c h = let sweeps = list_deep i 0 c h in deep_append (n + 3) (forward_with sc p i 0 c) (pushes p line left) sweeps.0 (let l = deep_pushes line left in omega arith)

  back_deep : (i line : ℕ) (left : List (List ℕ)) (c : Code) → deepest c ≤ n → deepest (back_body sc p i line left c) ≤ n + 3
  back_deep i line left c h = let sweeps = list_deep i 0 c h in deep_append (n + 3) (pops p line left) (backward_with sc p i 0 c) (let l = deep_pops line left in omega arith) sweeps.1

-- ---- renaming keeps it

module _ (r : Var → Var) where
  mutual
    renamed_term : (e : Term) → term_depth (rename_term r e) ≡ term_depth e
    renamed_term (lit z) = refl
    renamed_term (var x) = refl
    renamed_term (elem x s) = λ i. renamed_terms s i + 1
    renamed_term (neg a) = λ i. renamed_term a i + 1
    renamed_term (bin op a b) = λ i. max (renamed_term a i) (renamed_term b i) + 1
    renamed_term (pow a k) = λ i. renamed_term a i + 1
    renamed_term (power_of a b) = λ i. max (renamed_term a i) (renamed_term b i) + 1
    renamed_term (abs a) = λ i. renamed_term a i + 1

    renamed_terms : (es : Terms) → terms_depth (rename_terms r es) ≡ terms_depth es
    renamed_terms none = refl
    renamed_terms (more e es) = λ i. max (renamed_term e i) (renamed_terms es i)

  renamed_test : (c : Test) → test_depth (rename_test r c) ≡ test_depth c
  renamed_test (compare o a b) = λ i. max (renamed_term a i) (renamed_term b i) + 1
  renamed_test (negation c) = λ i. renamed_test c i + 1
  renamed_test (conjunction c d) = λ i. max (renamed_test c i) (renamed_test d i) + 1
  renamed_test (disjunction c d) = λ i. max (renamed_test c i) (renamed_test d i) + 1

  renamed_runtime : (c : Runtime) → runtime_deepest (rename_runtime r c) ≡ runtime_deepest c
  renamed_runtime (push_word x s) = renamed_terms s
  renamed_runtime (pop_word x s) = renamed_terms s
  renamed_runtime (push_array x) = refl
  renamed_runtime (pop_array x) = refl
  renamed_runtime (push_control e) = renamed_term e
  renamed_runtime (pop_control x) = refl
  renamed_runtime (zero_array x) = refl
  renamed_runtime (begin_reversal l s) = λ i. max (renamed_term l i) (renamed_term s i)
  renamed_runtime (count_actions l s x) = λ i. max (renamed_term l i) (renamed_term s i)
  renamed_runtime (give_action l s k a b c) = λ i. max (renamed_term l i) (max (renamed_term s i) (renamed_term k i))
  renamed_runtime end_reversal = refl

  mutual
    renamed_act : (a : Act) → act_deepest (rename_act r a) ≡ act_deepest a
    renamed_act (assign x s e) = λ i. max (renamed_terms s i) (renamed_term e i)
    renamed_act (choose c a b) = λ i. max (renamed_test c i) (max (renamed_list a i) (renamed_list b i))
    renamed_act (loop x a b c body m) = λ i. max (renamed_term a i) (max (renamed_term b i) (max (renamed_term c i) (renamed_list body i)))
    renamed_act (during c body) = λ i. max (renamed_test c i) (renamed_list body i)
    renamed_act (call name args) = renamed_terms args
    renamed_act (runtime c) = renamed_runtime c

    pub renamed_list : (c : Code) → deepest (rename r c) ≡ deepest c
    renamed_list stop = refl
    renamed_list (step line a rest) = λ i. max (renamed_act a i) (renamed_list rest i)

-- ---- the emitted program

shallow_each : (n : ℕ) (us : List Procedure) → AreShallow n us → Each (λ u. deepest u.body ≤ n) us
shallow_each n [] h = tt
shallow_each n (u ∷ us) h = (h.0, shallow_each n us h.1)

each_shallow : (n : ℕ) (us : List Procedure) → Each (λ u. deepest u.body ≤ n) us → AreShallow n us
each_shallow n [] h = tt
each_shallow n (u ∷ us) h = (h.0, each_shallow n us h.1)

adjoint_deep : (n : ℕ) (sb : Bool) (m : ProgramMarks) (ps : List Procedure) (head : Procedure) (vars outvars : List Bool) (u : Procedure) → deepest u.body ≤ n → deepest (emitted_adjoint_with sb m ps head vars outvars u).body ≤ n + 3
adjoint_deep n sb m ps head vars outvars u h = go (name_eq head.name u.name)
  where
    deep : (at_turn at_end : List (List ℕ)) → deepest (adjoint_unit_with sb m ps (all_units m ps head) u at_turn at_end).body ≤ n + 3
    deep at_turn at_end =
        subst (λ k. k ≤ n + 3) (sym (renamed_list (naming (adjoint_names_with sb m ps (all_units m ps head) u)) (adjoint_body_with (schedules_in sb ps) (plan_in m ps u) (first_statement ps u.name) u.line u.body at_turn at_end)))
        (body_deep (schedules_in sb ps) (plan_in m ps u) n (first_statement ps u.name) u.line u.body at_turn at_end h)

    go : (b : Bool) → deepest (if b then adjoint_unit_with sb m ps (all_units m ps head) u (names_in (m.shadowed u.name) (unmarked u.dummies outvars)) (names_in (m.shadowed u.name) (unmarked u.dummies vars)) else adjoint_unit_with sb m ps (all_units m ps head) u [] []).body ≤ n + 3
    go true = deep _ _
    go false = deep [] []

-- the units of a pair
pair_deep : (n : ℕ) (sb : Bool) (m : ProgramMarks) (ps : List Procedure) (units : List (List ℕ)) (u : Procedure) → deepest u.body ≤ n → (deepest (forth_unit sb m ps units u).body ≤ n + 3) × (deepest (back_unit sb m ps units u).body ≤ n + 3)
pair_deep n sb m ps units u h =
    let p = split_plan m ps u in
    let i = first_statement ps u.name in (
      subst (λ k. k ≤ n + 3) (sym (renamed_list _ (forth_body (schedules_in sb ps) p i u.line (left_by ps u) u.body))) (forth_deep (schedules_in sb ps) p n i u.line (left_by ps u) u.body h),
      subst (λ k. k ≤ n + 3) (sym (renamed_list _ (back_body (schedules_in sb ps) p i u.line (left_by ps u) u.body))) (back_deep (schedules_in sb ps) p n i u.line (left_by ps u) u.body h),
    )

pub keeps_depth : KeepsDepth
keeps_depth n ps h sb m head vars outvars = go (unit_at head ps)
  where
    go : (us : List Procedure) → AreShallow (n + 3) (emitted_for_with sb m ps vars outvars us)
    go [] = tt
    go (u ∷ us) =
        each_shallow (n + 3) (emitted_units_with sb m ps u vars outvars ps)
        (each_made sb m ps u vars outvars (λ v. deepest v.body ≤ n + 3) ps (each_more (λ v. deepest v.body ≤ n) (λ v. is_carried_with sb m ps u v.name ≡ true → deepest v.body ≤ n + 3) (λ v k t. omega arith) ps (shallow_each n ps h))
        (each_more (λ v. deepest v.body ≤ n) (λ v. has_adjoint m ps u v.name ≡ true → deepest (emitted_adjoint_with sb m ps u vars outvars v).body ≤ n + 3) (λ v k t. adjoint_deep n sb m ps u vars outvars v k) ps (shallow_each n ps h))
        (each_more (λ v. deepest v.body ≤ n) (λ v. has_pair m ps u v.name ≡ true → (deepest (forth_unit sb m ps (all_units m ps u) v).body ≤ n + 3) × (deepest (back_unit sb m ps (all_units m ps u) v).body ≤ n + 3)) (λ v k t. pair_deep n sb m ps (all_units m ps u) v k) ps (shallow_each n ps h)))
