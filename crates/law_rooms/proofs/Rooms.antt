-- A run that doesn't find its tape full is the run on a tape without a limit: statement by statement, called units first.
use Rattle.std.proofs.Common.{◌≡◌, ℕ, zero, suc, Bool, true, false, List, [], ◌∷◌, refl, sym, ap, subst}
use Rattle.std.specs.Prelude.{Result, Option, Some, None, length, ◌==◌, if◌then◌else◌}
use Rattle.adj_tree.specs.Code.{Var, Terms, Act, assign, choose, loop, during, call, runtime, Runtime, push_word, pop_word, push_array, pop_array, push_control, pop_control, zero_array, begin_reversal, count_actions, give_action, end_reversal, Code, stop, step, Procedure}
use Rattle.adj_word.specs.Word.{wrap}
use Rattle.def_meaning.specs.Trap.{Trap, step_trap, shape_trap, schedule_trap}
use Rattle.def_meaning.specs.Store.{scalar, set, size_of, cells_from}
use Rattle.def_meaning.specs.Value.{Setting, value, target, holds}
use Rattle.def_meaning.specs.Scene.{Scene, stand, Go, Outcome, Done, Trapped, Full, then_do, counted, with_value, has_room, pushed, pushed_all, popped, popped_all}
use Rattle.def_meaning.specs.Runtime.{runtime_act, steps_of, snapshots_of, actions_of, action_at, kind_of, lower_of, upper_of, number, begun, ended}
use Rattle.def_meaning.specs.Run.{Calls, trips, turns, stepped, with_turn, most_tests, in_force, after_loop, tests, act, run}
use Rattle.def_meaning.specs.Written.{find_unit, handed_back}
use Rattle.def_meaning.specs.Units.{actuals, dummies_fit, entry_store, copied_out, setting_in, entered, input_store, unit_run, call_in, calls_of, run_unit}
use Rattle.law_rooms.specs.Rooms.{IsFull, RoomIsEnough}
use Rattle.law_rooms.proofs.Unlimited.{unlimited, value_same, target_same, holds_same, actuals_same}
use Rattle.law_rooms.proofs.Kept.{Kept, full, same, kept_then, kept_counted, kept_if, kept_value}

-- ---- runtime calls

module _ {C : Type 0} (n : Setting C) where
  -- a push
  pushed_kept : (c : C) (s : Scene C) (k : ℕ) → Kept (pushed n c s k) (pushed (unlimited n) c s k)
  pushed_kept c s k = go (has_room n.room (length s.tape)) refl
    where
      go : (b : Bool) → has_room n.room (length s.tape) ≡ b → Kept (pushed n c s k) (pushed (unlimited n) c s k)
      go true e = same (ap (λ b. if b then Done (record s { tape = c ∷ s.tape }) k else Full (stand n s)) e)
      go false e = full (stand n s) (ap (λ b. if b then Done (record s { tape = c ∷ s.tape }) k else Full (stand n s)) e)

  -- some pushes
  pushed_all_kept : (cs : List C) (s : Scene C) (k : ℕ) → Kept (pushed_all n cs s k) (pushed_all (unlimited n) cs s k)
  pushed_all_kept [] s k = same refl
  pushed_all_kept (c ∷ cs) s k = kept_then (pushed n c s k) (pushed (unlimited n) c s k) (pushed_all n cs) (pushed_all (unlimited n) cs) (pushed_kept c s k) (λ s1 m. pushed_all_kept cs s1 m)

  -- pops do the same
  popped_all_same : (x : Var) (m line : ℕ) (s : Scene C) (k : ℕ) → popped_all n x m line s k ≡ popped_all (unlimited n) x m line s k
  popped_all_same x zero line s k = refl
  popped_all_same x (suc i) line s k = λ j. then_do (popped n x i line s k) (λ s1 m. popped_all_same x i line s1 m j)

  -- and so does the end of a reversal
  ended_same : (m line : ℕ) (s : Scene C) (k : ℕ) → ended n m line s k ≡ ended (unlimited n) m line s k
  ended_same zero line s k = refl
  ended_same (suc m) line s k = refl

  -- any runtime call
  runtime_kept : (r : Runtime) (line : ℕ) (s : Scene C) (k : ℕ) → Kept (runtime_act n r line s k) (runtime_act (unlimited n) r line s k)
  runtime_kept (push_word x subs) line s k = kept_value (target n x subs s.store) _ line (stand n s) (λ i. pushed n (s.store x i) s k) _ (target_same n x subs s.store) (λ i. pushed_kept (s.store x i) s k)
  runtime_kept (pop_word x subs) line s k = kept_value (target n x subs s.store) _ line (stand n s) (λ i. popped n x i line s k) _ (target_same n x subs s.store) (λ i. same refl)
  runtime_kept (push_array x) line s k = pushed_all_kept (cells_from (s.store x) 0 (size_of (n.shape x))) s k
  runtime_kept (pop_array x) line s k = same (popped_all_same x (size_of (n.shape x)) line s k)
  runtime_kept (push_control e) line s k = kept_value (value n e s.store) _ line (stand n s) (λ c. pushed n c s k) _ (value_same n e s.store) (λ c. pushed_kept c s k)
  runtime_kept (pop_control x) line s k = same refl
  runtime_kept (zero_array x) line s k = same refl
  runtime_kept (begin_reversal l m) line s k =
      same (λ i. with_value (value_same n l s.store i) line (stand n s) (λ u. with_value (value_same n m s.store i) line (stand n s) (λ v.
      with_value (steps_of (n.numbers.shown u)) line (stand n s) (λ steps. with_value (snapshots_of (n.numbers.shown v)) line (stand n s) (λ snapshots. Done (begun n steps snapshots s) k)))))
  runtime_kept (count_actions l m x) line s k =
      same (λ i. with_value (value_same n l s.store i) line (stand n s) (λ u. with_value (value_same n m s.store i) line (stand n s) (λ v.
      with_value (actions_of (n.numbers.shown u) (n.numbers.shown v)) line (stand n s) (λ list. Done (record s { store = set s.store x 0 (number n (length list)) }) k))))
  runtime_kept (give_action l m e x y z) line s k =
      same (λ i. with_value (value_same n l s.store i) line (stand n s) (λ u. with_value (value_same n m s.store i) line (stand n s) (λ v. with_value (value_same n e s.store i) line (stand n s) (λ w.
      with_value (actions_of (n.numbers.shown u) (n.numbers.shown v)) line (stand n s) (λ list. with_value (action_at (n.numbers.shown w) list) line (stand n s) (λ a.
      Done (record s { store = set (set (set s.store x 0 (number n (kind_of a))) y 0 (number n (lower_of a))) z 0 (number n (upper_of a)) }) k))))))
  runtime_kept end_reversal line s k = same (ended_same s.opened line s k)

-- ---- statements

-- the turns of a loop
turns_kept : {C : Type 0} (n : Setting C) (m : ℕ) (f g : Go C) (after : Scene C → Scene C) → ((s : Scene C) (k : ℕ) → Kept (f s k) (g s k)) → (s : Scene C) (k : ℕ) → Kept (turns n m f after s k) (turns (unlimited n) m g after s k)
turns_kept n zero f g after h s k = same refl
turns_kept n (suc m) f g after h s k =
    kept_counted (stand n s) k (λ j. then_do (f s j) (λ s1 i. turns n m f after (after s1) i)) (λ j. then_do (g s j) (λ s1 i. turns (unlimited n) m g after (after s1) i))
    (λ j. kept_then (f s j) (g s j) (λ s1 i. turns n m f after (after s1) i) (λ s1 i. turns (unlimited n) m g after (after s1) i) (h s j) (λ s1 i. turns_kept n m f g after h (after s1) i))

-- the tests and turns of a DO WHILE
tests_kept : {C : Type 0} (n : Setting C) (m : ℕ) (test test' : Scene C → Result Bool Trap) (line : ℕ) (f g : Go C) → ((s : Scene C) → test s ≡ test' s) → ((s : Scene C) (k : ℕ) → Kept (f s k) (g s k)) → (s : Scene C) (k : ℕ) →
    Kept (tests n m test line f s k) (tests (unlimited n) m test' line g s k)
tests_kept n zero test test' line f g e h s k = kept_value (test s) (test' s) line (stand n s) (λ p. if p then Trapped step_trap line (stand n s) else Done s k) _ (e s) (λ p. same refl)
tests_kept n (suc m) test test' line f g e h s k =
    let again : Scene _ → ℕ → Outcome (Scene _) = λ s1 j. counted (stand n s1) j (λ i. tests n m test line f s1 i) in
    let again' : Scene _ → ℕ → Outcome (Scene _) = λ s1 j. counted (stand n s1) j (λ i. tests (unlimited n) m test' line g s1 i) in
    kept_value (test s) (test' s) line (stand n s) (λ p. if p then then_do (f s k) again else Done s k) (λ p. if p then then_do (g s k) again' else Done s k) (e s)
    (λ p. kept_if p (then_do (f s k) again) (Done s k) (then_do (g s k) again') (Done s k)
    (kept_then (f s k) (g s k) again again' (h s k) (λ s1 j. kept_counted (stand n s1) j (λ i. tests n m test line f s1 i) (λ i. tests (unlimited n) m test' line g s1 i) (λ i. tests_kept n m test test' line f g e h s1 i)))
    (same refl))

-- calls keep to it
record CallsKept {C : Type 0} (q : Calls C) : Type 0 where
  by : (n : Setting C) (name : List ℕ) (args : Terms) (line : ℕ) (s : Scene C) (k : ℕ) → Kept (q n name args line s k) (q (unlimited n) name args line s k)

module _ {C : Type 0} (q : Calls C) (calls : CallsKept q) where
  mutual
    -- a statement
    act_kept : (n : Setting C) (a : Act) (line : ℕ) (s : Scene C) (k : ℕ) → Kept (act q n a line s k) (act q (unlimited n) a line s k)
    act_kept n (assign x subs e) line s k =
        same (λ i. with_value (value_same n e s.store i) line (stand n s) (λ c. with_value (target_same n x subs s.store i) line (stand n s) (λ j. Done (record s { store = set s.store x j c }) k)))
    act_kept n (choose c a b) line s k =
        kept_value (holds n c s.store) _ line (stand n s) (λ p. if p then run q n a s k else run q n b s k) (λ p. if p then run q (unlimited n) a s k else run q (unlimited n) b s k) (holds_same n c s.store)
        (λ p. kept_if p (run q n a s k) (run q n b s k) (run q (unlimited n) a s k) (run q (unlimited n) b s k) (run_kept n a s k) (run_kept n b s k))
    act_kept n (loop x first last by body mark) line s k =
        kept_value (value n first s.store) _ line (stand n s) _ _ (value_same n first s.store) (λ a. kept_value (value n last s.store) _ line (stand n s) _ _ (value_same n last s.store) (λ b. kept_value (value n by s.store) _ line (stand n s) _ _ (value_same n by s.store) (λ c.
        kept_value (trips mark (n.numbers.shown a) (n.numbers.shown b) (n.numbers.shown c)) _ line (stand n s) _ _ refl (λ m.
        let after = stepped n x (n.numbers.shown c) in
        let start = with_turn n x (wrap (n.numbers.shown a)) s in
        let told : Scene C → ℕ → Outcome (Scene C) = λ s1 j. Done (after_loop line m (in_force n mark s.store) s1) j in
        kept_then (turns n m (run q n body) after start k) (turns (unlimited n) m (run q (unlimited n) body) after start k) told told
        (turns_kept n m (run q n body) (run q (unlimited n) body) after (λ s1 j. run_kept n body s1 j) start k) (λ s1 j. same refl)))))
    act_kept n (during c body) line s k =
        tests_kept n most_tests (λ s1. holds n c s1.store) (λ s1. holds (unlimited n) c s1.store) line (run q n body) (run q (unlimited n) body) (λ s1. holds_same n c s1.store) (λ s1 j. run_kept n body s1 j) s k
    act_kept n (call name args) line s k = calls.by n name args line s k
    act_kept n (runtime r) line s k = runtime_kept n r line s k

    -- a list of statements
    run_kept : (n : Setting C) (c : Code) (s : Scene C) (k : ℕ) → Kept (run q n c s k) (run q (unlimited n) c s k)
    run_kept n stop s k = same refl
    run_kept n (step line a rest) s k =
        kept_counted (stand n s) k (λ j. then_do (act q n a line s j) (run q n rest)) (λ j. then_do (act q (unlimited n) a line s j) (run q (unlimited n) rest))
        (λ j. kept_then (act q n a line s j) (act q (unlimited n) a line s j) (run q n rest) (run q (unlimited n) rest) (act_kept n a line s j) (λ s1 i. run_kept n rest s1 i))

  -- a unit
  unit_kept : (n : Setting C) (u : Procedure) (line : ℕ) (s : Scene C) (k : ℕ) → Kept (unit_run q n u line s k) (unit_run q (unlimited n) u line s k)
  unit_kept n u line s k =
      let closed : Scene C → ℕ → Outcome (Scene C) = λ s1 j. if s1.opened == 0 then Done s1 j else Trapped schedule_trap line (stand n s1) in
      kept_then (run q (setting_in n u s.store) u.body (entered n u s) k) (run q (setting_in (unlimited n) u s.store) u.body (entered n u s) k) closed closed
      (run_kept (setting_in n u s.store) u.body (entered n u s) k) (λ s1 j. same refl)

  -- a call of a unit that was looked for
  call_kept : (n : Setting C) (ws : List Bool) (u : Option Procedure) (args : Terms) (line : ℕ) (s : Scene C) (k : ℕ) → Kept (call_in q n ws u args line s k) (call_in q (unlimited n) ws u args line s k)
  call_kept n ws None args line s k = same refl
  call_kept n ws (Some u) args line s k =
      kept_value (actuals n args s.store) _ line (stand n s) _ _ (actuals_same n args s.store) (λ got.
      let start : Scene C = record s { store = entry_store n.numbers u.dummies got } in
      let back : Scene C → ℕ → Outcome (Scene C) = λ s1 j. Done (record s { store = copied_out u.dummies ws got s1.store s.store; tape = s1.tape; events = s1.events }) j in
      kept_if (dummies_fit n.numbers u start.store u.dummies got) (then_do (unit_run q n u line start k) back) (Trapped shape_trap line (stand n s)) (then_do (unit_run q (unlimited n) u line start k) back) (Trapped shape_trap line (stand n s))
      (kept_then (unit_run q n u line start k) (unit_run q (unlimited n) u line start k) back back (unit_kept n u line start k) (λ s1 j. same refl))
      (same refl))

-- the calls of a program, by their depth
calls_kept : {C : Type 0} (units : List Procedure) (d : ℕ) → CallsKept {C = C} (calls_of units d)
calls_kept units zero = record { by = λ n name args line s k. same refl }
calls_kept units (suc d) = record { by = λ n name args line s k. call_kept (calls_of units d) (calls_kept units d) n (handed_back units name) (find_unit units name) args line s k }

-- ---- a run of a unit

-- what is kept and isn't full is the same
kept_same : {A : Type 0} (o o' : Outcome A) → Kept o o' → (IsFull o → ⊥) → o ≡ o'
kept_same o o' (full w e) h = absurd (h (subst IsFull (sym e) tt))
kept_same o o' (same e) h = e

pub room_is_enough : {C : Type 0} → RoomIsEnough C
room_is_enough {C} n units u input tape room k h =
    let outside : Setting C = record { numbers = n; shape = λ x. scalar; room = room; level = 0 } in
    let start : Scene C = record { store = input_store n u input; tape = tape; opened = 0; events = [] } in
    kept_same (run_unit n units u input tape room k) (run_unit n units u input tape None k)
    (kept_then (unit_run (calls_of units k) outside u u.line start k) (unit_run (calls_of units k) (unlimited outside) u u.line start k) _ _ (unit_kept (calls_of units k) (calls_kept units k) outside u u.line start k) (λ s left. same refl)) h
