-- Runs of statements and units come to the same end with more statements and with deeper calls.
use Rattle.std.proofs.Common.{ℕ, zero, suc, ◌≤◌, Bool, List, [], ◌∷◌, arith}
use Rattle.std.specs.Prelude.{Result, Option, Some, None, length, ◌==◌, if◌then◌else◌}
use Rattle.adj_tree.specs.Code.{Var, Terms, Act, assign, choose, loop, during, call, runtime, Runtime, push_word, pop_word, push_array, pop_array, push_control, pop_control, zero_array, begin_reversal, count_actions, give_action, end_reversal, Code, stop, step, Procedure}
use Rattle.adj_word.specs.Word.{wrap}
use Rattle.def_meaning.specs.Trap.{Trap, step_trap, shape_trap, schedule_trap}
use Rattle.def_meaning.specs.Store.{set, size_of, cells_from}
use Rattle.def_meaning.specs.Value.{Setting, value, target, holds}
use Rattle.def_meaning.specs.Scene.{Scene, stand, Go, Outcome, Done, Trapped, Full, then_do, counted, has_room, pushed, pushed_all, popped, popped_all}
use Rattle.def_meaning.specs.Runtime.{runtime_act, steps_of, snapshots_of, actions_of, action_at, kind_of, lower_of, upper_of, number, begun, ended}
use Rattle.def_meaning.specs.Run.{Calls, trips, turns, stepped, with_turn, most_tests, in_force, after_loop, tests, act, run}
use Rattle.def_meaning.specs.Written.{find_unit, handed_back}
use Rattle.def_meaning.specs.Units.{actuals, dummies_fit, entry_store, copied_out, setting_in, entered, unit_run, call_in, calls_of}
use Rattle.law_meaning.proofs.Verdicts.{Verdict, goes_on, done_verdict, trapped_verdict, full_verdict, value_verdict, top_verdict, if_verdict, counted_verdict, then_verdict}

-- ---- runtime calls

module _ {C : Type 0} (n : Setting C) where
  -- a push
  pushed_verdict : (c : C) (s : Scene C) (k : ℕ) → Verdict (pushed n c s) (pushed n c s) k
  pushed_verdict c s k = if_verdict (has_room n.room (length s.tape)) (λ j. Done (record s { tape = c ∷ s.tape }) j) (λ j. Full (stand n s)) _ _ k (done_verdict _ k) (full_verdict (stand n s) k)

  -- some pushes
  pushed_all_verdict : (cs : List C) (s : Scene C) (k : ℕ) → Verdict (pushed_all n cs s) (pushed_all n cs s) k
  pushed_all_verdict [] s k = done_verdict s k
  pushed_all_verdict (c ∷ cs) s k = then_verdict (pushed n c s) (pushed n c s) (pushed_all n cs) (pushed_all n cs) k (pushed_verdict c s k) (λ s1 m. pushed_all_verdict cs s1 m)

  -- a pop
  popped_verdict : (x : Var) (i line : ℕ) (s : Scene C) (k : ℕ) → Verdict (popped n x i line s) (popped n x i line s) k
  popped_verdict x i line s k =
      top_verdict s.tape line (stand n s) (λ c cs j. Done (record s { store = set s.store x i c; tape = cs }) j) _ k (λ c cs. done_verdict (record s { store = set s.store x i c; tape = cs }) k)

  -- some pops
  popped_all_verdict : (x : Var) (m line : ℕ) (s : Scene C) (k : ℕ) → Verdict (popped_all n x m line s) (popped_all n x m line s) k
  popped_all_verdict x zero line s k = done_verdict s k
  popped_all_verdict x (suc i) line s k = then_verdict (popped n x i line s) (popped n x i line s) (popped_all n x i line) (popped_all n x i line) k (popped_verdict x i line s k) (λ s1 m. popped_all_verdict x i line s1 m)

  -- the end of a reversal
  ended_verdict : (m line : ℕ) (s : Scene C) (k : ℕ) → Verdict (ended n m line s) (ended n m line s) k
  ended_verdict zero line s k = trapped_verdict schedule_trap line (stand n s) k
  ended_verdict (suc m) line s k = done_verdict _ k

  -- any runtime call
  pub runtime_verdict : (r : Runtime) (line : ℕ) (s : Scene C) (k : ℕ) → Verdict (runtime_act n r line s) (runtime_act n r line s) k
  runtime_verdict (push_word x subs) line s k = value_verdict (target n x subs s.store) line (stand n s) (λ i. pushed n (s.store x i) s) _ k (λ i. pushed_verdict (s.store x i) s k)
  runtime_verdict (pop_word x subs) line s k = value_verdict (target n x subs s.store) line (stand n s) (λ i. popped n x i line s) _ k (λ i. popped_verdict x i line s k)
  runtime_verdict (push_array x) line s k = pushed_all_verdict (cells_from (s.store x) 0 (size_of (n.shape x))) s k
  runtime_verdict (pop_array x) line s k = popped_all_verdict x (size_of (n.shape x)) line s k
  runtime_verdict (push_control e) line s k = value_verdict (value n e s.store) line (stand n s) (λ c. pushed n c s) _ k (λ c. pushed_verdict c s k)
  runtime_verdict (pop_control x) line s k = popped_verdict x 0 line s k
  runtime_verdict (zero_array x) line s k = done_verdict _ k
  runtime_verdict (begin_reversal l m) line s k =
      value_verdict (value n l s.store) line (stand n s) _ _ k (λ u. value_verdict (value n m s.store) line (stand n s) _ _ k (λ v.
      value_verdict (steps_of (n.numbers.shown u)) line (stand n s) _ _ k (λ steps. value_verdict (snapshots_of (n.numbers.shown v)) line (stand n s) (λ snapshots j. Done (begun n steps snapshots s) j) _ k (λ snapshots. done_verdict _ k))))
  runtime_verdict (count_actions l m x) line s k =
      value_verdict (value n l s.store) line (stand n s) _ _ k (λ u. value_verdict (value n m s.store) line (stand n s) _ _ k (λ v.
      value_verdict (actions_of (n.numbers.shown u) (n.numbers.shown v)) line (stand n s) (λ list j. Done (record s { store = set s.store x 0 (number n (length list)) }) j) _ k (λ list. done_verdict _ k)))
  runtime_verdict (give_action l m e x y z) line s k =
      value_verdict (value n l s.store) line (stand n s) _ _ k (λ u. value_verdict (value n m s.store) line (stand n s) _ _ k (λ v. value_verdict (value n e s.store) line (stand n s) _ _ k (λ w.
      value_verdict (actions_of (n.numbers.shown u) (n.numbers.shown v)) line (stand n s) _ _ k (λ list. value_verdict (action_at (n.numbers.shown w) list) line (stand n s)
      (λ a j. Done (record s { store = set (set (set s.store x 0 (number n (kind_of a))) y 0 (number n (lower_of a))) z 0 (number n (upper_of a)) }) j) _ k (λ a. done_verdict _ k)))))
  runtime_verdict end_reversal line s k = ended_verdict s.opened line s k

-- ---- statements

-- the turns of a loop
turns_verdict : {C : Type 0} (n : Setting C) (m : ℕ) (f g : Go C) (after : Scene C → Scene C) → ((s : Scene C) (k : ℕ) → Verdict (f s) (g s) k) → (s : Scene C) (k : ℕ) → Verdict (turns n m f after s) (turns n m g after s) k
turns_verdict n zero f g after h s k = done_verdict s k
turns_verdict n (suc m) f g after h s k =
    counted_verdict (stand n s) (λ j. then_do (f s j) (λ s1 i. turns n m f after (after s1) i)) (λ j. then_do (g s j) (λ s1 i. turns n m g after (after s1) i)) k
    (λ j. then_verdict (f s) (g s) (λ s1 i. turns n m f after (after s1) i) (λ s1 i. turns n m g after (after s1) i) j (h s j) (λ s1 i. turns_verdict n m f g after h (after s1) i))

-- the tests and turns of a DO WHILE
tests_verdict : {C : Type 0} (n : Setting C) (m : ℕ) (test : Scene C → Result Bool Trap) (line : ℕ) (f g : Go C) → ((s : Scene C) (k : ℕ) → Verdict (f s) (g s) k) → (s : Scene C) (k : ℕ) → Verdict (tests n m test line f s) (tests n m test line g s) k
tests_verdict n zero test line f g h s k =
    value_verdict (test s) line (stand n s) _ _ k (λ p. if_verdict p (λ j. Trapped step_trap line (stand n s)) (λ j. Done s j) _ _ k (trapped_verdict step_trap line (stand n s) k) (done_verdict s k))
tests_verdict n (suc m) test line f g h s k =
    let again : Go _ → Go _ = λ b s1 j. counted (stand n s1) j (λ i. tests n m test line b s1 i) in
    value_verdict (test s) line (stand n s) _ _ k (λ p. if_verdict p (λ j. then_do (f s j) (again f)) (λ j. Done s j) (λ j. then_do (g s j) (again g)) (λ j. Done s j) k
    (then_verdict (f s) (g s) (again f) (again g) k (h s k) (λ s1 j. counted_verdict (stand n s1) (tests n m test line f s1) (tests n m test line g s1) j (λ i. tests_verdict n m test line f g h s1 i)))
    (done_verdict s k))

-- calls come to the same end, with more statements and in q' as in q
pub record CallsAlike {C : Type 0} (q q' : Calls C) : Type 0 where
  pub by : (n : Setting C) (name : List ℕ) (args : Terms) (line : ℕ) (s : Scene C) (k : ℕ) → Verdict (q n name args line s) (q' n name args line s) k

module _ {C : Type 0} (q q' : Calls C) (alike : CallsAlike q q') where
  mutual
    -- a statement
    pub act_verdict : (n : Setting C) (a : Act) (line : ℕ) (s : Scene C) (k : ℕ) → Verdict (act q n a line s) (act q' n a line s) k
    act_verdict n (assign x subs e) line s k =
        value_verdict (value n e s.store) line (stand n s) _ _ k (λ c. value_verdict (target n x subs s.store) line (stand n s) (λ i j. Done (record s { store = set s.store x i c }) j) _ k (λ i. done_verdict _ k))
    act_verdict n (choose c a b) line s k =
        value_verdict (holds n c s.store) line (stand n s) (λ p j. if p then run q n a s j else run q n b s j) (λ p j. if p then run q' n a s j else run q' n b s j) k
        (λ p. if_verdict p (run q n a s) (run q n b s) (run q' n a s) (run q' n b s) k (run_verdict n a s k) (run_verdict n b s k))
    act_verdict n (loop x first last by body mark) line s k =
        value_verdict (value n first s.store) line (stand n s) _ _ k (λ a. value_verdict (value n last s.store) line (stand n s) _ _ k (λ b. value_verdict (value n by s.store) line (stand n s) _ _ k (λ c.
        value_verdict (trips mark (n.numbers.shown a) (n.numbers.shown b) (n.numbers.shown c)) line (stand n s) _ _ k (λ m.
        let after = stepped n x (n.numbers.shown c) in
        let start = with_turn n x (wrap (n.numbers.shown a)) s in
        let told : Scene C → ℕ → Outcome (Scene C) = λ s1 j. Done (after_loop line m (in_force n mark s.store) s1) j in
        then_verdict (turns n m (run q n body) after start) (turns n m (run q' n body) after start) told told k
        (turns_verdict n m (run q n body) (run q' n body) after (λ s1 j. run_verdict n body s1 j) start k) (λ s1 j. done_verdict (after_loop line m (in_force n mark s.store) s1) j)))))
    act_verdict n (during c body) line s k = tests_verdict n most_tests (λ s1. holds n c s1.store) line (run q n body) (run q' n body) (λ s1 j. run_verdict n body s1 j) s k
    act_verdict n (call name args) line s k = alike.by n name args line s k
    act_verdict n (runtime r) line s k = runtime_verdict n r line s k

    -- a list of statements
    pub run_verdict : (n : Setting C) (c : Code) (s : Scene C) (k : ℕ) → Verdict (run q n c s) (run q' n c s) k
    run_verdict n stop s k = done_verdict s k
    run_verdict n (step line a rest) s k =
        counted_verdict (stand n s) (λ j. then_do (act q n a line s j) (run q n rest)) (λ j. then_do (act q' n a line s j) (run q' n rest)) k
        (λ j. then_verdict (act q n a line s) (act q' n a line s) (run q n rest) (run q' n rest) j (act_verdict n a line s j) (λ s1 i. run_verdict n rest s1 i))

  -- a unit
  pub unit_verdict : (n : Setting C) (u : Procedure) (line : ℕ) (s : Scene C) (k : ℕ) → Verdict (unit_run q n u line s) (unit_run q' n u line s) k
  unit_verdict n u line s k =
      let closed : Scene C → ℕ → Outcome (Scene C) = λ s1 j. if s1.opened == 0 then Done s1 j else Trapped schedule_trap line (stand n s1) in
      then_verdict (run q (setting_in n u s.store) u.body (entered n u s)) (run q' (setting_in n u s.store) u.body (entered n u s)) closed closed k
      (run_verdict (setting_in n u s.store) u.body (entered n u s) k)
      (λ s1 j. if_verdict (s1.opened == 0) (λ i. Done s1 i) (λ i. Trapped schedule_trap line (stand n s1)) _ _ j (done_verdict s1 j) (trapped_verdict schedule_trap line (stand n s1) j))

  -- a call of a unit that was looked for
  call_verdict : (n : Setting C) (ws : List Bool) (u : Option Procedure) (args : Terms) (line : ℕ) (s : Scene C) (k : ℕ) → Verdict (call_in q n ws u args line s) (call_in q' n ws u args line s) k
  call_verdict n ws None args line s k = trapped_verdict shape_trap line (stand n s) k
  call_verdict n ws (Some u) args line s k =
      value_verdict (actuals n args s.store) line (stand n s) _ _ k (λ got.
      let start : Scene C = record s { store = entry_store n.numbers u.dummies got } in
      let back : Scene C → ℕ → Outcome (Scene C) = λ s1 j. Done (record s { store = copied_out u.dummies ws got s1.store s.store; tape = s1.tape; events = s1.events }) j in
      if_verdict (dummies_fit n.numbers u start.store u.dummies got) (λ j. then_do (unit_run q n u line start j) back) (λ j. Trapped shape_trap line (stand n s)) (λ j. then_do (unit_run q' n u line start j) back) (λ j. Trapped shape_trap line (stand n s)) k
      (then_verdict (unit_run q n u line start) (unit_run q' n u line start) back back k (unit_verdict n u line start k) (λ s1 j. done_verdict _ j))
      (trapped_verdict shape_trap line (stand n s) k))

-- the calls of a program, and deeper ones: by the depth of the calls, called units first
pub calls_alike : {C : Type 0} (units : List Procedure) (d d' : ℕ) → d ≤ d' → CallsAlike {C = C} (calls_of units d) (calls_of units d')
calls_alike units zero d' le = record { by = λ n name args line s k. goes_on (λ j h. tt) }
calls_alike units (suc d) zero le = absurd (omega arith)
calls_alike units (suc d) (suc d') le =
    record { by = λ n name args line s k. call_verdict (calls_of units d) (calls_of units d') (calls_alike units d d' (omega arith)) n (handed_back units name) (find_unit units name) args line s k }
