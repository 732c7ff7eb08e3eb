-- A run changes no variable that its statements may not write.
use Rattle.std.proofs.Common.{◌≡◌, ℕ, zero, suc, Bool, true, false, List, [], ◌∷◌, refl, sym, ap, ◌∙◌}
use Rattle.std.specs.Prelude.{◌==◌, Result, Ok, Err, Option, Some, None, ◌||◌, ◌&&◌, length, if◌then◌else◌}
use Rattle.adj_tree.specs.Code.{Var, plain, var_eq, Term, lit, var, elem, neg, bin, pow, power_of, abs, Terms, none, more, Runtime, push_word, pop_word, push_array, pop_array, push_control, pop_control, zero_array, begin_reversal, count_actions, give_action, end_reversal, Act, assign, choose, loop, during, call, runtime, Code, stop, step, Procedure}
use Rattle.adj_word.specs.Word.{wrap}
use Rattle.def_meaning.specs.Trap.{Trap, then_ok, step_trap, shape_trap, schedule_trap}
use Rattle.def_meaning.specs.Store.{Store, set, set_all, size_of, cells_from}
use Rattle.def_meaning.specs.Value.{Setting, value, values, cell_at, target, holds}
use Rattle.def_meaning.specs.Scene.{Scene, stand, Go, Outcome, Done, Trapped, Full, then_do, counted, has_room, pushed, pushed_all, popped, popped_all}
use Rattle.def_meaning.specs.Runtime.{runtime_act, steps_of, snapshots_of, actions_of, action_at, kind_of, lower_of, upper_of, number, ended}
use Rattle.def_meaning.specs.Run.{Calls, trips, turns, stepped, with_turn, most_tests, in_force, after_loop, tests, act, run}
use Rattle.def_meaning.specs.Written.{is_place_of, is_handed_back, runtime_writes, act_writes, writes, handed_back, find_unit}
use Rattle.def_meaning.specs.Units.{Place, whole, cell, nowhere, Actual, one_word, actual_of, actuals, put, entry_store, dummies_fit, copied_out, setting_in, entered, unit_run, call_in, calls_of}
use Rattle.law_meaning.specs.Laws.{KeepsOthers, KeepsDummies}
use Rattle.def_meaning.proofs.Booleans.{or_false}
use Rattle.law_meaning.proofs.Inversions.{then_done, value_done, top_done, count_done, done_same, then_ok_is}

module _ {C : Type 0} (x : Var) where
  -- every cell of the variable is as it was
  abbrev pub Same : Scene C → Scene C → Type 0
  Same s s' = (i : ℕ) → s'.store x i ≡ s.store x i

  -- what goes on keeps the variable, wherever it is done
  abbrev pub Keeps : Go C → Type 0
  Keeps go = (s : Scene C) (k : ℕ) (s' : Scene C) (k' : ℕ) → go s k ≡ Done s' k' → Same s s'

  -- what two runs one after the other keep
  trans : (s s1 s2 : Scene C) → Same s s1 → Same s1 s2 → Same s s2
  trans s s1 s2 f g i = g i ∙ f i

  -- a scene whose store keeps it
  kept : (s s1 s' : Scene C) (k k' : ℕ) → Same s s1 → (let o : Outcome (Scene C) = Done s1 k in o ≡ Done s' k') → Same s s'
  kept s s1 s' k k' f e i = ap (λ (z : Scene C). z.store x i) (sym (done_same s1 s' k k' e)) ∙ f i

  -- a cell of another variable is set
  set_keeps : (s : Store C) (y : Var) (j : ℕ) (c : C) → var_eq x y ≡ false → (i : ℕ) → set s y j c x i ≡ s x i
  set_keeps s y j c h i = rw h refl

  -- another variable is set whole
  set_all_keeps : (s : Store C) (y : Var) (cs : ℕ → C) → var_eq x y ≡ false → (i : ℕ) → set_all s y cs x i ≡ s x i
  set_all_keeps s y cs h i = rw h refl

  -- three others are set
  set_three_keeps : (s : Store C) (y z t : Var) (a b c : C) → (var_eq x y || (var_eq x z || var_eq x t)) ≡ false → (i : ℕ) → set (set (set s y 0 a) z 0 b) t 0 c x i ≡ s x i
  set_three_keeps s y z t a b c h i =
      let p = or_false (var_eq x y) (var_eq x z || var_eq x t) h in
      let q = or_false (var_eq x z) (var_eq x t) p.1 in
      set_keeps (set (set s y 0 a) z 0 b) t 0 c q.1 i ∙ set_keeps (set s y 0 a) z 0 b q.0 i ∙ set_keeps s y 0 a p.0 i

  -- what goes on after what keeps the variable
  then_keeps : (f g : Go C) → Keeps f → Keeps g → Keeps (λ s k. then_do (f s k) g)
  then_keeps f g a b s k s' k' e =
      let p = then_done (f s k) g s' k' e in
      trans s p.scene s' (a s k p.scene p.left p.first) (b p.scene p.left s' k' p.second)

  -- the branch that is taken keeps it
  if_keeps : (b : Bool) (o p : Outcome (Scene C)) (s s' : Scene C) (k' : ℕ) → (o ≡ Done s' k' → Same s s') → (p ≡ Done s' k' → Same s s') → (if b then o else p) ≡ Done s' k' → Same s s'
  if_keeps true o p s s' k' f g e = f e
  if_keeps false o p s s' k' f g e = g e

  -- the turns of a loop keep it where each turn and each step does
  turns_keep : (n : Setting C) (m : ℕ) (go : Go C) (after : Scene C → Scene C) → Keeps go → ((s : Scene C) → Same s (after s)) → Keeps (turns n m go after)
  turns_keep n zero go after h f s k s' k' e = kept s s s' k k' (λ i. refl) e
  turns_keep n (suc m) go after h f s k s' k' e =
      let r = count_done _ k (λ j. then_do (go s j) (λ s1 i. turns n m go after (after s1) i)) s' k' e in
      let p = then_done (go s r.left) (λ s1 i. turns n m go after (after s1) i) s' k' r.goes in
      trans s p.scene s' (h s r.left p.scene p.left p.first) (trans p.scene (after p.scene) s' (f p.scene) (turns_keep n m go after h f (after p.scene) p.left s' k' p.second))

  -- and the tests and turns of a DO WHILE where each turn does
  tests_keep : (n : Setting C) (m : ℕ) (test : Scene C → Result Bool Trap) (line : ℕ) (go : Go C) → Keeps go → Keeps (tests n m test line go)
  tests_keep n zero test line go h s k s' k' e =
      let v = value_done (test s) line _ (λ p. if p then Trapped step_trap line (stand n s) else Done s k) s' k' e in
      if_keeps v.value (Trapped step_trap line (stand n s)) (Done s k) s s' k' (λ f. cc) (kept s s s' k k' (λ i. refl)) v.goes
  tests_keep n (suc m) test line go h s k s' k' e =
      let again : Go C = λ s1 j. counted (stand n s1) j (λ i. tests n m test line go s1 i) in
      let v = value_done (test s) line _ (λ p. if p then then_do (go s k) again else Done s k) s' k' e in
      if_keeps v.value (then_do (go s k) again) (Done s k) s s' k'
      (then_keeps go again h (λ s1 j s2 j2 f. let c = count_done _ j (λ i. tests n m test line go s1 i) s2 j2 f in tests_keep n m test line go h s1 c.left s2 j2 c.goes) s k s' k')
      (kept s s s' k k' (λ i. refl)) v.goes

  -- ---- runtime calls

  -- pushes keep every variable
  pushed_keeps : (n : Setting C) (c : C) → Keeps (pushed n c)
  pushed_keeps n c s k s' k' e = if_keeps (has_room n.room (length s.tape)) _ (Full (stand n s)) s s' k' (kept s (record s { tape = c ∷ s.tape }) s' k k' (λ i. refl)) (λ f. cc) e

  pushed_all_keeps : (n : Setting C) (cs : List C) → Keeps (pushed_all n cs)
  pushed_all_keeps n [] s k s' k' e = kept s s s' k k' (λ i. refl) e
  pushed_all_keeps n (c ∷ cs) s k s' k' e = then_keeps (pushed n c) (pushed_all n cs) (pushed_keeps n c) (pushed_all_keeps n cs) s k s' k' e

  -- pops keep every other
  popped_keeps : (n : Setting C) (y : Var) (j line : ℕ) → var_eq x y ≡ false → Keeps (popped n y j line)
  popped_keeps n y j line h s k s' k' e =
      let t = top_done s.tape line _ (λ c cs. Done (record s { store = set s.store y j c; tape = cs }) k) s' k' e in
      kept s (record s { store = set s.store y j t.top; tape = t.below }) s' k k' (set_keeps s.store y j t.top h) t.goes

  popped_all_keeps : (n : Setting C) (y : Var) (m line : ℕ) → var_eq x y ≡ false → Keeps (popped_all n y m line)
  popped_all_keeps n y zero line h s k s' k' e = kept s s s' k k' (λ i. refl) e
  popped_all_keeps n y (suc j) line h s k s' k' e = then_keeps (popped n y j line) (popped_all n y j line) (popped_keeps n y j line h) (popped_all_keeps n y j line h) s k s' k' e

  -- the end of a reversal keeps every variable
  ended_keeps : (n : Setting C) (m line : ℕ) → Keeps (ended n m line)
  ended_keeps n zero line s k s' k' e = absurd cc
  ended_keeps n (suc m) line s k s' k' e = kept s _ s' k k' (λ i. refl) e

  -- a runtime call keeps what it doesn't change
  runtime_keeps : (n : Setting C) (r : Runtime) (line : ℕ) → runtime_writes x r ≡ false → Keeps (runtime_act n r line)
  runtime_keeps n (push_word y subs) line h s k s' k' e =
      let v = value_done (target n y subs s.store) line _ (λ i. pushed n (s.store y i) s k) s' k' e in pushed_keeps n (s.store y v.value) s k s' k' v.goes
  runtime_keeps n (pop_word y subs) line h s k s' k' e =
      let v = value_done (target n y subs s.store) line _ (λ i. popped n y i line s k) s' k' e in popped_keeps n y v.value line h s k s' k' v.goes
  runtime_keeps n (push_array y) line h s k s' k' e = pushed_all_keeps n (cells_from (s.store y) 0 (size_of (n.shape y))) s k s' k' e
  runtime_keeps n (pop_array y) line h s k s' k' e = popped_all_keeps n y (size_of (n.shape y)) line h s k s' k' e
  runtime_keeps n (push_control a) line h s k s' k' e =
      let v = value_done (value n a s.store) line _ (λ c. pushed n c s k) s' k' e in pushed_keeps n v.value s k s' k' v.goes
  runtime_keeps n (pop_control y) line h s k s' k' e = popped_keeps n y 0 line h s k s' k' e
  runtime_keeps n (zero_array y) line h s k s' k' e = kept s (record s { store = set_all s.store y (λ j. number n 0) }) s' k k' (set_all_keeps s.store y (λ j. number n 0) h) e
  runtime_keeps n (begin_reversal l m) line h s k s' k' e =
      let u = value_done (value n l s.store) line _ _ s' k' e in
      let v = value_done (value n m s.store) line _ _ s' k' u.goes in
      let steps = value_done (steps_of (n.numbers.shown u.value)) line _ _ s' k' v.goes in
      let snapshots = value_done (snapshots_of (n.numbers.shown v.value)) line _ _ s' k' steps.goes in
      kept s _ s' k k' (λ i. refl) snapshots.goes
  runtime_keeps n (count_actions l m y) line h s k s' k' e =
      let u = value_done (value n l s.store) line _ _ s' k' e in
      let v = value_done (value n m s.store) line _ _ s' k' u.goes in
      let list = value_done (actions_of (n.numbers.shown u.value) (n.numbers.shown v.value)) line _ _ s' k' v.goes in
      kept s (record s { store = set s.store y 0 (number n (length list.value)) }) s' k k' (set_keeps s.store y 0 (number n (length list.value)) h) list.goes
  runtime_keeps n (give_action l m a y z t) line h s k s' k' e =
      let u = value_done (value n l s.store) line _ _ s' k' e in
      let v = value_done (value n m s.store) line _ _ s' k' u.goes in
      let w = value_done (value n a s.store) line _ _ s' k' v.goes in
      let list = value_done (actions_of (n.numbers.shown u.value) (n.numbers.shown v.value)) line _ _ s' k' w.goes in
      let one = value_done (action_at (n.numbers.shown w.value) list.value) line _ _ s' k' list.goes in
      let first = number n (kind_of one.value) in
      let second = number n (lower_of one.value) in
      let third = number n (upper_of one.value) in
      kept s (record s { store = set (set (set s.store y 0 first) z 0 second) t 0 third }) s' k k' (set_three_keeps s.store y z t first second third h) one.goes
  runtime_keeps n end_reversal line h s k s' k' e = ended_keeps n s.opened line s k s' k' e

-- what is told of a marked loop changes no store
told : {C : Type 0} (x : Var) (line m : ℕ) (force : Option ℕ) (s : Scene C) → Same x s (after_loop line m force s)
told x line m None s i = refl
told x line m (Some snapshots) s i = refl

-- calls keep each variable that is no actual of a written dummy
abbrev pub CallsKeep : {C : Type 0} → (List ℕ → List Bool) → Calls C → Type 0
CallsKeep handed q = (x : Var) (n : Setting _) (name : List ℕ) (args : Terms) (line : ℕ) → is_handed_back x (handed name) args ≡ false → Keeps x (q n name args line)

module _ {C : Type 0} (handed : List ℕ → List Bool) (q : Calls C) (keep : CallsKeep handed q) (n : Setting C) (x : Var) where
  mutual
    -- a statement keeps what it may not write
    act_keeps : (a : Act) (line : ℕ) → act_writes handed x a ≡ false → Keeps x (act q n a line)
    act_keeps (assign y subs a) line h s k s' k' e =
        let v = value_done (value n a s.store) line _ _ s' k' e in
        let i = value_done (target n y subs s.store) line _ _ s' k' v.goes in
        kept x s (record s { store = set s.store y i.value v.value }) s' k k' (set_keeps x s.store y i.value v.value h) i.goes
    act_keeps (choose c a b) line h s k s' k' e =
        let p = or_false (writes handed x a) (writes handed x b) h in
        let v = value_done (holds n c s.store) line _ (λ t. if t then run q n a s k else run q n b s k) s' k' e in
        if_keeps x v.value (run q n a s k) (run q n b s k) s s' k' (run_keeps a p.0 s k s' k') (run_keeps b p.1 s k s' k') v.goes
    act_keeps (loop y first last by body mark) line h s k s' k' e =
        let p = or_false (var_eq x y) (writes handed x body) h in
        let a = value_done (value n first s.store) line _ _ s' k' e in
        let b = value_done (value n last s.store) line _ _ s' k' a.goes in
        let c = value_done (value n by s.store) line _ _ s' k' b.goes in
        let m = value_done (trips mark (n.numbers.shown a.value) (n.numbers.shown b.value) (n.numbers.shown c.value)) line _ _ s' k' c.goes in
        let start : Scene C = with_turn n y (wrap (n.numbers.shown a.value)) s in
        let t = then_done (turns n m.value (run q n body) (stepped n y (n.numbers.shown c.value)) start k) (λ s1 j. Done (after_loop line m.value (in_force n mark s.store) s1) j) s' k' m.goes in
        trans x s start s' (set_keeps x s.store y 0 _ p.0)
        (trans x start t.scene s'
        (turns_keep x n m.value (run q n body) (stepped n y (n.numbers.shown c.value)) (run_keeps body p.1) (λ s1. set_keeps x s1.store y 0 _ p.0) start k t.scene t.left t.first)
        (kept x t.scene (after_loop line m.value (in_force n mark s.store) t.scene) s' t.left k' (told x line m.value (in_force n mark s.store) t.scene) t.second))
    act_keeps (during c body) line h s k s' k' e = tests_keep x n most_tests (λ s1. holds n c s1.store) line (run q n body) (run_keeps body h) s k s' k' e
    act_keeps (call name args) line h s k s' k' e = keep x n name args line h s k s' k' e
    act_keeps (runtime r) line h s k s' k' e = runtime_keeps x n r line h s k s' k' e

    -- a list of statements
    pub run_keeps : (c : Code) → writes handed x c ≡ false → Keeps x (run q n c)
    run_keeps stop h s k s' k' e = kept x s s s' k k' (λ i. refl) e
    run_keeps (step line a rest) h s k s' k' e =
        let p = or_false (act_writes handed x a) (writes handed x rest) h in
        let c = count_done _ k (λ j. then_do (act q n a line s j) (run q n rest)) s' k' e in
        then_keeps x (act q n a line) (run q n rest) (act_keeps a line p.0) (run_keeps rest p.1) s c.left s' k' c.goes

-- ---- calls

-- whether a place is in a variable
abbrev pub is_in : Var → Place → Bool
is_in x (whole y) = var_eq x y
is_in x (cell y i) = var_eq x y
is_in x nowhere = false

-- a place in another variable
put_keeps : {C : Type 0} (x : Var) (p : Place) (cs : ℕ → C) (s : Store C) → is_in x p ≡ false → (i : ℕ) → put p cs s x i ≡ s x i
put_keeps x (whole y) cs s h i = set_all_keeps x s y cs h i
put_keeps x (cell y j) cs s h i = set_keeps x s y j (cs 0) h i
put_keeps x nowhere cs s h i = refl

-- a value has no place
value_nowhere : {C : Type 0} (x : Var) (v : Result C Trap) (a : Actual C) → then_ok v (λ c. Ok (one_word c nowhere)) ≡ Ok a → is_in x a.place ≡ false
value_nowhere x (Ok c) a h = ap (λ (z : Actual _). is_in x z.place) (let e : a ≡ one_word c nowhere = cc in e)
value_nowhere x (Err t) a h = cc

-- the place of an actual is in the variable only where the actual is the variable or one of its elements
pub place_in : {C : Type 0} (n : Setting C) (x : Var) (e : Term) (s : Store C) (a : Actual C) → actual_of n e s ≡ Ok a → is_in x a.place ≡ is_place_of x e
place_in n x (var y) s a h = ap (λ (z : Actual _). is_in x z.place) (let e : a ≡ record { shape = n.shape y; cells = s y; place = whole y } = cc in e)
place_in n x (elem y subs) s a h =
    let v = then_ok_is (values n subs s) (λ is. then_ok (cell_at n y is) (λ i. Ok (one_word (s y i) (cell y i)))) a h in
    let i = then_ok_is (cell_at n y v.value) (λ i. Ok (one_word (s y i) (cell y i))) a v.goes in
    ap (λ (z : Actual _). is_in x z.place) (let e : a ≡ one_word (s y i.value) (cell y i.value) = cc in e)
place_in n x (lit z) s a h = value_nowhere x (value n (lit z) s) a h
place_in n x (neg b) s a h = value_nowhere x (value n (neg b) s) a h
place_in n x (bin op b c) s a h = value_nowhere x (value n (bin op b c) s) a h
place_in n x (pow b k) s a h = value_nowhere x (value n (pow b k) s) a h
place_in n x (power_of b c) s a h = value_nowhere x (value n (power_of b c) s) a h
place_in n x (abs b) s a h = value_nowhere x (value n (abs b) s) a h

-- where the variable is no actual of a written dummy, handing back keeps it
copied_keeps : {C : Type 0} (n : Setting C) (x : Var) (ds : List (List ℕ)) (ws : List Bool) (args : Terms) (s : Store C) (got : List (Actual C)) (t r : Store C) → actuals n args s ≡ Ok got → is_handed_back x ws args ≡ false → (i : ℕ) → copied_out ds ws got t r x i ≡ r x i
copied_keeps n x [] ws args s got t r h w i = refl
copied_keeps n x (d ∷ ds) [] args s got t r h w i = refl
copied_keeps n x (d ∷ ds) (b ∷ ws) args s [] t r h w i = refl
copied_keeps n x (d ∷ ds) (b ∷ ws) none s (a ∷ got) t r h w i = absurd (let e : Ok [] ≡ Ok (a ∷ got) = h in cc)
copied_keeps n x (d ∷ ds) (b ∷ ws) (more e args) s (a ∷ got) t r h w i =
    let v = then_ok_is (actual_of n e s) (λ a. then_ok (actuals n args s) (λ got. Ok (a ∷ got))) (a ∷ got) h in
    let vs = then_ok_is (actuals n args s) (λ got. Ok (v.value ∷ got)) (a ∷ got) v.goes in
    let first : v.value ≡ a = cc in
    let others : vs.value ≡ got = cc in
    let p = or_false (b && is_place_of x e) (is_handed_back x ws args) w in
    copied_keeps n x ds ws args s got t (if b then put a.place (t (plain d)) r else r) (vs.is ∙ ap Ok others) p.1 i
    ∙ one b (ap (λ (z : Actual _). b && is_in x z.place) (sym first) ∙ ap (λ z. b && z) (place_in n x e s v.value v.is) ∙ p.0)
  where
    one : (b : Bool) → (b && is_in x a.place) ≡ false → (if b then put a.place (t (plain d)) r else r) x i ≡ r x i
    one true q = put_keeps x a.place (t (plain d)) r q i
    one false q = refl

-- calls of a program's units
pub calls_keep : {C : Type 0} (units : List Procedure) (depth : ℕ) → CallsKeep {C = C} (handed_back units) (calls_of units depth)
calls_keep units zero x n name args line w s k s' k' e = absurd cc
calls_keep units (suc depth) x n name args line w s k s' k' e = go (find_unit units name) e
  where
    go : (u : Option Procedure) → call_in (calls_of units depth) n (handed_back units name) u args line s k ≡ Done s' k' → Same x s s'
    go None e = absurd cc
    go (Some u) e =
        let v = value_done (actuals n args s.store) line _ _ s' k' e in
        let start : Scene _ = record s { store = entry_store n.numbers u.dummies v.value } in
        let back : Scene _ → ℕ → Outcome (Scene _) = λ s1 j. Done (record s { store = copied_out u.dummies (handed_back units name) v.value s1.store s.store; tape = s1.tape; events = s1.events }) j in
        if_keeps x (dummies_fit n.numbers u start.store u.dummies v.value) (then_do (unit_run (calls_of units depth) n u line start k) back) (Trapped shape_trap line (stand n s)) s s' k'
        (λ f.
        let p = then_done (unit_run (calls_of units depth) n u line start k) back s' k' f in
        kept x s (record s { store = copied_out u.dummies (handed_back units name) v.value p.scene.store s.store; tape = p.scene.tape; events = p.scene.events }) s' p.left k'
        (copied_keeps n x u.dummies (handed_back units name) args s.store v.value p.scene.store s.store v.is w) p.second)
        (λ f. cc) v.goes

-- a list of a program
pub keeps_others : {C : Type 0} → KeepsOthers C
keeps_others units depth n c s s' k k' e x h = run_keeps (handed_back units) (calls_of units depth) (calls_keep units depth) n x c h s k s' k' e

-- a unit changes no dummy that it doesn't write
pub keeps_dummies : {C : Type 0} → KeepsDummies C
keeps_dummies units u d h depth n line s s' k k' e =
    let x = plain d in
    let p = then_done (run (calls_of units depth) (setting_in n u s.store) u.body (entered n u s) k) (λ s1 j. if s1.opened == 0 then Done s1 j else Trapped schedule_trap line (stand n s1)) s' k' e in
    trans x s p.scene s'
    (run_keeps (handed_back units) (calls_of units depth) (calls_keep units depth) (setting_in n u s.store) x u.body h (entered n u s) k p.scene p.left p.first)
    (if_keeps x (p.scene.opened == 0) (Done p.scene p.left) (Trapped schedule_trap line (stand n p.scene)) p.scene s' k' (kept x p.scene p.scene s' p.left k' (λ i. refl)) (λ g. cc) p.second)
