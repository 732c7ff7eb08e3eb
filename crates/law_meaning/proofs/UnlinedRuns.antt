-- Statements up to their line numbers: from scenes that tell the same up to line numbers they end alike.
use Rattle.std.proofs.Common.{◌≡◌, ℕ, zero, suc, Bool, true, false, List, [], ◌∷◌, refl, sym, ap, ◌∙◌}
use mathlib.Core.List.{reverse_aux}
use Rattle.std.specs.Prelude.{ℤ, Result, Ok, Err, Option, Some, None, map, length, reverse, if◌then◌else◌}
use Rattle.adj_tree.specs.Code.{Var, Terms, Runtime, push_word, pop_word, push_array, pop_array, push_control, pop_control, zero_array, begin_reversal, count_actions, give_action, end_reversal, Act, assign, choose, loop, during, call, runtime, Code, stop, step}
use Rattle.adj_tree.specs.Lines.{unlined_act, unlined_code}
use Rattle.adj_word.specs.Word.{wrap}
use Rattle.def_meaning.specs.Trap.{Trap, step_trap, tape_trap, schedule_trap}
use Rattle.def_meaning.specs.Store.{Store, set, set_all, size_of, cells_from}
use Rattle.def_meaning.specs.Value.{Setting, value, target, holds}
use Rattle.def_meaning.specs.Event.{Event, Begin, End, Marked}
use Rattle.def_meaning.specs.Scene.{Scene, Stand, stand, Go, Outcome, Done, Trapped, More, Full, then_do, with_value, counted, has_room, pushed, pushed_all, with_top, popped, popped_all}
use Rattle.def_meaning.specs.Runtime.{runtime_act, steps_of, snapshots_of, actions_of, action_at, kind_of, lower_of, upper_of, number, begun, ended}
use Rattle.def_meaning.specs.Run.{Calls, trips, turns, stepped, with_turn, most_tests, in_force, after_loop, tests, act, run}
use Rattle.law_meaning.specs.Unlined.{unlined_event, unlined_stand, unlined_scene, ended_unlined, unlined_outcome}

-- the same up to line numbers
abbrev pub TellAlike : List Event → List Event → Type 0
TellAlike es fs = map unlined_event es ≡ map unlined_event fs

-- the scene with other events
abbrev pub telling : {C : Type 0} → Scene C → List Event → Scene C
telling s es = record s { events = es }

-- what goes on from a scene ends as it does from each scene that tells the same up to line numbers
abbrev pub GoAlike : {C B : Type 0} → (B → B) → (Scene C → ℕ → Outcome B) → (Scene C → ℕ → Outcome B) → Type 0
GoAlike see f g = (s : Scene _) (es : List Event) (k : ℕ) → TellAlike s.events es → ended_unlined see (f s k) ≡ ended_unlined see (g (telling s es) k)

-- ---- how outcomes are put together

-- the scene of an outcome, or another where there is none, and the statements that are left
abbrev scene_in : {C : Type 0} → Scene C → Outcome (Scene C) → Scene C
scene_in s (Done t k) = t
scene_in s (Trapped t line w) = s
scene_in s (More w) = s
scene_in s (Full w) = s

abbrev left_in : {C : Type 0} → Outcome (Scene C) → ℕ
left_in (Done t k) = k
left_in (Trapped t line w) = 0
left_in (More w) = 0
left_in (Full w) = 0

module _ {C B : Type 0} (see : B → B) where
  -- from one scene to the next
  pub then_unlined : (o w : Outcome (Scene C)) (f g : Scene C → ℕ → Outcome B) → unlined_outcome o ≡ unlined_outcome w → GoAlike see f g → ended_unlined see (then_do o f) ≡ ended_unlined see (then_do w g)
  then_unlined (Done s k) (Done t j) f g e d =
      let p : unlined_scene s ≡ unlined_scene t = ap (scene_in s) e in
      d s t.events k (ap (λ z. z.events) p)
      ∙ (λ i. ended_unlined see (g (record { store = (p i).store; tape = (p i).tape; opened = (p i).opened; events = t.events }) (left_in (e i))))
  then_unlined (Done s k) (Trapped t' other y) f g e d = cc
  then_unlined (Done s k) (More y) f g e d = cc
  then_unlined (Done s k) (Full y) f g e d = cc
  then_unlined (Trapped t line w) (Done s j) f g e d = cc
  then_unlined (Trapped t line w) (Trapped t' other y) f g e d = cc
  then_unlined (Trapped t line w) (More y) f g e d = cc
  then_unlined (Trapped t line w) (Full y) f g e d = cc
  then_unlined (More w) (Done s j) f g e d = cc
  then_unlined (More w) (Trapped t' other y) f g e d = cc
  then_unlined (More w) (More y) f g e d = cc
  then_unlined (More w) (Full y) f g e d = cc
  then_unlined (Full w) (Done s j) f g e d = cc
  then_unlined (Full w) (Trapped t' other y) f g e d = cc
  then_unlined (Full w) (More y) f g e d = cc
  then_unlined (Full w) (Full y) f g e d = cc

module _ {B : Type 0} (see : B → B) where
  -- a value, or a trap at some line
  pub value_unlined : {A : Type 0} (v : Result A Trap) (line other : ℕ) (x y : Stand) → unlined_stand x ≡ unlined_stand y → (f g : A → Outcome B) → ((a : A) → ended_unlined see (f a) ≡ ended_unlined see (g a)) → ended_unlined see (with_value v line x f) ≡ ended_unlined see (with_value v other y g)
  value_unlined (Ok a) line other x y l f g d = d a
  value_unlined (Err t) line other x y l f g d = ap (Trapped t 0) l

  -- a statement is counted in both or in neither
  counted_unlined : (x y : Stand) → unlined_stand x ≡ unlined_stand y → (k : ℕ) (f g : ℕ → Outcome B) → ((j : ℕ) → ended_unlined see (f j) ≡ ended_unlined see (g j)) → ended_unlined see (counted x k f) ≡ ended_unlined see (counted y k g)
  counted_unlined x y l zero f g d = ap More l
  counted_unlined x y l (suc k) f g d = d k

  -- the same branch of both
  pub if_unlined : (p : Bool) (o o1 w w1 : Outcome B) → ended_unlined see o ≡ ended_unlined see w → ended_unlined see o1 ≡ ended_unlined see w1 → ended_unlined see (if p then o else o1) ≡ ended_unlined see (if p then w else w1)
  if_unlined true o o1 w w1 d e = d
  if_unlined false o o1 w w1 d e = e

  -- the word on top
  top_unlined : {C : Type 0} (t : List C) (line other : ℕ) (x y : Stand) → unlined_stand x ≡ unlined_stand y → (f g : C → List C → Outcome B) → ((c : C) (cs : List C) → ended_unlined see (f c cs) ≡ ended_unlined see (g c cs)) → ended_unlined see (with_top t line x f) ≡ ended_unlined see (with_top t other y g)
  top_unlined [] line other x y l f g d = ap (Trapped tape_trap 0) l
  top_unlined (c ∷ cs) line other x y l f g d = d c cs

-- an end in a scene
pub done_unlined : {C : Type 0} (s : Scene C) (es : List Event) (k : ℕ) → TellAlike s.events es → unlined_outcome (Done s k) ≡ unlined_outcome (Done (telling s es) k)
done_unlined s es k h = λ i. Done (telling s (h i)) k

-- ---- what stands where a run stops

-- events in order of time
turned_map : (f : Event → Event) (es fs : List Event) → map f (reverse_aux es fs) ≡ reverse_aux (map f es) (map f fs)
turned_map f [] fs = refl
turned_map f (e ∷ es) fs = turned_map f es (e ∷ fs)

pub reverse-map : (f : Event → Event) (es : List Event) → map f (reverse es) ≡ reverse (map f es)
reverse-map f es = turned_map f es []

-- the same stands up to line numbers
pub stand_unlined : {C : Type 0} (n : Setting C) (s : Scene C) (es : List Event) → TellAlike s.events es → unlined_stand (stand n s) ≡ unlined_stand (stand n (telling s es))
stand_unlined n s es h = λ i. record { tape = map n.numbers.shown s.tape; events = (reverse-map unlined_event s.events ∙ ap reverse h ∙ sym (reverse-map unlined_event es)) i }

-- ---- runtime calls

module _ {C : Type 0} (n : Setting C) where
  abbrev Alike : Go C → Go C → Type 0
  Alike f g = GoAlike unlined_scene f g

  pushed_unlined : (c : C) → Alike (pushed n c) (pushed n c)
  pushed_unlined c s es k h =
      if_unlined unlined_scene (has_room n.room (length s.tape)) (Done (record s { tape = c ∷ s.tape }) k) (Full (stand n s)) (Done (record (telling s es) { tape = c ∷ s.tape }) k) (Full (stand n (telling s es))) (done_unlined (record s { tape = c ∷ s.tape }) es k h) (ap Full (stand_unlined n s es h))

  pushed_all_unlined : (cs : List C) → Alike (pushed_all n cs) (pushed_all n cs)
  pushed_all_unlined [] s es k h = done_unlined s es k h
  pushed_all_unlined (c ∷ cs) s es k h = then_unlined unlined_scene (pushed n c s k) (pushed n c (telling s es) k) (pushed_all n cs) (pushed_all n cs) (pushed_unlined c s es k h) (pushed_all_unlined cs)

  popped_unlined : (x : Var) (i line other : ℕ) → Alike (popped n x i line) (popped n x i other)
  popped_unlined x i line other s es k h = top_unlined unlined_scene s.tape line other _ _ (stand_unlined n s es h) _ _ (λ c cs. done_unlined (record s { store = set s.store x i c; tape = cs }) es k h)

  popped_all_unlined : (x : Var) (i line other : ℕ) → Alike (popped_all n x i line) (popped_all n x i other)
  popped_all_unlined x zero line other s es k h = done_unlined s es k h
  popped_all_unlined x (suc i) line other s es k h =
      then_unlined unlined_scene (popped n x i line s k) (popped n x i other (telling s es) k) (popped_all n x i line) (popped_all n x i other) (popped_unlined x i line other s es k h) (popped_all_unlined x i line other)

  ended_alike : (i line other : ℕ) → Alike (ended n i line) (ended n i other)
  ended_alike zero line other s es k h = ap (Trapped schedule_trap 0) (stand_unlined n s es h)
  ended_alike (suc i) line other s es k h = λ j. Done (record s { opened = i; events = End n.level ∷ h j }) k

  begun_unlined : (l m : ℕ) (s : Scene C) (es : List Event) (k : ℕ) → TellAlike s.events es → unlined_outcome (Done (begun n l m s) k) ≡ unlined_outcome (Done (begun n l m (telling s es)) k)
  begun_unlined l m s es k h = λ j. Done (record s { opened = suc s.opened; events = Begin l m n.level (length s.tape) ∷ h j }) k

  -- the line at which a call traps is all that matters of it
  runtime_unlined : (c : Runtime) (line other : ℕ) → Alike (runtime_act n c line) (runtime_act n c other)
  runtime_unlined (push_word x subs) line other s es k h = value_unlined unlined_scene (target n x subs s.store) line other _ _ (stand_unlined n s es h) _ _ (λ i. pushed_unlined (s.store x i) s es k h)
  runtime_unlined (pop_word x subs) line other s es k h = value_unlined unlined_scene (target n x subs s.store) line other _ _ (stand_unlined n s es h) _ _ (λ i. popped_unlined x i line other s es k h)
  runtime_unlined (push_array x) line other s es k h = pushed_all_unlined (cells_from (s.store x) 0 (size_of (n.shape x))) s es k h
  runtime_unlined (pop_array x) line other s es k h = popped_all_unlined x (size_of (n.shape x)) line other s es k h
  runtime_unlined (push_control e) line other s es k h = value_unlined unlined_scene (value n e s.store) line other _ _ (stand_unlined n s es h) _ _ (λ c. pushed_unlined c s es k h)
  runtime_unlined (pop_control x) line other s es k h = popped_unlined x 0 line other s es k h
  runtime_unlined (zero_array x) line other s es k h = done_unlined (record s { store = set_all s.store x (λ j. number n 0) }) es k h
  runtime_unlined (begin_reversal l m) line other s es k h =
      value_unlined unlined_scene (value n l s.store) line other _ _ (stand_unlined n s es h) _ _ (λ u. value_unlined unlined_scene (value n m s.store) line other _ _ (stand_unlined n s es h) _ _ (λ v.
      value_unlined unlined_scene (steps_of (n.numbers.shown u)) line other _ _ (stand_unlined n s es h) _ _ (λ steps. value_unlined unlined_scene (snapshots_of (n.numbers.shown v)) line other _ _ (stand_unlined n s es h) _ _ (λ snapshots. begun_unlined steps snapshots s es k h))))
  runtime_unlined (count_actions l m x) line other s es k h =
      value_unlined unlined_scene (value n l s.store) line other _ _ (stand_unlined n s es h) _ _ (λ u. value_unlined unlined_scene (value n m s.store) line other _ _ (stand_unlined n s es h) _ _ (λ v. value_unlined unlined_scene (actions_of (n.numbers.shown u) (n.numbers.shown v)) line other _ _ (stand_unlined n s es h) _ _ (λ list.
      done_unlined (record s { store = set s.store x 0 (number n (length list)) }) es k h)))
  runtime_unlined (give_action l m e x y z) line other s es k h =
      value_unlined unlined_scene (value n l s.store) line other _ _ (stand_unlined n s es h) _ _ (λ u. value_unlined unlined_scene (value n m s.store) line other _ _ (stand_unlined n s es h) _ _ (λ v. value_unlined unlined_scene (value n e s.store) line other _ _ (stand_unlined n s es h) _ _ (λ w.
      value_unlined unlined_scene (actions_of (n.numbers.shown u) (n.numbers.shown v)) line other _ _ (stand_unlined n s es h) _ _ (λ list. value_unlined unlined_scene (action_at (n.numbers.shown w) list) line other _ _ (stand_unlined n s es h) _ _ (λ a.
      done_unlined (record s { store = set (set (set s.store x 0 (number n (kind_of a))) y 0 (number n (lower_of a))) z 0 (number n (upper_of a)) }) es k h)))))
  runtime_unlined end_reversal line other s es k h = ended_alike s.opened line other s es k h

-- ---- statements

-- calls do the same up to line numbers
abbrev pub CallAlike : {C : Type 0} → Calls C → Calls C → Type 0
CallAlike q q' = (n : Setting _) (name : List ℕ) (args : Terms) (line other : ℕ) → GoAlike unlined_scene (q n name args line) (q' n name args other)

module _ {C : Type 0} (q q' : Calls C) (alike : CallAlike q q') (n : Setting C) where
  turns_unlined : (m : ℕ) (f g : Go C) (x : Var) (c : ℤ) → GoAlike unlined_scene f g → GoAlike unlined_scene (turns n m f (stepped n x c)) (turns n m g (stepped n x c))
  turns_unlined zero f g x c d s es k h = done_unlined s es k h
  turns_unlined (suc m) f g x c d s es k h =
      counted_unlined unlined_scene _ _ (stand_unlined n s es h) k _ _ (λ j. then_unlined unlined_scene (f s j) (g (telling s es) j) (λ s1 i. turns n m f (stepped n x c) (stepped n x c s1) i) (λ s1 i. turns n m g (stepped n x c) (stepped n x c s1) i)
      (d s es j h) (λ s1 fs i h1. turns_unlined m f g x c d (stepped n x c s1) fs i h1))

  after_unlined : (line other m : ℕ) (force : Option ℕ) → GoAlike {C = C} unlined_scene (λ s k. Done (after_loop line m force s) k) (λ s k. Done (after_loop other m force s) k)
  after_unlined line other m None s es k h = done_unlined s es k h
  after_unlined line other m (Some snapshots) s es k h = λ i. Done (telling s (Marked 0 m snapshots ∷ h i)) k

  -- the tests and turns of a DO WHILE, whose test looks at the store alone
  tests_unlined : (m : ℕ) (t : Store C → Result Bool Trap) (line other : ℕ) (f g : Go C) → GoAlike unlined_scene f g → GoAlike unlined_scene (tests n m (λ s1. t s1.store) line f) (tests n m (λ s1. t s1.store) other g)
  tests_unlined zero t line other f g d s es k h =
      value_unlined unlined_scene (t s.store) line other _ _ (stand_unlined n s es h) _ _ (λ p. if_unlined unlined_scene p (Trapped step_trap line (stand n s)) (Done s k) (Trapped step_trap other (stand n (telling s es))) (Done (telling s es) k) (ap (Trapped step_trap 0) (stand_unlined n s es h)) (done_unlined s es k h))
  tests_unlined (suc m) t line other f g d s es k h =
      let again : ℕ → Go C → Go C = λ l b s1 j. counted (stand n s1) j (λ i. tests n m (λ s2. t s2.store) l b s1 i) in
      value_unlined unlined_scene (t s.store) line other _ _ (stand_unlined n s es h) _ _ (λ p.
      if_unlined unlined_scene p (then_do (f s k) (again line f)) (Done s k) (then_do (g (telling s es) k) (again other g)) (Done (telling s es) k)
      (then_unlined unlined_scene (f s k) (g (telling s es) k) (again line f) (again other g) (d s es k h)
      (λ s1 fs j h1. counted_unlined unlined_scene _ _ (stand_unlined n s1 fs h1) j _ _ (λ i. tests_unlined m t line other f g d s1 fs i h1)))
      (done_unlined s es k h))

  mutual
    act_unlined : (a : Act) (line other : ℕ) → GoAlike unlined_scene (act q n a line) (act q' n (unlined_act a) other)
    act_unlined (assign x subs e) line other s es k h =
        value_unlined unlined_scene (value n e s.store) line other _ _ (stand_unlined n s es h) _ _ (λ c. value_unlined unlined_scene (target n x subs s.store) line other _ _ (stand_unlined n s es h) _ _ (λ i. done_unlined (record s { store = set s.store x i c }) es k h))
    act_unlined (choose c a b) line other s es k h =
        value_unlined unlined_scene (holds n c s.store) line other _ _ (stand_unlined n s es h) _ _ (λ p. if_unlined unlined_scene p (run q n a s k) (run q n b s k) (run q' n (unlined_code a) (telling s es) k) (run q' n (unlined_code b) (telling s es) k) (run_unlined a s es k h) (run_unlined b s es k h))
    act_unlined (loop x first last by body mark) line other s es k h =
        value_unlined unlined_scene (value n first s.store) line other _ _ (stand_unlined n s es h) _ _ (λ a. value_unlined unlined_scene (value n last s.store) line other _ _ (stand_unlined n s es h) _ _ (λ b. value_unlined unlined_scene (value n by s.store) line other _ _ (stand_unlined n s es h) _ _ (λ c.
        value_unlined unlined_scene (trips mark (n.numbers.shown a) (n.numbers.shown b) (n.numbers.shown c)) line other _ _ (stand_unlined n s es h) _ _ (λ m.
        then_unlined unlined_scene
        (turns n m (run q n body) (stepped n x (n.numbers.shown c)) (with_turn n x (wrap (n.numbers.shown a)) s) k)
        (turns n m (run q' n (unlined_code body)) (stepped n x (n.numbers.shown c)) (with_turn n x (wrap (n.numbers.shown a)) (telling s es)) k)
        (λ s1 j. Done (after_loop line m (in_force n mark s.store) s1) j) (λ s1 j. Done (after_loop other m (in_force n mark s.store) s1) j)
        (turns_unlined m (run q n body) (run q' n (unlined_code body)) x (n.numbers.shown c) (λ s1 fs j h1. run_unlined body s1 fs j h1) (with_turn n x (wrap (n.numbers.shown a)) s) es k h)
        (after_unlined line other m (in_force n mark s.store))))))
    act_unlined (during c body) line other s es k h =
        tests_unlined most_tests (λ st. holds n c st) line other (run q n body) (run q' n (unlined_code body)) (λ s1 fs j h1. run_unlined body s1 fs j h1) s es k h
    act_unlined (call name args) line other s es k h = alike n name args line other s es k h
    act_unlined (runtime c) line other s es k h = runtime_unlined n c line other s es k h

    -- a list ends as it does without its line numbers
    pub run_unlined : (c : Code) → GoAlike unlined_scene (run q n c) (run q' n (unlined_code c))
    run_unlined stop s es k h = done_unlined s es k h
    run_unlined (step line a rest) s es k h =
        counted_unlined unlined_scene _ _ (stand_unlined n s es h) k _ _ (λ j. then_unlined unlined_scene (act q n a line s j) (act q' n (unlined_act a) 0 (telling s es) j) (run q n rest) (run q' n (unlined_code rest)) (act_unlined a line 0 s es j h) (λ s1 fs i h1. run_unlined rest s1 fs i h1))
