-- What runs that are done say of their parts, and what straight code takes.
use Rattle.std.proofs.Common.{◌≡◌, ℕ, zero, suc, ◌+◌, Bool, true, false, List, [], ◌∷◌, refl, sym, ap, ◌∙◌, arith}
use Rattle.std.specs.Prelude.{Result, Ok, Err, None, length, if◌then◌else◌}
use Rattle.adj_tree.specs.Code.{Var, Term, Test, Runtime, Act, assign, choose, loop, during, call, runtime, unmarked, push_word, pop_word, push_array, pop_array, push_control, pop_control, zero_array, begin_reversal, count_actions, give_action, end_reversal, Code, stop, step, Procedure}
use Rattle.adj_word.specs.Word.{wrap}
use Rattle.def_meaning.specs.Append.{◌+++◌, one}
use Rattle.def_meaning.specs.Trap.{Trap, step_trap}
use Rattle.def_meaning.specs.Store.{size_of, cells_from}
use Rattle.def_meaning.specs.Value.{Setting, value, target, holds}
use Rattle.def_meaning.specs.Scene.{Scene, Go, stand, Outcome, Done, Trapped, Full, then_do, with_value, counted, has_room, pushed, pushed_all, popped, popped_all}
use Rattle.def_meaning.specs.Run.{Calls, trips, turns, stepped, with_turn, tests, act, run}
use Rattle.def_meaning.specs.Runtime.{runtime_act}
use Rattle.def_meaning.specs.Units.{calls_of}
use Rattle.law_meaning.specs.Leads.{Leads}
use Rattle.def_meaning.proofs.Appends.{run_append}
use Rattle.law_meaning.proofs.Costs.{leads_where_done, run_later}
use Rattle.law_meaning.proofs.Inversions.{Halves, then_done, value_done, top_done, count_done, done_same}
use Rattle.def_sweep.specs.Marked.{code_if}
pub use Rattle.law_sweep.proofs.Runs.{left_same}
use Rattle.law_sweep.proofs.Choices.{part}
use Rattle.law_cost.specs.Sweeps.{statements_of}

-- a run from a scene comes to one end
pub one_end : {C : Type 0} (units : List Procedure) (depth : ℕ) (n : Setting C) (c : Code) (s s1 e : Scene C) (k left : ℕ) → Leads (calls_of units depth) n c s s1 → run (calls_of units depth) n c s k ≡ Done e left → e ≡ s1
one_end units depth n c s s1 e k left l h =
    let m = leads_where_done units depth n c s e k left h in
    let same : m.cost + (l.cost + 0) ≡ l.cost + (m.cost + 0) = omega arith in
    done_same e s1 (l.cost + 0) (m.cost + 0) (sym (m.by (l.cost + 0)) ∙ ap (run (calls_of units depth) n c s) same ∙ l.by (m.cost + 0))

-- runtime calls that take no statements besides themselves: pushes, pops and clearing an array
abbrev pub IsShift : Runtime → Type 0
IsShift (push_word x subs) = Unit {0}
IsShift (pop_word x subs) = Unit {0}
IsShift (push_array x) = Unit {0}
IsShift (pop_array x) = Unit {0}
IsShift (zero_array x) = Unit {0}
IsShift _ = ⊥

-- assignments and such calls
abbrev pub IsStraight : Code → Type 0
IsStraight stop = Unit {0}
IsStraight (step line (assign x subs e) c) = IsStraight c
IsStraight (step line (runtime r) c) = IsShift r × IsStraight c
IsStraight (step line _ c) = ⊥

pub straight_append : (c d : Code) → IsStraight c → IsStraight d → IsStraight (c +++ d)
straight_append stop d i j = j
straight_append (step line (assign x subs e) c) d i j = straight_append c d i j
straight_append (step line (runtime r) c) d i j = (i.0, straight_append c d i.1 j)
straight_append (step line (choose t a b) c) d i j = absurd i
straight_append (step line (loop x a b t body m) c) d i j = absurd i
straight_append (step line (during t body) c) d i j = absurd i
straight_append (step line (call name args) c) d i j = absurd i

pub straight_if : (b : Bool) (c : Code) → IsStraight c → IsStraight (code_if b c)
straight_if true c i = i
straight_if false c i = tt

module _ {C : Type 0} (q : Calls C) (n : Setting C) where
  -- a list after another
  pub append_done : (c d : Code) (s e : Scene C) (k left : ℕ) → run q n (c +++ d) s k ≡ Done e left → Halves (run q n c s k) (run q n d) e left
  append_done c d s e k left h = then_done (run q n c s k) (run q n d) e left (sym (run_append q n c d s k) ∙ h)

  -- a statement that was counted and done, and those after it
  pub record Stepped (line : ℕ) (a : Act) (c : Code) (s e : Scene C) (k left : ℕ) : Type 0 where
    pub before : ℕ
    pub is : k ≡ suc before
    pub scene : Scene C
    pub after : ℕ
    pub first : act q n a line s before ≡ Done scene after
    pub others : run q n c scene after ≡ Done e left

  pub step_done : (line : ℕ) (a : Act) (c : Code) (s e : Scene C) (k left : ℕ) → run q n (step line a c) s k ≡ Done e left → Stepped line a c s e k left
  step_done line a c s e k left h =
      let r = count_done (stand n s) k (λ j. then_do (act q n a line s j) (run q n c)) e left h in
      let o = then_done (act q n a line s r.left) (run q n c) e left r.goes in
      record { before = r.left; is = r.is; scene = o.scene; after = o.left; first = o.first; others = o.second }

  -- one statement
  pub record Once (line : ℕ) (a : Act) (s e : Scene C) (k left : ℕ) : Type 0 where
    pub before : ℕ
    pub is : k ≡ suc before
    pub done : act q n a line s before ≡ Done e left

  pub one_done : (line : ℕ) (a : Act) (s e : Scene C) (k left : ℕ) → run q n (one line a) s k ≡ Done e left → Once line a s e k left
  one_done line a s e k left h = let o = step_done line a stop s e k left h in record { before = o.before; is = o.is; done = o.first ∙ o.others }

  -- an IF whose condition has this value
  pub record Chosen (ran : Bool) (a b : Code) (s e : Scene C) (k left : ℕ) : Type 0 where
    pub before : ℕ
    pub is : k ≡ suc before
    pub done : run q n (part ran a b) s before ≡ Done e left

  pub chosen : (line : ℕ) (ran : Bool) (c : Test) (a b : Code) (s e : Scene C) (k left : ℕ) → holds n c s.store ≡ Ok ran → run q n (one line (choose c a b)) s k ≡ Done e left → Chosen ran a b s e k left
  chosen line ran c a b s e k left is h =
      let o = one_done line (choose c a b) s e k left h in
      record { before = o.before; is = o.is; done = go ran o.before (ap (λ z. with_value z line (stand n s) (λ p. if p then run q n a s o.before else run q n b s o.before)) (sym is) ∙ o.done) }
    where
      go : (ran : Bool) (j : ℕ) → (if ran then run q n a s j else run q n b s j) ≡ Done e left → run q n (part ran a b) s j ≡ Done e left
      go true j g = g
      go false j g = g

  -- ---- straight code

  -- so they don't
  pushed_left : (c : C) (s e : Scene C) (k left : ℕ) → pushed n c s k ≡ Done e left → k ≡ left
  pushed_left c s e k left h = go (has_room n.room (length s.tape)) h
    where
      go : (b : Bool) → (if b then Done (record s { tape = c ∷ s.tape }) k else Full (stand n s)) ≡ Done e left → k ≡ left
      go true g = left_same _ e k left g
      go false g = cc

  all_pushed_left : (cs : List C) (s e : Scene C) (k left : ℕ) → pushed_all n cs s k ≡ Done e left → k ≡ left
  all_pushed_left [] s e k left h = left_same s e k left h
  all_pushed_left (c ∷ cs) s e k left h =
      let o = then_done (pushed n c s k) (pushed_all n cs) e left h in
      pushed_left c s o.scene k o.left o.first ∙ all_pushed_left cs o.scene e o.left left o.second

  popped_left : (x : Var) (i line : ℕ) (s e : Scene C) (k left : ℕ) → popped n x i line s k ≡ Done e left → k ≡ left
  popped_left x i line s e k left h = let o = top_done s.tape line (stand n s) _ e left h in left_same _ e k left o.goes

  all_popped_left : (x : Var) (i line : ℕ) (s e : Scene C) (k left : ℕ) → popped_all n x i line s k ≡ Done e left → k ≡ left
  all_popped_left x zero line s e k left h = left_same s e k left h
  all_popped_left x (suc i) line s e k left h =
      let o = then_done (popped n x i line s k) (popped_all n x i line) e left h in
      popped_left x i line s o.scene k o.left o.first ∙ all_popped_left x i line o.scene e o.left left o.second

  shift_left : (r : Runtime) → IsShift r → (line : ℕ) (s e : Scene C) (k left : ℕ) → runtime_act n r line s k ≡ Done e left → k ≡ left
  shift_left (push_word x subs) i line s e k left h = let v = value_done (target n x subs s.store) line (stand n s) _ e left h in pushed_left (s.store x v.value) s e k left v.goes
  shift_left (pop_word x subs) i line s e k left h = let v = value_done (target n x subs s.store) line (stand n s) _ e left h in popped_left x v.value line s e k left v.goes
  shift_left (push_array x) i line s e k left h = all_pushed_left _ s e k left h
  shift_left (pop_array x) i line s e k left h = all_popped_left x (size_of (n.shape x)) line s e k left h
  shift_left (push_control e0) i line s e k left h = absurd i
  shift_left (pop_control x) i line s e k left h = absurd i
  shift_left (zero_array x) i line s e k left h = left_same _ e k left h
  shift_left (begin_reversal a b) i line s e k left h = absurd i
  shift_left (count_actions a b x) i line s e k left h = absurd i
  shift_left (give_action a b x y z w) i line s e k left h = absurd i
  shift_left end_reversal i line s e k left h = absurd i

  -- it takes each of its statements once
  pub straight_cost : (c : Code) → IsStraight c → (s e : Scene C) (k left : ℕ) → run q n c s k ≡ Done e left → k ≡ left + statements_of c
  straight_cost stop i s e k left h = let x = left_same s e k left h in omega (arith, x)
  straight_cost (step line (assign x subs a) c) i s e k left h =
      let o = step_done line (assign x subs a) c s e k left h in
      let v = value_done (value n a s.store) line (stand n s) _ o.scene o.after o.first in
      let t = value_done (target n x subs s.store) line (stand n s) _ o.scene o.after v.goes in
      let l = left_same _ o.scene o.before o.after t.goes in
      let is = o.is in
      omega (arith, is, l, straight_cost c i o.scene e o.after left o.others)
  straight_cost (step line (runtime r) c) i s e k left h =
      let o = step_done line (runtime r) c s e k left h in
      let is = o.is in
      omega (arith, is, shift_left r i.0 line s o.scene o.before o.after o.first, straight_cost c i.1 o.scene e o.after left o.others)
  straight_cost (step line (choose t a b) c) i s e k left h = absurd i
  straight_cost (step line (loop x a b t body m) c) i s e k left h = absurd i
  straight_cost (step line (during t body) c) i s e k left h = absurd i
  straight_cost (step line (call name args) c) i s e k left h = absurd i

  -- ---- loops

  -- a loop that isn't marked, whose bounds have these values, and what comes after it
  pub record Looping (x : Var) (m : ℕ) (a c : C) (body rest : Code) (s e : Scene C) (k left : ℕ) : Type 0 where
    pub before : ℕ
    pub is : k ≡ suc before
    pub scene : Scene C
    pub after : ℕ
    pub turned : turns n m (run q n body) (stepped n x (n.numbers.shown c)) (with_turn n x (wrap (n.numbers.shown a)) s) before ≡ Done scene after
    pub others : run q n rest scene after ≡ Done e left

  pub looping : (line : ℕ) (x : Var) (ea eb ec : Term) (body rest : Code) (s e : Scene C) (k left : ℕ) (a b c : C) (m : ℕ) → value n ea s.store ≡ Ok a → value n eb s.store ≡ Ok b → value n ec s.store ≡ Ok c → trips unmarked (n.numbers.shown a) (n.numbers.shown b) (n.numbers.shown c) ≡ Ok m → run q n (step line (loop x ea eb ec body unmarked) rest) s k ≡ Done e left → Looping x m a c body rest s e k left
  looping line x ea eb ec body rest s e k left a b c m ha hb hc hm h =
      let o = step_done line (loop x ea eb ec body unmarked) rest s e k left h in
      let ended : Scene C → ℕ → Outcome (Scene C) = λ s1 j. Done s1 j in
      let g : then_do (turns n m (run q n body) (stepped n x (n.numbers.shown c)) (with_turn n x (wrap (n.numbers.shown a)) s) o.before) ended ≡ Done o.scene o.after = sym (rw (ha, hb, hc, hm) refl) ∙ o.first in
      let t = then_done (turns n m (run q n body) (stepped n x (n.numbers.shown c)) (with_turn n x (wrap (n.numbers.shown a)) s) o.before) ended o.scene o.after g in
      record { before = o.before; is = o.is; scene = o.scene; after = o.after; turned = t.first ∙ t.second; others = o.others }

  -- the turns before the last, and the last
  pub record LastTurn (m : ℕ) (go : Go C) (after : Scene C → Scene C) (s e : Scene C) (k left : ℕ) : Type 0 where
    pub middle : Scene C
    pub rest : ℕ
    pub others : turns n m go after s k ≡ Done middle rest
    pub before : ℕ
    pub is : rest ≡ suc before
    pub end : Scene C
    pub turn : go middle before ≡ Done end left
    pub ends : after end ≡ e

  pub last_turn : (m : ℕ) (go : Go C) (after : Scene C → Scene C) (s e : Scene C) (k left : ℕ) → turns n (suc m) go after s k ≡ Done e left → LastTurn m go after s e k left
  last_turn zero go after s e k left h =
      let r = count_done (stand n s) k (λ j. then_do (go s j) (λ s1 i. turns n 0 go after (after s1) i)) e left h in
      let o = then_done (go s r.left) (λ s1 i. turns n 0 go after (after s1) i) e left r.goes in
      record { middle = s; rest = k; others = refl; before = r.left; is = r.is; end = o.scene; turn = o.first ∙ ap (Done o.scene) (left_same (after o.scene) e o.left left o.second); ends = done_same (after o.scene) e o.left left o.second }
  last_turn (suc m) go after s e k left h =
      let r = count_done (stand n s) k (λ j. then_do (go s j) (λ s1 i. turns n (suc m) go after (after s1) i)) e left h in
      let o = then_done (go s r.left) (λ s1 i. turns n (suc m) go after (after s1) i) e left r.goes in
      let l = last_turn m go after (after o.scene) e o.left left o.second in
      record {
        middle = l.middle;
        rest = l.rest;
        others = ap (turns n (suc m) go after s) r.is ∙ ap (λ z. then_do z (λ s1 i. turns n m go after (after s1) i)) o.first ∙ l.others;
        before = l.before;
        is = l.is;
        end = l.end;
        turn = l.turn;
        ends = l.ends;
      }

  -- the first turn, and the others
  pub record FirstTurn (m : ℕ) (go : Go C) (after : Scene C → Scene C) (s e : Scene C) (k left : ℕ) : Type 0 where
    pub before : ℕ
    pub is : k ≡ suc before
    pub end : Scene C
    pub rest : ℕ
    pub turn : go s before ≡ Done end rest
    pub others : turns n m go after (after end) rest ≡ Done e left

  pub first_turn : (m : ℕ) (go : Go C) (after : Scene C → Scene C) (s e : Scene C) (k left : ℕ) → turns n (suc m) go after s k ≡ Done e left → FirstTurn m go after s e k left
  first_turn m go after s e k left h =
      let r = count_done (stand n s) k (λ j. then_do (go s j) (λ s1 i. turns n m go after (after s1) i)) e left h in
      let o = then_done (go s r.left) (λ s1 i. turns n m go after (after s1) i) e left r.goes in
      record { before = r.left; is = r.is; end = o.scene; rest = o.left; turn = o.first; others = o.second }

  -- ---- single statements

  -- what is done after a statement that takes no other
  pub record After (c : Code) (s1 e : Scene C) (k left : ℕ) : Type 0 where
    pub before : ℕ
    pub is : k ≡ suc before
    pub done : run q n c s1 before ≡ Done e left

  pub after_one : (line : ℕ) (a : Act) (c : Code) (s s1 e : Scene C) (k left : ℕ) → ((j : ℕ) → act q n a line s j ≡ Done s1 j) → run q n (step line a c) s k ≡ Done e left → After c s1 e k left
  after_one line a c s s1 e k left known h =
      let o = step_done line a c s e k left h in
      let both : Done s1 o.before ≡ Done o.scene o.after = sym (known o.before) ∙ o.first in
      record { before = o.before; is = o.is; done = (λ i. run q n c (done_same s1 o.scene o.before o.after both i) (left_same s1 o.scene o.before o.after both i)) ∙ o.others }

-- the turns of a program's loop come to one end
pub turns_later : {C : Type 0} (units : List Procedure) (depth : ℕ) (n : Setting C) (body : Code) (after : Scene C → Scene C) (m : ℕ) (s e : Scene C) (k left j : ℕ) → turns n m (run (calls_of units depth) n body) after s k ≡ Done e left → turns n m (run (calls_of units depth) n body) after s (k + j) ≡ Done e (left + j)
turns_later units depth n body after zero s e k left j h = λ i. Done (done_same s e k left h i) (left_same s e k left h i + j)
turns_later units depth n body after (suc m) s e k left j h =
    let q = calls_of units depth in
    let r = first_turn q n m (run q n body) after s e k left h in
    let is = r.is in
    let same : k + j ≡ suc (r.before + j) = omega (arith, is) in
    ap (turns n (suc m) (run q n body) after s) same
    ∙ ap (λ z. then_do z (λ s1 i. turns n m (run q n body) after (after s1) i)) (run_later units depth depth (omega arith) n body s r.end r.before r.rest j r.turn)
    ∙ turns_later units depth n body after m (after r.end) e r.rest left j r.others

pub turns_end : {C : Type 0} (units : List Procedure) (depth : ℕ) (n : Setting C) (body : Code) (after : Scene C → Scene C) (m : ℕ) (s s1 e : Scene C) (k left cost : ℕ) → ((j : ℕ) → turns n m (run (calls_of units depth) n body) after s (cost + j) ≡ Done s1 j) → turns n m (run (calls_of units depth) n body) after s k ≡ Done e left → e ≡ s1
turns_end units depth n body after m s s1 e k left cost by h =
    let same : k + cost ≡ cost + k = omega arith in
    done_same e s1 (left + cost) k (sym (turns_later units depth n body after m s e k left cost h) ∙ ap (turns n m (run (calls_of units depth) n body) after s) same ∙ by k)

-- ---- DO WHILE

module _ {C : Type 0} (q : Calls C) (n : Setting C) (c : Test) (line : ℕ) where
  -- what the tests and turns of a loop do
  abbrev pub tested : ℕ → Code → Go C
  tested m body = tests n m (λ (z : Scene C). holds n c z.store) line (run q n body)

  abbrev pub next_tests : ℕ → Code → Go C
  next_tests m body s1 j = counted (stand n s1) j (λ i. tested m body s1 i)

  -- a test that failed
  pub test_failed : (m : ℕ) (body : Code) (s e : Scene C) (k left : ℕ) → holds n c s.store ≡ Ok false → tested m body s k ≡ Done e left → (let o : Outcome (Scene C) = Done s k in o ≡ Done e left)
  test_failed zero body s e k left is h = sym (rw is refl) ∙ h
  test_failed (suc m) body s e k left is h = sym (rw is refl) ∙ h

  -- a test that held: a turn, and the tests after it, of which the first is counted
  pub record TestHeld (m : ℕ) (body : Code) (s e : Scene C) (k left : ℕ) : Type 0 where
    pub end : Scene C
    pub rest : ℕ
    pub turn : run q n body s k ≡ Done end rest
    pub before : ℕ
    pub is : rest ≡ suc before
    pub others : tested m body end before ≡ Done e left

  pub test_held : (m : ℕ) (body : Code) (s e : Scene C) (k left : ℕ) → holds n c s.store ≡ Ok true → tested (suc m) body s k ≡ Done e left → TestHeld m body s e k left
  test_held m body s e k left is h =
      let g : then_do (run q n body s k) (next_tests m body) ≡ Done e left = sym (rw is refl) ∙ h in
      let o = then_done (run q n body s k) (next_tests m body) e left g in
      let r = count_done (stand n o.scene) o.left (λ i. tested m body o.scene i) e left o.second in
      record { end = o.scene; rest = o.left; turn = o.first; before = r.left; is = r.is; others = r.goes }

  pub no_test_held : (body : Code) (s e : Scene C) (k left : ℕ) → holds n c s.store ≡ Ok true → tested 0 body s k ≡ Done e left → ⊥
  no_test_held body s e k left is h = let g : Trapped step_trap line (stand n s) ≡ Done e left = sym (rw is refl) ∙ h in absurd (cc)

-- the tests of a program's loop come to one end
pub tests_later : {C : Type 0} (units : List Procedure) (depth : ℕ) (n : Setting C) (c : Test) (line : ℕ) (body : Code) (m : ℕ) (s e : Scene C) (k left j : ℕ) → tested (calls_of units depth) n c line m body s k ≡ Done e left → tested (calls_of units depth) n c line m body s (k + j) ≡ Done e (left + j)
tests_later {C} units depth n c line body zero s e k left j h = go (holds n c s.store) refl
  where
    go : (r : Result Bool Trap) → holds n c s.store ≡ r → tested (calls_of units depth) n c line 0 body s (k + j) ≡ Done e (left + j)
    go (Err t) is = let g : (let o : Outcome (Scene C) = Trapped t line (stand n s) in o ≡ Done e left) = sym (rw is refl) ∙ h in absurd (cc)
    go (Ok true) is = absurd (no_test_held (calls_of units depth) n c line body s e k left is h)
    go (Ok false) is = let g = test_failed (calls_of units depth) n c line 0 body s e k left is h in rw is (λ i. Done (done_same s e k left g i) (left_same s e k left g i + j))
tests_later {C} units depth n c line body (suc m) s e k left j h = go (holds n c s.store) refl (λ s1 k1 g. tests_later units depth n c line body m s1 e k1 left j g)
  where
    go : (r : Result Bool Trap) → holds n c s.store ≡ r → ((s1 : Scene C) (k1 : ℕ) → tested (calls_of units depth) n c line m body s1 k1 ≡ Done e left → tested (calls_of units depth) n c line m body s1 (k1 + j) ≡ Done e (left + j)) → tested (calls_of units depth) n c line (suc m) body s (k + j) ≡ Done e (left + j)
    go (Err t) is later = let g : (let o : Outcome (Scene C) = Trapped t line (stand n s) in o ≡ Done e left) = sym (rw is refl) ∙ h in absurd (cc)
    go (Ok true) is later =
        let q = calls_of units depth in
        let r = test_held q n c line m body s e k left is h in
        let rest_is = r.is in
        let same : r.rest + j ≡ suc (r.before + j) = omega (arith, rest_is) in
        rw is
        (ap (λ z. then_do z (next_tests q n c line m body)) (run_later units depth depth (omega arith) n body s r.end k r.rest j r.turn)
        ∙ ap (next_tests q n c line m body r.end) same
        ∙ later r.end r.before r.others)
    go (Ok false) is later = let g = test_failed (calls_of units depth) n c line (suc m) body s e k left is h in rw is (λ i. Done (done_same s e k left g i) (left_same s e k left g i + j))

pub tests_end : {C : Type 0} (units : List Procedure) (depth : ℕ) (n : Setting C) (c : Test) (line : ℕ) (body : Code) (m : ℕ) (s s1 e : Scene C) (k left cost : ℕ) → ((j : ℕ) → tested (calls_of units depth) n c line m body s (cost + j) ≡ Done s1 j) → tested (calls_of units depth) n c line m body s k ≡ Done e left → e ≡ s1
tests_end units depth n c line body m s s1 e k left cost by h =
    let same : k + cost ≡ cost + k = omega arith in
    done_same e s1 (left + cost) k (sym (tests_later units depth n c line body m s e k left cost h) ∙ ap (tested (calls_of units depth) n c line m body s) same ∙ by k)

-- ---- pushes

-- pushes alone
abbrev pub IsPushing : Code → Type 0
IsPushing stop = Unit {0}
IsPushing (step line (runtime (push_word x subs)) c) = IsPushing c
IsPushing (step line (runtime (push_array x)) c) = IsPushing c
IsPushing (step line _ c) = ⊥

pub pushing_append : (c d : Code) → IsPushing c → IsPushing d → IsPushing (c +++ d)
pushing_append stop d i j = j
pushing_append (step line (runtime (push_word x subs)) c) d i j = pushing_append c d i j
pushing_append (step line (runtime (push_array x)) c) d i j = pushing_append c d i j
pushing_append (step line (assign x subs e) c) d i j = absurd i
pushing_append (step line (choose t a b) c) d i j = absurd i
pushing_append (step line (loop x a b t body m) c) d i j = absurd i
pushing_append (step line (during t body) c) d i j = absurd i
pushing_append (step line (call name args) c) d i j = absurd i
pushing_append (step line (runtime (pop_word x subs)) c) d i j = absurd i
pushing_append (step line (runtime (pop_array x)) c) d i j = absurd i
pushing_append (step line (runtime (push_control e)) c) d i j = absurd i
pushing_append (step line (runtime (pop_control x)) c) d i j = absurd i
pushing_append (step line (runtime (zero_array x)) c) d i j = absurd i
pushing_append (step line (runtime (begin_reversal a b)) c) d i j = absurd i
pushing_append (step line (runtime (count_actions a b x)) c) d i j = absurd i
pushing_append (step line (runtime (give_action a b x y z w)) c) d i j = absurd i
pushing_append (step line (runtime end_reversal) c) d i j = absurd i

module _ {C : Type 0} (q : Calls C) (n : Setting C) (no_limit : n.room ≡ None) where
  pushed_keeps : (c : C) (s e : Scene C) (k left : ℕ) → pushed n c s k ≡ Done e left → e.store ≡ s.store
  pushed_keeps c s e k left h =
      let g : (let o : Outcome (Scene C) = Done (record s { tape = c ∷ s.tape }) k in o ≡ Done e left) = sym (ap (λ r. if has_room r (length s.tape) then Done (record s { tape = c ∷ s.tape }) k else Full (stand n s)) no_limit) ∙ h in
      ap (λ (z : Scene C). z.store) (sym (done_same (record s { tape = c ∷ s.tape }) e k left g))

  all_pushed_keep : (cs : List C) (s e : Scene C) (k left : ℕ) → pushed_all n cs s k ≡ Done e left → e.store ≡ s.store
  all_pushed_keep [] s e k left h = ap (λ (z : Scene C). z.store) (sym (done_same s e k left h))
  all_pushed_keep (c ∷ cs) s e k left h =
      let o = then_done (pushed n c s k) (pushed_all n cs) e left h in
      all_pushed_keep cs o.scene e o.left left o.second ∙ pushed_keeps c s o.scene k o.left o.first

  -- they keep the store, and take each of them once
  pub pushing_keeps : (c : Code) → IsPushing c → (s e : Scene C) (k left : ℕ) → run q n c s k ≡ Done e left → (e.store ≡ s.store) × (k ≡ left + statements_of c)
  pushing_keeps stop i s e k left h = (ap (λ (z : Scene C). z.store) (sym (done_same s e k left h)), (let l = left_same s e k left h in omega (arith, l)))
  pushing_keeps (step line (runtime (push_word x subs)) c) i s e k left h =
      let o = step_done q n line (runtime (push_word x subs)) c s e k left h in
      let v = value_done (target n x subs s.store) line (stand n s) (λ i. pushed n (s.store x i) s o.before) o.scene o.after o.first in
      let r = pushing_keeps c i o.scene e o.after left o.others in
      let is = o.is in
      (r.0 ∙ pushed_keeps (s.store x v.value) s o.scene o.before o.after v.goes, (let l = shift_left q n (push_word x subs) tt line s o.scene o.before o.after o.first in let r1 = r.1 in omega (arith, is, l, r1)))
  pushing_keeps (step line (runtime (push_array x)) c) i s e k left h =
      let o = step_done q n line (runtime (push_array x)) c s e k left h in
      let r = pushing_keeps c i o.scene e o.after left o.others in
      let is = o.is in
      (r.0 ∙ all_pushed_keep (cells_from (s.store x) 0 (size_of (n.shape x))) s o.scene o.before o.after o.first, (let l = shift_left q n (push_array x) tt line s o.scene o.before o.after o.first in let r1 = r.1 in omega (arith, is, l, r1)))
  pushing_keeps (step line (assign x subs a) c) i s e k left h = absurd i
  pushing_keeps (step line (choose t a b) c) i s e k left h = absurd i
  pushing_keeps (step line (loop x a b t body m) c) i s e k left h = absurd i
  pushing_keeps (step line (during t body) c) i s e k left h = absurd i
  pushing_keeps (step line (call name args) c) i s e k left h = absurd i
  pushing_keeps (step line (runtime (pop_word x subs)) c) i s e k left h = absurd i
  pushing_keeps (step line (runtime (pop_array x)) c) i s e k left h = absurd i
  pushing_keeps (step line (runtime (push_control a)) c) i s e k left h = absurd i
  pushing_keeps (step line (runtime (pop_control x)) c) i s e k left h = absurd i
  pushing_keeps (step line (runtime (zero_array x)) c) i s e k left h = absurd i
  pushing_keeps (step line (runtime (begin_reversal a b)) c) i s e k left h = absurd i
  pushing_keeps (step line (runtime (count_actions a b x)) c) i s e k left h = absurd i
  pushing_keeps (step line (runtime (give_action a b x y z w)) c) i s e k left h = absurd i
  pushing_keeps (step line (runtime end_reversal) c) i s e k left h = absurd i
