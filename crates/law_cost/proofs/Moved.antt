-- What a run without runtime calls does to the store, and what it takes, don't depend on the tape and on what was told.
use Rattle.std.proofs.Common.{◌≡◌, ℕ, zero, suc, Bool, true, false, List, ◌∷◌, refl, sym, ap, ◌∙◌}
use Rattle.std.specs.Prelude.{Result, Ok, Err, Option, Some, None, ◌==◌, length, if◌then◌else◌}
use Rattle.adj_tree.specs.Code.{Var, Term, Terms, Test, Mark, Act, assign, choose, loop, during, call, runtime, Code, stop, step, Procedure}
use Rattle.adj_word.specs.Word.{wrap}
use Rattle.def_meaning.specs.Trap.{Trap, shape_trap, schedule_trap}
use Rattle.def_meaning.specs.Store.{set}
use Rattle.def_meaning.specs.Value.{Setting, value, target, holds}
use Rattle.def_meaning.specs.Event.{Enter}
use Rattle.def_meaning.specs.Scene.{Scene, stand, Go, Outcome, Done, Trapped, then_do}
use Rattle.def_meaning.specs.Run.{Calls, trips, turns, stepped, with_turn, in_force, after_loop, most_tests, act, run}
use Rattle.def_meaning.specs.Written.{find_unit, handed_back}
use Rattle.def_meaning.specs.Units.{Actual, actuals, entry_store, dummies_fit, copied_out, dummy_shapes, setting_in, entered, unit_run, call_in, calls_of}
use Rattle.law_meaning.proofs.Inversions.{then_done, value_done, count_done, done_same}
use Rattle.law_sweep.specs.Scenes.{Course, scene}
use Rattle.law_cost.proofs.Runs.{left_same, tested, next_tests, test_failed, test_held, no_test_held}

-- the same store at the end, from a tape and other things told
pub record Elsewhere {C : Type 0} (home : Course) (t : List C) (e : Scene C) (left : ℕ) (o : Outcome (Scene C)) : Type 0 where
  pub later : Course
  pub is : o ≡ Done (scene later e.store t) left
  pub opened : later.opened ≡ home.opened

-- no runtime calls, and each call of a unit with some property
abbrev mutual
  pub IsBare' : (List ℕ → Type 0) → Act → Type 0
  IsBare' called (assign x subs e) = Unit {0}
  IsBare' called (choose c a b) = IsBare called a × IsBare called b
  IsBare' called (loop x a b c body m) = IsBare called body
  IsBare' called (during c body) = IsBare called body
  IsBare' called (call name args) = called name
  IsBare' called (runtime r) = ⊥

  pub IsBare : (List ℕ → Type 0) → Code → Type 0
  IsBare called stop = Unit {0}
  IsBare called (step line a rest) = IsBare' called a × IsBare called rest

-- calls do the same elsewhere
abbrev pub CallsMove : {C : Type 0} → (List ℕ → Type 0) → Calls C → Type 0
CallsMove {C} called q = (n : Setting C) (name : List ℕ) (args : Terms) (line : ℕ) (s e : Scene C) (k left : ℕ) → called name → q n name args line s k ≡ Done e left → (home : Course) (t : List C) → Elsewhere home t e left (q n name args line (scene home s.store t) k)

-- what goes on elsewhere
abbrev pub GoMoves : {C : Type 0} → Go C → Type 0
GoMoves {C} go = (s e : Scene C) (k left : ℕ) → go s k ≡ Done e left → (home : Course) (t : List C) → Elsewhere home t e left (go (scene home s.store t) k)

module _ {C : Type 0} (n : Setting C) where
  -- one after the other
  then_moves : (s s1 e : Scene C) (k j left : ℕ) (o : Outcome (Scene C)) (go : Go C) (home : Course) (t : List C) → Elsewhere home t s1 j o → ((later : Course) → later.opened ≡ home.opened → Elsewhere home t e left (go (scene later s1.store t) j)) → Elsewhere home t e left (then_do o go)
  then_moves s s1 e k j left o go home t m f =
      let r = f m.later m.opened in
      record { later = r.later; is = ap (λ z. then_do z go) m.is ∙ r.is; opened = r.opened }

  later_moves : (e : Scene C) (left : ℕ) (o : Outcome (Scene C)) (home later : Course) (t : List C) → later.opened ≡ home.opened → Elsewhere later t e left o → Elsewhere home t e left o
  later_moves e left o home later t h r = record { later = r.later; is = r.is; opened = r.opened ∙ h }

  -- turns of a loop
  turns_move : (body : Go C) → GoMoves body → (x : Var) (c : _) (m : ℕ) → GoMoves (turns n m body (stepped n x c))
  turns_move body moves x c zero s e k left h home t = record { later = home; is = λ i. Done (scene home ((done_same s e k left h i).store) t) (left_same s e k left h i); opened = refl }
  turns_move body moves x c (suc m) s e k left h home t =
      let r = count_done (stand n s) k (λ j. then_do (body s j) (λ s1 i. turns n m body (stepped n x c) (stepped n x c s1) i)) e left h in
      let o = then_done (body s r.left) (λ s1 i. turns n m body (stepped n x c) (stepped n x c s1) i) e left r.goes in
      let a = then_moves s o.scene e r.left o.left left (body (scene home s.store t) r.left) (λ s1 i. turns n m body (stepped n x c) (stepped n x c s1) i) home t (moves s o.scene r.left o.left o.first home t)
      (λ later op. later_moves e left _ home later t op (turns_move body moves x c m (stepped n x c o.scene) e o.left left o.second later t)) in
      record { later = a.later; is = ap (turns n (suc m) body (stepped n x c) (scene home s.store t)) r.is ∙ a.is; opened = a.opened }

  -- the end of a loop
  loop_end : (line m : ℕ) (f : Option ℕ) (s : Scene C) (left : ℕ) (home later : Course) (t : List C) → later.opened ≡ home.opened → Elsewhere home t (after_loop line m f s) left (Done (after_loop line m f (scene later s.store t)) left)
  loop_end line m None s left home later t op = record { later = later; is = refl; opened = op }
  loop_end line m (Some k) s left home later t op = record { later = _; is = refl; opened = op }

module _ {C : Type 0} (called : List ℕ → Type 0) (q : Calls C) (calls : CallsMove called q) (n : Setting C) where
  -- tests of a DO WHILE
  tests_move : (c : Test) (line : ℕ) (body : Code) → GoMoves (run q n body) → (m : ℕ) → GoMoves (tested q n c line m body)
  tests_move c line body moves zero s e k left h home t = go (holds n c s.store) refl
    where
      go : (r : Result Bool Trap) → holds n c s.store ≡ r → Elsewhere home t e left (tested q n c line 0 body (scene home s.store t) k)
      go (Err w) is = let g : (let o : Outcome (Scene C) = Trapped w line (stand n s) in o ≡ Done e left) = sym (rw is refl) ∙ h in absurd (cc)
      go (Ok true) is = absurd (no_test_held q n c line body s e k left is h)
      go (Ok false) is = let g = test_failed q n c line 0 body s e k left is h in record { later = home; is = rw is (λ i. Done (scene home ((done_same s e k left g i).store) t) (left_same s e k left g i)); opened = refl }
  tests_move c line body moves (suc m) s e k left h home t = go (holds n c s.store) refl (λ s1 k1 g later. tests_move c line body moves m s1 e k1 left g later t)
    where
      go : (r : Result Bool Trap) → holds n c s.store ≡ r → ((s1 : Scene C) (k1 : ℕ) → tested q n c line m body s1 k1 ≡ Done e left → (later : Course) → Elsewhere later t e left (tested q n c line m body (scene later s1.store t) k1)) → Elsewhere home t e left (tested q n c line (suc m) body (scene home s.store t) k)
      go (Err w) is rest = let g : (let o : Outcome (Scene C) = Trapped w line (stand n s) in o ≡ Done e left) = sym (rw is refl) ∙ h in absurd (cc)
      go (Ok true) is rest =
          let r = test_held q n c line m body s e k left is h in
          let a = moves s r.end k r.rest r.turn home t in
          let b = rest r.end r.before r.others a.later in
          record {
            later = b.later;
            is = rw is (ap (λ z. then_do z (next_tests q n c line m body)) a.is ∙ ap (next_tests q n c line m body (scene a.later r.end.store t)) r.is ∙ b.is);
            opened = b.opened ∙ a.opened;
          }
      go (Ok false) is rest = let g = test_failed q n c line (suc m) body s e k left is h in record { later = home; is = rw is (λ i. Done (scene home ((done_same s e k left g i).store) t) (left_same s e k left g i)); opened = refl }

  -- an assignment
  assign_moves : (x : Var) (subs : Terms) (a : Term) (line : ℕ) → GoMoves (act q n (assign x subs a) line)
  assign_moves x subs a line s e k left h home t =
      let v = value_done (value n a s.store) line (stand n s) _ e left h in
      let w = value_done (target n x subs s.store) line (stand n s) _ e left v.goes in
      from v.value w.value v.is w.is (done_same (record s { store = set s.store x w.value v.value }) e k left w.goes) (left_same (record s { store = set s.store x w.value v.value }) e k left w.goes)
    where
      from : (u : C) (i : ℕ) → value n a s.store ≡ Ok u → target n x subs s.store ≡ Ok i → record s { store = set s.store x i u } ≡ e → k ≡ left → Elsewhere home t e left (act q n (assign x subs a) line (scene home s.store t) k)
      from u i is tis same l = record { later = home; is = rw (is, tis) (λ j. Done (scene home ((same j).store) t) (l j)); opened = refl }

  -- an IF
  choose_moves : (c : Test) (a b : Code) (line : ℕ) → GoMoves (run q n a) → GoMoves (run q n b) → GoMoves (act q n (choose c a b) line)
  choose_moves c a b line ma mb s e k left h home t =
      let v = value_done (holds n c s.store) line (stand n s) (λ p. if p then run q n a s k else run q n b s k) e left h in
      go v.value v.is v.goes
    where
      go : (p : Bool) → holds n c s.store ≡ Ok p → (if p then run q n a s k else run q n b s k) ≡ Done e left → Elsewhere home t e left (act q n (choose c a b) line (scene home s.store t) k)
      go true is g = let r = ma s e k left g home t in record { later = r.later; is = rw is r.is; opened = r.opened }
      go false is g = let r = mb s e k left g home t in record { later = r.later; is = rw is r.is; opened = r.opened }

  -- a DO
  loop_moves : (x : Var) (a b c : Term) (body : Code) (mark : Mark) (line : ℕ) → GoMoves (run q n body) → GoMoves (act q n (loop x a b c body mark) line)
  loop_moves x a b c body mark line moves s e k left h home t =
      let va = value_done (value n a s.store) line (stand n s) _ e left h in
      let vb = value_done (value n b s.store) line (stand n s) _ e left va.goes in
      let vc = value_done (value n c s.store) line (stand n s) _ e left vb.goes in
      let vm = value_done (trips mark (n.numbers.shown va.value) (n.numbers.shown vb.value) (n.numbers.shown vc.value)) line (stand n s) _ e left vc.goes in
      from va.value vb.value vc.value vm.value va.is vb.is vc.is vm.is vm.goes
    where
      from : (u v w : C) (m : ℕ) → value n a s.store ≡ Ok u → value n b s.store ≡ Ok v → value n c s.store ≡ Ok w → trips mark (n.numbers.shown u) (n.numbers.shown v) (n.numbers.shown w) ≡ Ok m →
          then_do (turns n m (run q n body) (stepped n x (n.numbers.shown w)) (with_turn n x (wrap (n.numbers.shown u)) s) k) (λ s1 j. Done (after_loop line m (in_force n mark s.store) s1) j) ≡ Done e left → Elsewhere home t e left (act q n (loop x a b c body mark) line (scene home s.store t) k)
      from u v w m ia ib ic im g =
          let ended : Scene C → ℕ → Outcome (Scene C) = λ s1 j. Done (after_loop line m (in_force n mark s.store) s1) j in
          let o = then_done (turns n m (run q n body) (stepped n x (n.numbers.shown w)) (with_turn n x (wrap (n.numbers.shown u)) s) k) ended e left g in
          let r = turns_move n (run q n body) moves x (n.numbers.shown w) m (with_turn n x (wrap (n.numbers.shown u)) s) o.scene k o.left o.first home t in
          let l = loop_end n line m (in_force n mark s.store) o.scene o.left home r.later t r.opened in
          let same = done_same (after_loop line m (in_force n mark s.store) o.scene) e o.left left o.second in
          let ls = left_same (after_loop line m (in_force n mark s.store) o.scene) e o.left left o.second in
          record { later = l.later; is = rw (ia, ib, ic, im) (ap (λ z. then_do z ended) r.is ∙ l.is ∙ (λ i. Done (scene l.later ((same i).store) t) (ls i))); opened = l.opened }

  mutual
    act_moves : (a : Act) → IsBare' called a → (line : ℕ) → GoMoves (act q n a line)
    act_moves (assign x subs a) b line = assign_moves x subs a line
    act_moves (choose c f g) b line = choose_moves c f g line (run_moves f b.0) (run_moves g b.1)
    act_moves (loop x first last by body m) b line = loop_moves x first last by body m line (run_moves body b)
    act_moves (during c body) b line = λ s e k left h home t. tests_move c line body (run_moves body b) most_tests s e k left h home t
    act_moves (call name args) b line = λ s e k left h home t. calls n name args line s e k left b h home t
    act_moves (runtime r) b line = absurd b

    pub run_moves : (c : Code) → IsBare called c → GoMoves (run q n c)
    run_moves stop b = λ s e k left h home t. record { later = home; is = λ i. Done (scene home ((done_same s e k left h i).store) t) (left_same s e k left h i); opened = refl }
    run_moves (step line a rest) b = λ s e k left h home t.
        let r = count_done (stand n s) k (λ j. then_do (act q n a line s j) (run q n rest)) e left h in
        let o = then_done (act q n a line s r.left) (run q n rest) e left r.goes in
        let m = then_moves n s o.scene e r.left o.left left (act q n a line (scene home s.store t) r.left) (run q n rest) home t (act_moves a b.0 line s o.scene r.left o.left o.first home t)
        (λ later op. later_moves n e left _ home later t op (run_moves rest b.1 o.scene e o.left left o.second later t)) in
        record { later = m.later; is = ap (run q n (step line a rest) (scene home s.store t)) r.is ∙ m.is; opened = m.opened }

-- the calls of a program without runtime calls
module _ {C : Type 0} (ps : List Procedure) (called : List ℕ → Type 0) (bare : (name : List ℕ) (u : Procedure) → called name → find_unit ps name ≡ Some u → IsBare called u.body) where
  call_moves : (inner : Calls C) → CallsMove called inner → (n : Setting C) (ws : List Bool) (u : Procedure) → IsBare called u.body → (args : Terms) (line : ℕ) → GoMoves (call_in inner n ws (Some u) args line)
  call_moves inner moves n ws u b args line s e k left h home t =
      let v = value_done (actuals n args s.store) line (stand n s) _ e left h in
      from v.value v.is (dummies_fit n.numbers u (entry_store n.numbers u.dummies v.value) u.dummies v.value) refl v.goes
    where
      from : (got : List (Actual C)) → actuals n args s.store ≡ Ok got → (f : Bool) → dummies_fit n.numbers u (entry_store n.numbers u.dummies got) u.dummies got ≡ f →
          (if f then then_do (unit_run inner n u line (record s { store = entry_store n.numbers u.dummies got }) k) (λ s1 j. Done (record s { store = copied_out u.dummies ws got s1.store s.store; tape = s1.tape; events = s1.events }) j) else Trapped shape_trap line (stand n s)) ≡ Done e left →
          Elsewhere home t e left (call_in inner n ws (Some u) args line (scene home s.store t) k)
      from got is false fit g = absurd cc
      from got is true fit g =
          let start = entry_store n.numbers u.dummies got in
          let there : Scene C = scene home s.store t in
          let close : Scene C → ℕ → Outcome (Scene C) = λ s1 j. if s1.opened == 0 then Done s1 j else Trapped schedule_trap line (stand n s1) in
          let back : Scene C → ℕ → Outcome (Scene C) = λ s1 j. Done (record s { store = copied_out u.dummies ws got s1.store s.store; tape = s1.tape; events = s1.events }) j in
          let back1 : Scene C → ℕ → Outcome (Scene C) = λ s1 j. Done (record there { store = copied_out u.dummies ws got s1.store s.store; tape = s1.tape; events = s1.events }) j in
          let p = then_done (unit_run inner n u line (record s { store = start }) k) back e left g in
          let o = then_done (run inner (setting_in n u start) u.body (entered n u (record s { store = start })) k) close p.scene p.left p.first in
          let entry : Course = record { opened = 0; events = Enter u.name (suc n.level) (length t) (dummy_shapes (setting_in n u start) u) ∷ home.events } in
          let m = run_moves called inner moves (setting_in n u start) u.body b (entered n u (record s { store = start })) o.scene k o.left o.first entry t in
          let shut : close (scene m.later o.scene.store t) o.left ≡ Done (scene m.later o.scene.store t) o.left = ap (λ f. if f == 0 then Done (scene m.later o.scene.store t) o.left else Trapped schedule_trap line (stand n (scene m.later o.scene.store t))) m.opened in
          let same = closed o.scene o.left p.scene p.left (o.scene.opened == 0) o.second in
          let end = done_same (record s { store = copied_out u.dummies ws got p.scene.store s.store; tape = p.scene.tape; events = p.scene.events }) e p.left left p.second in
          let ls = left_same (record s { store = copied_out u.dummies ws got p.scene.store s.store; tape = p.scene.tape; events = p.scene.events }) e p.left left p.second in
          record {
            later = record { opened = home.opened; events = m.later.events };
            is = rw (is, fit) (ap (λ z. then_do (then_do z close) back1) m.is ∙ ap (λ z. then_do z back1) shut
                ∙ (λ i. Done (scene (record { opened = home.opened; events = m.later.events }) (copied_out u.dummies ws got (same.0 i).store s.store) t) (same.1 i))
                ∙ (λ i. Done (scene (record { opened = home.opened; events = m.later.events }) ((end i).store) t) (ls i)));
            opened = refl;
          }
        where
          closed : (a : Scene C) (i : ℕ) (b : Scene C) (j : ℕ) (f : Bool) → (if f then Done a i else Trapped schedule_trap line (stand n a)) ≡ Done b j → (a ≡ b) × (i ≡ j)
          closed a i b j true g = (done_same a b i j g, left_same a b i j g)
          closed a i b j false g = absurd cc

  pub calls_move : (depth : ℕ) → CallsMove {C = C} called (calls_of ps depth)
  calls_move zero n name args line s e k left c h home t = absurd cc
  calls_move (suc depth) n name args line s e k left c h home t = go (calls_move depth) (find_unit ps name) refl h
    where
      go : CallsMove {C = C} called (calls_of ps depth) → (o : Option Procedure) → find_unit ps name ≡ o → call_in (calls_of ps depth) n (handed_back ps name) o args line s k ≡ Done e left → Elsewhere home t e left (calls_of ps (suc depth) n name args line (scene home s.store t) k)
      go inner None f g = absurd cc
      go inner (Some u) f g =
          let m = call_moves (calls_of ps depth) inner n (handed_back ps name) u (bare name u c f) args line s e k left g home t in
          record { later = m.later; is = ap (λ o. call_in (calls_of ps depth) n (handed_back ps name) o args line (scene home s.store t) k) f ∙ m.is; opened = m.opened }
