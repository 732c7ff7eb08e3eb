-- What is few at the end of a run without runtime calls was few at its begin: a run tells more. It is asked where loops are reversed by
-- schedules.
use Rattle.std.proofs.Common.{◌≡◌, ℕ, zero, suc, Bool, true, false, List, [], ◌∷◌, ◌++◌, refl, sym, ◌∙◌, subst}
use Rattle.std.proofs.lemmas.List.{reverse-append, reverse-reverse}
use Rattle.std.specs.Prelude.{reverse, Result, Ok, Err, Option, Some, None, ◌==◌, if◌then◌else◌}
use Rattle.adj_tree.specs.Code.{Var, Term, Terms, Test, Mark, Act, assign, choose, loop, during, call, runtime, Code, stop, step, Procedure}
use Rattle.adj_word.specs.Word.{wrap}
use Rattle.def_meaning.specs.Event.{Event}
use Rattle.def_meaning.specs.Trap.{Trap, shape_trap, schedule_trap}
use Rattle.def_meaning.specs.Store.{set}
use Rattle.def_meaning.specs.Value.{Setting, value, target, holds}
use Rattle.def_meaning.specs.Scene.{Scene, stand, Go, Outcome, Done, Trapped, then_do}
use Rattle.def_meaning.specs.Run.{Calls, trips, turns, stepped, with_turn, in_force, after_loop, most_tests, act, run}
use Rattle.def_meaning.specs.Written.{find_unit, handed_back}
use Rattle.def_meaning.specs.Units.{Actual, actuals, entry_store, dummies_fit, copied_out, setting_in, entered, unit_run, call_in, calls_of}
use Rattle.law_meaning.proofs.Inversions.{then_done, value_done, count_done, done_same}
use Rattle.def_sweep.specs.Reversals.{ReversedLines}
use Rattle.law_cost.proofs.Moved.{IsBare', IsBare}
use Rattle.law_cost.proofs.Runs.{tested, test_failed, test_held, no_test_held}
use Rattle.def_adjoint.specs.Few.{AllFew}

module _ {C : Type 0} (sb : Bool) (lines : ReversedLines) (reps : ℕ) where
  abbrev pub FewIn : Scene C → Type 0
  FewIn s = sb ≡ true → AllFew lines reps s.events

  -- what goes on tells more
  abbrev pub GoTells : Go C → Type 0
  GoTells go = (s e : Scene C) (k left : ℕ) → go s k ≡ Done e left → FewIn e → FewIn s

  abbrev pub CallsTell : (List ℕ → Type 0) → Calls C → Type 0
  CallsTell called q = (n : Setting C) (name : List ℕ) (args : Terms) (line : ℕ) → called name → GoTells (q n name args line)

  pub same_few : (s e : Scene C) → s ≡ e → FewIn e → FewIn s
  same_few s e is h = subst FewIn (sym is) h

  pub turns_tell : (n : Setting C) (body : Go C) → GoTells body → (x : Var) (c : _) (m : ℕ) → GoTells (turns n m body (stepped n x c))
  turns_tell n body tells x c zero s e k left h few = same_few s e (done_same s e k left h) few
  turns_tell n body tells x c (suc m) s e k left h few =
      let r = count_done (stand n s) k (λ j. then_do (body s j) (λ s1 i. turns n m body (stepped n x c) (stepped n x c s1) i)) e left h in
      let o = then_done (body s r.left) (λ s1 i. turns n m body (stepped n x c) (stepped n x c s1) i) e left r.goes in
      tells s o.scene r.left o.left o.first (turns_tell n body tells x c m (stepped n x c o.scene) e o.left left o.second few)

  pub loop_told : (line m : ℕ) (f : Option ℕ) (s : Scene C) → FewIn (after_loop line m f s) → FewIn s
  loop_told line m None s h = h
  loop_told line m (Some k) s h = λ on. (h on).1

  module _ (called : List ℕ → Type 0) (q : Calls C) (calls : CallsTell called q) (n : Setting C) where
    pub tests_tell : (c : Test) (line : ℕ) (body : Code) → GoTells (run q n body) → (m : ℕ) → GoTells (tested q n c line m body)
    tests_tell c line body tells zero s e k left h few = go (holds n c s.store) refl
      where
        go : (r : Result Bool Trap) → holds n c s.store ≡ r → FewIn s
        go (Err w) is = let g : (let o : Outcome (Scene C) = Trapped w line (stand n s) in o ≡ Done e left) = sym (rw is refl) ∙ h in absurd (cc)
        go (Ok true) is = absurd (no_test_held q n c line body s e k left is h)
        go (Ok false) is = let g = test_failed q n c line 0 body s e k left is h in same_few s e (done_same s e k left g) few
    tests_tell c line body tells (suc m) s e k left h few = go (holds n c s.store) refl (λ s1 k1 g. tests_tell c line body tells m s1 e k1 left g few)
      where
        go : (r : Result Bool Trap) → holds n c s.store ≡ r → ((s1 : Scene C) (k1 : ℕ) → tested q n c line m body s1 k1 ≡ Done e left → FewIn s1) → FewIn s
        go (Err w) is rest = let g : (let o : Outcome (Scene C) = Trapped w line (stand n s) in o ≡ Done e left) = sym (rw is refl) ∙ h in absurd (cc)
        go (Ok true) is rest =
            let r = test_held q n c line m body s e k left is h in
            tells s r.end k r.rest r.turn (rest r.end r.before r.others)
        go (Ok false) is rest = let g = test_failed q n c line (suc m) body s e k left is h in same_few s e (done_same s e k left g) few

    assign_tells : (x : Var) (subs : Terms) (a : Term) (line : ℕ) → GoTells (act q n (assign x subs a) line)
    assign_tells x subs a line s e k left h few =
        let v = value_done (value n a s.store) line (stand n s) _ e left h in
        let w = value_done (target n x subs s.store) line (stand n s) _ e left v.goes in
        same_few (record s { store = set s.store x w.value v.value }) e (done_same (record s { store = set s.store x w.value v.value }) e k left w.goes) few

    choose_tells : (c : Test) (a b : Code) (line : ℕ) → GoTells (run q n a) → GoTells (run q n b) → GoTells (act q n (choose c a b) line)
    choose_tells c a b line ma mb s e k left h few =
        let v = value_done (holds n c s.store) line (stand n s) (λ p. if p then run q n a s k else run q n b s k) e left h in
        go v.value v.goes
      where
        go : (p : Bool) → (if p then run q n a s k else run q n b s k) ≡ Done e left → FewIn s
        go true g = ma s e k left g few
        go false g = mb s e k left g few

    loop_tells : (x : Var) (a b c : Term) (body : Code) (mark : Mark) (line : ℕ) → GoTells (run q n body) → GoTells (act q n (loop x a b c body mark) line)
    loop_tells x a b c body mark line tells s e k left h few =
        let va = value_done (value n a s.store) line (stand n s) _ e left h in
        let vb = value_done (value n b s.store) line (stand n s) _ e left va.goes in
        let vc = value_done (value n c s.store) line (stand n s) _ e left vb.goes in
        let vm = value_done (trips mark (n.numbers.shown va.value) (n.numbers.shown vb.value) (n.numbers.shown vc.value)) line (stand n s) _ e left vc.goes in
        let o = then_done (turns n vm.value (run q n body) (stepped n x (n.numbers.shown vc.value)) (with_turn n x (wrap (n.numbers.shown va.value)) s) k) (λ s1 j. Done (after_loop line vm.value (in_force n mark s.store) s1) j) e left vm.goes in
        let after = loop_told line vm.value (in_force n mark s.store) o.scene (same_few (after_loop line vm.value (in_force n mark s.store) o.scene) e (done_same (after_loop line vm.value (in_force n mark s.store) o.scene) e o.left left o.second) few) in
        turns_tell n (run q n body) tells x (n.numbers.shown vc.value) vm.value (with_turn n x (wrap (n.numbers.shown va.value)) s) o.scene k o.left o.first after

    mutual
      act_tells : (a : Act) → IsBare' called a → (line : ℕ) → GoTells (act q n a line)
      act_tells (assign x subs a) b line = assign_tells x subs a line
      act_tells (choose c f g) b line = choose_tells c f g line (run_tells f b.0) (run_tells g b.1)
      act_tells (loop x first last by body m) b line = loop_tells x first last by body m line (run_tells body b)
      act_tells (during c body) b line = λ s e k left h few. tests_tell c line body (run_tells body b) most_tests s e k left h few
      act_tells (call name args) b line = λ s e k left h few. calls n name args line b s e k left h few
      act_tells (runtime r) b line = absurd b

      pub run_tells : (c : Code) → IsBare called c → GoTells (run q n c)
      run_tells stop b = λ s e k left h few. same_few s e (done_same s e k left h) few
      run_tells (step line a rest) b = λ s e k left h few.
          let r = count_done (stand n s) k (λ j. then_do (act q n a line s j) (run q n rest)) e left h in
          let o = then_done (act q n a line s r.left) (run q n rest) e left r.goes in
          act_tells a b.0 line s o.scene r.left o.left o.first (run_tells rest b.1 o.scene e o.left left o.second few)

  -- the calls of a program without runtime calls
  module _ (ps : List Procedure) (called : List ℕ → Type 0) (bare : (name : List ℕ) (u : Procedure) → called name → find_unit ps name ≡ Some u → IsBare called u.body) where
    call_tells : (inner : Calls C) → CallsTell called inner → (n : Setting C) (ws : List Bool) (u : Procedure) → IsBare called u.body → (args : Terms) (line : ℕ) → GoTells (call_in inner n ws (Some u) args line)
    call_tells inner tells n ws u b args line s e k left h few =
        let v = value_done (actuals n args s.store) line (stand n s) _ e left h in
        from v.value (dummies_fit n.numbers u (entry_store n.numbers u.dummies v.value) u.dummies v.value) v.goes
      where
        from : (got : List (Actual C)) (f : Bool) →
            (if f then then_do (unit_run inner n u line (record s { store = entry_store n.numbers u.dummies got }) k) (λ s1 j. Done (record s { store = copied_out u.dummies ws got s1.store s.store; tape = s1.tape; events = s1.events }) j) else Trapped shape_trap line (stand n s)) ≡ Done e left → FewIn s
        from got false g = absurd cc
        from got true g =
            let start = entry_store n.numbers u.dummies got in
            let close : Scene C → ℕ → Outcome (Scene C) = λ s1 j. if s1.opened == 0 then Done s1 j else Trapped schedule_trap line (stand n s1) in
            let back : Scene C → ℕ → Outcome (Scene C) = λ s1 j. Done (record s { store = copied_out u.dummies ws got s1.store s.store; tape = s1.tape; events = s1.events }) j in
            let p = then_done (unit_run inner n u line (record s { store = start }) k) back e left g in
            let o = then_done (run inner (setting_in n u start) u.body (entered n u (record s { store = start })) k) close p.scene p.left p.first in
            let same = closed o.scene o.left p.scene p.left (o.scene.opened == 0) o.second in
            let handed : Scene C = record s { store = copied_out u.dummies ws got p.scene.store s.store; tape = p.scene.tape; events = p.scene.events } in
            let at_end : FewIn p.scene = same_few handed e (done_same handed e p.left left p.second) few in
            let inside = run_tells called inner tells (setting_in n u start) u.body b (entered n u (record s { store = start })) o.scene k o.left o.first (same_few o.scene p.scene same at_end) in
            λ on. (inside on).1
          where
            closed : (a : Scene C) (i : ℕ) (b : Scene C) (j : ℕ) (f : Bool) → (if f then Done a i else Trapped schedule_trap line (stand n a)) ≡ Done b j → a ≡ b
            closed a i b j true g = done_same a b i j g
            closed a i b j false g = absurd cc

    pub calls_tell : (depth : ℕ) → CallsTell called (calls_of ps depth)
    calls_tell zero n name args line c s e k left h few = absurd cc
    calls_tell (suc depth) n name args line c s e k left h few = go (calls_tell depth) (find_unit ps name) refl h
      where
        go : CallsTell called (calls_of ps depth) → (o : Option Procedure) → find_unit ps name ≡ o → call_in (calls_of ps depth) n (handed_back ps name) o args line s k ≡ Done e left → FewIn s
        go inner None f g = absurd cc
        go inner (Some u) f g = call_tells (calls_of ps depth) inner n (handed_back ps name) u (bare name u c f) args line s e k left g few

-- ---- the events the other way round

module _ (lines : ReversedLines) (reps : ℕ) where
  few_append : (a b : List Event) → AllFew lines reps a → AllFew lines reps b → AllFew lines reps (a ++ b)
  few_append [] b h g = g
  few_append (e ∷ a) b h g = (h.0, few_append a b h.1 g)

  few_turned : (es : List Event) → AllFew lines reps es → AllFew lines reps (reverse es)
  few_turned [] h = tt
  few_turned (e ∷ es) h = subst (AllFew lines reps) (sym (reverse-append (e ∷ []) es)) (few_append (reverse es) (e ∷ []) (few_turned es h.1) (h.0, tt))

  pub few_reversed : (es : List Event) → AllFew lines reps (reverse es) → AllFew lines reps es
  few_reversed es h = subst (AllFew lines reps) (reverse-reverse es) (few_turned (reverse es) h)
