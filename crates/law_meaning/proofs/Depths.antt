-- A run with k statements is the same with calls to any depth of at least k, whatever it ends in: each call costs a statement.
use Rattle.std.proofs.Common.{◌≡◌, ℕ, zero, suc, ◌<◌, ◌≤◌, Bool, List, refl, ap, ◌∙◌, arith}
use Rattle.std.specs.Prelude.{Result, Option, Some, None, ◌==◌, if◌then◌else◌}
use Rattle.adj_tree.specs.Code.{Terms, Act, assign, choose, loop, during, call, runtime, Code, stop, step, Procedure}
use Rattle.adj_word.specs.Word.{wrap}
use Rattle.def_meaning.specs.Trap.{Trap, shape_trap, schedule_trap}
use Rattle.def_meaning.specs.Value.{Setting, value, holds}
use Rattle.def_meaning.specs.Scene.{Scene, stand, Go, Outcome, Done, Trapped, More, Full, then_do, with_value, counted}
use Rattle.def_meaning.specs.Run.{Calls, trips, most_tests, turns, tests, stepped, with_turn, in_force, after_loop, act, run}
use Rattle.def_meaning.specs.Written.{find_unit, handed_back}
use Rattle.def_meaning.specs.Units.{actuals, dummies_fit, entry_store, copied_out, setting_in, entered, unit_run, call_in, calls_of}
use Rattle.law_meaning.specs.Laws.{DeepEnough}
use Rattle.law_meaning.proofs.Verdicts.{Verdict}
use Rattle.law_meaning.proofs.Longer.{CallsAlike, act_verdict, run_verdict, calls_alike}
use Rattle.law_meaning.proofs.Costs.{spent}

-- what goes on from a result is the same where it is the same from that result
same_on : {A B : Type 0} (o : Outcome A) (f g : A → ℕ → Outcome B) → ((a : A) (j : ℕ) → o ≡ Done a j → f a j ≡ g a j) → then_do o f ≡ then_do o g
same_on (Done a j) f g h = h a j refl
same_on (Trapped t line w) f g h = refl
same_on (More w) f g h = refl
same_on (Full w) f g h = refl

-- no run leaves more statements than it had
none_gained : {B : Type 0} (f : ℕ → Outcome B) (b : B) (k j : ℕ) → Verdict f f k → f k ≡ Done b j → j ≤ k
none_gained f b k j v h = let w = spent f f b k j v h in omega (arith, w.is)

module _ {C : Type 0} (d : ℕ) (n : Setting C) (f g : Go C) (same : (s : Scene C) (k : ℕ) → k ≤ d → f s k ≡ g s k) (left : (s : Scene C) (k : ℕ) (s1 : Scene C) (j : ℕ) → f s k ≡ Done s1 j → j ≤ k) where
  turns_below : (m : ℕ) (after : Scene C → Scene C) (s : Scene C) (k : ℕ) → k ≤ d → turns n m f after s k ≡ turns n m g after s k
  turns_below zero after s k le = refl
  turns_below (suc m) after s zero le = refl
  turns_below (suc m) after s (suc k) le =
      same_on (f s k) (λ s1 i. turns n m f after (after s1) i) (λ s1 i. turns n m g after (after s1) i) (λ s1 j e. let l = left s k s1 j e in turns_below m after (after s1) j (omega (arith, l, le)))
      ∙ ap (λ o. then_do o (λ s1 i. turns n m g after (after s1) i)) (same s k (omega (arith, le)))

  counted_below : (m : ℕ) (t : Scene C → Result Bool Trap) (line : ℕ) (s : Scene C) (j : ℕ) → j ≤ d → ((i : ℕ) → i ≤ d → tests n m t line f s i ≡ tests n m t line g s i) → counted (stand n s) j (tests n m t line f s) ≡ counted (stand n s) j (tests n m t line g s)
  counted_below m t line s zero le h = refl
  counted_below m t line s (suc j) le h = h j (omega (arith, le))

  tests_below : (m : ℕ) (t : Scene C → Result Bool Trap) (line : ℕ) (s : Scene C) (k : ℕ) → k ≤ d → tests n m t line f s k ≡ tests n m t line g s k
  tests_below zero t line s k le = refl
  tests_below (suc m) t line s k le = λ i. with_value (t s) line (stand n s) (λ p. if p then turn (λ s1 j b. tests_below m t line s1 j b) i else Done s k)
    where
      turn : ((s1 : Scene C) (j : ℕ) → j ≤ d → tests n m t line f s1 j ≡ tests n m t line g s1 j) → then_do (f s k) (λ s1 j. counted (stand n s1) j (λ i. tests n m t line f s1 i)) ≡ then_do (g s k) (λ s1 j. counted (stand n s1) j (λ i. tests n m t line g s1 i))
      turn h =
          same_on (f s k) (λ s1 j. counted (stand n s1) j (λ i. tests n m t line f s1 i)) (λ s1 j. counted (stand n s1) j (λ i. tests n m t line g s1 i))
          (λ s1 j e. let l = left s k s1 j e in counted_below m t line s1 j (omega (arith, l, le)) (λ i b. h s1 i b))
          ∙ ap (λ o. then_do o (λ s1 j. counted (stand n s1) j (λ i. tests n m t line g s1 i))) (same s k le)

-- calls with fewer than d statements do the same
abbrev pub SameBelow : {C : Type 0} → ℕ → Calls C → Calls C → Type 0
SameBelow d q q' = (n : Setting _) (name : List ℕ) (args : Terms) (line : ℕ) (s : Scene _) (k : ℕ) → k < d → q n name args line s k ≡ q' n name args line s k

module _ {C : Type 0} (d : ℕ) (q q' : Calls C) (calls : SameBelow d q q') (alike : CallsAlike q q) (n : Setting C) where
  run_left : (c : Code) (s : Scene C) (k : ℕ) (s1 : Scene C) (j : ℕ) → run q n c s k ≡ Done s1 j → j ≤ k
  run_left c s k s1 j e = none_gained (run q n c s) s1 k j (run_verdict q q alike n c s k) e

  mutual
    act_below : (a : Act) (line : ℕ) (s : Scene C) (k : ℕ) → k < d → act q n a line s k ≡ act q' n a line s k
    act_below (assign x subs e) line s k lt = refl
    act_below (choose c a b) line s k lt = λ i. with_value (holds n c s.store) line (stand n s) (λ p. if p then run_below a s k (omega (arith, lt)) i else run_below b s k (omega (arith, lt)) i)
    act_below (loop x first last by body mark) line s k lt =
        λ i. with_value (value n first s.store) line (stand n s) (λ a. with_value (value n last s.store) line (stand n s) (λ b. with_value (value n by s.store) line (stand n s) (λ c.
        with_value (trips mark (n.numbers.shown a) (n.numbers.shown b) (n.numbers.shown c)) line (stand n s) (λ m.
        then_do (turns_below d n (run q n body) (run q' n body) (λ s1 j le. run_below body s1 j le) (run_left body) m (stepped n x (n.numbers.shown c)) (with_turn n x (wrap (n.numbers.shown a)) s) k (omega (arith, lt)) i)
        (λ s1 j. Done (after_loop line m (in_force n mark s.store) s1) j)))))
    act_below (during c body) line s k lt = tests_below d n (run q n body) (run q' n body) (λ s1 j le. run_below body s1 j le) (run_left body) most_tests (λ s1. holds n c s1.store) line s k (omega (arith, lt))
    act_below (call name args) line s k lt = calls n name args line s k lt
    act_below (runtime r) line s k lt = refl

    pub run_below : (c : Code) (s : Scene C) (k : ℕ) → k ≤ d → run q n c s k ≡ run q' n c s k
    run_below stop s k le = refl
    run_below (step line a rest) s zero le = refl
    run_below (step line a rest) s (suc k) le =
        same_on (act q n a line s k) (run q n rest) (run q' n rest)
        (λ s1 j e. let l = none_gained (act q n a line s) s1 k j (act_verdict q q alike n a line s k) e in run_below rest s1 j (omega (arith, l, le)))
        ∙ ap (λ o. then_do o (run q' n rest)) (act_below a line s k (omega (arith, le)))

module _ {C : Type 0} (d : ℕ) (q q' : Calls C) (calls : SameBelow d q q') (alike : CallsAlike q q) where
  pub unit_below : (n : Setting C) (u : Procedure) (line : ℕ) (s : Scene C) (k : ℕ) → k ≤ d → unit_run q n u line s k ≡ unit_run q' n u line s k
  unit_below n u line s k le =
      ap (λ o. then_do o (λ s1 j. if s1.opened == 0 then Done s1 j else Trapped schedule_trap line (stand n s1))) (run_below d q q' calls alike (setting_in n u s.store) u.body (entered n u s) k le)

  call_below : (n : Setting C) (ws : List Bool) (u : Option Procedure) (args : Terms) (line : ℕ) (s : Scene C) (k : ℕ) → k ≤ d → call_in q n ws u args line s k ≡ call_in q' n ws u args line s k
  call_below n ws None args line s k le = refl
  call_below n ws (Some u) args line s k le =
      λ i. with_value (actuals n args s.store) line (stand n s) (λ got.
      if dummies_fit n.numbers u (entry_store n.numbers u.dummies got) u.dummies got
      then then_do (unit_below n u line (record s { store = entry_store n.numbers u.dummies got }) k le i)
      (λ s1 j. Done (record s { store = copied_out u.dummies ws got s1.store s.store; tape = s1.tape; events = s1.events }) j)
      else Trapped shape_trap line (stand n s))

-- the calls of a program, by their depth
pub calls_below : {C : Type 0} (units : List Procedure) (d d' : ℕ) → d ≤ d' → SameBelow {C = C} d (calls_of units d) (calls_of units d')
calls_below units zero d' le n name args line s k lt = absurd (omega arith)
calls_below units (suc d) zero le n name args line s k lt = absurd (omega arith)
calls_below units (suc d) (suc d') le n name args line s k lt =
    call_below d (calls_of units d) (calls_of units d') (calls_below units d d' (omega arith)) (calls_alike units d d (omega arith)) n (handed_back units name) (find_unit units name) args line s k (omega (arith, lt))

pub deep_enough : {C : Type 0} → DeepEnough C
deep_enough units d d' le n c s k b = run_below d (calls_of units d) (calls_of units d') (calls_below units d d' le) (calls_alike units d d (omega arith)) n c s k b
