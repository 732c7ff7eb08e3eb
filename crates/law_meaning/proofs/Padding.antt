-- A padded list runs as the list does, at its own price.
use Rattle.std.proofs.Common.{◌≡◌, ℕ, zero, suc, ◌+◌, ◌*◌, ◌<◌, ◌≤◌, Bool, true, false, List, refl, sym, ap, ◌∙◌, subst, arith}
use Rattle.std.proofs.Math.Nat.{mul-le-mul_left, mul_comm}
use Rattle.std.specs.Prelude.{pos, Result, Ok, Err, if◌then◌else◌}
use Rattle.std.specs.Ordering.{int_eq}
use Rattle.adj_tree.specs.Code.{Terms, Act, assign, choose, loop, during, call, runtime, Code, stop, step}
use Rattle.adj_word.specs.Word.{wrap}
use Rattle.def_meaning.specs.Trap.{Trap, step_trap}
use Rattle.def_meaning.specs.Store.{set}
use Rattle.def_meaning.specs.Value.{Setting, value, target, holds}
use Rattle.def_meaning.specs.Scene.{Scene, Stand, stand, Go, Outcome, Done, Trapped, IsMore, then_do, with_value, counted}
use Rattle.def_meaning.specs.Run.{Calls, most_tests, trips, turns, tests, stepped, with_turn, in_force, after_loop, act, run}
use Rattle.def_meaning.specs.Runtime.{runtime_act}
use Rattle.law_meaning.specs.Follows.{Runs, Follows, both_more, both_done, both_trap, both_full}
use Rattle.def_meaning.specs.Padded.{idle, waiting, padded_act, padded}
use Rattle.law_meaning.proofs.Verdicts.{Ending, finished, stopped, filled, with_left, Verdict, goes_on, settled, value_verdict, done_verdict}
use Rattle.law_meaning.proofs.Longer.{runtime_verdict}
use Rattle.law_meaning.proofs.Following.{follows_done, follows_trap, follows_counted, follows_if, follows_then, follows_statement}

-- ---- statements that do nothing

module _ {C : Type 0} (q : Calls C) (n : Setting C) where
  -- one of them
  pub idle_done : (line : ℕ) (s : Scene C) (k : ℕ) → act q n idle line s k ≡ Done s k
  idle_done line s k = go (int_eq (n.numbers.shown (n.numbers.of_word (pos 0))) (n.numbers.shown (n.numbers.of_word (pos 0))))
    where
      go : (b : Bool) → (if b then run q n stop s k else run q n stop s k) ≡ Done s k
      go true = refl
      go false = refl

  -- with fewer statements than wait there is more to do
  pub waiting_more : (m line : ℕ) (c : Code) (s : Scene C) (j : ℕ) → j < m → IsMore (run q n (waiting m line c) s j)
  waiting_more zero line c s j lt = absurd (omega arith)
  waiting_more (suc m) line c s zero lt = tt
  waiting_more (suc m) line c s (suc j) lt = subst (λ o. IsMore (then_do o (run q n (waiting m line c)))) (sym (idle_done line s j)) (waiting_more m line c s j (omega arith))

  -- and with more the others are run
  pub waiting_past : (m line : ℕ) (c : Code) (s : Scene C) (j : ℕ) → run q n (waiting m line c) s (m + j) ≡ run q n c s j
  waiting_past zero line c s j = let e : 0 + j ≡ j = omega arith in ap (run q n c s) e
  waiting_past (suc m) line c s j =
      let e : suc m + j ≡ suc (m + j) = omega arith in
      ap (run q n (waiting (suc m) line c) s) e
      ∙ ap (λ o. then_do o (run q n (waiting m line c))) (idle_done line s (m + j))
      ∙ waiting_past m line c s j

-- ---- a run follows itself

at_least : (w c : ℕ) → 1 ≤ w → c ≤ w * c
at_least w c h = let l = mul-le-mul_left c h in let e : c * 1 ≡ c = omega arith in let f : c * w ≡ w * c = mul_comm c w in omega (arith, l, e, f)

-- the same result
abbrev pub Equal : {A : Type 0} → A → A → Type 0
Equal a b = a ≡ b

module _ {A : Type 0} (w : ℕ) (some : 1 ≤ w) where
  -- a run that comes to one end with whatever is left follows itself
  pub follows_self : (f : Runs A) (k : ℕ) → Verdict f f k → Follows Equal w 0 f f k
  follows_self f k (goes_on m) = both_more (m k (omega arith)) m
  follows_self f k (settled s) = go s.ending refl
    where
      now : (e : Ending A) → s.ending ≡ e → f k ≡ with_left e s.rest
      now e is = ap f s.is ∙ s.same s.rest ∙ ap (λ z. with_left z s.rest) is

      by : (e : Ending A) → s.ending ≡ e → (j : ℕ) → f (s.cost + j) ≡ with_left e j
      by e is j = s.same j ∙ ap (λ z. with_left z j) is

      go : (e : Ending A) → s.ending ≡ e → Follows Equal w 0 f f k
      go (finished a) is = both_done (record {
        first = a;
        spent = s.cost;
        left = s.rest;
        is = s.is;
        done = now (finished a) is;
        second = a;
        cost = s.cost;
        least = omega arith;
        most = omega (arith, at_least w s.cost some);
        early = s.early;
        by = by (finished a) is;
        related = refl;
      })
      go (stopped t line x) is = both_trap (record { kind = t; line = line; stands = x; done = now (stopped t line x) is; other = t; stands_there = x; cost = s.cost; by = by (stopped t line x) is })
      go (filled x) is = both_full (record { stands = x; done = now (filled x) is; stands_there = x; cost = s.cost; by = by (filled x) is })

-- what follows a value
pub follows_value : {V A : Type 0} (w : ℕ) (v : Result V Trap) (line : ℕ) (x : Stand) (f g : V → Runs A) (k : ℕ) → ((a : V) → Follows Equal w 0 (f a) (g a) k) → Follows Equal w 0 (λ j. with_value v line x (λ a. f a j)) (λ j. with_value v line x (λ a. g a j)) k
follows_value w (Ok a) line x f g k h = h a
follows_value w (Err t) line x f g k h = follows_trap w 0 Equal t t line x x k

-- one run after another, where the results are the same
pub follows_next : {A B : Type 0} (w : ℕ) (o p : Runs A) (f g : A → Runs B) (k : ℕ) → Follows Equal w 0 o p k → ((a : A) (i : ℕ) → Follows Equal w 0 (f a) (g a) i) → Follows Equal w 0 (λ j. then_do (o j) f) (λ j. then_do (p j) g) k
follows_next w o p f g k h d = follows_then w 0 0 Equal Equal o p f g k h (λ a b i le e. subst (λ z. Follows Equal w 0 (f a) (g z) i) e (d a i))

-- ---- padded lists

module _ {C : Type 0} (w : ℕ) (some : 1 ≤ w) (n : Setting C) where
  -- the turns of a loop
  turns_follow : (m : ℕ) (f g : Go C) (after : Scene C → Scene C) → ((s : Scene C) (k : ℕ) → Follows Equal w 0 (f s) (g s) k) → (s : Scene C) (k : ℕ) → Follows Equal w 0 (turns n m f after s) (turns n m g after s) k
  turns_follow zero f g after h s k = follows_done w 0 Equal s s k refl
  turns_follow (suc m) f g after h s k =
      follows_counted w 0 Equal (stand n s) (stand n s) (λ j. then_do (f s j) (λ s1 i. turns n m f after (after s1) i)) (λ j. then_do (g s j) (λ s1 i. turns n m g after (after s1) i)) k some
      (λ j e. follows_next w (f s) (g s) (λ s1 i. turns n m f after (after s1) i) (λ s1 i. turns n m g after (after s1) i) j (h s j) (λ s1 i. turns_follow m f g after h (after s1) i))

  -- the tests and turns of a DO WHILE
  tests_follow : (m : ℕ) (test : Scene C → Result Bool Trap) (line : ℕ) (f g : Go C) → ((s : Scene C) (k : ℕ) → Follows Equal w 0 (f s) (g s) k) → (s : Scene C) (k : ℕ) → Follows Equal w 0 (tests n m test line f s) (tests n m test line g s) k
  tests_follow zero test line f g h s k =
      follows_value w (test s) line (stand n s) (λ p j. if p then Trapped step_trap line (stand n s) else Done s j) (λ p j. if p then Trapped step_trap line (stand n s) else Done s j) k
      (λ p. follows_if w 0 Equal p (λ j. Trapped step_trap line (stand n s)) (λ j. Done s j) (λ j. Trapped step_trap line (stand n s)) (λ j. Done s j) k (follows_trap w 0 Equal step_trap step_trap line (stand n s) (stand n s) k) (follows_done w 0 Equal s s k refl))
  tests_follow (suc m) test line f g h s k =
      let again : Go C → Go C = λ b s1 j. counted (stand n s1) j (λ i. tests n m test line b s1 i) in
      follows_value w (test s) line (stand n s) (λ p j. if p then then_do (f s j) (again f) else Done s j) (λ p j. if p then then_do (g s j) (again g) else Done s j) k
      (λ p. follows_if w 0 Equal p (λ j. then_do (f s j) (again f)) (λ j. Done s j) (λ j. then_do (g s j) (again g)) (λ j. Done s j) k
      (follows_next w (f s) (g s) (again f) (again g) k (h s k)
      (λ s1 j. follows_counted w 0 Equal (stand n s1) (stand n s1) (tests n m test line f s1) (tests n m test line g s1) j some (λ i e. tests_follow m test line f g h s1 i)))
      (follows_done w 0 Equal s s k refl))

-- calls follow calls
abbrev pub CallsFollow : {C : Type 0} → ℕ → Calls C → Calls C → Type 0
CallsFollow w q q' = (n : Setting _) (name : List ℕ) (args : Terms) (line : ℕ) (s : Scene _) (k : ℕ) → Follows Equal w 0 (q n name args line s) (q' n name args line s) k

module _ {C : Type 0} (w : ℕ) (extra : Act → ℕ) (few : (a : Act) → extra a + 1 ≤ w) (q q' : Calls C) (calls : CallsFollow w q q') (n : Setting C) where
  abbrev some : 1 ≤ w
  some = let l = few idle in omega (arith, l)

  mutual
    -- a statement
    act_padded : (a : Act) (line : ℕ) (s : Scene C) (k : ℕ) → Follows Equal w 0 (act q n a line s) (act q' n (padded_act extra a) line s) k
    act_padded (assign x subs e) line s k =
        follows_self w some (act q n (assign x subs e) line s) k
        (value_verdict (value n e s.store) line (stand n s) _ _ k (λ c. value_verdict (target n x subs s.store) line (stand n s) (λ i j. Done (record s { store = set s.store x i c }) j) _ k (λ i. done_verdict _ k)))
    act_padded (choose c a b) line s k =
        follows_value w (holds n c s.store) line (stand n s) (λ p j. if p then run q n a s j else run q n b s j) (λ p j. if p then run q' n (padded extra a) s j else run q' n (padded extra b) s j) k
        (λ p. follows_if w 0 Equal p (run q n a s) (run q n b s) (run q' n (padded extra a) s) (run q' n (padded extra b) s) k (run_padded a s k) (run_padded b s k))
    act_padded (loop x first last by body mark) line s k =
        follows_value w (value n first s.store) line (stand n s) _ _ k (λ a. follows_value w (value n last s.store) line (stand n s) _ _ k (λ b. follows_value w (value n by s.store) line (stand n s) _ _ k (λ c.
        follows_value w (trips mark (n.numbers.shown a) (n.numbers.shown b) (n.numbers.shown c)) line (stand n s) _ _ k (λ m.
        let after = stepped n x (n.numbers.shown c) in
        let start = with_turn n x (wrap (n.numbers.shown a)) s in
        let told : Scene C → ℕ → Outcome (Scene C) = λ s1 j. Done (after_loop line m (in_force n mark s.store) s1) j in
        follows_next w (turns n m (run q n body) after start) (turns n m (run q' n (padded extra body)) after start) told told k
        (turns_follow w some n m (run q n body) (run q' n (padded extra body)) after (λ s1 j. run_padded body s1 j) start k)
        (λ s1 j. follows_done w 0 Equal _ _ j refl)))))
    act_padded (during c body) line s k = tests_follow w some n most_tests (λ s1. holds n c s1.store) line (run q n body) (run q' n (padded extra body)) (λ s1 j. run_padded body s1 j) s k
    act_padded (call name args) line s k = calls n name args line s k
    act_padded (runtime r) line s k = follows_self w some (runtime_act n r line s) k (runtime_verdict n r line s k)

    -- a padded list follows the list: it ends in the same scene, after at most w times as many statements
    pub run_padded : (c : Code) (s : Scene C) (k : ℕ) → Follows Equal w 0 (run q n c s) (run q' n (padded extra c) s) k
    run_padded stop s k = follows_done w 0 Equal s s k refl
    run_padded (step line a rest) s k =
        let on : Code = step line (padded_act extra a) (padded extra rest) in
        follows_statement w 0 Equal (λ j. then_do (act q n a line s j) (run q n rest)) (λ j. then_do (act q' n (padded_act extra a) line s j) (run q' n (padded extra rest))) (run q' n (waiting (extra a) line on) s) (extra a)
        (waiting_more q' n (extra a) line on s) (stand n s) (stand n s) (waiting_past q' n (extra a) line on s) (let l = few a in omega (arith, l)) k
        (λ j e. follows_next w (act q n a line s) (act q' n (padded_act extra a) line s) (run q n rest) (run q' n (padded extra rest)) j (act_padded a line s j) (λ s1 i. run_padded rest s1 i))
