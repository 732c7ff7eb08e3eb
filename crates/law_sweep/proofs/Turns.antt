-- The turns of a loop, one after another.
use Rattle.std.proofs.Common.{◌≡◌, ℕ, zero, suc, ◌+◌, refl, sym, ap, ◌∙◌, arith, List, [], ◌++◌}
use Rattle.adj_tree.specs.Code.{Var, Code}
use Rattle.def_meaning.specs.Store.{Store, set}
use Rattle.def_meaning.specs.Value.{Setting}
use Rattle.adj_word.specs.Word.{add}
use Rattle.std.specs.Prelude.{ℤ}
use Rattle.def_meaning.specs.Scene.{Scene, Stand, stand, Go, Outcome, Done, Trapped, More, Full, then_do, counted}
use Rattle.def_meaning.specs.Run.{Calls, run, turns, stepped}
use Rattle.law_sweep.specs.Scenes.{Course, scene}
use Rattle.def_sweep.specs.Reversals.{Reversal, LoopRun, ReversedLines}
use Rattle.law_sweep.specs.Tells.{Tells, Marks}
use Rattle.law_sweep.specs.Runs.{Comes, Passes}
use Rattle.law_sweep.proofs.Told.{tells_nothing, tells_then, marks_nothing, marks_then}

-- the store after the step of a turn
abbrev pub next_store : {C : Type 0} → Setting C → Var → ℤ → Store C → Store C
next_store n x c s = set s x 0 (n.numbers.of_word (add (n.numbers.shown (s x 0)) c))

-- some turns come from a store and a tape to others
pub record TurnsCome {C : Type 0} (q : Calls C) (n : Setting C) (m : ℕ) (body : Code) (x : Var) (c : ℤ) (base : Course) (s s' : Store C) (t t' : List C) (rs : List Reversal) : Type 0 where
  pub later : Course
  pub tells : Tells n.level base later rs
  pub cost : ℕ
  pub by : (k : ℕ) → turns n m (run q n body) (stepped n x c) (scene base s t) (cost + k) ≡ Done (scene later s' t') k

-- the same of the program, which tells its runs of loops
pub record TurnsPass {C : Type 0} (lines : ReversedLines) (q : Calls C) (n : Setting C) (m : ℕ) (body : Code) (x : Var) (c : ℤ) (base : Course) (s s' : Store C) (t : List C) (loops : List LoopRun) : Type 0 where
  pub later : Course
  pub tells : Marks lines n.level base later loops
  pub cost : ℕ
  pub by : (k : ℕ) → turns n m (run q n body) (stepped n x c) (scene base s t) (cost + k) ≡ Done (scene later s' t) k

pub then-assoc : {A B C : Type 0} (o : Outcome A) (f : A → ℕ → Outcome B) (g : B → ℕ → Outcome C) → then_do (then_do o f) g ≡ then_do o (λ a k. then_do (f a k) g)
then-assoc (Done a k) f g = refl
then-assoc (Trapped t line w) f g = refl
then-assoc (More w) f g = refl
then-assoc (Full w) f g = refl

pub counted-then : {A B : Type 0} (w : Stand) (k : ℕ) (go : ℕ → Outcome A) (g : A → ℕ → Outcome B) → then_do (counted w k go) g ≡ counted w k (λ j. then_do (go j) g)
counted-then w zero go g = refl
counted-then w (suc k) go g = refl

-- the turns of m, and then one more
turns-last : {C : Type 0} (n : Setting C) (m : ℕ) (go : Go C) (after : Scene C → Scene C) (s : Scene C) (k : ℕ) → turns n (suc m) go after s k ≡ then_do (turns n m go after s k) (λ s1 i. turns n 1 go after s1 i)
turns-last n zero go after s k = refl
turns-last n (suc m) go after s k =
    (λ i. counted (stand n s) k (λ j. then_do (go s j) (λ s1 l. turns-last n m go after (after s1) l i)))
    ∙ (λ i. counted (stand n s) k (λ j. sym (then-assoc (go s j) (λ s1 l. turns n m go after (after s1) l) (λ s1 l. turns n 1 go after s1 l)) i))
    ∙ sym (counted-then (stand n s) k (λ j. then_do (go s j) (λ s1 l. turns n m go after (after s1) l)) (λ s1 l. turns n 1 go after s1 l))

module _ {C : Type 0} (q : Calls C) (n : Setting C) (body : Code) (x : Var) (c : ℤ) where
  pub turns_none : (b : Course) (s : Store C) (t : List C) → TurnsCome q n 0 body x c b s s t t []
  turns_none b s t = record { later = b; tells = tells_nothing n.level b; cost = 0; by = λ k. let e : 0 + k ≡ k = omega arith in ap (Done (scene b s t)) e }

  -- the first turn, and the others
  pub turns_more : {ra rb : List Reversal} (m : ℕ) (b : Course) (s s1 s2 : Store C) (t t1 t2 : List C) (f : Comes q n body b s s1 t t1 ra) → TurnsCome q n m body x c f.later (next_store n x c s1) s2 t1 t2 rb → TurnsCome q n (suc m) body x c b s s2 t t2 (ra ++ rb)
  turns_more {ra} {rb} m b s s1 s2 t t1 t2 f g = record {
    later = g.later;
    tells = tells_then n.level b f.later g.later ra rb f.tells g.tells;
    cost = suc (f.runs.cost + g.cost);
    by = λ k.
        let e : suc (f.runs.cost + g.cost) + k ≡ suc (f.runs.cost + (g.cost + k)) = omega arith in
        ap (turns n (suc m) (run q n body) (stepped n x c) (scene b s t)) e ∙ ap (λ o. then_do o (λ s1 i. turns n m (run q n body) (stepped n x c) (stepped n x c s1) i)) (f.runs.by (g.cost + k)) ∙ g.by k;
  }

  -- the others, and the last turn
  pub turns_then : {ra rb : List Reversal} (m : ℕ) (b : Course) (s s1 s2 : Store C) (t t1 t2 : List C) (f : TurnsCome q n m body x c b s s1 t t1 ra) → Comes q n body f.later s1 s2 t1 t2 rb → TurnsCome q n (suc m) body x c b s (next_store n x c s2) t t2 (ra ++ rb)
  turns_then {ra} {rb} m b s s1 s2 t t1 t2 f g = record {
    later = g.later;
    tells = tells_then n.level b f.later g.later ra rb f.tells g.tells;
    cost = f.cost + suc g.runs.cost;
    by = λ k.
        let e : f.cost + suc g.runs.cost + k ≡ f.cost + suc (g.runs.cost + k) = omega arith in
        ap (turns n (suc m) (run q n body) (stepped n x c) (scene b s t)) e
        ∙ turns-last n m (run q n body) (stepped n x c) (scene b s t) (f.cost + suc (g.runs.cost + k))
        ∙ ap (λ o. then_do o (λ s1 i. turns n 1 (run q n body) (stepped n x c) s1 i)) (f.by (suc (g.runs.cost + k)))
        ∙ ap (λ o. then_do o (λ s1 i. turns n 0 (run q n body) (stepped n x c) (stepped n x c s1) i)) (g.runs.by k);
  }

  -- the same of the program
  module _ (lines : ReversedLines) where
    pub turns_pass_none : (b : Course) (s : Store C) (t : List C) → TurnsPass lines q n 0 body x c b s s t []
    turns_pass_none b s t = record { later = b; tells = marks_nothing lines n.level b; cost = 0; by = λ k. let e : 0 + k ≡ k = omega arith in ap (Done (scene b s t)) e }

    pub turns_pass_more : (la lb : List LoopRun) (m : ℕ) (b : Course) (s s1 s2 : Store C) (t : List C) (f : Passes lines q n body b s s1 t la) → TurnsPass lines q n m body x c f.later (next_store n x c s1) s2 t lb → TurnsPass lines q n (suc m) body x c b s s2 t (lb ++ la)
    turns_pass_more la lb m b s s1 s2 t f g = record {
      later = g.later;
      tells = marks_then lines n.level b f.later g.later la lb f.tells g.tells;
      cost = suc (f.runs.cost + g.cost);
      by = λ k.
          let e : suc (f.runs.cost + g.cost) + k ≡ suc (f.runs.cost + (g.cost + k)) = omega arith in
          ap (turns n (suc m) (run q n body) (stepped n x c) (scene b s t)) e ∙ ap (λ o. then_do o (λ s1 i. turns n m (run q n body) (stepped n x c) (stepped n x c s1) i)) (f.runs.by (g.cost + k)) ∙ g.by k;
    }
