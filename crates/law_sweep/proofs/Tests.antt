-- The tests and turns of a DO WHILE, one after another.
use Rattle.std.proofs.Common.{◌≡◌, ◌<◌, ◌^◌, ℕ, zero, suc, ◌+◌, ◌⊎◌, inl, inr, Bool, true, false, refl, ap, ◌∙◌, arith, List, [], ◌++◌, if◌then◌else◌}
use Rattle.std.specs.Prelude.{Ok}
use Rattle.adj_tree.specs.Code.{Test, during, Code}
use Rattle.def_meaning.specs.Trap.{step_trap}
use Rattle.def_meaning.specs.Store.{Store}
use Rattle.def_meaning.specs.Value.{Setting, holds}
use Rattle.def_meaning.specs.Scene.{Scene, stand, Outcome, Done, Trapped, then_do, counted}
use Rattle.def_meaning.specs.Run.{Calls, run, tests, most_tests}
use Rattle.law_meaning.proofs.Inversions.{then_done, value_done, count_done, done_same}
use Rattle.law_sweep.specs.Scenes.{Course, scene}
use Rattle.def_sweep.specs.Reversals.{Reversal, LoopRun, ReversedLines}
use Rattle.law_sweep.specs.Tells.{Tells, Marks}
use Rattle.law_sweep.specs.Runs.{Comes, ActComes, Passes, ActPasses}
use Rattle.law_sweep.proofs.Told.{tells_nothing, tells_then, marks_nothing, marks_then}

-- as many turns as a DO WHILE may have fit a word
pub most_small : most_tests < 2 ^ 63
unfolding most_tests
most_small = omega arith

-- some tests and turns come from a store and a tape to others, where the test fails
pub record TestsCome {C : Type 0} (q : Calls C) (n : Setting C) (m : ℕ) (c : Test) (line : ℕ) (body : Code) (base : Course) (s s' : Store C) (t t' : List C) (rs : List Reversal) : Type 0 where
  pub later : Course
  pub tells : Tells n.level base later rs
  pub cost : ℕ
  pub by : (k : ℕ) → tests n m (λ (z : Scene C). holds n c z.store) line (run q n body) (scene base s t) (cost + k) ≡ Done (scene later s' t') k

-- the same of the program, which tells its runs of loops
pub record TestsPass {C : Type 0} (lines : ReversedLines) (q : Calls C) (n : Setting C) (m : ℕ) (c : Test) (line : ℕ) (body : Code) (base : Course) (s s' : Store C) (t : List C) (loops : List LoopRun) : Type 0 where
  pub later : Course
  pub tells : Marks lines n.level base later loops
  pub cost : ℕ
  pub by : (k : ℕ) → tests n m (λ (z : Scene C). holds n c z.store) line (run q n body) (scene base s t) (cost + k) ≡ Done (scene later s' t) k

module _ {C : Type 0} (q : Calls C) (n : Setting C) (c : Test) (line : ℕ) (body : Code) where
  -- the test fails
  pub tests_none : (m : ℕ) (b : Course) (s : Store C) (t : List C) → holds n c s ≡ Ok false → TestsCome q n m c line body b s s t t []
  tests_none zero b s t h = record { later = b; tells = tells_nothing n.level b; cost = 0; by = λ k. let e : 0 + k ≡ k = omega arith in rw h (ap (Done (scene b s t)) e) }
  tests_none (suc m) b s t h = record { later = b; tells = tells_nothing n.level b; cost = 0; by = λ k. let e : 0 + k ≡ k = omega arith in rw h (ap (Done (scene b s t)) e) }

  -- it holds: a turn, and the tests after it
  pub tests_more : (m : ℕ) (b : Course) (s s1 s2 : Store C) (t t1 t2 : List C) → holds n c s ≡ Ok true → (f : Comes q n body b s s1 t t1 []) → TestsCome q n m c line body f.later s1 s2 t1 t2 [] → TestsCome q n (suc m) c line body b s s2 t t2 []
  tests_more m b s s1 s2 t t1 t2 h f g = record {
    later = g.later;
    tells = tells_then n.level b f.later g.later [] [] f.tells g.tells;
    cost = f.runs.cost + suc g.cost;
    by = λ k.
        let e : f.runs.cost + suc g.cost + k ≡ f.runs.cost + suc (g.cost + k) = omega arith in
        ap (tests n (suc m) (λ (z : Scene C). holds n c z.store) line (run q n body) (scene b s t)) e
        ∙ rw h (ap (λ o. then_do o (λ s1 j. counted (stand n s1) j (λ i. tests n m (λ (z : Scene C). holds n c z.store) line (run q n body) s1 i))) (f.runs.by (suc (g.cost + k))) ∙ g.by k);
  }

  -- the statement
  pub while_comes : (b : Course) (s s' : Store C) (t t' : List C) → TestsCome q n most_tests c line body b s s' t t' [] → ActComes q n (during c body) line b s s' t t' []
  while_comes b s s' t t' l = record { later = l.later; tells = l.tells; runs = record { cost = l.cost; by = l.by } }

-- ---- of the program

module _ {C : Type 0} (lines : ReversedLines) (q : Calls C) (n : Setting C) (c : Test) (line : ℕ) (body : Code) where
  pub tests_pass_none : (m : ℕ) (b : Course) (s : Store C) (t : List C) → holds n c s ≡ Ok false → TestsPass lines q n m c line body b s s t []
  tests_pass_none m b s t h = record { later = b; tells = marks_nothing lines n.level b; cost = 0; by = λ k. let e : 0 + k ≡ k = omega arith in fails m k ∙ ap (Done (scene b s t)) e }
    where
      fails : (m k : ℕ) → tests n m (λ (z : Scene C). holds n c z.store) line (run q n body) (scene b s t) (0 + k) ≡ Done (scene b s t) (0 + k)
      fails zero k = rw h refl
      fails (suc m) k = rw h refl

  pub tests_pass_more : (la lb : List LoopRun) (m : ℕ) (b : Course) (s s1 s2 : Store C) (t : List C) → holds n c s ≡ Ok true → (f : Passes lines q n body b s s1 t la) → TestsPass lines q n m c line body f.later s1 s2 t lb → TestsPass lines q n (suc m) c line body b s s2 t (lb ++ la)
  tests_pass_more la lb m b s s1 s2 t h f g = record {
    later = g.later;
    tells = marks_then lines n.level b f.later g.later la lb f.tells g.tells;
    cost = f.runs.cost + suc g.cost;
    by = λ k.
        let e : f.runs.cost + suc g.cost + k ≡ f.runs.cost + suc (g.cost + k) = omega arith in
        ap (tests n (suc m) (λ (z : Scene C). holds n c z.store) line (run q n body) (scene b s t)) e
        ∙ rw h (ap (λ o. then_do o (λ s1 j. counted (stand n s1) j (λ i. tests n m (λ (z : Scene C). holds n c z.store) line (run q n body) s1 i))) (f.runs.by (suc (g.cost + k))) ∙ g.by k);
  }

  pub while_passes : (loops : List LoopRun) (b : Course) (s s' : Store C) (t : List C) → TestsPass lines q n most_tests c line body b s s' t loops → ActPasses lines q n (during c body) line b s s' t loops
  while_passes loops b s s' t l = record { later = l.later; tells = l.tells; runs = record { cost = l.cost; by = l.by } }

-- ---- tests that were done

module _ {C : Type 0} (q : Calls C) (n : Setting C) (c : Test) (line : ℕ) (body : Code) where
  -- the test failed
  pub record Failed (s s' : Scene C) : Type 0 where
    pub fails : holds n c s.store ≡ Ok false
    pub stays : s ≡ s'

  -- it held: a turn was done, and the tests after it
  pub record TurnDone (m : ℕ) (s s' : Scene C) (k k' : ℕ) : Type 0 where
    pub holds_there : holds n c s.store ≡ Ok true
    pub end : Scene C
    pub left : ℕ
    pub later : ℕ
    pub turn : run q n body s k ≡ Done end left
    pub others : tests n m (λ (z : Scene C). holds n c z.store) line (run q n body) end later ≡ Done s' k'

  pub last_test : (s s' : Scene C) (k k' : ℕ) → tests n 0 (λ (z : Scene C). holds n c z.store) line (run q n body) s k ≡ Done s' k' → Failed s s'
  last_test s s' k k' h =
      let v = value_done (holds n c s.store) line (stand n s) (λ r. if r then Trapped step_trap line (stand n s) else Done s k) s' k' h in
      go v.value v.is v.goes
    where
      go : (r : Bool) → holds n c s.store ≡ Ok r → (if r then Trapped step_trap line (stand n s) else Done s k) ≡ Done s' k' → Failed s s'
      go true is g = cc
      go false is g = record { fails = is; stays = done_same s s' k k' g }

  pub next_test : (m : ℕ) (s s' : Scene C) (k k' : ℕ) → tests n (suc m) (λ (z : Scene C). holds n c z.store) line (run q n body) s k ≡ Done s' k' → Failed s s' ⊎ TurnDone m s s' k k'
  next_test m s s' k k' h =
      let v = value_done (holds n c s.store) line (stand n s) (λ r. if r then then_do (run q n body s k) after else Done s k) s' k' h in
      go v.value v.is v.goes
    where
      after : Scene C → ℕ → Outcome (Scene C)
      after s1 l = counted (stand n s1) l (λ o. tests n m (λ (z : Scene C). holds n c z.store) line (run q n body) s1 o)

      go : (r : Bool) → holds n c s.store ≡ Ok r → (if r then then_do (run q n body s k) after else Done s k) ≡ Done s' k' → Failed s s' ⊎ TurnDone m s s' k k'
      go false is g = inl (record { fails = is; stays = done_same s s' k k' g })
      go true is g =
          let o = then_done (run q n body s k) after s' k' g in
          let r = count_done (stand n o.scene) o.left (λ l. tests n m (λ (z : Scene C). holds n c z.store) line (run q n body) o.scene l) s' k' o.second in
          inr (record { holds_there = is; end = o.scene; left = o.left; later = r.left; turn = o.first; others = r.goes })
