-- Runs from a scene to a scene, with the number of statements that they take.
use Rattle.std.proofs.Common.{◌≡◌, ◌≤◌, ℕ, zero, suc, ◌+◌, true, false, List, sym, ap, ◌∙◌, arith}
use Rattle.std.specs.Prelude.{Ok, None, if◌then◌else◌}
use Rattle.adj_tree.specs.Code.{Var, Term, Test, Act, choose, loop, unmarked, Code, stop, step, Procedure}
use Rattle.adj_word.specs.Word.{wrap}
use Rattle.def_meaning.specs.Append.{◌+++◌, one}
use Rattle.def_meaning.specs.Value.{Setting, value, holds}
use Rattle.def_meaning.specs.Scene.{Scene, Go, stand, Done, then_do, counted, with_value}
use Rattle.def_meaning.specs.Run.{Calls, act, run, turns, stepped, with_turn, trips, after_loop}
use Rattle.def_meaning.specs.Units.{calls_of}
use Rattle.law_meaning.specs.Leads.{Leads}
use Rattle.def_meaning.proofs.Appends.{run_append}
use Rattle.law_meaning.proofs.Costs.{run_later}
use Rattle.law_sweep.proofs.Turns.{then-assoc, counted-then}
use Rattle.law_cost.specs.Sweeps.{statements_of}
use Rattle.law_cost.proofs.Runs.{left_same, IsStraight, straight_cost}

-- the list comes from one scene to another, and takes at most so many statements
pub record Takes {C : Type 0} (q : Calls C) (n : Setting C) (c : Code) (s e : Scene C) (most : ℕ) : Type 0 where
  pub cost : ℕ
  pub by : (k : ℕ) → run q n c s (cost + k) ≡ Done e k
  pub few : cost ≤ most

-- the same of a statement that was counted
pub record ActTakes {C : Type 0} (q : Calls C) (n : Setting C) (a : Act) (line : ℕ) (s e : Scene C) (most : ℕ) : Type 0 where
  pub cost : ℕ
  pub by : (k : ℕ) → act q n a line s (cost + k) ≡ Done e k
  pub few : cost ≤ most

-- the same of some turns of a loop
pub record TurnsTake {C : Type 0} (q : Calls C) (n : Setting C) (m : ℕ) (body : Code) (after : Scene C → Scene C) (s e : Scene C) (most : ℕ) : Type 0 where
  pub cost : ℕ
  pub by : (k : ℕ) → turns n m (run q n body) after s (cost + k) ≡ Done e k
  pub few : cost ≤ most

-- the turns of two numbers are the turns of the one and then those of the other
turns-append : {C : Type 0} (n : Setting C) (m m' : ℕ) (go : Go C) (after : Scene C → Scene C) (s : Scene C) (k : ℕ) → turns n (m + m') go after s k ≡ then_do (turns n m go after s k) (turns n m' go after)
turns-append n zero m' go after s k = let e : 0 + m' ≡ m' = omega arith in ap (λ z. turns n z go after s k) e
turns-append n (suc m) m' go after s k =
    (let e : suc m + m' ≡ suc (m + m') = omega arith in ap (λ z. turns n z go after s k) e)
    ∙ (λ i. counted (stand n s) k (λ j. then_do (go s j) (λ s1 l. turns-append n m m' go after (after s1) l i)))
    ∙ (λ i. counted (stand n s) k (λ j. sym (then-assoc (go s j) (λ s1 l. turns n m go after (after s1) l) (turns n m' go after)) i))
    ∙ sym (counted-then (stand n s) k (λ j. then_do (go s j) (λ s1 l. turns n m go after (after s1) l)) (turns n m' go after))

module _ {C : Type 0} (q : Calls C) (n : Setting C) where
  pub takes_stop : (s : Scene C) → Takes q n stop s s 0
  takes_stop s = record { cost = 0; by = λ k. let e : 0 + k ≡ k = omega arith in ap (Done s) e; few = omega arith }

  pub takes_more : (c : Code) (s e : Scene C) (m m' : ℕ) → m ≤ m' → Takes q n c s e m → Takes q n c s e m'
  takes_more c s e m m' h a = record { cost = a.cost; by = a.by; few = omega (arith, h, a.few) }

  pub takes_append : (c d : Code) (s s1 s2 : Scene C) (m1 m2 : ℕ) → Takes q n c s s1 m1 → Takes q n d s1 s2 m2 → Takes q n (c +++ d) s s2 (m1 + m2)
  takes_append c d s s1 s2 m1 m2 a b = record {
    cost = a.cost + b.cost;
    by = λ k.
        let e : a.cost + b.cost + k ≡ a.cost + (b.cost + k) = omega arith in
        ap (run q n (c +++ d) s) e ∙ run_append q n c d s (a.cost + (b.cost + k)) ∙ ap (λ o. then_do o (run q n d)) (a.by (b.cost + k)) ∙ b.by k;
    few = omega (arith, a.few, b.few);
  }

  pub takes_act : (line : ℕ) (a : Act) (c : Code) (s s1 s2 : Scene C) (m1 m2 : ℕ) → ActTakes q n a line s s1 m1 → Takes q n c s1 s2 m2 → Takes q n (step line a c) s s2 (1 + m1 + m2)
  takes_act line a c s s1 s2 m1 m2 h b = record {
    cost = suc (h.cost + b.cost);
    by = λ k.
        let e : suc (h.cost + b.cost) + k ≡ suc (h.cost + (b.cost + k)) = omega arith in
        ap (run q n (step line a c) s) e ∙ ap (λ o. then_do o (run q n c)) (h.by (b.cost + k)) ∙ b.by k;
    few = omega (arith, h.few, b.few);
  }

  pub act_takes_none : (line : ℕ) (a : Act) (s s1 : Scene C) → ((k : ℕ) → act q n a line s k ≡ Done s1 k) → ActTakes q n a line s s1 0
  act_takes_none line a s s1 h = record { cost = 0; by = λ k. let e : 0 + k ≡ k = omega arith in ap (act q n a line s) e ∙ h k; few = omega arith }

  pub takes_step : (line : ℕ) (a : Act) (c : Code) (s s1 s2 : Scene C) (m : ℕ) → ((k : ℕ) → act q n a line s k ≡ Done s1 k) → Takes q n c s1 s2 m → Takes q n (step line a c) s s2 (1 + m)
  takes_step line a c s s1 s2 m h b = takes_more (step line a c) s s2 (1 + 0 + m) (1 + m) (omega arith) (takes_act line a c s s1 s2 0 m (act_takes_none line a s s1 h) b)

  pub takes_one : (line : ℕ) (a : Act) (s s1 : Scene C) (m : ℕ) → ActTakes q n a line s s1 m → Takes q n (one line a) s s1 (1 + m)
  takes_one line a s s1 m h = takes_more (one line a) s s1 (1 + m + 0) (1 + m) (omega arith) (takes_act line a stop s s1 s1 m 0 h (takes_stop s1))

  -- straight code takes its statements
  pub takes_straight : (c : Code) → IsStraight c → (s e : Scene C) → Leads q n c s e → Takes q n c s e (statements_of c)
  takes_straight c i s e l = record {
    cost = l.cost;
    by = l.by;
    few = let h = straight_cost q n c i s e (l.cost + 0) 0 (l.by 0) in omega (arith, h);
  }

  -- what every run of a list takes, one run does
  pub takes_leads : (c : Code) (s e : Scene C) (m : ℕ) → Leads q n c s e → ((k left : ℕ) → run q n c s k ≡ Done e left → k ≤ left + m) → Takes q n c s e m
  takes_leads c s e m l h = record { cost = l.cost; by = l.by; few = let z = h (l.cost + 0) 0 (l.by 0) in omega (arith, z) }

  -- an IF whose condition holds, and one whose condition doesn't
  pub act_takes_then : (line : ℕ) (c : Test) (a b : Code) (s s1 : Scene C) (m : ℕ) → holds n c s.store ≡ Ok true → Takes q n a s s1 m → ActTakes q n (choose c a b) line s s1 m
  act_takes_then line c a b s s1 m h l = record {
    cost = l.cost;
    by = λ k. ap (λ z. with_value z line (stand n s) (λ p. if p then run q n a s (l.cost + k) else run q n b s (l.cost + k))) h ∙ l.by k;
    few = l.few;
  }

  pub act_takes_else : (line : ℕ) (c : Test) (a b : Code) (s s1 : Scene C) (m : ℕ) → holds n c s.store ≡ Ok false → Takes q n b s s1 m → ActTakes q n (choose c a b) line s s1 m
  act_takes_else line c a b s s1 m h l = record {
    cost = l.cost;
    by = λ k. ap (λ z. with_value z line (stand n s) (λ p. if p then run q n a s (l.cost + k) else run q n b s (l.cost + k))) h ∙ l.by k;
    few = l.few;
  }

  -- ---- turns

  module _ (body : Code) (after : Scene C → Scene C) where
    pub turns_take_none : (s : Scene C) → TurnsTake q n 0 body after s s 0
    turns_take_none s = record { cost = 0; by = λ k. let e : 0 + k ≡ k = omega arith in ap (Done s) e; few = omega arith }

    pub turns_take_more : (m : ℕ) (s s1 s2 : Scene C) (m1 m2 : ℕ) → Takes q n body s s1 m1 → TurnsTake q n m body after (after s1) s2 m2 → TurnsTake q n (suc m) body after s s2 (1 + m1 + m2)
    turns_take_more m s s1 s2 m1 m2 f g = record {
      cost = suc (f.cost + g.cost);
      by = λ k.
          let e : suc (f.cost + g.cost) + k ≡ suc (f.cost + (g.cost + k)) = omega arith in
          ap (turns n (suc m) (run q n body) after s) e ∙ ap (λ o. then_do o (λ s1 i. turns n m (run q n body) after (after s1) i)) (f.by (g.cost + k)) ∙ g.by k;
      few = omega (arith, f.few, g.few);
    }

    -- as many turns, with a higher bound
    pub turns_take_as : (m m' : ℕ) (s e : Scene C) (b b' : ℕ) → m ≡ m' → b ≤ b' → TurnsTake q n m body after s e b → TurnsTake q n m' body after s e b'
    turns_take_as m m' s e b b' h le t = record { cost = t.cost; by = λ k. ap (λ z. turns n z (run q n body) after s (t.cost + k)) (sym h) ∙ t.by k; few = omega (arith, le, t.few) }

  -- some turns, and then others
  pub turns_take_append : (body : Code) (after : Scene C → Scene C) (m m' : ℕ) (s s1 s2 : Scene C) (b1 b2 : ℕ) → TurnsTake q n m body after s s1 b1 → TurnsTake q n m' body after s1 s2 b2 → TurnsTake q n (m + m') body after s s2 (b1 + b2)
  turns_take_append body after m m' s s1 s2 b1 b2 f g = record {
    cost = f.cost + g.cost;
    by = λ k.
        let e : f.cost + g.cost + k ≡ f.cost + (g.cost + k) = omega arith in
        ap (turns n (m + m') (run q n body) after s) e
        ∙ turns-append n m m' (run q n body) after s (f.cost + (g.cost + k))
        ∙ ap (λ o. then_do o (turns n m' (run q n body) after)) (f.by (g.cost + k)) ∙ g.by k;
    few = omega (arith, f.few, g.few);
  }

  -- a loop that isn't marked, whose bounds have these values
  pub loop_takes : (line : ℕ) (x : Var) (ea eb ec : Term) (body : Code) (s s' : Scene C) (va vb vc : C) (m most : ℕ) → value n ea s.store ≡ Ok va → value n eb s.store ≡ Ok vb → value n ec s.store ≡ Ok vc → trips unmarked (n.numbers.shown va) (n.numbers.shown vb) (n.numbers.shown vc) ≡ Ok m →
      TurnsTake q n m body (stepped n x (n.numbers.shown vc)) (with_turn n x (wrap (n.numbers.shown va)) s) s' most → ActTakes q n (loop x ea eb ec body unmarked) line s s' most
  loop_takes line x ea eb ec body s s' va vb vc m most ha hb hc hm l = record {
    cost = l.cost;
    by = λ k. rw (ha, hb, hc, hm) (ap (λ o. then_do o (λ s1 j. Done (after_loop line m None s1) j)) (l.by k));
    few = l.few;
  }

-- over the calls of a program every run that is done takes as much
pub takes_at_most : {C : Type 0} (units : List Procedure) (depth : ℕ) (n : Setting C) (c : Code) (s s1 e : Scene C) (m k left : ℕ) → Takes (calls_of units depth) n c s s1 m → run (calls_of units depth) n c s k ≡ Done e left → k ≤ left + m
takes_at_most units depth n c s s1 e m k left t h =
    let same : k + t.cost ≡ t.cost + k = omega arith in
    let l = left_same e s1 (left + t.cost) k (sym (run_later units depth depth (omega arith) n c s e k left t.cost h) ∙ ap (run (calls_of units depth) n c s) same ∙ t.by k) in
    omega (arith, l, t.few)
