-- Lists of assignments and IFs, and the same lists padded by their weights: they end alike, after at most what the list weighs.
use Rattle.std.proofs.Common.{◌≡◌, ℕ, zero, suc, ◌+◌, ◌-◌, ◌<◌, ◌≤◌, ◌⊎◌, inl, inr, Bool, true, false, refl, sym, ap, ◌∙◌, arith, subst}
use Rattle.std.proofs.lemmas.Bool.{cases_lt}
use Rattle.std.specs.Prelude.{Result, Ok, Err, if◌then◌else◌}
use Rattle.adj_tree.specs.Code.{Var, Term, Terms, Test, Act, assign, choose, loop, during, call, runtime, Code, stop, step}
use Rattle.def_meaning.specs.Append.{◌+++◌}
use Rattle.def_meaning.specs.Trap.{Trap}
use Rattle.def_meaning.specs.Store.{set}
use Rattle.def_meaning.specs.Value.{Setting, value, target, holds}
use Rattle.def_meaning.specs.Scene.{Scene, Stand, stand, IsMore, Outcome, Done, Trapped, then_do, with_value, counted}
use Rattle.def_meaning.specs.Run.{Calls, act, run}
use Rattle.law_meaning.specs.Follows.{Runs}
use Rattle.def_meaning.specs.Padded.{waiting, padded_act, padded}
use Rattle.law_meaning.proofs.Verdicts.{Ending, finished, stopped, filled, with_left, more_then}
use Rattle.law_meaning.proofs.Padding.{waiting_more, waiting_past}
use Rattle.def_kernel.specs.Weights.{cost_with_bodies, total_cost}

abbrev mutual
  -- assignments and IFs of such alone
  pub IsFlatAct : Act → Type 0
  IsFlatAct (assign x subs e) = Unit {0}
  IsFlatAct (choose c a b) = IsFlat a × IsFlat b
  IsFlatAct (loop x first last by body m) = ⊥
  IsFlatAct (during c body) = ⊥
  IsFlatAct (call name args) = ⊥
  IsFlatAct (runtime r) = ⊥

  pub IsFlat : Code → Type 0
  IsFlat stop = Unit {0}
  IsFlat (step line a rest) = IsFlatAct a × IsFlat rest

-- flat lists one after another
pub flat_append : (c d : Code) → IsFlat c → IsFlat d → IsFlat (c +++ d)
flat_append stop d f g = g
flat_append (step line a c) d f g = (f.0, flat_append c d f.1 g)

-- two runs come to one end, the second after at most m statements
pub record Comes {A : Type 0} (o p : Runs A) (m : ℕ) : Type 0 where
  pub ending : Ending A
  pub cost : ℕ
  pub dearer : ℕ
  pub least : cost ≤ dearer
  pub most : dearer ≤ m
  pub by : (j : ℕ) → o (cost + j) ≡ with_left ending j
  pub early : (j : ℕ) → j < dearer → IsMore (p j)
  pub past : (j : ℕ) → p (dearer + j) ≡ with_left ending j

-- at once
at_once : {A : Type 0} (e : Ending A) (m : ℕ) (o p : Runs A) → ((j : ℕ) → o j ≡ with_left e j) → ((j : ℕ) → p j ≡ with_left e j) → Comes o p m
at_once e m o p h g = record {
  ending = e;
  cost = 0;
  dearer = 0;
  least = omega arith;
  most = omega arith;
  by = λ j. let z : 0 + j ≡ j = omega arith in ap o z ∙ h j;
  early = λ j lt. absurd (omega arith);
  past = λ j. let z : 0 + j ≡ j = omega arith in ap p z ∙ g j;
}

-- one run after another
comes_then : {A B : Type 0} (m m1 : ℕ) (o p : Runs A) (f g : A → Runs B) → Comes o p m → ((a : A) → Comes (f a) (g a) m1) → Comes (λ j. then_do (o j) f) (λ j. then_do (p j) g) (m + m1)
comes_then m m1 o p f g c d = go c.ending refl
  where
    by : (e : Ending _) → c.ending ≡ e → (j : ℕ) → o (c.cost + j) ≡ with_left e j
    by e is j = c.by j ∙ ap (λ z. with_left z j) is

    past : (e : Ending _) → c.ending ≡ e → (j : ℕ) → p (c.dearer + j) ≡ with_left e j
    past e is j = c.past j ∙ ap (λ z. with_left z j) is

    go : (e : Ending _) → c.ending ≡ e → Comes (λ j. then_do (o j) f) (λ j. then_do (p j) g) (m + m1)
    go (finished a) is = let r = d a in record {
      ending = r.ending;
      cost = c.cost + r.cost;
      dearer = c.dearer + r.dearer;
      least = omega (arith, c.least, r.least);
      most = omega (arith, c.most, r.most);
      by = λ j. let z : c.cost + r.cost + j ≡ c.cost + (r.cost + j) = omega arith in ap (λ i. then_do (o i) f) z ∙ ap (λ i. then_do i f) (by (finished a) is (r.cost + j)) ∙ r.by j;
      early = λ j lt. early_in a is r j (cases_lt j c.dearer) lt;
      past = λ j. let z : c.dearer + r.dearer + j ≡ c.dearer + (r.dearer + j) = omega arith in ap (λ i. then_do (p i) g) z ∙ ap (λ i. then_do i g) (past (finished a) is (r.dearer + j)) ∙ r.past j;
    }
      where
        early_in : (a : _) → c.ending ≡ finished a → (r : Comes (f a) (g a) m1) → (j : ℕ) → (j < c.dearer) ⊎ (c.dearer ≤ j) → j < c.dearer + r.dearer → IsMore (then_do (p j) g)
        early_in a is r j (inl lt) h = more_then (p j) g (c.early j lt)
        early_in a is r j (inr le) h =
            let z : j ≡ c.dearer + (j - c.dearer) = omega arith in
            subst IsMore (sym (ap (λ i. then_do (p i) g) z ∙ ap (λ i. then_do i g) (past (finished a) is (j - c.dearer)))) (r.early (j - c.dearer) (omega arith))
    go (stopped t line w) is = record {
      ending = stopped t line w;
      cost = c.cost;
      dearer = c.dearer;
      least = c.least;
      most = omega (arith, c.most);
      by = λ j. ap (λ i. then_do i f) (by (stopped t line w) is j);
      early = λ j lt. more_then (p j) g (c.early j lt);
      past = λ j. ap (λ i. then_do i g) (past (stopped t line w) is j);
    }
    go (filled w) is = record {
      ending = filled w;
      cost = c.cost;
      dearer = c.dearer;
      least = c.least;
      most = omega (arith, c.most);
      by = λ j. ap (λ i. then_do i f) (by (filled w) is j);
      early = λ j lt. more_then (p j) g (c.early j lt);
      past = λ j. ap (λ i. then_do i g) (past (filled w) is j);
    }

module _ {C : Type 0} (extra : Act → ℕ) (q : Calls C) (n : Setting C) where
  -- a statement is counted in both, after some that do nothing in the second
  comes_waiting : (e line : ℕ) (c : Code) (s : Scene C) (u v : Stand) (o p : Runs (Scene C)) (m : ℕ) → ((j : ℕ) → run q n c s j ≡ counted v j p) → Comes o p m → Comes (λ j. counted u j o) (run q n (waiting e line c) s) (e + 1 + m)
  comes_waiting e line c s u v o p m is r = record {
    ending = r.ending;
    cost = suc r.cost;
    dearer = e + suc r.dearer;
    least = omega (arith, r.least);
    most = omega (arith, r.most);
    by = λ j. let z : suc r.cost + j ≡ suc (r.cost + j) = omega arith in ap (λ i. counted u i o) z ∙ r.by j;
    early = λ j lt. early_in j (cases_lt j e) lt;
    past = λ j. let z : e + suc r.dearer + j ≡ e + suc (r.dearer + j) = omega arith in ap (run q n (waiting e line c) s) z ∙ waiting_past q n e line c s (suc (r.dearer + j)) ∙ is (suc (r.dearer + j)) ∙ r.past j;
  }
    where
      counted_early : (i : ℕ) → i < suc r.dearer → IsMore (counted v i p)
      counted_early zero lt = tt
      counted_early (suc i) lt = r.early i (omega arith)

      early_in : (j : ℕ) → (j < e) ⊎ (e ≤ j) → j < e + suc r.dearer → IsMore (run q n (waiting e line c) s j)
      early_in j (inl lt) h = waiting_more q n e line c s j lt
      early_in j (inr le) h = let z : j ≡ e + (j - e) = omega arith in subst IsMore (sym (ap (run q n (waiting e line c) s) z ∙ waiting_past q n e line c s (j - e) ∙ is (j - e))) (counted_early (j - e) (omega arith))

  -- an assignment is the same in both
  assigned : (line : ℕ) (x : Var) (subs : Terms) (e : Term) (s : Scene C) (v : Result C Trap) (i : Result ℕ Trap) → value n e s.store ≡ v → target n x subs s.store ≡ i → Comes (act q n (assign x subs e) line s) (act q n (assign x subs e) line s) 0
  assigned line x subs e s (Ok u) (Ok i) h g =
      let z : (j : ℕ) → act q n (assign x subs e) line s j ≡ Done (record s { store = set s.store x i u }) j = λ j.
      ap (λ z. with_value z line (stand n s) (λ u. with_value (target n x subs s.store) line (stand n s) (λ i. let o : Outcome (Scene C) = Done (record s { store = set s.store x i u }) j in o))) h
      ∙ ap (λ z. with_value z line (stand n s) (λ i. let o : Outcome (Scene C) = Done (record s { store = set s.store x i u }) j in o)) g in
      at_once (finished (record s { store = set s.store x i u })) 0 _ _ z z
  assigned line x subs e s (Ok u) (Err t) h g =
      let z : (j : ℕ) → act q n (assign x subs e) line s j ≡ Trapped t line (stand n s) = λ j.
      ap (λ z. with_value z line (stand n s) (λ u. with_value (target n x subs s.store) line (stand n s) (λ i. let o : Outcome (Scene C) = Done (record s { store = set s.store x i u }) j in o))) h
      ∙ ap (λ z. with_value z line (stand n s) (λ i. let o : Outcome (Scene C) = Done (record s { store = set s.store x i u }) j in o)) g in
      at_once (stopped t line (stand n s)) 0 _ _ z z
  assigned line x subs e s (Err t) i h g =
      let z : (j : ℕ) → act q n (assign x subs e) line s j ≡ Trapped t line (stand n s) = λ j.
      ap (λ z. with_value z line (stand n s) (λ u. with_value (target n x subs s.store) line (stand n s) (λ i. let o : Outcome (Scene C) = Done (record s { store = set s.store x i u }) j in o))) h in
      at_once (stopped t line (stand n s)) 0 _ _ z z

  -- a condition, and one of two lists
  chosen : (line : ℕ) (c : Test) (s : Scene C) (f f1 g g1 : Runs (Scene C)) (m m1 k : ℕ) → m ≤ k → m1 ≤ k → Comes f g m → Comes f1 g1 m1 → (v : Result Bool Trap) → holds n c s.store ≡ v →
      Comes (λ j. with_value (holds n c s.store) line (stand n s) (λ p. if p then f j else f1 j)) (λ j. with_value (holds n c s.store) line (stand n s) (λ p. if p then g j else g1 j)) k
  chosen line c s f f1 g g1 m m1 k le le1 a b (Ok true) h = record {
    ending = a.ending;
    cost = a.cost;
    dearer = a.dearer;
    least = a.least;
    most = omega (arith, a.most, le);
    by = λ j. ap (λ z. with_value z line (stand n s) (λ p. if p then f (a.cost + j) else f1 (a.cost + j))) h ∙ a.by j;
    early = λ j lt. subst IsMore (sym (ap (λ z. with_value z line (stand n s) (λ p. if p then g j else g1 j)) h)) (a.early j lt);
    past = λ j. ap (λ z. with_value z line (stand n s) (λ p. if p then g (a.dearer + j) else g1 (a.dearer + j))) h ∙ a.past j;
  }
  chosen line c s f f1 g g1 m m1 k le le1 a b (Ok false) h = record {
    ending = b.ending;
    cost = b.cost;
    dearer = b.dearer;
    least = b.least;
    most = omega (arith, b.most, le1);
    by = λ j. ap (λ z. with_value z line (stand n s) (λ p. if p then f (b.cost + j) else f1 (b.cost + j))) h ∙ b.by j;
    early = λ j lt. subst IsMore (sym (ap (λ z. with_value z line (stand n s) (λ p. if p then g j else g1 j)) h)) (b.early j lt);
    past = λ j. ap (λ z. with_value z line (stand n s) (λ p. if p then g (b.dearer + j) else g1 (b.dearer + j))) h ∙ b.past j;
  }
  chosen line c s f f1 g g1 m m1 k le le1 a b (Err t) h =
      at_once (stopped t line (stand n s)) k _ _ (λ j. ap (λ z. with_value z line (stand n s) (λ p. if p then f j else f1 j)) h) (λ j. ap (λ z. with_value z line (stand n s) (λ p. if p then g j else g1 j)) h)

  -- a statement costs no less with its bodies
  bodies_more : (a : Act) → extra a + 1 ≤ cost_with_bodies extra a
  bodies_more (assign x subs e) = omega arith
  bodies_more (choose c a b) = omega arith
  bodies_more (loop x first last by body m) = omega arith
  bodies_more (during c body) = omega arith
  bodies_more (call name args) = omega arith
  bodies_more (runtime r) = omega arith

  mutual
    -- a statement, without its own weight
    pub flat_act : (line : ℕ) (a : Act) → IsFlatAct a → (s : Scene C) → (m : ℕ) → cost_with_bodies extra a ≡ extra a + 1 + m → Comes (act q n a line s) (act q n (padded_act extra a) line s) m
    flat_act line (assign x subs e) f s m is = subst (Comes (act q n (assign x subs e) line s) (act q n (assign x subs e) line s)) (omega (arith, is)) (assigned line x subs e s (value n e s.store) (target n x subs s.store) refl refl)
    flat_act line (choose c a b) f s m is = chosen line c s (run q n a s) (run q n b s) (run q n (padded extra a) s) (run q n (padded extra b) s) (total_cost extra a) (total_cost extra b) m (omega (arith, is)) (omega (arith, is)) (flat_run a f.0 s) (flat_run b f.1 s) (holds n c s.store) refl
    flat_act line (loop x first last by body mark) f s m is = absurd f
    flat_act line (during c body) f s m is = absurd f
    flat_act line (call name args) f s m is = absurd f
    flat_act line (runtime r) f s m is = absurd f

    -- a list
    pub flat_run : (c : Code) → IsFlat c → (s : Scene C) → Comes (run q n c s) (run q n (padded extra c) s) (total_cost extra c)
    flat_run stop f s = at_once (finished s) 0 _ _ (λ j. refl) (λ j. refl)
    flat_run (step line a rest) f s =
        let m = cost_with_bodies extra a - (extra a + 1) in
        let e : cost_with_bodies extra a ≡ extra a + 1 + m = omega (arith, bodies_more a) in
        let e1 : extra a + 1 + (m + total_cost extra rest) ≡ cost_with_bodies extra a + total_cost extra rest = omega (arith, e) in
        subst (Comes (run q n (step line a rest) s) (run q n (padded extra (step line a rest)) s)) e1
        (comes_waiting (extra a) line (step line (padded_act extra a) (padded extra rest)) s (stand n s) (stand n s) (λ j. then_do (act q n a line s j) (run q n rest)) (λ j. then_do (act q n (padded_act extra a) line s j) (run q n (padded extra rest))) (m + total_cost extra rest) (λ j. refl)
        (comes_then m (total_cost extra rest) (act q n a line s) (act q n (padded_act extra a) line s) (run q n rest) (run q n (padded extra rest)) (flat_act line a f.0 s m e) (λ s1. flat_run rest f.1 s1)))
