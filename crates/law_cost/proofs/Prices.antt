-- What a run costs where each statement costs so many statements more, by its parts.
use Rattle.std.proofs.Common.{◌≡◌, ℕ, zero, suc, ◌+◌, Bool, true, false, refl, ap, ◌∙◌, arith}
use Rattle.std.specs.Prelude.{Ok, if◌then◌else◌}
use Rattle.adj_tree.specs.Code.{Var, Term, Terms, Test, Mark, Act, assign, choose, loop, Code, stop, step}
use Rattle.adj_word.specs.Word.{wrap}
use Rattle.def_meaning.specs.Store.{set}
use Rattle.def_meaning.specs.Value.{Setting, value, target, holds}
use Rattle.def_meaning.specs.Scene.{Scene, stand, Done, then_do, with_value}
use Rattle.def_meaning.specs.Run.{Calls, trips, turns, stepped, with_turn, in_force, after_loop, act, run}
use Rattle.def_meaning.specs.Padded.{padded_act, padded}
use Rattle.law_meaning.proofs.Inversions.{value_done, done_same}
use Rattle.law_meaning.proofs.PaddedPrograms.{pays}
use Rattle.law_sweep.proofs.Choices.{part}
use Rattle.law_cost.proofs.Runs.{tested, next_tests}

module _ {C : Type 0} (extra : Act → ℕ) (q : Calls C) (n : Setting C) where
  -- the list of this price, each statement paid so, leads from a scene to another
  abbrev pub Pays : Code → Scene C → Scene C → ℕ → Type 0
  Pays c s e price = (j : ℕ) → run q n (padded extra c) s (price + j) ≡ Done e j

  -- a statement, which was paid for itself
  abbrev pub ActPays : ℕ → Act → Scene C → Scene C → ℕ → Type 0
  ActPays line a s e price = (j : ℕ) → act q n (padded_act extra a) line s (price + j) ≡ Done e j

  pub pays_stop : (s : Scene C) → Pays stop s s 0
  pays_stop s j = let z : 0 + j ≡ j = omega arith in ap (Done s) z

  pub pays_step : (line : ℕ) (a : Act) (rest : Code) (s s1 e : Scene C) (pa pr : ℕ) → ActPays line a s s1 pa → Pays rest s1 e pr → Pays (step line a rest) s e (extra a + 1 + pa + pr)
  pays_step line a rest s s1 e pa pr ha hr j =
      let same : extra a + 1 + pa + pr + j ≡ extra a + suc (pa + (pr + j)) = omega arith in
      ap (run q n (padded extra (step line a rest)) s) same
      ∙ pays extra q n line a rest s (suc (pa + (pr + j)))
      ∙ ap (λ o. then_do o (run q n (padded extra rest))) (ha (pr + j))
      ∙ hr j

  pub pays_choose : (line : ℕ) (c : Test) (a b : Code) (s e : Scene C) (ran : Bool) (pa : ℕ) → holds n c s.store ≡ Ok ran → Pays (part ran a b) s e pa → ActPays line (choose c a b) s e pa
  pays_choose line c a b s e ran pa is h j =
      ap (λ z. with_value z line (stand n s) (λ p. if p then run q n (padded extra a) s (pa + j) else run q n (padded extra b) s (pa + j))) is ∙ go ran h
    where
      go : (r : Bool) → Pays (part r a b) s e pa → (if r then run q n (padded extra a) s (pa + j) else run q n (padded extra b) s (pa + j)) ≡ Done e j
      go true h = h j
      go false h = h j

  -- some turns, each counted
  abbrev pub TurnsPay : ℕ → Code → (Scene C → Scene C) → Scene C → Scene C → ℕ → Type 0
  TurnsPay m body after s e price = (j : ℕ) → turns n m (run q n (padded extra body)) after s (price + j) ≡ Done e j

  pub turns_pay_none : (body : Code) (after : Scene C → Scene C) (s : Scene C) → TurnsPay 0 body after s s 0
  turns_pay_none body after s j = let z : 0 + j ≡ j = omega arith in ap (Done s) z

  pub turns_pay_more : (m : ℕ) (body : Code) (after : Scene C → Scene C) (s s1 e : Scene C) (pb pr : ℕ) → Pays body s s1 pb → TurnsPay m body after (after s1) e pr → TurnsPay (suc m) body after s e (pb + pr + 1)
  turns_pay_more m body after s s1 e pb pr hb hr j =
      let same : pb + pr + 1 + j ≡ suc (pb + (pr + j)) = omega arith in
      ap (turns n (suc m) (run q n (padded extra body)) after s) same ∙ ap (λ o. then_do o (λ s1 i. turns n m (run q n (padded extra body)) after (after s1) i)) (hb (pr + j)) ∙ hr j

  pub pays_loop : (line : ℕ) (x : Var) (ea eb ec : Term) (body : Code) (mark : Mark) (s s1 : Scene C) (a b c : C) (m pt : ℕ) → value n ea s.store ≡ Ok a → value n eb s.store ≡ Ok b → value n ec s.store ≡ Ok c → trips mark (n.numbers.shown a) (n.numbers.shown b) (n.numbers.shown c) ≡ Ok m →
      TurnsPay m body (stepped n x (n.numbers.shown c)) (with_turn n x (wrap (n.numbers.shown a)) s) s1 pt → ActPays line (loop x ea eb ec body mark) s (after_loop line m (in_force n mark s.store) s1) pt
  pays_loop line x ea eb ec body mark s s1 a b c m pt ha hb hc hm h j = rw (ha, hb, hc, hm) (ap (λ o. then_do o (λ s2 i. Done (after_loop line m (in_force n mark s.store) s2) i)) (h j))

  -- the tests of a DO WHILE that are left
  abbrev pub TestsPay : Test → ℕ → ℕ → Code → Scene C → Scene C → ℕ → Type 0
  TestsPay c line m body s e price = (j : ℕ) → tested q n c line m (padded extra body) s (price + j) ≡ Done e j

  pub tests_pay_none : (c : Test) (line m : ℕ) (body : Code) (s : Scene C) → holds n c s.store ≡ Ok false → TestsPay c line m body s s 0
  tests_pay_none c line m body s is j = let z : 0 + j ≡ j = omega arith in go m ∙ ap (Done s) z
    where
      go : (m : ℕ) → tested q n c line m (padded extra body) s (0 + j) ≡ Done s (0 + j)
      go zero = rw is refl
      go (suc m) = rw is refl

  pub tests_pay_more : (c : Test) (line m : ℕ) (body : Code) (s s1 e : Scene C) (pb pr : ℕ) → holds n c s.store ≡ Ok true → Pays body s s1 pb → TestsPay c line m body s1 e pr → TestsPay c line (suc m) body s e (pb + pr + 1)
  tests_pay_more c line m body s s1 e pb pr is hb hr j =
      let same : pb + pr + 1 + j ≡ pb + suc (pr + j) = omega arith in
      ap (tested q n c line (suc m) (padded extra body) s) same
      ∙ rw is (ap (λ o. then_do o (next_tests q n c line m (padded extra body))) (hb (suc (pr + j))) ∙ hr j)

  -- an assignment
  pub pays_assign : (p : Calls C) (line : ℕ) (x : Var) (subs : Terms) (a : Term) (s e : Scene C) (k left : ℕ) → act p n (assign x subs a) line s k ≡ Done e left → ActPays line (assign x subs a) s e 0
  pays_assign p line x subs a s e k left h j =
      let v = value_done (value n a s.store) line (stand n s) _ e left h in
      let t = value_done (target n x subs s.store) line (stand n s) _ e left v.goes in
      from v.value t.value v.is t.is (done_same (record s { store = set s.store x t.value v.value }) e k left t.goes)
    where
      from : (u : C) (i : ℕ) → value n a s.store ≡ Ok u → target n x subs s.store ≡ Ok i → record s { store = set s.store x i u } ≡ e → act q n (assign x subs a) line s (0 + j) ≡ Done e j
      from u i is tis same = let z : 0 + j ≡ j = omega arith in rw (is, tis) (λ l. Done (same l) (z l))
