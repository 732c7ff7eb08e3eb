-- What both sweeps take of a DO WHILE.
use Rattle.std.proofs.Common.{◌≡◌, ◌<◌, ◌≤◌, ◌^◌, ℕ, suc, ◌+◌, Bool, true, false, List, ◌∷◌, ◌++◌, refl, sym, ap, ◌∙◌, subst, arith}
use Rattle.std.specs.Prelude.{ℤ, pos, negsuc, Ok}
use Rattle.adj_tree.specs.Code.{Var, helper, count, turn, plus, minus, var, neg, bin, none, Test, unmarked, assign, loop, during, runtime, push_word, pop_word, Code, stop, step, Procedure}
use Rattle.adj_tree.proofs.Names.{nat_refl}
use Rattle.adj_word.specs.Word.{wrap, add, sub}
use Rattle.adj_word.proofs.Counting.{count_up}
use Rattle.adj_word.proofs.Residues.{wrap-wrap}
use Rattle.def_meaning.specs.Append.{one}
use Rattle.def_meaning.specs.Store.{Shape, Store, set}
use Rattle.def_meaning.specs.Value.{Setting, holds}
use Rattle.def_meaning.specs.Scene.{Scene, Done}
use Rattle.def_meaning.specs.Read.{reads_test}
use Rattle.def_meaning.specs.Run.{Calls, run, turns, stepped, trips, most_tests}
use Rattle.def_meaning.specs.Units.{calls_of}
use Rattle.law_meaning.proofs.Inversions.{done_same}
use Rattle.def_names.specs.Numbers.{Vars}
use Rattle.def_sweep.specs.Facts.{Within}
use Rattle.law_sweep.specs.Pairs.{Key, Words, on_words}
use Rattle.law_sweep.specs.Scenes.{Course, scene}
use Rattle.def_sweep.specs.Rows.{literal, push_own, while_forward, while_backward}
use Rattle.law_sweep.specs.Passing.{plainly}
use Rattle.def_sweep.specs.Reversals.{LoopRun}
use Rattle.law_sweep.specs.Runs.{SameOn}
use Rattle.law_sweep.proofs.Evaluations.{holds_again}
use Rattle.law_sweep.proofs.Loops.{trips_back, step_back}
use Rattle.law_sweep.proofs.LoopSweeps.{forward_turn}
use Rattle.law_sweep.proofs.Runs.{same_refl}
use Rattle.law_sweep.specs.Kernel.{AllText}
use Rattle.law_sweep.proofs.Sweeps.{Sweeps}
use Rattle.law_sweep.proofs.WhileSweeps.{TestsSwept}
use Rattle.law_cost.specs.Along.{BothCost}
use Rattle.law_cost.proofs.Runs.{one_end, left_same, append_done, step_done, after_one, looping, last_turn, turns_end, tested, test_failed, test_held, tests_end}
use Rattle.law_cost.proofs.Along.{kept_of}

module _ (qs : List Procedure) (depth : ℕ) (sh : Var → Shape) (level : ℕ) (xs : List Key) (d line : ℕ) (c : Test) (needed held : Vars) (Fb Bb : Code) (wr : Vars) (text : AllText (λ v. reads_test v c)) (uses : Within (λ v. reads_test v c) needed) where
  abbrev q : Calls ℤ
  q = calls_of qs depth

  abbrev nw : Setting ℤ
  nw = on_words sh level

  -- values of a store that is at the j-th turn
  again : (u f : Store ℤ) (r : Bool) → SameOn sh needed u f → holds (on_words (plainly sh) level) c u ≡ Ok r → holds nw c f ≡ Ok r
  again u f r s is = holds_again sh level needed u f s c text uses ∙ is

  -- the tests that are left, and their turns from the j-th on, gone through by both sweeps
  pub record ToldTests (tests j : ℕ) (u u' : Store ℤ) (change : Words → Words) (loops : List LoopRun) (swept : TestsSwept q sh level xs d line c needed held Fb Bb wr tests j u u' change loops) (most : ℕ) : Type 0 where
    pub at : (base : Course) (f : Store ℤ) (t : List ℤ) → SameOn sh needed u f → f (helper count (suc d)) 0 ≡ pos j → (s : Scene ℤ) (k left : ℕ) → tested q nw c line tests (forward_turn (suc d) line Fb) (scene base f t) k ≡ Done s left →
        (later : Course) (g : Store ℤ) → SameOn sh held s.store g → g (helper turn (suc d)) 0 ≡ add (pos (j + swept.turns)) (negsuc 0) → (e : Scene ℤ) (k1 left1 : ℕ) → turns nw swept.turns (run q nw Bb) (stepped nw (helper turn (suc d)) (negsuc 0)) (scene later g s.tape) k1 ≡ Done e left1 → k + k1 ≤ left + left1 + most

  same_count : (a b : ℕ) → pos a ≡ pos b → a ≡ b
  same_count a b h = cc

  pub told_none : (tests j : ℕ) (u u' : Store ℤ) (change : Words → Words) (loops : List LoopRun) (swept : TestsSwept q sh level xs d line c needed held Fb Bb wr tests j u u' change loops) → holds (on_words (plainly sh) level) c u ≡ Ok false → ToldTests tests j u u' change loops swept 0
  told_none tests j u u' change loops swept fails = record {
    at = λ base f t a v s k left r later g b n e k1 left1 r1.
        let h = test_failed q nw c line tests (forward_turn (suc d) line Fb) (scene base f t) s k left (again u f false a fails) r in
        let w = swept.forth base f t a v in
        let end1 = tests_end qs depth nw c line (forward_turn (suc d) line Fb) tests (scene base f t) (scene w.runs.later w.to (w.trail ++ t)) s k left w.runs.cost w.runs.by r in
        let at1 : f ≡ w.to = ap (λ (z : Scene ℤ). z.store) (done_same (scene base f t) s k left h ∙ end1) in
        let total : pos j ≡ pos (j + swept.turns) = sym v ∙ ap (λ (z : Store ℤ). z (helper count (suc d)) 0) at1 ∙ w.counted_is in
        let same = same_count j (j + swept.turns) total in
        let none : swept.turns ≡ 0 = omega (arith, same) in
        let r2 : turns nw 0 (run q nw Bb) (stepped nw (helper turn (suc d)) (negsuc 0)) (scene later g s.tape) k1 ≡ Done e left1 = ap (λ z. turns nw z (run q nw Bb) (stepped nw (helper turn (suc d)) (negsuc 0)) (scene later g s.tape) k1) (sym none) ∙ r1 in
        omega (arith, left_same _ s k left h, left_same _ e k1 left1 r2);
  }

  -- a turn forward: the body, what it leaves, and the tests after it
  record Forth (tests j : ℕ) (ub : Store ℤ) (base : Course) (f : Store ℤ) (t : List ℤ) (s : Scene ℤ) (k left : ℕ) : Type 0 where
    middle : Scene ℤ
    rest : ℕ
    turn_done : run q nw Fb (scene base f t) k ≡ Done middle rest
    before : ℕ
    is : rest ≡ before + 2
    same : SameOn sh needed ub (set middle.store (helper count (suc d)) 0 (add (middle.store (helper count (suc d)) 0) (pos 1)))
    counted_is : set middle.store (helper count (suc d)) 0 (add (middle.store (helper count (suc d)) 0) (pos 1)) (helper count (suc d)) 0 ≡ pos (suc j)
    others : tested q nw c line tests (forward_turn (suc d) line Fb) (scene (kept_of middle) (set middle.store (helper count (suc d)) 0 (add (middle.store (helper count (suc d)) 0) (pos 1))) middle.tape) before ≡ Done s left

  turn_forth : (tests j : ℕ) (u ub : Store ℤ) (c1 : Words → Words) (l1 : List LoopRun) → suc j < 2 ^ 63 → holds (on_words (plainly sh) level) c u ≡ Ok true → Sweeps q sh level xs (suc d) Fb Bb needed needed held held wr u ub c1 l1 →
      (base : Course) (f : Store ℤ) (t : List ℤ) → SameOn sh needed u f → f (helper count (suc d)) 0 ≡ pos j → (s : Scene ℤ) (k left : ℕ) → tested q nw c line (suc tests) (forward_turn (suc d) line Fb) (scene base f t) k ≡ Done s left → Forth tests j ub base f t s k left
  turn_forth tests j u ub c1 l1 small held_there s0 base f t a v s k left r =
      let counting = assign (helper count (suc d)) none (bin plus (var (helper count (suc d))) (literal 1)) in
      let h = test_held q nw c line tests (forward_turn (suc d) line Fb) (scene base f t) s k left (again u f true a held_there) r in
      let p = append_done q nw Fb (one line counting) (scene base f t) h.end k h.rest h.turn in
      let sa = p.scene in
      let f2 = set sa.store (helper count (suc d)) 0 (add (sa.store (helper count (suc d)) 0) (pos 1)) in
      let cd = after_one q nw line counting stop sa (scene (kept_of sa) f2 sa.tape) h.end p.left h.rest (λ i. refl) p.second in
      let ends : scene (kept_of sa) f2 sa.tape ≡ h.end = done_same (scene (kept_of sa) f2 sa.tape) h.end cd.before h.rest cd.done in
      let way = s0.way base f t a in
      let end1 = one_end qs depth nw Fb (scene base f t) (scene way.runs.later way.to (way.trail ++ t)) sa k p.left way.runs.runs p.first in
      let at1 : way.to ≡ sa.store = ap (λ (z : Scene ℤ). z.store) (sym end1) in
      let before : sa.store (helper count (suc d)) 0 ≡ pos j = ap (λ (z : Store ℤ). z (helper count (suc d)) 0) (sym at1) ∙ way.depth.at count (suc d) 0 (omega arith) (omega arith) ∙ v in
      let same_a : SameOn sh needed ub sa.store = subst (λ (z : Store ℤ). SameOn sh needed ub z) at1 way.same in
      let i1 = cd.is in let i2 = h.is in
      record {
        middle = sa;
        rest = p.left;
        turn_done = p.first;
        before = h.before;
        is = omega (arith, i1, i2, left_same (scene (kept_of sa) f2 sa.tape) h.end cd.before h.rest cd.done);
        same = record { at = λ y i lt o. same_a.at y i lt o };
        counted_is = rw (nat_refl (suc d)) (ap (λ z. add z (pos 1)) before ∙ count_up j small);
        others = ap (λ (z : Scene ℤ). tested q nw c line tests (forward_turn (suc d) line Fb) z h.before) ends ∙ h.others;
      }

  pub told_more : (tests j : ℕ) (u ub u' : Store ℤ) (c1 c2 c3 : Words → Words) (l1 l2 l3 : List LoopRun) (mb mr : ℕ) → suc j < 2 ^ 63 → holds (on_words (plainly sh) level) c u ≡ Ok true →
      Sweeps q sh level xs (suc d) Fb Bb needed needed held held wr u ub c1 l1 → (rest : TestsSwept q sh level xs d line c needed held Fb Bb wr tests (suc j) ub u' c2 l2) (swept : TestsSwept q sh level xs d line c needed held Fb Bb wr (suc tests) j u u' c3 l3) →
      BothCost q sh level Fb Bb needed held u mb → ToldTests tests (suc j) ub u' c2 l2 rest mr → ToldTests (suc tests) j u u' c3 l3 swept (mb + mr + 3)
  told_more tests j u ub u' c1 c2 c3 l1 l2 l3 mb mr small held_there s0 rest swept body others = record {
    at = λ base f t a v s k left r later g b n e k1 left1 r1. go base f t a v s k left r (turn_forth tests j u ub c1 l1 small held_there s0 base f t a v s k left r) later g b n e k1 left1 r1;
  }
    where
      m : ℕ
      m = rest.turns

      -- as many turns as the tests that follow, and one
      one_more : (base : Course) (f : Store ℤ) (t : List ℤ) → SameOn sh needed u f → f (helper count (suc d)) 0 ≡ pos j → (s : Scene ℤ) (k left : ℕ) → tested q nw c line (suc tests) (forward_turn (suc d) line Fb) (scene base f t) k ≡ Done s left → s.store (helper count (suc d)) 0 ≡ pos (suc j + m) → swept.turns ≡ suc m
      one_more base f t a v s k left r total =
          let w = swept.forth base f t a v in
          let end1 = tests_end qs depth nw c line (forward_turn (suc d) line Fb) (suc tests) (scene base f t) (scene w.runs.later w.to (w.trail ++ t)) s k left w.runs.cost w.runs.by r in
          let same = same_count (j + swept.turns) (suc j + m) (sym (ap (λ (z : Scene ℤ). z.store (helper count (suc d)) 0) end1 ∙ w.counted_is) ∙ total) in
          omega (arith, same)

      go : (base : Course) (f : Store ℤ) (t : List ℤ) → SameOn sh needed u f → f (helper count (suc d)) 0 ≡ pos j → (s : Scene ℤ) (k left : ℕ) → tested q nw c line (suc tests) (forward_turn (suc d) line Fb) (scene base f t) k ≡ Done s left → Forth tests j ub base f t s k left →
          (later : Course) (g : Store ℤ) → SameOn sh held s.store g → g (helper turn (suc d)) 0 ≡ add (pos (j + swept.turns)) (negsuc 0) → (e : Scene ℤ) (k1 left1 : ℕ) → turns nw swept.turns (run q nw Bb) (stepped nw (helper turn (suc d)) (negsuc 0)) (scene later g s.tape) k1 ≡ Done e left1 → k + k1 ≤ left + left1 + (mb + mr + 3)
      go base f t a v s k left r o later g b n e k1 left1 r1 =
          let sa = o.middle in
          let f2 = set sa.store (helper count (suc d)) 0 (add (sa.store (helper count (suc d)) 0) (pos 1)) in
          let after = stepped nw (helper turn (suc d)) (negsuc 0) in
          let w2 = rest.forth (kept_of sa) f2 sa.tape o.same o.counted_is in
          let end2 = tests_end qs depth nw c line (forward_turn (suc d) line Fb) tests (scene (kept_of sa) f2 sa.tape) (scene w2.runs.later w2.to (w2.trail ++ sa.tape)) s o.before left w2.runs.cost w2.runs.by o.others in
          let turns_are = one_more base f t a v s k left r (ap (λ (z : Scene ℤ). z.store (helper count (suc d)) 0) end2 ∙ w2.counted_is) in
          let r2 : turns nw (suc m) (run q nw Bb) after (scene later g s.tape) k1 ≡ Done e left1 = ap (λ z. turns nw z (run q nw Bb) after (scene later g s.tape) k1) (sym turns_are) ∙ r1 in
          let lt = last_turn q nw m (run q nw Bb) after (scene later g s.tape) e k1 left1 r2 in
          let sb = lt.middle in
          let count_is : j + swept.turns ≡ suc j + m = omega (arith, turns_are) in
          let n1 : g (helper turn (suc d)) 0 ≡ add (pos (suc j + m)) (negsuc 0) = n ∙ ap (λ z. add (pos z) (negsuc 0)) count_is in
          let back2 = w2.back later g (subst (λ (z : Scene ℤ). SameOn sh held z.store g) end2 b) n1 in
          let back_others : turns nw m (run q nw Bb) after (scene later g (w2.trail ++ sa.tape)) k1 ≡ Done sb lt.rest = ap (λ (z : Scene ℤ). turns nw m (run q nw Bb) after (scene later g z.tape) k1) (sym end2) ∙ lt.others in
          let end3 = turns_end qs depth nw Bb after m (scene later g (w2.trail ++ sa.tape)) (scene back2.runs.later back2.after sa.tape) sb k1 lt.rest back2.runs.cost back2.runs.by back_others in
          let same_b : SameOn sh held f2 sb.store = subst (λ (z : Scene ℤ). SameOn sh held f2 z.store) (sym end3) back2.same in
          let body_same : SameOn sh held sa.store sb.store = record { at = λ y i l h. same_b.at y i l h } in
          let body_back : run q nw Bb (scene (kept_of sb) sb.store sa.tape) lt.before ≡ Done lt.end left1 = ap (λ (z : Scene ℤ). run q nw Bb (scene (kept_of sb) sb.store z.tape) lt.before) (sym end3) ∙ lt.turn in
          let i1 = o.is in let i2 = lt.is in
          omega (
            arith,
            i1,
            i2,
            body.at base f t a sa k o.rest o.turn_done (kept_of sb) sb.store body_same lt.end lt.before left1 body_back,
            others.at (kept_of sa) f2 sa.tape o.same o.counted_is s o.before left o.others later g b n1 sb k1 lt.rest lt.others,
          )

  -- ---- without a backward sweep

  pub record SilentTests (tests : ℕ) (u : Store ℤ) (most : ℕ) : Type 0 where
    pub at : (base : Course) (f : Store ℤ) (t : List ℤ) → SameOn sh needed u f → (s : Scene ℤ) (k left : ℕ) → tested q nw c line tests Fb (scene base f t) k ≡ Done s left → k ≤ left + most

  pub silent_none : (tests : ℕ) (u : Store ℤ) → holds (on_words (plainly sh) level) c u ≡ Ok false → SilentTests tests u 0
  silent_none tests u fails = record {
    at = λ base f t a s k left r.
        let h = test_failed q nw c line tests Fb (scene base f t) s k left (again u f false a fails) r in
        omega (arith, left_same _ s k left h);
  }

  pub silent_more : (tests : ℕ) (u ub : Store ℤ) (c1 : Words → Words) (l1 : List LoopRun) (mb mr : ℕ) → Bb ≡ stop → holds (on_words (plainly sh) level) c u ≡ Ok true → Sweeps q sh level xs (suc d) Fb Bb needed needed held held wr u ub c1 l1 →
      BothCost q sh level Fb Bb needed held u mb → SilentTests tests ub mr → SilentTests (suc tests) u (mb + mr + 1)
  silent_more tests u ub c1 l1 mb mr empty held_there s0 body others = record {
    at = λ base f t a s k left r.
        let h = test_held q nw c line tests Fb (scene base f t) s k left (again u f true a held_there) r in
        let sa = h.end in
        let way = s0.way base f t a in
        let end1 = one_end qs depth nw Fb (scene base f t) (scene way.runs.later way.to (way.trail ++ t)) sa k h.rest way.runs.runs h.turn in
        let same_a : SameOn sh needed ub sa.store = subst (λ (z : Scene ℤ). SameOn sh needed ub z.store) (sym end1) way.same in
        let nothing : run q nw Bb sa 0 ≡ Done sa 0 = ap (λ z. run q nw z sa 0) empty in
        let is = h.is in
        omega (arith, is, body.at base f t a sa k h.rest h.turn (kept_of sa) sa.store (same_refl sh held sa.store) sa 0 0 nothing, others.at (kept_of sa) sa.store sa.tape same_a s h.before left h.others);
  }

  -- ---- rows

  pub cost_silent : (u : Store ℤ) (most : ℕ) → SilentTests most_tests u most → BothCost q sh level (while_forward true (suc d) line c Fb) (while_backward true (suc d) line Bb) needed held u (most + 1)
  cost_silent u most l = record {
    at = λ base f t a s k left r later g b e k1 left1 r1.
        let o = step_done q nw line (during c Fb) stop (scene base f t) s k left r in
        let is = o.is in
        omega (arith, is, left_same o.scene s o.after left o.others, left_same _ e k1 left1 r1, l.at base f t a o.scene o.before o.after o.first);
  }

  record Row (total : ℤ) (base : Course) (f : Store ℤ) (t : List ℤ) (s : Scene ℤ) (k left : ℕ) : Type 0 where
    mid : Scene ℤ
    before : ℕ
    after : ℕ
    done : tested q nw c line most_tests (forward_turn (suc d) line Fb) (scene base (set f (helper count (suc d)) 0 (pos 0)) t) before ≡ Done mid after
    is : k + after ≡ before + left + 3
    ends : scene (kept_of mid) mid.store (total ∷ mid.tape) ≡ s

  row_forth : (u u' : Store ℤ) (change : Words → Words) (loops : List LoopRun) (swept : TestsSwept q sh level xs d line c needed held Fb Bb wr most_tests 0 u u' change loops) (base : Course) (f : Store ℤ) (t : List ℤ) → SameOn sh needed u f → (s : Scene ℤ) (k left : ℕ) → run q nw (while_forward false (suc d) line c Fb) (scene base f t) k ≡ Done s left → Row (pos (0 + swept.turns)) base f t s k left
  row_forth u u' change loops swept base f t a s k left r =
      let total = pos (0 + swept.turns) in
      let f1 = set f (helper count (suc d)) 0 (pos 0) in
      let push = push_own line (helper count (suc d)) stop in
      let o1 = after_one q nw line (assign (helper count (suc d)) none (literal 0)) (step line (during c (forward_turn (suc d) line Fb)) push) (scene base f t) (scene base f1 t) s k left (λ i. refl) r in
      let o2 = step_done q nw line (during c (forward_turn (suc d) line Fb)) push (scene base f1 t) s o1.before left o1.done in
      let mid = o2.scene in
      let w = swept.forth base f1 t (record { at = λ y j lt h. a.at y j lt h }) (rw (nat_refl (suc d)) refl) in
      let end1 = tests_end qs depth nw c line (forward_turn (suc d) line Fb) most_tests (scene base f1 t) (scene w.runs.later w.to (w.trail ++ t)) mid o2.before o2.after w.runs.cost w.runs.by o2.first in
      let count_mid : mid.store (helper count (suc d)) 0 ≡ total = ap (λ (z : Scene ℤ). z.store (helper count (suc d)) 0) end1 ∙ w.counted_is in
      let p = after_one q nw line (runtime (push_word (helper count (suc d)) none)) stop mid (scene (kept_of mid) mid.store (total ∷ mid.tape)) s o2.after left (λ i. ap (λ (z : ℤ). Done (scene (kept_of mid) mid.store (z ∷ mid.tape)) i) count_mid) o2.others in
      let i1 = o1.is in let i2 = o2.is in let i3 = p.is in
      record {
        mid = mid;
        before = o2.before;
        after = o2.after;
        done = o2.first;
        is = omega (arith, i1, i2, i3, left_same (scene (kept_of mid) mid.store (total ∷ mid.tape)) s p.before left p.done);
        ends = done_same (scene (kept_of mid) mid.store (total ∷ mid.tape)) s p.before left p.done;
      }

  -- the row backward
  record Back (m : ℕ) (later : Course) (g : Store ℤ) (t : List ℤ) (e : Scene ℤ) (k left : ℕ) : Type 0 where
    before : ℕ
    is : k ≡ before + 2
    turned : turns nw m (run q nw Bb) (stepped nw (helper turn (suc d)) (negsuc 0)) (scene later (set (set g (helper count (suc d)) 0 (pos (0 + m))) (helper turn (suc d)) 0 (wrap (sub (pos (0 + m)) (pos 1)))) t) before ≡ Done e left

  row_back : (m : ℕ) → m < 2 ^ 63 → (later : Course) (g : Store ℤ) (t : List ℤ) (e : Scene ℤ) (k left : ℕ) → run q nw (while_backward false (suc d) line Bb) (scene later g (pos (0 + m) ∷ t)) k ≡ Done e left → Back m later g t e k left
  row_back m small later g t e k left r =
      let total = pos (0 + m) in
      let g1 = set g (helper count (suc d)) 0 total in
      let back = one line (loop (helper turn (suc d)) (bin minus (var (helper count (suc d))) (literal 1)) (literal 0) (neg (literal 1)) Bb unmarked) in
      let total_is : g1 (helper count (suc d)) 0 ≡ total = rw (nat_refl (suc d)) refl in
      let first_is : sub total (pos 1) ≡ sub (pos m) (pos 1) = let z : 0 + m ≡ m = omega arith in ap (λ y. sub (pos y) (pos 1)) z in
      let q1 = after_one q nw line (runtime (pop_word (helper count (suc d)) none)) back (scene later g (total ∷ t)) (scene later g1 t) e k left (λ i. refl) r in
      let q2 = looping q nw line (helper turn (suc d)) (bin minus (var (helper count (suc d))) (literal 1)) (literal 0) (neg (literal 1)) Bb stop (scene later g1 t) e q1.before left (sub total (pos 1)) (pos 0) (negsuc 0) m
      (ap (λ z. Ok (sub z (pos 1))) total_is) refl (ap Ok step_back) (ap (λ z. trips unmarked z (pos 0) (negsuc 0)) first_is ∙ trips_back m small) q1.done in
      let i1 = q1.is in let i2 = q2.is in
      record { before = q2.before; is = omega (arith, i1, i2); turned = q2.turned ∙ q2.others }

  pub cost_told : (u u' : Store ℤ) (change : Words → Words) (loops : List LoopRun) (swept : TestsSwept q sh level xs d line c needed held Fb Bb wr most_tests 0 u u' change loops) (most : ℕ) → ToldTests most_tests 0 u u' change loops swept most →
      BothCost q sh level (while_forward false (suc d) line c Fb) (while_backward false (suc d) line Bb) needed held u (most + 5)
  cost_told u u' change loops swept most l = record { at = λ base f t a s k left r later g b e k1 left1 r1. go base f t a s k left (row_forth u u' change loops swept base f t a s k left r) later g b e k1 left1 r1 }
    where
      m : ℕ
      m = swept.turns

      small : m < 2 ^ 63
      small = let le = swept.small in let e : 0 + m ≡ m = omega arith in subst (λ z. z < 2 ^ 63) e le

      go : (base : Course) (f : Store ℤ) (t : List ℤ) → SameOn sh needed u f → (s : Scene ℤ) (k left : ℕ) → Row (pos (0 + m)) base f t s k left → (later : Course) (g : Store ℤ) → SameOn sh held s.store g → (e : Scene ℤ) (k1 left1 : ℕ) → run q nw (while_backward false (suc d) line Bb) (scene later g s.tape) k1 ≡ Done e left1 → k + k1 ≤ left + left1 + (most + 5)
      go base f t a s k left o later g b e k1 left1 r1 =
          let p = row_back m small later g o.mid.tape e k1 left1 (ap (λ (z : Scene ℤ). run q nw (while_backward false (suc d) line Bb) (scene later g z.tape) k1) o.ends ∙ r1) in
          let g2 = set (set g (helper count (suc d)) 0 (pos (0 + m))) (helper turn (suc d)) 0 (wrap (sub (pos (0 + m)) (pos 1))) in
          let b0 = subst (λ (z : Scene ℤ). SameOn sh held z.store g) (sym o.ends) b in
          let b2 : SameOn sh held o.mid.store g2 = record { at = λ y j lt i. b0.at y j lt i } in
          let i3 = l.at base (set f (helper count (suc d)) 0 (pos 0)) t (record { at = λ y j lt h. a.at y j lt h }) (rw (nat_refl (suc d)) refl) o.mid o.before o.after o.done later g2 b2 (rw (nat_refl (suc d)) (wrap-wrap _)) e p.before left1 p.turned in
          sum k left o.before o.after k1 left1 p.before o.is p.is i3
        where
          sum : (k left before after k1 left1 before1 : ℕ) → k + after ≡ before + left + 3 → k1 ≡ before1 + 2 → before + before1 ≤ after + left1 + most → k + k1 ≤ left + left1 + (most + 5)
          sum k left before after k1 left1 before1 i1 i2 i3 = omega (arith, i1, i2, i3)
