-- What both sweeps take of lists one after another, and of an IF.
use Rattle.std.proofs.Common.{◌≡◌, ◌≤◌, ℕ, suc, ◌+◌, Bool, true, false, List, ◌∷◌, ◌++◌, refl, sym, ap, ◌∙◌, subst, arith}
use Rattle.std.specs.Prelude.{ℤ, pos, Ok}
use Rattle.adj_tree.specs.Code.{Var, helper, control, is_same, var, Test, compare, choose, runtime, push_control, pop_control, Code, stop, Procedure}
use Rattle.def_meaning.specs.Append.{◌+++◌, one}
use Rattle.def_meaning.specs.Store.{Shape, Store, set}
use Rattle.def_meaning.specs.Value.{Setting, holds}
use Rattle.def_meaning.specs.Scene.{Scene, Done}
use Rattle.def_meaning.specs.Run.{Calls, run}
use Rattle.def_meaning.specs.Units.{calls_of}
use Rattle.law_meaning.proofs.Inversions.{done_same}
use Rattle.def_names.specs.Numbers.{Vars}
use Rattle.def_sweep.specs.Facts.{Within}
use Rattle.law_sweep.specs.Pairs.{Key, Words, on_words}
use Rattle.law_sweep.specs.Scenes.{Course, scene}
use Rattle.def_sweep.specs.Rows.{told_forward, told_backward, literal}
use Rattle.def_sweep.specs.Reversals.{LoopRun}
use Rattle.law_sweep.specs.Runs.{SameOn}
use Rattle.law_sweep.proofs.Choices.{part}
use Rattle.law_sweep.proofs.Runs.{same_within}
use Rattle.law_sweep.proofs.Sweeps.{Sweeps}
use Rattle.law_cost.specs.Sweeps.{statements_of}
use Rattle.law_cost.specs.Along.{BothCost}
use Rattle.law_cost.proofs.Runs.{one_end, left_same, append_done, step_done, one_done, chosen, IsStraight, straight_cost, IsPushing, pushing_keeps}

-- what a scene keeps besides store and tape
abbrev pub kept_of : Scene ℤ → Course
kept_of s = record { opened = s.opened; events = s.events }

-- the word that tells which part of an IF ran
abbrev ran_word : Bool → ℕ
ran_word true = 1
ran_word false = 0

module _ (qs : List Procedure) (depth : ℕ) (sh : Var → Shape) (level : ℕ) where
  abbrev q : Calls ℤ
  q = calls_of qs depth

  abbrev nw : Setting ℤ
  nw = on_words sh level

  -- nothing
  pub cost_stop : (n h : Vars) (u : Store ℤ) → BothCost q sh level stop stop n h u 0
  cost_stop n h u = record { at = λ base f t a s k left r later g b e k1 left1 r1. omega (arith, left_same _ s k left r, left_same _ e k1 left1 r1) }

  -- more may be needed and held, and the bound may be higher
  pub cost_more : (forth back : Code) (n n1 h h1 : Vars) (u : Store ℤ) (m m1 : ℕ) → Within n1 n → Within h1 h → m ≤ m1 → BothCost q sh level forth back n1 h1 u m → BothCost q sh level forth back n h u m1
  cost_more forth back n n1 h h1 u m m1 n_less h_less le x = record {
    at = λ base f t a s k left r later g b e k1 left1 r1. omega (arith, le, x.at base f t (same_within sh n n1 u f n_less a) s k left r later g (same_within sh h h1 s.store g h_less b) e k1 left1 r1);
  }

  -- straight code
  pub cost_straight : (forth back : Code) (n h : Vars) (u : Store ℤ) → IsStraight forth → IsStraight back → BothCost q sh level forth back n h u (statements_of forth + statements_of back)
  cost_straight forth back n h u i j = record {
    at = λ base f t a s k left r later g b e k1 left1 r1. omega (arith, straight_cost q nw forth i (scene base f t) s k left r, straight_cost q nw back j (scene later g s.tape) e k1 left1 r1);
  }

  -- lists one after another
  pub cost_append : (xs : List Key) (d : ℕ) (f1 f2 b1 b2 : Code) (n n1 n2 h h1 h2 w1 w2 : Vars) (u u1 u2 : Store ℤ) (c1 c2 : Words → Words) (l1 l2 : List LoopRun) (m1 m2 : ℕ) →
      Sweeps q sh level xs d f1 b1 n n1 h h1 w1 u u1 c1 l1 → Sweeps q sh level xs d f2 b2 n1 n2 h1 h2 w2 u1 u2 c2 l2 →
      BothCost q sh level f1 b1 n h1 u m1 → BothCost q sh level f2 b2 n1 h2 u1 m2 → BothCost q sh level (f1 +++ f2) (b2 +++ b1) n h2 u (m1 + m2)
  cost_append xs d f1 f2 b1 b2 n n1 n2 h h1 h2 w1 w2 u u1 u2 c1 c2 l1 l2 m1 m2 s1 s2 x1 x2 = record {
    at = λ base f t a s k left r later g b e k1 left1 r1.
        let o = append_done q nw f1 f2 (scene base f t) s k left r in
        let way1 = s1.way base f t a in
        let end1 = one_end qs depth nw f1 (scene base f t) (scene way1.runs.later way1.to (way1.trail ++ t)) o.scene k o.left way1.runs.runs o.first in
        let a1 : SameOn sh n1 u1 o.scene.store = subst (λ (z : Scene ℤ). SameOn sh n1 u1 z.store) (sym end1) way1.same in
        let way2 = s2.way (kept_of o.scene) o.scene.store o.scene.tape a1 in
        let end2 = one_end qs depth nw f2 o.scene (scene way2.runs.later way2.to (way2.trail ++ o.scene.tape)) s o.left left way2.runs.runs o.second in
        let p = append_done q nw b2 b1 (scene later g s.tape) e k1 left1 r1 in
        let back2 = way2.returns later g (subst (λ (z : Scene ℤ). SameOn sh h2 z.store g) end2 b) in
        let p1 : run q nw b2 (scene later g (way2.trail ++ o.scene.tape)) k1 ≡ Done p.scene p.left = ap (λ (z : Scene ℤ). run q nw b2 (scene later g z.tape) k1) (sym end2) ∙ p.first in
        let end3 = one_end qs depth nw b2 (scene later g (way2.trail ++ o.scene.tape)) (scene back2.runs.later back2.after o.scene.tape) p.scene k1 p.left back2.runs.runs p1 in
        let a3 : SameOn sh h1 o.scene.store p.scene.store = subst (λ (z : Scene ℤ). SameOn sh h1 o.scene.store z.store) (sym end3) back2.same in
        let p2 : run q nw b1 (scene (kept_of p.scene) p.scene.store o.scene.tape) p.left ≡ Done e left1 = ap (λ (z : Scene ℤ). run q nw b1 (scene (kept_of p.scene) p.scene.store z.tape) p.left) (sym end3) ∙ p.second in
        omega (arith, x1.at base f t a o.scene k o.left o.first (kept_of p.scene) p.scene.store a3 e p.left left1 p2, x2.at (kept_of o.scene) o.scene.store o.scene.tape a1 s o.left left o.second later g b p.scene k1 p.left p.first);
  }

  -- ---- an IF

  module _ (line : ℕ) (c : Test) (ran : Bool) (fa fb ba bb : Code) (n h : Vars) (u : Store ℤ) (m : ℕ) (is : (f : Store ℤ) → SameOn sh n u f → holds nw c f ≡ Ok ran) (x : BothCost q sh level (part ran fa fb) (part ran ba bb) n h u m) where
    -- without a backward sweep
    pub cost_silent : ba ≡ stop → bb ≡ stop → BothCost q sh level (one line (choose c fa fb)) stop n h u (m + 1)
    cost_silent ea eb = record {
      at = λ base f t a s k left r later g b e k1 left1 r1.
          let o = chosen q nw line ran c fa fb (scene base f t) s k left (is f a) r in
          let none : run q nw (part ran ba bb) (scene later g s.tape) k1 ≡ Done e left1 = ap (λ z. run q nw z (scene later g s.tape) k1) (both ran) ∙ r1 in
          let before = o.is in
          omega (arith, before, x.at base f t a s o.before left o.done later g b e k1 left1 none);
    }
      where
        both : (r : Bool) → part r ba bb ≡ stop
        both true = ea
        both false = eb

    -- the part that ran, and the word that tells it
    record Told (s0 s : Scene ℤ) (k left : ℕ) : Type 0 where
      middle : Scene ℤ
      after : ℕ
      first : run q nw (part ran fa fb) s0 k ≡ Done middle after
      is_left : after ≡ suc left
      ends : record middle { tape = pos (ran_word ran) ∷ middle.tape } ≡ s

    told_part : (s0 s : Scene ℤ) (k left : ℕ) → run q nw (part ran (told_forward false line fa 1) (told_forward false line fb 0)) s0 k ≡ Done s left → Told s0 s k left
    told_part s0 s k left r = go ran (word ran) r
      where
        pushing : ℕ → Code
        pushing w = one line (runtime (push_control (literal w)))

        word : (b : Bool) → part b (told_forward false line fa 1) (told_forward false line fb 0) ≡ part b fa fb +++ pushing (ran_word b)
        word true = refl
        word false = refl

        go : (b : Bool) → part b (told_forward false line fa 1) (told_forward false line fb 0) ≡ part b fa fb +++ pushing (ran_word b) → run q nw (part ran (told_forward false line fa 1) (told_forward false line fb 0)) s0 k ≡ Done s left → Told s0 s k left
        go b e r =
            let o = append_done q nw (part ran fa fb) (pushing (ran_word ran)) s0 s k left (ap (λ z. run q nw z s0 k) (sym (word ran)) ∙ r) in
            let p = one_done q nw line (runtime (push_control (literal (ran_word ran)))) o.scene s o.left left o.second in
            let l = left_same (record o.scene { tape = pos (ran_word ran) ∷ o.scene.tape }) s p.before left p.done in
            record { middle = o.scene; after = o.left; first = o.first; is_left = p.is ∙ ap suc l; ends = cc }

    pub cost_told : BothCost q sh level (one line (choose c (told_forward false line fa 1) (told_forward false line fb 0))) (told_backward false line ba bb) n h u (m + 4)
    cost_told = record {
      at = λ base f t a s k left r later g b e k1 left1 r1.
          let o = chosen q nw line ran c (told_forward false line fa 1) (told_forward false line fb 0) (scene base f t) s k left (is f a) r in
          let w = told_part (scene base f t) s o.before left o.done in
          let word = pos (ran_word ran) in
          let g1 = set g (helper control 0) 0 word in
          let test = compare is_same (var (helper control 0)) (literal 1) in
          let r2 : run q nw (told_backward false line ba bb) (scene later g (word ∷ w.middle.tape)) k1 ≡ Done e left1 = ap (λ (z : Scene ℤ). run q nw (told_backward false line ba bb) (scene later g z.tape) k1) w.ends ∙ r1 in
          let p = step_done q nw line (runtime (pop_control (helper control 0))) (one line (choose test ba bb)) (scene later g (word ∷ w.middle.tape)) e k1 left1 r2 in
          let popped : scene later g1 w.middle.tape ≡ p.scene = done_same (scene later g1 w.middle.tape) p.scene p.before p.after p.first in
          let same_left = left_same (scene later g1 w.middle.tape) p.scene p.before p.after p.first in
          let r3 : run q nw (one line (choose test ba bb)) (scene later g1 w.middle.tape) p.after ≡ Done e left1 = ap (λ z. run q nw (one line (choose test ba bb)) z p.after) popped ∙ p.others in
          let v = chosen q nw line ran test ba bb (scene later g1 w.middle.tape) e p.after left1 (word_tells ran g) r3 in
          let b1 : SameOn sh h w.middle.store g1 = let b0 = subst (λ (z : Scene ℤ). SameOn sh h z.store g) (sym w.ends) b in record { at = λ y j l i. b0.at y j l i } in
          let is1 = o.is in let is2 = w.is_left in let is3 = p.is in let is4 = v.is in
          omega (arith, is1, is2, is3, is4, same_left, x.at base f t a w.middle o.before w.after w.first later g1 b1 e v.before left1 v.done);
    }
      where
        word_tells : (r : Bool) (g : Store ℤ) → holds nw (compare is_same (var (helper control 0)) (literal 1)) (set g (helper control 0) 0 (pos (ran_word r))) ≡ Ok r
        word_tells true g = refl
        word_tells false g = refl

  -- ---- pushes before it, and straight code behind

  pub cost_around : (before behind forth back : Code) (n h : Vars) (u : Store ℤ) (m : ℕ) → IsPushing before → IsStraight behind → BothCost q sh level forth back n h u m → BothCost q sh level (before +++ forth) (back +++ behind) n h u (m + (statements_of before + statements_of behind))
  cost_around before behind forth back n h u m i j x = record {
    at = λ base f t a s k left r later g b e k1 left1 r1.
        let o = append_done q nw before forth (scene base f t) s k left r in
        let p = append_done q nw back behind (scene later g s.tape) e k1 left1 r1 in
        let kept = pushing_keeps q nw refl before i (scene base f t) o.scene k o.left o.first in
        let a1 : SameOn sh n u o.scene.store = subst (λ (z : Store ℤ). SameOn sh n u z) (sym kept.0) a in
        let cost1 = kept.1 in
        omega (arith, cost1, straight_cost q nw behind j p.scene e p.left left1 p.second, x.at (kept_of o.scene) o.scene.store o.scene.tape a1 s o.left left o.second later g b p.scene k1 p.left p.first);
  }
