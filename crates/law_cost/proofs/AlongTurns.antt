-- What both sweeps take of the turns of a DO.
use Rattle.std.proofs.Common.{◌≡◌, ◌<◌, ◌≤◌, ◌^◌, ℕ, suc, ◌+◌, false, List, ◌++◌, refl, sym, ap, ◌∙◌, subst, arith}
use Rattle.std.specs.Prelude.{ℤ, pos, negsuc}
use Rattle.adj_tree.specs.Code.{Var, plain, helper, first, stride, count, turn, name_eq, plus, times, var, bin, none, assign, Code, stop, Procedure}
use Rattle.adj_tree.proofs.Names.{nat_refl, name_refl}
use Rattle.adj_word.specs.Word.{add, mul}
use Rattle.adj_word.proofs.Counting.{count_up, count_down}
use Rattle.def_meaning.specs.Append.{one}
use Rattle.def_meaning.specs.Store.{Shape, size_of, Store, set}
use Rattle.def_meaning.specs.Value.{Setting}
use Rattle.def_meaning.specs.Scene.{Scene, Done}
use Rattle.def_meaning.specs.Run.{Calls, run, turns, stepped}
use Rattle.def_meaning.specs.Units.{calls_of}
use Rattle.law_meaning.proofs.Inversions.{done_same}
use Rattle.def_names.specs.Numbers.{Vars}
use Rattle.def_sweep.specs.Facts.{In}
use Rattle.law_sweep.specs.Pairs.{Key, Words, on_words}
use Rattle.law_sweep.specs.Scenes.{Course, scene}
use Rattle.def_sweep.specs.Rows.{literal}
use Rattle.def_sweep.specs.Reversals.{LoopRun}
use Rattle.law_sweep.specs.Runs.{SameOn}
use Rattle.law_sweep.proofs.Runs.{same_refl}
use Rattle.law_sweep.proofs.Sweeps.{Sweeps}
use Rattle.law_sweep.proofs.LoopSweeps.{same_set, same_back, forward_turn, backward_turn, AtTurn, LoopSwept}
use Rattle.law_cost.specs.Along.{BothCost}
use Rattle.law_cost.proofs.Runs.{one_end, left_same, append_done, first_turn, last_turn, after_one, turns_end}
use Rattle.law_cost.proofs.Along.{kept_of}

module _ (qs : List Procedure) (depth : ℕ) (sh : Var → Shape) (level : ℕ) (xs : List Key) (d line : ℕ) (x : List ℕ) (one_cell : size_of (sh (plain x)) ≡ 1) (a0 c0 : ℤ) (needed needed_last held held_last : Vars) (needs : (y : List ℕ) → name_eq y x ≡ false → In (plain y) needed → In (plain y) needed_last) (holds : (y : List ℕ) → name_eq y x ≡ false → In (plain y) held_last → In (plain y) held) (Fb Bb : Code) (wr : Vars) (spares : wr (plain x) ≡ false) where
  abbrev q : Calls ℤ
  q = calls_of qs depth

  abbrev nw : Setting ℤ
  nw = on_words sh level

  -- m turns from the j-th on, gone through by both sweeps
  pub record ToldTurns (m j : ℕ) (u : Store ℤ) (most : ℕ) : Type 0 where
    pub at : (base : Course) (f : Store ℤ) (t : List ℤ) → SameOn sh needed u f → f (plain x) 0 ≡ u (plain x) 0 → f (helper count (suc d)) 0 ≡ pos j → (s : Scene ℤ) (k left : ℕ) → turns nw m (run q nw (forward_turn (suc d) line Fb)) (stepped nw (plain x) c0) (scene base f t) k ≡ Done s left →
        (later : Course) (g : Store ℤ) → SameOn sh held s.store g → AtTurn (suc d) a0 c0 (j + m) g → (e : Scene ℤ) (k1 left1 : ℕ) → turns nw m (run q nw (backward_turn (suc d) line x Bb)) (stepped nw (helper turn (suc d)) (negsuc 0)) (scene later g s.tape) k1 ≡ Done e left1 → k + k1 ≤ left + left1 + most

  pub told_none : (j : ℕ) (u : Store ℤ) → ToldTurns 0 j u 0
  told_none j u = record { at = λ base f t a v c s k left r later g b n e k1 left1 r1. omega (arith, left_same _ s k left r, left_same _ e k1 left1 r1) }

  pub told_more : (m j : ℕ) (u ub u' : Store ℤ) (c1 c2 : Words → Words) (l1 l2 : List LoopRun) (mb mr : ℕ) → suc j < 2 ^ 63 → u (plain x) 0 ≡ add a0 (mul (pos j) c0) → ub (plain x) 0 ≡ u (plain x) 0 →
      Sweeps q sh level xs (suc d) Fb Bb needed needed_last held held_last wr u ub c1 l1 → LoopSwept q sh level xs d line x one_cell a0 c0 needed needed_last held held_last needs holds Fb Bb wr spares m (suc j) (set ub (plain x) 0 (add (ub (plain x) 0) c0)) u' c2 l2 →
      BothCost q sh level Fb Bb needed held_last u mb → ToldTurns m (suc j) (set ub (plain x) 0 (add (ub (plain x) 0) c0)) mr → ToldTurns (suc m) j u (mb + mr + 4)
  told_more m j u ub u' c1 c2 l1 l2 mb mr small value_is keeps s0 rest body others = record {
    at = λ base f t same v c s k left r later g b number e k1 left1 r1.
        let turn_forth = run q nw (forward_turn (suc d) line Fb) in
        let turn_back = run q nw (backward_turn (suc d) line x Bb) in
        let counting = one line (assign (helper count (suc d)) none (bin plus (var (helper count (suc d))) (literal 1))) in
        -- the first turn forward
        let ft = first_turn q nw m turn_forth (stepped nw (plain x) c0) (scene base f t) s k left r in
        let p = append_done q nw Fb counting (scene base f t) ft.end ft.before ft.rest ft.turn in
        let sa = p.scene in
        let f2 = set sa.store (helper count (suc d)) 0 (add (sa.store (helper count (suc d)) 0) (pos 1)) in
        let cd = after_one q nw line (assign (helper count (suc d)) none (bin plus (var (helper count (suc d))) (literal 1))) stop sa (scene (kept_of sa) f2 sa.tape) ft.end p.left ft.rest (λ i. refl) p.second in
        let ends : scene (kept_of sa) f2 sa.tape ≡ ft.end = done_same (scene (kept_of sa) f2 sa.tape) ft.end cd.before ft.rest cd.done in
        let cd_left = left_same (scene (kept_of sa) f2 sa.tape) ft.end cd.before ft.rest cd.done in
        -- its values
        let way = s0.way base f t same in
        let end1 = one_end qs depth nw Fb (scene base f t) (scene way.runs.later way.to (way.trail ++ t)) sa ft.before p.left way.runs.runs p.first in
        let at1 : way.to ≡ sa.store = ap (λ (z : Scene ℤ). z.store) (sym end1) in
        let before : sa.store (helper count (suc d)) 0 ≡ pos j = ap (λ (z : Store ℤ). z (helper count (suc d)) 0) (sym at1) ∙ way.depth.at count (suc d) 0 (omega arith) (omega arith) ∙ c in
        let f3 = set f2 (plain x) 0 (add (f2 (plain x) 0) c0) in
        let here : f3 (helper count (suc d)) 0 ≡ pos (suc j) = rw (nat_refl (suc d)) (ap (λ z. add z (pos 1)) before ∙ count_up j small) in
        let fx : f2 (plain x) 0 ≡ ub (plain x) 0 = ap (λ (z : Store ℤ). z (plain x) 0) (sym at1) ∙ way.off.at x 0 spares ∙ v ∙ sym keeps in
        let same_a : SameOn sh needed_last ub sa.store = subst (λ (z : Store ℤ). SameOn sh needed_last ub z) at1 way.same in
        let same2 : SameOn sh needed_last ub f2 = record { at = λ y i lt o. same_a.at y i lt o } in
        let same3 = same_set sh x one_cell needed_last needed ub f2 (add (ub (plain x) 0) c0) (add (f2 (plain x) 0) c0) (ap (λ z. add z c0) fx) needs same2 in
        let moved : f3 (plain x) 0 ≡ set ub (plain x) 0 (add (ub (plain x) 0) c0) (plain x) 0 = rw (name_refl x) (ap (λ z. add z c0) fx) in
        -- the others forward
        let forth_others : turns nw m turn_forth (stepped nw (plain x) c0) (scene (kept_of sa) f3 sa.tape) ft.rest ≡ Done s left = ap (λ (z : Scene ℤ). turns nw m turn_forth (stepped nw (plain x) c0) (stepped nw (plain x) c0 z) ft.rest) ends ∙ ft.others in
        let w2 = rest.forth (kept_of sa) f3 sa.tape same3 moved here in
        let end2 = turns_end qs depth nw (forward_turn (suc d) line Fb) (stepped nw (plain x) c0) m (scene (kept_of sa) f3 sa.tape) (scene w2.runs.later w2.to (w2.trail ++ sa.tape)) s ft.rest left w2.runs.cost w2.runs.by forth_others in
        -- the others backward
        let lt = last_turn q nw m turn_back (stepped nw (helper turn (suc d)) (negsuc 0)) (scene later g s.tape) e k1 left1 r1 in
        let sb = lt.middle in
        let count_is : suc j + m ≡ j + suc m = omega arith in
        let number1 : AtTurn (suc d) a0 c0 (suc j + m) g = record { start = number.start; step_is = number.step_is; number = number.number ∙ ap (λ z. add (pos z) (negsuc 0)) (sym count_is) } in
        let back2 = w2.back later g (subst (λ (z : Scene ℤ). SameOn sh held z.store g) end2 b) number1 in
        let back_others : turns nw m turn_back (stepped nw (helper turn (suc d)) (negsuc 0)) (scene later g (w2.trail ++ sa.tape)) k1 ≡ Done sb lt.rest = ap (λ (z : Scene ℤ). turns nw m turn_back (stepped nw (helper turn (suc d)) (negsuc 0)) (scene later g z.tape) k1) (sym end2) ∙ lt.others in
        let end3 = turns_end qs depth nw (backward_turn (suc d) line x Bb) (stepped nw (helper turn (suc d)) (negsuc 0)) m (scene later g (w2.trail ++ sa.tape)) (scene back2.runs.later back2.after sa.tape) sb k1 lt.rest back2.runs.cost back2.runs.by back_others in
        let at3 : back2.after ≡ sb.store = ap (λ (z : Scene ℤ). z.store) (sym end3) in
        let same_b : SameOn sh held f3 sb.store = subst (λ (z : Store ℤ). SameOn sh held f3 z) at3 back2.same in
        let number2 : AtTurn (suc d) a0 c0 (suc j) sb.store = subst (λ (z : Store ℤ). AtTurn (suc d) a0 c0 (suc j) z) at3 back2.at in
        -- the last turn backward
        let w = add (sb.store (helper first (suc d)) 0) (mul (sb.store (helper turn (suc d)) 0) (sb.store (helper stride (suc d)) 0)) in
        let lower : sb.store (helper turn (suc d)) 0 ≡ pos j = number2.number ∙ count_down j (omega arith) in
        let w_is : w ≡ add a0 (mul (pos j) c0) = λ i. add (number2.start i) (mul (lower i) (number2.step_is i)) in
        let g2 = set sb.store (plain x) 0 w in
        let f2x : w ≡ f2 (plain x) 0 = w_is ∙ sym value_is ∙ sym keeps ∙ sym fx in
        let back_same = same_back sh x one_cell held held_last f2 sb.store (add (f2 (plain x) 0) c0) w f2x holds same_b in
        let body_same : SameOn sh held_last sa.store g2 = record { at = λ y i lt o. back_same.at y i lt o } in
        let st = after_one q nw line (assign (plain x) none (bin plus (var (helper first (suc d))) (bin times (var (helper turn (suc d))) (var (helper stride (suc d)))))) Bb sb (scene (kept_of sb) g2 sb.tape) lt.end lt.before left1 (λ i. refl) lt.turn in
        let body_back : run q nw Bb (scene (kept_of sb) g2 sa.tape) st.before ≡ Done lt.end left1 = ap (λ (z : Scene ℤ). run q nw Bb (scene (kept_of sb) g2 z.tape) st.before) (sym end3) ∙ st.done in
        let is1 = ft.is in let is2 = cd.is in let is3 = lt.is in let is4 = st.is in
        omega (
          arith,
          is1,
          is2,
          is3,
          is4,
          cd_left,
          body.at base f t same sa ft.before p.left p.first (kept_of sb) g2 body_same lt.end st.before left1 body_back,
          others.at (kept_of sa) f3 sa.tape same3 moved here s ft.rest left forth_others later g b number1 sb k1 lt.rest lt.others,
        );
  }

  -- m turns whose body has no backward sweep
  pub record SilentTurns (m : ℕ) (u : Store ℤ) (most : ℕ) : Type 0 where
    pub at : (base : Course) (f : Store ℤ) (t : List ℤ) → SameOn sh needed u f → f (plain x) 0 ≡ u (plain x) 0 → (s : Scene ℤ) (k left : ℕ) → turns nw m (run q nw Fb) (stepped nw (plain x) c0) (scene base f t) k ≡ Done s left → k ≤ left + most

  pub silent_none : (u : Store ℤ) → SilentTurns 0 u 0
  silent_none u = record { at = λ base f t a v s k left r. omega (arith, left_same _ s k left r) }

  pub silent_more : (m : ℕ) (u ub : Store ℤ) (c1 : Words → Words) (l1 : List LoopRun) (mb mr : ℕ) → ub (plain x) 0 ≡ u (plain x) 0 → Bb ≡ stop → Sweeps q sh level xs (suc d) Fb Bb needed needed_last held held_last wr u ub c1 l1 →
      BothCost q sh level Fb Bb needed held_last u mb → SilentTurns m (set ub (plain x) 0 (add (ub (plain x) 0) c0)) mr → SilentTurns (suc m) u (mb + mr + 1)
  silent_more m u ub c1 l1 mb mr keeps empty s0 body others = record {
    at = λ base f t same v s k left r.
        let ft = first_turn q nw m (run q nw Fb) (stepped nw (plain x) c0) (scene base f t) s k left r in
        let sa = ft.end in
        let way = s0.way base f t same in
        let end1 = one_end qs depth nw Fb (scene base f t) (scene way.runs.later way.to (way.trail ++ t)) sa ft.before ft.rest way.runs.runs ft.turn in
        let at1 : way.to ≡ sa.store = ap (λ (z : Scene ℤ). z.store) (sym end1) in
        let fx : sa.store (plain x) 0 ≡ ub (plain x) 0 = ap (λ (z : Store ℤ). z (plain x) 0) (sym at1) ∙ way.off.at x 0 spares ∙ v ∙ sym keeps in
        let same_a : SameOn sh needed_last ub sa.store = subst (λ (z : Store ℤ). SameOn sh needed_last ub z) at1 way.same in
        let f3 = set sa.store (plain x) 0 (add (sa.store (plain x) 0) c0) in
        let same3 = same_set sh x one_cell needed_last needed ub sa.store (add (ub (plain x) 0) c0) (add (sa.store (plain x) 0) c0) (ap (λ z. add z c0) fx) needs same_a in
        let moved : f3 (plain x) 0 ≡ set ub (plain x) 0 (add (ub (plain x) 0) c0) (plain x) 0 = rw (name_refl x) (ap (λ z. add z c0) fx) in
        let nothing : run q nw Bb sa 0 ≡ Done sa 0 = ap (λ z. run q nw z sa 0) empty in
        let is1 = ft.is in
        omega (arith, is1, body.at base f t same sa ft.before ft.rest ft.turn (kept_of sa) sa.store (same_refl sh held_last sa.store) sa 0 0 nothing, others.at (kept_of sa) f3 sa.tape same3 moved s ft.rest left ft.others);
  }
