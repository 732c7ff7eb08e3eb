-- What both sweeps take of a DO.
use Rattle.std.proofs.Common.{◌≡◌, ◌<◌, ◌≤◌, ◌^◌, ℕ, suc, ◌+◌, true, false, List, ◌∷◌, ◌++◌, refl, sym, ap, ◌∙◌, subst, arith}
use Rattle.std.specs.Prelude.{ℤ, pos, negsuc, Ok}
use Rattle.adj_tree.specs.Code.{Var, plain, helper, first, stride, count, turn, name_eq, minus, Term, var, neg, bin, none, unmarked, assign, loop, runtime, push_word, pop_word, Code, stop, step, Procedure}
use Rattle.adj_tree.proofs.Names.{nat_refl, name_refl}
use Rattle.adj_word.specs.Word.{wrap, sub}
use Rattle.adj_word.proofs.Residues.{wrap-wrap}
use Rattle.def_meaning.specs.Append.{one}
use Rattle.def_meaning.specs.Store.{Shape, size_of, Store, set}
use Rattle.def_meaning.specs.Value.{Setting, value}
use Rattle.def_meaning.specs.Scene.{Scene, Done}
use Rattle.def_meaning.specs.Run.{Calls, run, turns, stepped, trips}
use Rattle.def_meaning.specs.Units.{calls_of}
use Rattle.law_meaning.proofs.Inversions.{done_same}
use Rattle.def_names.specs.Numbers.{Vars}
use Rattle.def_sweep.specs.Facts.{In}
use Rattle.law_sweep.specs.Pairs.{Key, Words, on_words}
use Rattle.law_sweep.specs.Scenes.{Course, scene}
use Rattle.def_sweep.specs.Rows.{literal, set_own, push_own, pop_own, loop_forward, loop_backward}
use Rattle.def_sweep.specs.Reversals.{LoopRun}
use Rattle.law_sweep.specs.Runs.{SameOn}
use Rattle.law_sweep.proofs.LoopSweeps.{same_set, forward_turn, backward_turn, AtTurn, LoopSwept}
use Rattle.law_sweep.proofs.Loops.{trips_back, step_back}
use Rattle.law_cost.specs.Along.{BothCost}
use Rattle.law_cost.proofs.Runs.{left_same, after_one, looping, turns_end}
use Rattle.law_cost.proofs.Along.{kept_of}
use Rattle.law_cost.proofs.AlongTurns.{ToldTurns, SilentTurns}

module _ (qs : List Procedure) (depth : ℕ) (sh : Var → Shape) (level : ℕ) (xs : List Key) (d line : ℕ) (x : List ℕ) (one_cell : size_of (sh (plain x)) ≡ 1) (a0 b0 c0 : ℤ) (needed needed_in needed_last held held_last : Vars) (needs : (y : List ℕ) → name_eq y x ≡ false → In (plain y) needed_in → In (plain y) needed_last) (holds : (y : List ℕ) → name_eq y x ≡ false → In (plain y) held_last → In (plain y) held) (needs_in : (y : List ℕ) → name_eq y x ≡ false → In (plain y) needed_in → In (plain y) needed)
    (ea eb ec : Term) (Fb Bb : Code) (wr : Vars) (spares : wr (plain x) ≡ false) (m : ℕ) (small : m < 2 ^ 63) (turns_is : trips unmarked a0 b0 c0 ≡ Ok m) (u u' : Store ℤ)
    (is_a : (f : Store ℤ) → SameOn sh needed u f → value (on_words sh level) ea f ≡ Ok a0) (is_b : (f : Store ℤ) → SameOn sh needed u f → value (on_words sh level) eb f ≡ Ok b0) (is_c : (f : Store ℤ) → SameOn sh needed u f → value (on_words sh level) ec f ≡ Ok c0) where
  abbrev q : Calls ℤ
  q = calls_of qs depth

  abbrev nw : Setting ℤ
  nw = on_words sh level

  -- the values at the entry
  entered : (f : Store ℤ) → SameOn sh needed u f → SameOn sh needed_in (set u (plain x) 0 (wrap a0)) (set f (plain x) 0 (wrap a0))
  entered f s = same_set sh x one_cell needed needed_in u f (wrap a0) (wrap a0) refl needs_in s

  here : (f : Store ℤ) (v : ℤ) → set f (plain x) 0 v (plain x) 0 ≡ v
  here f v = rw (name_refl x) refl

  -- the body has no backward sweep
  pub cost_silent : (most : ℕ) → SilentTurns qs depth sh level xs d line x one_cell a0 c0 needed_in needed_last held held_last needs holds Fb Bb wr spares m (set u (plain x) 0 (wrap a0)) most →
      BothCost q sh level (loop_forward true (suc d) line (plain x) ea eb ec Fb) (loop_backward true (suc d) line (plain x) Bb) needed held u (most + 1)
  cost_silent most l = record {
    at = λ base f t a s k left r later g b e k1 left1 r1.
        let o = looping q nw line (plain x) ea eb ec Fb stop (scene base f t) s k left a0 b0 c0 m (is_a f a) (is_b f a) (is_c f a) turns_is r in
        let f1 = set f (plain x) 0 (wrap a0) in
        let is = o.is in
        omega (arith, is, left_same o.scene s o.after left o.others, left_same _ e k1 left1 r1, l.at base f1 t (entered f a) (here f (wrap a0) ∙ sym (here u (wrap a0))) o.scene o.before o.after o.turned);
  }

  sub_first : sub (pos (0 + m)) (pos 1) ≡ sub (pos m) (pos 1)
  sub_first = let e : 0 + m ≡ m = omega arith in ap (λ z. sub (pos z) (pos 1)) e

  -- ---- its turns are gone through from the last to the first

  abbrev total : ℤ
  total = pos (0 + m)

  -- the helpers at the entry, and when they are popped
  abbrev f1 : Store ℤ → Store ℤ
  f1 f = set f (helper first (suc d)) 0 a0

  abbrev f2 : Store ℤ → Store ℤ
  f2 f = set (f1 f) (helper stride (suc d)) 0 c0

  abbrev f3 : Store ℤ → Store ℤ
  f3 f = set (f2 f) (helper count (suc d)) 0 (pos 0)

  abbrev f4 : Store ℤ → Store ℤ
  f4 f = set (f3 f) (plain x) 0 (wrap a0)

  abbrev g3 : Store ℤ → Store ℤ
  g3 g = set (set (set g (helper count (suc d)) 0 total) (helper stride (suc d)) 0 c0) (helper first (suc d)) 0 a0

  abbrev g4 : Store ℤ → Store ℤ
  g4 g = set (g3 g) (helper turn (suc d)) 0 (wrap (sub total (pos 1)))

  abbrev pushing : Code
  pushing = push_own line (helper first (suc d)) (push_own line (helper stride (suc d)) (push_own line (helper count (suc d)) stop))

  abbrev turning : Code
  turning = step line (loop (plain x) (var (helper first (suc d))) eb (var (helper stride (suc d))) (forward_turn (suc d) line Fb) unmarked) pushing

  -- three statements, and then others
  record Three (c : Code) (s e : Scene ℤ) (k left : ℕ) : Type 0 where
    before : ℕ
    is : k ≡ before + 3
    done : run q nw c s before ≡ Done e left

  set_three : (base : Course) (f : Store ℤ) (t : List ℤ) → SameOn sh needed u f → (s : Scene ℤ) (k left : ℕ) → run q nw (loop_forward false (suc d) line (plain x) ea eb ec Fb) (scene base f t) k ≡ Done s left → Three turning (scene base (f3 f) t) s k left
  set_three base f t a s k left r =
      let o1 = after_one q nw line (assign (helper first (suc d)) none ea) (set_own line (helper stride (suc d)) ec (set_own line (helper count (suc d)) (literal 0) turning)) (scene base f t) (scene base (f1 f) t) s k left (λ i. rw (is_a f a) refl) r in
      let o2 = after_one q nw line (assign (helper stride (suc d)) none ec) (set_own line (helper count (suc d)) (literal 0) turning) (scene base (f1 f) t) (scene base (f2 f) t) s o1.before left (λ i. rw (is_c (f1 f) (record { at = λ y j lt h. a.at y j lt h })) refl) o1.done in
      let o3 = after_one q nw line (assign (helper count (suc d)) none (literal 0)) turning (scene base (f2 f) t) (scene base (f3 f) t) s o2.before left (λ i. refl) o2.done in
      let i1 = o1.is in let i2 = o2.is in let i3 = o3.is in
      record { before = o3.before; is = omega (arith, i1, i2, i3); done = o3.done }

  -- what is pushed
  record Pushed (mid s : Scene ℤ) (k left : ℕ) : Type 0 where
    is : k ≡ left + 3
    ends : scene (kept_of mid) mid.store (total ∷ (c0 ∷ (a0 ∷ mid.tape))) ≡ s

  push_three : (mid s : Scene ℤ) (k left : ℕ) → mid.store (helper first (suc d)) 0 ≡ a0 → mid.store (helper stride (suc d)) 0 ≡ c0 → mid.store (helper count (suc d)) 0 ≡ total → run q nw pushing mid k ≡ Done s left → Pushed mid s k left
  push_three mid s k left first_is stride_is count_is r =
      let b = kept_of mid in
      let f = mid.store in
      let t = mid.tape in
      let p1 = after_one q nw line (runtime (push_word (helper first (suc d)) none)) (push_own line (helper stride (suc d)) (push_own line (helper count (suc d)) stop)) mid (scene b f (a0 ∷ t)) s k left (λ i. ap (λ (z : ℤ). Done (scene b f (z ∷ t)) i) first_is) r in
      let p2 = after_one q nw line (runtime (push_word (helper stride (suc d)) none)) (push_own line (helper count (suc d)) stop) (scene b f (a0 ∷ t)) (scene b f (c0 ∷ (a0 ∷ t))) s p1.before left (λ i. ap (λ (z : ℤ). Done (scene b f (z ∷ (a0 ∷ t))) i) stride_is) p1.done in
      let p3 = after_one q nw line (runtime (push_word (helper count (suc d)) none)) stop (scene b f (c0 ∷ (a0 ∷ t))) (scene b f (total ∷ (c0 ∷ (a0 ∷ t)))) s p2.before left (λ i. ap (λ (z : ℤ). Done (scene b f (z ∷ (c0 ∷ (a0 ∷ t)))) i) count_is) p2.done in
      let i1 = p1.is in let i2 = p2.is in let i3 = p3.is in
      record {
        is = omega (arith, i1, i2, i3, left_same (scene b f (total ∷ (c0 ∷ (a0 ∷ t)))) s p3.before left p3.done);
        ends = done_same (scene b f (total ∷ (c0 ∷ (a0 ∷ t)))) s p3.before left p3.done;
      }

  -- the row backward
  record Back (later : Course) (g : Store ℤ) (t : List ℤ) (e : Scene ℤ) (k left : ℕ) : Type 0 where
    before : ℕ
    is : k ≡ before + 4
    turned : turns nw m (run q nw (backward_turn (suc d) line x Bb)) (stepped nw (helper turn (suc d)) (negsuc 0)) (scene later (g4 g) t) before ≡ Done e left

  row_back : (later : Course) (g : Store ℤ) (t : List ℤ) (e : Scene ℤ) (k left : ℕ) → run q nw (loop_backward false (suc d) line (plain x) Bb) (scene later g (total ∷ (c0 ∷ (a0 ∷ t)))) k ≡ Done e left → Back later g t e k left
  row_back later g t e k left r =
      let turn_back = backward_turn (suc d) line x Bb in
      let back = one line (loop (helper turn (suc d)) (bin minus (var (helper count (suc d))) (literal 1)) (literal 0) (neg (literal 1)) turn_back unmarked) in
      let g1 = set g (helper count (suc d)) 0 total in
      let g2 = set g1 (helper stride (suc d)) 0 c0 in
      let q1 = after_one q nw line (runtime (pop_word (helper count (suc d)) none)) (pop_own line (helper stride (suc d)) (pop_own line (helper first (suc d)) back)) (scene later g (total ∷ (c0 ∷ (a0 ∷ t)))) (scene later g1 (c0 ∷ (a0 ∷ t))) e k left (λ i. refl) r in
      let q2 = after_one q nw line (runtime (pop_word (helper stride (suc d)) none)) (pop_own line (helper first (suc d)) back) (scene later g1 (c0 ∷ (a0 ∷ t))) (scene later g2 (a0 ∷ t)) e q1.before left (λ i. refl) q1.done in
      let q3 = after_one q nw line (runtime (pop_word (helper first (suc d)) none)) back (scene later g2 (a0 ∷ t)) (scene later (g3 g) t) e q2.before left (λ i. refl) q2.done in
      let total_is : g3 g (helper count (suc d)) 0 ≡ total = rw (nat_refl (suc d)) refl in
      let q4 = looping q nw line (helper turn (suc d)) (bin minus (var (helper count (suc d))) (literal 1)) (literal 0) (neg (literal 1)) turn_back stop (scene later (g3 g) t) e q3.before left (sub total (pos 1)) (pos 0) (negsuc 0) m
      (ap (λ z. Ok (sub z (pos 1))) total_is) refl (ap Ok step_back) (ap (λ z. trips unmarked z (pos 0) (negsuc 0)) sub_first ∙ trips_back m small) q3.done in
      let i1 = q1.is in let i2 = q2.is in let i3 = q3.is in let i4 = q4.is in
      record { before = q4.before; is = omega (arith, i1, i2, i3, i4); turned = q4.turned ∙ q4.others }

  -- the row forward
  record Forth (base : Course) (f : Store ℤ) (t : List ℤ) (s : Scene ℤ) (k left : ℕ) : Type 0 where
    mid : Scene ℤ
    before : ℕ
    after : ℕ
    turned : turns nw m (run q nw (forward_turn (suc d) line Fb)) (stepped nw (plain x) c0) (scene base (f4 f) t) before ≡ Done mid after
    is : k + after ≡ before + left + 7
    ends : scene (kept_of mid) mid.store (total ∷ (c0 ∷ (a0 ∷ mid.tape))) ≡ s

  at_entry : (f : Store ℤ) → f4 f (plain x) 0 ≡ set u (plain x) 0 (wrap a0) (plain x) 0
  at_entry f = here (f3 f) (wrap a0) ∙ sym (here u (wrap a0))

  entered_four : (f : Store ℤ) → SameOn sh needed u f → SameOn sh needed_in (set u (plain x) 0 (wrap a0)) (f4 f)
  entered_four f a = entered (f3 f) (record { at = λ y j lt h. a.at y j lt h })

  counted_zero : (f : Store ℤ) → f4 f (helper count (suc d)) 0 ≡ pos 0
  counted_zero f = rw (nat_refl (suc d)) refl

  row_forth : (c1 : Words → Words) (l1 : List LoopRun) → LoopSwept q sh level xs d line x one_cell a0 c0 needed_in needed_last held held_last needs holds Fb Bb wr spares m 0 (set u (plain x) 0 (wrap a0)) u' c1 l1 →
      (base : Course) (f : Store ℤ) (t : List ℤ) → SameOn sh needed u f → (s : Scene ℤ) (k left : ℕ) → run q nw (loop_forward false (suc d) line (plain x) ea eb ec Fb) (scene base f t) k ≡ Done s left → Forth base f t s k left
  row_forth c1 l1 swept base f t a s k left r =
      let o = set_three base f t a s k left r in
      let first_is : f3 f (helper first (suc d)) 0 ≡ a0 = rw (nat_refl (suc d)) refl in
      let stride_is : f3 f (helper stride (suc d)) 0 ≡ c0 = rw (nat_refl (suc d)) refl in
      let l = looping q nw line (plain x) (var (helper first (suc d))) eb (var (helper stride (suc d))) (forward_turn (suc d) line Fb) pushing (scene base (f3 f) t) s o.before left a0 b0 c0 m (ap Ok first_is) (is_b (f3 f) (record { at = λ y j lt h. a.at y j lt h })) (ap Ok stride_is) turns_is o.done in
      let w = swept.forth base (f4 f) t (entered_four f a) (at_entry f) (counted_zero f) in
      let end1 = turns_end qs depth nw (forward_turn (suc d) line Fb) (stepped nw (plain x) c0) m (scene base (f4 f) t) (scene w.runs.later w.to (w.trail ++ t)) l.scene l.before l.after w.runs.cost w.runs.by l.turned in
      let at1 : w.to ≡ l.scene.store = ap (λ (z : Scene ℤ). z.store) (sym end1) in
      let p = push_three l.scene s l.after left (ap (λ (z : Store ℤ). z (helper first (suc d)) 0) (sym at1) ∙ w.start ∙ first_is) (ap (λ (z : Store ℤ). z (helper stride (suc d)) 0) (sym at1) ∙ w.step_is ∙ stride_is) (ap (λ (z : Store ℤ). z (helper count (suc d)) 0) (sym at1) ∙ w.counted_is) l.others in
      let i1 = o.is in let i2 = l.is in let i3 = p.is in
      record { mid = l.scene; before = l.before; after = l.after; turned = l.turned; is = omega (arith, i1, i2, i3); ends = p.ends }

  pub cost_told : (c1 : Words → Words) (l1 : List LoopRun) (most : ℕ) → LoopSwept q sh level xs d line x one_cell a0 c0 needed_in needed_last held held_last needs holds Fb Bb wr spares m 0 (set u (plain x) 0 (wrap a0)) u' c1 l1 →
      ToldTurns qs depth sh level xs d line x one_cell a0 c0 needed_in needed_last held held_last needs holds Fb Bb wr spares m 0 (set u (plain x) 0 (wrap a0)) most →
      BothCost q sh level (loop_forward false (suc d) line (plain x) ea eb ec Fb) (loop_backward false (suc d) line (plain x) Bb) needed held u (most + 11)
  cost_told c1 l1 most swept l = record { at = λ base f t a s k left r later g b e k1 left1 r1. go base f t a s k left (row_forth c1 l1 swept base f t a s k left r) later g b e k1 left1 r1 }
    where
      go : (base : Course) (f : Store ℤ) (t : List ℤ) → SameOn sh needed u f → (s : Scene ℤ) (k left : ℕ) → Forth base f t s k left → (later : Course) (g : Store ℤ) → SameOn sh held s.store g → (e : Scene ℤ) (k1 left1 : ℕ) → run q nw (loop_backward false (suc d) line (plain x) Bb) (scene later g s.tape) k1 ≡ Done e left1 → k + k1 ≤ left + left1 + (most + 11)
      go base f t a s k left o later g b e k1 left1 r1 =
          let p = row_back later g o.mid.tape e k1 left1 (ap (λ (z : Scene ℤ). run q nw (loop_backward false (suc d) line (plain x) Bb) (scene later g z.tape) k1) o.ends ∙ r1) in
          let b0 = subst (λ (z : Scene ℤ). SameOn sh held z.store g) (sym o.ends) b in
          let b4 : SameOn sh held o.mid.store (g4 g) = record { at = λ y j lt i. b0.at y j lt i } in
          let number : AtTurn (suc d) a0 c0 (0 + m) (g4 g) = record { start = rw (nat_refl (suc d)) refl; step_is = rw (nat_refl (suc d)) refl; number = rw (nat_refl (suc d)) (wrap-wrap _) } in
          let i1 = o.is in let i2 = p.is in
          let i3 = l.at base (f4 f) t (entered_four f a) (at_entry f) (counted_zero f) o.mid o.before o.after o.turned later (g4 g) b4 number e p.before left1 p.turned in
          sum k left o.before o.after k1 left1 p.before i1 i2 i3
        where
          sum : (k left before after k1 left1 before1 : ℕ) → k + after ≡ before + left + 7 → k1 ≡ before1 + 4 → before + before1 ≤ after + left1 + most → k + k1 ≤ left + left1 + (most + 11)
          sum k left before after k1 left1 before1 i1 i2 i3 = omega (arith, i1, i2, i3)
