-- A DO WHILE that was done: its derivative and its sweeps.
use Rattle.std.proofs.Common.{◌≡◌, ◌<◌, ◌^◌, ℕ, zero, suc, ◌+◌, ◌⊎◌, inl, inr, Bool, true, false, List, [], ◌++◌, refl, sym, ◌∙◌, subst, arith}
use Rattle.std.specs.Prelude.{ℤ, Ok, ◌&&◌, ◌||◌, not}
use Rattle.adj_tree.specs.Code.{Var, plain, Test, during, Code, stop}
use Rattle.def_meaning.specs.Append.{one}
use Rattle.def_meaning.specs.Store.{Shape, Store}
use Rattle.def_meaning.specs.Value.{Setting, holds}
use Rattle.def_meaning.specs.Scene.{Scene, Done}
use Rattle.def_meaning.specs.Run.{Calls, run, tests, most_tests}
use Rattle.def_meaning.specs.Read.{reads_test}
use Rattle.def_names.specs.Numbers.{Vars}
use Rattle.def_sweep.specs.Marks.{Marks}
use Rattle.def_names.specs.Numbering.{point_before, point_after}
use Rattle.def_sweep.specs.Marked.{code_if}
use Rattle.def_sweep.specs.Facts.{joined, Facts}
use Rattle.law_sweep.specs.Pairs.{Key, Words, with_tangents, on_words, on_duals}
use Rattle.law_sweep.specs.Scenes.{Course}
use Rattle.def_names.proofs.Variables.{and_true}
use Rattle.def_sweep.specs.Plan.{Plan, Schedules}
use Rattle.def_sweep.specs.Rows.{is_empty, while_forward, while_backward}
use Rattle.def_sweep.specs.Emission.{forward_act_with, forward_with, backward_act_with, backward_with}
use Rattle.law_sweep.specs.Laws.{point_inside, last_point, WhileLaws}
use Rattle.def_sweep.specs.Callees.{CalleeFacts}
use Rattle.law_sweep.specs.Passing.{plainly}
use Rattle.law_sweep.specs.Theorem.{plan_of}
use Rattle.def_sweep.specs.Reversals.{LoopRun, ReversedLines}
use Rattle.law_sweep.proofs.Runs.{passes_one}
use Rattle.law_sweep.proofs.Sweeps.{Matches, Sweeps, sweeps_stop, sweeps_more, sweeps_append}
use Rattle.law_sweep.proofs.Transposed.{Transposed, transposed_from, transposed_to}
use Rattle.law_sweep.specs.Kernel.{AllText}
use Rattle.law_sweep.proofs.Evaluations.{holds_dual}
use Rattle.law_sweep.proofs.Idle.{empty_is, idle_list}
use Rattle.law_sweep.proofs.Tests.{most_small, TestsPass, tests_pass_none, tests_pass_more, while_passes, Failed, TurnDone, last_test, next_test}
use Rattle.law_sweep.proofs.WhileSweeps.{TestsSwept, swept_none, swept_more, TestsSilent, silent_none, silent_more, silent_row, told_row}

module _ (sc : Schedules) (p q : Calls ℤ) (lines : ReversedLines) (qd : Calls (ℤ × ℤ)) (sh : Var → Shape) (level : ℕ) (xs : List Key) (w : Facts) (d : ℕ) (present : Bool) (callees : List ℕ → CalleeFacts) (arrays : Vars) (i line : ℕ) (c : Test) (body : Code) (laws : WhileLaws w i c body) (text : AllText (λ v. reads_test v c)) (wr : Vars) (inert : Bool) where
  abbrev plan : Plan
  plan = plan_of callees w arrays

  abbrev m : Marks
  m = w.marks

  abbrev Fb : Code
  Fb = forward_with sc plan (suc i) (suc d) body

  abbrev Bb : Code
  Bb = backward_with sc plan (suc i) (suc d) body

  abbrev n_in : ℕ
  n_in = point_inside i

  abbrev np : Setting ℤ
  np = on_words (plainly sh) level

  abbrev nd : Setting (ℤ × ℤ)
  nd = on_duals (plainly sh) level

  -- the tests that are left, with turns from the j-th on: what they make of tangents, and their sweeps
  record Whiled (most j : ℕ) (u u' : Store ℤ) : Type 0 where
    derivative : Words → Words
    change : Words → Words
    loops : List LoopRun
    dual : (home : Course) (y : Words) (t : List (ℤ × ℤ)) → TestsPass lines qd nd most c line body home (with_tangents u y) (with_tangents u' (derivative y)) t loops
    matches : (y z : Words) → Matches sh m n_in y z → Matches sh m n_in (derivative y) (change z)
    unwritten : (k : Key) → wr (plain k.0) ≡ false → (y : Words) → (derivative y k ≡ y k) × (change y k ≡ y k)
    still : inert ≡ true → (y : Words) (k : Key) → change y k ≡ y k
    none_reversed : inert ≡ true → loops ≡ []
    told : present ≡ true → m.kept i ≡ true → TestsSwept q sh level xs d line c (w.needed n_in) (w.held n_in) Fb Bb wr most j u u' change loops
    silent : present ≡ true → m.kept i ≡ true → Bb ≡ stop → TestsSilent q sh level xs d line c (w.needed n_in) (w.held n_in) Fb Bb wr most u u' change loops
    left : present ≡ true → Bb ≡ stop → Fb ≡ stop → Sweeps q sh level xs d stop stop (w.needed n_in) (w.needed n_in) (w.held n_in) (w.held n_in) wr u u' change loops

  -- the test fails
  whiled_none : (most j : ℕ) (u : Store ℤ) → j < 2 ^ 63 → holds np c u ≡ Ok false → Whiled most j u u
  whiled_none most j u small fails = record {
    derivative = λ y. y;
    change = λ z. z;
    loops = [];
    dual = λ home y t. tests_pass_none lines qd nd c line body most home (with_tangents u y) t (holds_dual (plainly sh) level u y c ∙ fails);
    matches = λ y z h. h;
    unwritten = λ k o y. (refl, refl);
    still = λ e y k. refl;
    none_reversed = λ e. refl;
    told = λ e k. swept_none q sh level xs d line c (w.needed n_in) (w.held n_in) Fb Bb wr text (laws.needs_uses k) most j u small fails;
    silent = λ e k n. silent_none q sh level xs d line c (w.needed n_in) (w.held n_in) Fb Bb wr text (laws.needs_uses k) most u fails;
    left = λ e n f. sweeps_stop q sh level xs d (w.needed n_in) (w.needed n_in) (w.held n_in) (w.held n_in) wr u (λ v h. h) (λ v h. h);
  }

  -- it holds: a turn, and the tests after it
  whiled_more : (most j : ℕ) (u ub u' : Store ℤ) → suc j < 2 ^ 63 → holds np c u ≡ Ok true → Transposed q lines qd sh level xs w (suc d) present wr inert n_in n_in body Fb Bb u ub → Whiled most (suc j) ub u' → Whiled (suc most) j u u'
  whiled_more most j u ub u' small holds_there t rest = record {
    derivative = λ y. rest.derivative (t.derivative y);
    change = λ z. rest.change (t.change z);
    loops = rest.loops ++ t.loops;
    dual = λ home y l.
        let one_turn = t.dual home y l in
        tests_pass_more lines qd nd c line body t.loops rest.loops most home (with_tangents u y) (with_tangents ub (t.derivative y)) (with_tangents u' (rest.derivative (t.derivative y))) l (holds_dual (plainly sh) level u y c ∙ holds_there) one_turn (rest.dual one_turn.later (t.derivative y) l);
    matches = λ y z h. rest.matches (t.derivative y) (t.change z) (t.matches y z h);
    unwritten = λ k o y.
        let a = t.unwritten k o y in
        ((rest.unwritten k o (t.derivative y)).0 ∙ a.0, (rest.unwritten k o (t.change y)).1 ∙ a.1);
    still = λ e y k. rest.still e (t.change y) k ∙ t.still e y k;
    none_reversed = λ e. (λ i. rest.none_reversed e i ++ t.none_reversed e i);
    told = λ e k. swept_more q sh level xs d line c (w.needed n_in) (w.held n_in) Fb Bb wr text (laws.needs_uses k) most j u ub u' t.change rest.change t.loops rest.loops small holds_there (t.sweeps e) (rest.told e k);
    silent = λ e k n.
        silent_more q sh level xs d line c (w.needed n_in) (w.held n_in) Fb Bb wr text (laws.needs_uses k) most u ub u' t.change rest.change t.loops rest.loops holds_there
        (subst (λ z. Sweeps q sh level xs (suc d) Fb z (w.needed n_in) (w.needed n_in) (w.held n_in) (w.held n_in) wr u ub t.change t.loops) n (t.sweeps e)) (rest.silent e k n);
    left = λ e n f. left_more e n f (rest.left e n f);
  }
    where
      shallower : (u1 u2 : Store ℤ) (g : Words → Words) (ls : List LoopRun) → Sweeps q sh level xs (suc d) stop stop (w.needed n_in) (w.needed n_in) (w.held n_in) (w.held n_in) wr u1 u2 g ls → Sweeps q sh level xs d stop stop (w.needed n_in) (w.needed n_in) (w.held n_in) (w.held n_in) wr u1 u2 g ls
      shallower u1 u2 g ls s = record {
        way = λ b f l a.
            let k = s.way b f l a in
            record {
              to = k.to;
              trail = k.trail;
              runs = k.runs;
              same = k.same;
              off = k.off;
              shadows = k.shadows;
              depth = record { at = λ o n j lt le. k.depth.at o n j lt (omega arith) };
              returns = λ b1 g1 h.
                  let r = k.returns b1 g1 h in
                  record { after = r.after; reversals = r.reversals; reversed = r.reversed; runs = r.runs; same = r.same; off = r.off; pairs = r.pairs; depth = record { at = λ o n j lt le. r.depth.at o n j lt (omega arith) } };
            };
      }

      left_more : present ≡ true → Bb ≡ stop → Fb ≡ stop → Sweeps q sh level xs d stop stop (w.needed n_in) (w.needed n_in) (w.held n_in) (w.held n_in) wr ub u' rest.change rest.loops → Sweeps q sh level xs d stop stop (w.needed n_in) (w.needed n_in) (w.held n_in) (w.held n_in) wr u u' (λ z. rest.change (t.change z)) (rest.loops ++ t.loops)
      left_more e n f r =
          let s = subst (λ z. Sweeps q sh level xs (suc d) Fb z (w.needed n_in) (w.needed n_in) (w.held n_in) (w.held n_in) wr u ub t.change t.loops) n (t.sweeps e) in
          let s1 = subst (λ z. Sweeps q sh level xs (suc d) z stop (w.needed n_in) (w.needed n_in) (w.held n_in) (w.held n_in) wr u ub t.change t.loops) f s in
          sweeps_more q sh level xs d stop stop (w.needed n_in) (w.needed n_in) (w.held n_in) (w.held n_in) (joined wr wr) wr u u' (λ z. rest.change (t.change z)) (rest.loops ++ t.loops) (λ x o. rw o refl)
          (sweeps_append q sh level xs d stop stop stop stop (w.needed n_in) (w.needed n_in) (w.needed n_in) (w.held n_in) (w.held n_in) (w.held n_in) wr wr u ub u' t.change rest.change t.loops rest.loops (shallower u ub t.change t.loops s1) r)

  whiled_failed : (most j : ℕ) (s s' : Scene ℤ) → j < 2 ^ 63 → Failed p np c line body s s' → Whiled most j s.store s'.store
  whiled_failed most j s s' small f = subst (λ (z : Scene ℤ). Whiled most j s.store z.store) f.stays (whiled_none most j s.store small f.fails)

  -- a turn of the program
  abbrev pub Turned : Type 0
  Turned = (s e : Scene ℤ) (k left : ℕ) → run p np body s k ≡ Done e left → Transposed q lines qd sh level xs w (suc d) present wr inert n_in (last_point n_in (suc i) body) body Fb Bb s.store e.store

  whiled_next : (most j : ℕ) (s s' : Scene ℤ) (k k' : ℕ) → j + suc most < 2 ^ 63 → Turned → Failed p np c line body s s' ⊎ TurnDone p np c line body most s s' k k' →
      ((s1 : Scene ℤ) (l : ℕ) → tests np most (λ (z : Scene ℤ). holds np c z.store) line (run p np body) s1 l ≡ Done s' k' → Whiled most (suc j) s1.store s'.store) → Whiled (suc most) j s.store s'.store
  whiled_next most j s s' k k' small each (inl f) later = whiled_failed (suc most) j s s' (omega arith) f
  whiled_next most j s s' k k' small each (inr o) later =
      whiled_more most j s.store o.end.store s'.store (omega arith) o.holds_there
      (transposed_to q lines qd sh level xs w (suc d) present wr inert n_in (last_point n_in (suc i) body) n_in body Fb Bb s.store o.end.store laws.again (each s o.end k o.left o.turn))
      (later o.end o.later o.others)

  -- all tests of a run
  whiled : Turned → (most j : ℕ) (s s' : Scene ℤ) (k k' : ℕ) → j + most < 2 ^ 63 → tests np most (λ (z : Scene ℤ). holds np c z.store) line (run p np body) s k ≡ Done s' k' → Whiled most j s.store s'.store
  whiled each zero j s s' k k' small h = whiled_failed zero j s s' (omega arith) (last_test p np c line body s s' k k' h)
  whiled each (suc most) j s s' k k' small h =
      whiled_next most j s s' k k' small each (next_test p np c line body most s s' k k' h) (λ s1 l g. whiled each most (suc j) s1 s' l k' (omega arith) g)

  -- the statement
  pub transposed_while : Turned → (s s' : Scene ℤ) (k k' : ℕ) → tests np most_tests (λ (z : Scene ℤ). holds np c z.store) line (run p np body) s k ≡ Done s' k' →
      Transposed q lines qd sh level xs w d present wr (not (m.adjointed i) && inert) (point_before i) (point_after i) (one line (during c body)) (forward_act_with sc plan i d line (during c body)) (backward_act_with sc plan i d line (during c body)) s.store s'.store
  transposed_while each s s' k k' h =
      let t = whiled each most_tests 0 s s' k k' (zero_more most_tests most_small) h in
      transposed_from q lines qd sh level xs w d present wr (not (m.adjointed i) && inert) (point_before i) n_in (point_after i) (one line (during c body)) (forward_act_with sc plan i d line (during c body)) (backward_act_with sc plan i d line (during c body)) s.store s'.store laws.entry
      (transposed_to q lines qd sh level xs w d present wr (not (m.adjointed i) && inert) n_in n_in (point_after i) (one line (during c body)) (forward_act_with sc plan i d line (during c body)) (backward_act_with sc plan i d line (during c body)) s.store s'.store laws.exit (at_test t))
    where
      zero_more : (n : ℕ) → n < 2 ^ 63 → 0 + n < 2 ^ 63
      zero_more n h = omega arith

      -- from test to test
      at_test : Whiled most_tests 0 s.store s'.store → Transposed q lines qd sh level xs w d present wr (not (m.adjointed i) && inert) n_in n_in (one line (during c body)) (forward_act_with sc plan i d line (during c body)) (backward_act_with sc plan i d line (during c body)) s.store s'.store
      at_test t = record {
        derivative = t.derivative;
        change = t.change;
        loops = t.loops;
        dual = λ home y l.
            passes_one qd nd lines t.loops line (during c body) home (with_tangents s.store y) (with_tangents s'.store (t.derivative y)) l
            (while_passes lines qd nd c line body t.loops home (with_tangents s.store y) (with_tangents s'.store (t.derivative y)) l (t.dual home y l));
        sweeps = λ e. emitted e (m.kept i) refl (m.adjointed i) refl;
        matches = t.matches;
        unwritten = t.unwritten;
        still = λ o. t.still (and_true (not (m.adjointed i)) inert o).1;
        none_reversed = λ o. t.none_reversed (and_true (not (m.adjointed i)) inert o).1;
      }
        where
          Row : Code → Code → Type 0
          Row f b = Sweeps q sh level xs d f b (w.needed n_in) (w.needed n_in) (w.held n_in) (w.held n_in) wr s.store s'.store t.change t.loops

          row : present ≡ true → m.kept i ≡ true → (idle : Bool) → is_empty Bb ≡ idle → Row (while_forward idle (suc d) line c Fb) (while_backward idle (suc d) line Bb)
          row e k true o = silent_row q sh level xs d line c (w.needed n_in) (w.held n_in) Fb Bb wr s.store s'.store t.change t.loops (t.silent e k (empty_is Bb o))
          row e k false o = told_row q sh level xs d line c (w.needed n_in) (w.held n_in) Fb Bb wr s.store s'.store t.change t.loops (t.told e k)

          emitted : present ≡ true → (k : Bool) → m.kept i ≡ k → (a : Bool) → m.adjointed i ≡ a → Row (code_if (k || a) (while_forward (is_empty Bb) (suc d) line c Fb)) (code_if (k || a) (while_backward (is_empty Bb) (suc d) line Bb))
          emitted e true ek a ea = row e ek (is_empty Bb) refl
          emitted e false ek true ea = absurd (let f : true ≡ false = sym (laws.keeps_adjointed ea) ∙ ek in cc)
          emitted e false ek false ea = let o = idle_list sc plan (suc i) (suc d) body (laws.keeps ek) in t.left e o.1 o.0
