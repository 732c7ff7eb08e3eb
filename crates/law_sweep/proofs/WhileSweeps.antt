-- The sweeps of a DO WHILE: told, where its turns are gone through from the last to the first, and silent.
use Rattle.std.proofs.Common.{◌≡◌, ◌<◌, ◌≤◌, ◌^◌, ℕ, suc, ◌+◌, true, false, List, [], ◌∷◌, ◌++◌, refl, sym, ap, ◌∙◌, subst, arith, append_assoc}
use Rattle.std.specs.Prelude.{ℤ, pos, negsuc, Bool, Ok}
use Rattle.adj_tree.specs.Code.{role_code, Var, shadow, helper, count, turn, minus, plus, var, neg, bin, none, Test, unmarked, assign, loop, during, runtime, push_word, pop_word, Code, stop}
use Rattle.adj_tree.proofs.Names.{nat_refl}
use Rattle.adj_word.specs.Word.{add, sub, wrap}
use Rattle.adj_word.specs.Pairing.{pairing}
use Rattle.adj_word.proofs.Counting.{count_up, count_down}
use Rattle.adj_word.proofs.Residues.{wrap-wrap}
use Rattle.def_meaning.specs.Append.{one}
use Rattle.def_meaning.specs.Store.{Shape, Store, set}
use Rattle.def_meaning.specs.Value.{Setting, holds}
use Rattle.def_meaning.specs.Scene.{Done}
use Rattle.def_meaning.specs.Run.{Calls, trips, most_tests}
use Rattle.def_meaning.specs.Read.{reads_test}
use Rattle.law_meaning.proofs.Leadings.{leads_stop, leads_step}
use Rattle.def_names.specs.Numbers.{Vars}
use Rattle.def_sweep.specs.Facts.{Within}
use Rattle.law_sweep.specs.Pairs.{Key, Words, shadows, on_words}
use Rattle.law_sweep.specs.Scenes.{Course, scene}
use Rattle.law_sweep.proofs.Turned.{SameDepth}
use Rattle.def_sweep.specs.Rows.{literal, push_own, while_forward, while_backward}
use Rattle.law_sweep.specs.Passing.{plainly}
use Rattle.def_sweep.specs.Reversals.{Reversal, LoopRun, AreReversed}
use Rattle.law_sweep.specs.Runs.{SameOn, SameOff, Comes}
use Rattle.law_sweep.proofs.Told.{reversed_append}
use Rattle.law_sweep.proofs.Runs.{comes_stop, comes_leads, comes_one, comes_act, comes_append}
use Rattle.law_sweep.proofs.Sweeps.{Sweeps, Returns}
use Rattle.law_sweep.specs.Kernel.{AllText}
use Rattle.law_sweep.proofs.Evaluations.{holds_again}
use Rattle.law_sweep.proofs.Turns.{TurnsCome, turns_none, turns_then}
use Rattle.law_sweep.proofs.Loops.{loop_comes, trips_back, step_back}
use Rattle.law_sweep.proofs.LoopSweeps.{other_depth, forward_turn}
use Rattle.law_sweep.proofs.Tests.{TestsCome, tests_none, tests_more, while_comes}

module _ (q : Calls ℤ) (sh : Var → Shape) (level : ℕ) (xs : List Key) (d line : ℕ) (c : Test) (needed held : Vars) (Fb Bb : Code) (wr : Vars) where
  abbrev nw : Setting ℤ
  nw = on_words sh level

  -- ---- with a backward sweep

  -- the turns are gone through backward, down to the j-th
  pub record TestsBack (m j : ℕ) (base : Course) (f g : Store ℤ) (t t' : List ℤ) (change : Words → Words) (loops : List LoopRun) : Type 0 where
    pub after : Store ℤ
    pub reversals : List Reversal
    pub reversed : AreReversed loops reversals
    pub runs : TurnsCome q nw m Bb (helper turn (suc d)) (negsuc 0) base g after t t' reversals
    pub same : SameOn sh held f after
    pub off : SameOff wr g after
    pub pairs : (y : Words) → pairing xs (shadows after) y ≡ pairing xs (shadows g) (change y)
    pub depth : SameDepth d g after
    pub number : after (helper turn (suc d)) 0 ≡ add (pos j) (negsuc 0)

  -- the tests that are left, with m turns from the j-th on
  pub record TestsForth (tests m j : ℕ) (base : Course) (u' f : Store ℤ) (t : List ℤ) (change : Words → Words) (loops : List LoopRun) : Type 0 where
    pub to : Store ℤ
    pub trail : List ℤ
    pub runs : TestsCome q nw tests c line (forward_turn (suc d) line Fb) base f to t (trail ++ t) []
    pub same : SameOn sh needed u' to
    pub off : SameOff wr f to
    pub shadows : (y : List ℕ) (i : ℕ) → to (shadow y) i ≡ f (shadow y) i
    pub depth : SameDepth d f to
    pub counted_is : to (helper count (suc d)) 0 ≡ pos (j + m)
    pub back : (b : Course) (g : Store ℤ) → SameOn sh held to g → g (helper turn (suc d)) 0 ≡ add (pos (j + m)) (negsuc 0) → TestsBack m j b f g (trail ++ t) t change loops

  pub record TestsSwept (tests j : ℕ) (u u' : Store ℤ) (change : Words → Words) (loops : List LoopRun) : Type 0 where
    pub turns : ℕ
    pub small : j + turns < 2 ^ 63
    pub forth : (b : Course) (f : Store ℤ) (t : List ℤ) → SameOn sh needed u f → f (helper count (suc d)) 0 ≡ pos j → TestsForth tests turns j b u' f t change loops

  -- ---- without one

  pub record SilentForth (tests : ℕ) (base : Course) (u' f : Store ℤ) (t : List ℤ) (change : Words → Words) (loops : List LoopRun) : Type 0 where
    pub to : Store ℤ
    pub trail : List ℤ
    pub runs : TestsCome q nw tests c line Fb base f to t (trail ++ t) []
    pub same : SameOn sh needed u' to
    pub off : SameOff wr f to
    pub shadows : (y : List ℕ) (i : ℕ) → to (shadow y) i ≡ f (shadow y) i
    pub depth : SameDepth d f to
    pub returns : (b : Course) (g : Store ℤ) → SameOn sh held to g → Returns q sh level xs d stop held wr b f g (trail ++ t) t change loops

  pub record TestsSilent (tests : ℕ) (u u' : Store ℤ) (change : Words → Words) (loops : List LoopRun) : Type 0 where
    pub forth : (b : Course) (f : Store ℤ) (t : List ℤ) → SameOn sh needed u f → SilentForth tests b u' f t change loops

  module _ (text : AllText (λ v. reads_test v c)) (uses : Within (λ v. reads_test v c) needed) where
    test_again : (u f : Store ℤ) (r : Bool) → SameOn sh needed u f → holds (on_words (plainly sh) level) c u ≡ Ok r → holds nw c f ≡ Ok r
    test_again u f r s is = holds_again sh level needed u f s c text uses ∙ is

    -- the test fails
    pub swept_none : (tests j : ℕ) (u : Store ℤ) → j < 2 ^ 63 → holds (on_words (plainly sh) level) c u ≡ Ok false → TestsSwept tests j u u (λ z. z) []
    swept_none tests j u small fails = record {
      turns = 0;
      small = omega arith;
      forth = λ b f t s k. record {
        to = f;
        trail = [];
        runs = tests_none q nw c line (forward_turn (suc d) line Fb) tests b f t (test_again u f false s fails);
        same = s;
        off = record { at = λ y i o. refl };
        shadows = λ y i. refl;
        depth = record { at = λ r i k lt le. refl };
        counted_is = let e : j ≡ j + 0 = omega arith in k ∙ ap pos e;
        back = λ b1 g r at. record {
          after = g;
          reversals = [];
          reversed = tt;
          runs = turns_none q nw Bb (helper turn (suc d)) (negsuc 0) b1 g t;
          same = r;
          off = record { at = λ y i o. refl };
          pairs = λ y. refl;
          depth = record { at = λ o i n lt le. refl };
          number = let e : j + 0 ≡ j = omega arith in at ∙ ap (λ n. add (pos n) (negsuc 0)) e;
        };
      };
    }

    -- it holds: a turn, and the tests after it
    pub swept_more : (tests j : ℕ) (u ub u' : Store ℤ) (c1 c2 : Words → Words) (l1 l2 : List LoopRun) → suc j < 2 ^ 63 → holds (on_words (plainly sh) level) c u ≡ Ok true → Sweeps q sh level xs (suc d) Fb Bb needed needed held held wr u ub c1 l1 → TestsSwept tests (suc j) ub u' c2 l2 → TestsSwept (suc tests) j u u' (λ z. c2 (c1 z)) (l2 ++ l1)
    swept_more tests j u ub u' c1 c2 l1 l2 small holds_there s rest = record {
      turns = suc rest.turns;
      small = let le = rest.small in let e : suc j + rest.turns ≡ j + suc rest.turns = omega arith in subst (λ z. z < 2 ^ 63) e le;
      forth = λ b f t same k.
          let m = rest.turns in
          let k1 = s.way b f t same in
          let l = k1.trail ++ t in
          let n = add (k1.to (helper count (suc d)) 0) (pos 1) in
          let f2 = set k1.to (helper count (suc d)) 0 n in
          let before : k1.to (helper count (suc d)) 0 ≡ pos j = k1.depth.at count (suc d) 0 (omega arith) (omega arith) ∙ k in
          let here : f2 (helper count (suc d)) 0 ≡ pos (suc j) = rw (nat_refl (suc d)) (ap (λ z. add z (pos 1)) before ∙ count_up j small) in
          let same2 : SameOn sh needed ub f2 = record { at = λ y i lt o. k1.same.at y i lt o } in
          let counting = comes_leads q nw (one line (assign (helper count (suc d)) none (bin plus (var (helper count (suc d))) (literal 1)))) k1.runs.later k1.to f2 l l
          (leads_step q nw line (assign (helper count (suc d)) none (bin plus (var (helper count (suc d))) (literal 1))) stop (scene k1.runs.later k1.to l) (scene k1.runs.later f2 l) (scene k1.runs.later f2 l) (λ k. refl) (leads_stop q nw (scene k1.runs.later f2 l))) in
          let turn_runs = comes_append q nw Fb (one line (assign (helper count (suc d)) none (bin plus (var (helper count (suc d))) (literal 1)))) b f k1.to f2 t l l k1.runs counting in
          let r = rest.forth turn_runs.later f2 l same2 here in
          let e : r.trail ++ (k1.trail ++ t) ≡ (r.trail ++ k1.trail) ++ t = sym (append_assoc r.trail k1.trail t) in
          let count_is : suc j + m ≡ j + suc m = omega arith in
          record {
            to = r.to;
            trail = r.trail ++ k1.trail;
            runs = subst (λ (z : List ℤ). TestsCome q nw (suc tests) c line (forward_turn (suc d) line Fb) b f r.to t z []) e
                (tests_more q nw c line (forward_turn (suc d) line Fb) tests b f f2 r.to t l (r.trail ++ l) (test_again u f true same holds_there) turn_runs r.runs);
            same = r.same;
            off = record { at = λ y i o. r.off.at y i o ∙ k1.off.at y i o };
            shadows = λ y i. r.shadows y i ∙ k1.shadows y i;
            depth = record { at = λ o i k lt le. r.depth.at o i k lt le ∙ (rw (other_depth d (role_code o) 5 i le) (k1.depth.at o i k lt (omega arith))) };
            counted_is = r.counted_is ∙ ap pos count_is;
            back = λ b1 g h at.
                let k2 = r.back b1 g h (at ∙ ap (λ z. add (pos z) (negsuc 0)) (sym count_is)) in
                let k3 = k1.returns k2.runs.later k2.after (record { at = λ y i lt o. k2.same.at y i lt o }) in
                let lower : k2.after (helper turn (suc d)) 0 ≡ pos j = k2.number ∙ count_down j (omega arith) in
                let g3 = set k3.after (helper turn (suc d)) 0 (add (k3.after (helper turn (suc d)) 0) (negsuc 0)) in
                record {
                  after = g3;
                  reversals = k2.reversals ++ k3.reversals;
                  reversed = reversed_append l2 l1 k2.reversals k3.reversals k2.reversed k3.reversed;
                  runs = subst (λ (z : List ℤ). TurnsCome q nw (suc m) Bb (helper turn (suc d)) (negsuc 0) b1 g g3 z t (k2.reversals ++ k3.reversals)) e
                      (turns_then q nw Bb (helper turn (suc d)) (negsuc 0) m b1 g k2.after k3.after (r.trail ++ l) l t k2.runs k3.runs);
                  same = record { at = λ y i lt o. k3.same.at y i lt o };
                  off = record { at = λ y i o. k3.off.at y i o ∙ k2.off.at y i o };
                  pairs = λ y. k3.pairs y ∙ k2.pairs (c1 y);
                  depth = record { at = λ o i k lt le. rw (other_depth d (role_code o) 6 i le) (k3.depth.at o i k lt (omega arith) ∙ k2.depth.at o i k lt le) };
                  number = rw (nat_refl (suc d)) (ap (λ n. add n (negsuc 0)) (k3.depth.at turn (suc d) 0 (omega arith) (omega arith) ∙ lower));
                };
          };
    }

    pub silent_none : (tests : ℕ) (u : Store ℤ) → holds (on_words (plainly sh) level) c u ≡ Ok false → TestsSilent tests u u (λ z. z) []
    silent_none tests u fails = record {
      forth = λ b f t s. record {
        to = f;
        trail = [];
        runs = tests_none q nw c line Fb tests b f t (test_again u f false s fails);
        same = s;
        off = record { at = λ y i o. refl };
        shadows = λ y i. refl;
        depth = record { at = λ r i k lt le. refl };
        returns = λ b1 g r. record {
          after = g;
          reversals = [];
          reversed = tt;
          runs = comes_stop q nw b1 g t;
          same = r;
          off = record { at = λ y i o. refl };
          pairs = λ y. refl;
          depth = record { at = λ o i n lt le. refl };
        };
      };
    }

    pub silent_more : (tests : ℕ) (u ub u' : Store ℤ) (c1 c2 : Words → Words) (l1 l2 : List LoopRun) → holds (on_words (plainly sh) level) c u ≡ Ok true → Sweeps q sh level xs (suc d) Fb stop needed needed held held wr u ub c1 l1 → TestsSilent tests ub u' c2 l2 → TestsSilent (suc tests) u u' (λ z. c2 (c1 z)) (l2 ++ l1)
    silent_more tests u ub u' c1 c2 l1 l2 holds_there s rest = record {
      forth = λ b f t same.
          let k1 = s.way b f t same in
          let l = k1.trail ++ t in
          let r = rest.forth k1.runs.later k1.to l k1.same in
          let e : r.trail ++ (k1.trail ++ t) ≡ (r.trail ++ k1.trail) ++ t = sym (append_assoc r.trail k1.trail t) in
          record {
            to = r.to;
            trail = r.trail ++ k1.trail;
            runs = subst (λ (z : List ℤ). TestsCome q nw (suc tests) c line Fb b f r.to t z []) e
                (tests_more q nw c line Fb tests b f k1.to r.to t l (r.trail ++ l) (test_again u f true same holds_there) k1.runs r.runs);
            same = r.same;
            off = record { at = λ y i o. r.off.at y i o ∙ k1.off.at y i o };
            shadows = λ y i. r.shadows y i ∙ k1.shadows y i;
            depth = record { at = λ o i k lt le. r.depth.at o i k lt le ∙ k1.depth.at o i k lt (le_suc i d le) };
            returns = λ b1 g h.
                let k2 = r.returns b1 g h in
                let k3 = k1.returns k2.runs.later k2.after k2.same in
                record {
                  after = k3.after;
                  reversals = k2.reversals ++ k3.reversals;
                  reversed = reversed_append l2 l1 k2.reversals k3.reversals k2.reversed k3.reversed;
                  runs = subst (λ (z : List ℤ). Comes q nw stop b1 g k3.after z t (k2.reversals ++ k3.reversals)) e (comes_append q nw stop stop b1 g k2.after k3.after (r.trail ++ l) l t k2.runs k3.runs);
                  same = k3.same;
                  off = record { at = λ y i o. k3.off.at y i o ∙ k2.off.at y i o };
                  pairs = λ y. k3.pairs y ∙ k2.pairs (c1 y);
                  depth = record { at = λ o i k lt le. k3.depth.at o i k lt (le_suc i d le) ∙ k2.depth.at o i k lt le };
                };
          };
    }
      where
        le_suc : (i d : ℕ) → i ≤ d → i ≤ suc d
        le_suc i d h = omega arith

  -- ---- the rows of the statement

  pub silent_row : (u u' : Store ℤ) (change : Words → Words) (loops : List LoopRun) → TestsSilent most_tests u u' change loops → Sweeps q sh level xs d (while_forward true (suc d) line c Fb) (while_backward true (suc d) line Bb) needed needed held held wr u u' change loops
  silent_row u u' change loops l = record {
    way = λ b f t s.
        let r = l.forth b f t s in
        record {
          to = r.to;
          trail = r.trail;
          runs = comes_one q nw line (during c Fb) b f r.to t (r.trail ++ t) (while_comes q nw c line Fb b f r.to t (r.trail ++ t) r.runs);
          same = r.same;
          off = r.off;
          shadows = r.shadows;
          depth = r.depth;
          returns = r.returns;
        };
  }

  pub told_row : (u u' : Store ℤ) (change : Words → Words) (loops : List LoopRun) → TestsSwept most_tests 0 u u' change loops → Sweeps q sh level xs d (while_forward false (suc d) line c Fb) (while_backward false (suc d) line Bb) needed needed held held wr u u' change loops
  told_row u u' change loops l = record {
    way = λ b f t s.
        let m = l.turns in
        let f1 = set f (helper count (suc d)) 0 (pos 0) in
        let s1 : SameOn sh needed u f1 = record { at = λ y j lt h. s.at y j lt h } in
        let r = l.forth b f1 t s1 (rw (nat_refl (suc d)) refl) in
        let l0 = r.trail ++ t in
        let total = pos (0 + m) in
        let body = forward_turn (suc d) line Fb in
        let looping = while_comes q nw c line body b f1 r.to t l0 r.runs in
        let after = looping.later in
        let tail : Comes q nw (push_own line (helper count (suc d)) stop) after r.to r.to l0 (total ∷ l0) [] =
        comes_leads q nw _ after r.to r.to l0 (total ∷ l0)
        (leads_step q nw line (runtime (push_word (helper count (suc d)) none)) stop (scene after r.to l0) (scene after r.to (total ∷ l0)) (scene after r.to (total ∷ l0)) (λ k. ap (λ (z : ℤ). Done (scene after r.to (z ∷ l0)) k) r.counted_is) (leads_stop q nw (scene after r.to (total ∷ l0)))) in
        let rest = comes_act q nw line (during c body) _ b f1 r.to r.to t l0 (total ∷ l0) looping tail in
        record {
          to = r.to;
          trail = total ∷ r.trail;
          runs = record {
            later = rest.later;
            tells = rest.tells;
            runs = leads_step q nw line (assign (helper count (suc d)) none (literal 0)) _ (scene b f t) (scene b f1 t) (scene rest.later r.to (total ∷ l0)) (λ k. refl) rest.runs;
          };
          same = r.same;
          off = record { at = λ y j o. r.off.at y j o };
          shadows = λ y j. r.shadows y j;
          depth = record { at = λ o i k lt le. r.depth.at o i k lt le ∙ rw (other_depth d (role_code o) 5 i le) refl };
          returns = λ b1 g h.
              let g1 = set g (helper count (suc d)) 0 total in
              let g2 = set g1 (helper turn (suc d)) 0 (wrap (sub total (pos 1))) in
              let total_is : g1 (helper count (suc d)) 0 ≡ total = rw (nat_refl (suc d)) refl in
              let e = r.back b1 g2 (record { at = λ y j lt o. h.at y j lt o }) (rw (nat_refl (suc d)) (wrap-wrap _)) in
              let turning = loop_comes q nw line (helper turn (suc d)) (bin minus (var (helper count (suc d))) (literal 1)) (literal 0) (neg (literal 1)) Bb b1 g1 e.after l0 t (sub total (pos 1)) (pos 0) (negsuc 0) m
              (ap (λ z. Ok (sub z (pos 1))) total_is) refl (ap Ok step_back) (ap (λ z. trips unmarked z (pos 0) (negsuc 0)) sub_first ∙ trips_back m small) e.runs in
              let rest_back = comes_one q nw line (loop (helper turn (suc d)) (bin minus (var (helper count (suc d))) (literal 1)) (literal 0) (neg (literal 1)) Bb unmarked) b1 g1 e.after l0 t turning in
              record {
                after = e.after;
                reversals = e.reversals;
                reversed = e.reversed;
                runs = record {
                  later = rest_back.later;
                  tells = rest_back.tells;
                  runs = leads_step q nw line (runtime (pop_word (helper count (suc d)) none)) _ (scene b1 g (total ∷ l0)) (scene b1 g1 l0) (scene rest_back.later e.after t) (λ k. refl) rest_back.runs;
                };
                same = record { at = λ y j lt o. e.same.at y j lt o };
                off = record { at = λ y j o. e.off.at y j o };
                pairs = λ z. e.pairs z;
                depth = record { at = λ o i k lt le. e.depth.at o i k lt le ∙ rw (other_depth d (role_code o) 6 i le, other_depth d (role_code o) 5 i le) refl };
              };
        };
  }
    where
      sub_first : sub (pos (0 + l.turns)) (pos 1) ≡ sub (pos l.turns) (pos 1)
      sub_first = let e : 0 + l.turns ≡ l.turns = omega arith in ap (λ z. sub (pos z) (pos 1)) e

      small : l.turns < 2 ^ 63
      small = let le = l.small in let e : 0 + l.turns ≡ l.turns = omega arith in subst (λ z. z < 2 ^ 63) e le
