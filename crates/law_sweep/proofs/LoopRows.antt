-- The rows of a DO in the two sweeps.
use Rattle.std.proofs.Common.{◌≡◌, ◌<◌, ℕ, suc, ◌+◌, Bool, true, false, List, [], ◌∷◌, ◌++◌, refl, sym, ap, ◌∙◌, subst, arith}
use Rattle.std.specs.Prelude.{ℤ, pos, negsuc, Ok, ◌||◌}
use Rattle.adj_tree.specs.Code.{role_code, Var, plain, shadow, helper, first, stride, count, turn, name_eq, minus, Term, var, neg, bin, none, Mark, unmarked, assign, loop, runtime, push_word, pop_word, Code, stop}
use Rattle.adj_tree.proofs.Names.{nat_refl, name_refl}
use Rattle.adj_word.specs.Word.{wrap, sub}
use Rattle.adj_word.specs.Pairing.{pairing}
use Rattle.adj_word.proofs.Residues.{wrap-wrap}
use Rattle.def_meaning.specs.Store.{Shape, size_of, Store, set}
use Rattle.def_meaning.specs.Value.{Setting, value}
use Rattle.def_meaning.specs.Scene.{Done}
use Rattle.def_meaning.specs.Run.{Calls, trips}
use Rattle.def_meaning.specs.Read.{reads_term}
use Rattle.law_meaning.proofs.Leadings.{leads_stop, leads_step}
use Rattle.def_names.specs.Numbers.{Vars}
use Rattle.def_names.specs.Numbering.{point_before}
use Rattle.def_sweep.specs.Facts.{In, Within, joined, Facts}
use Rattle.law_sweep.specs.Pairs.{Key, Words, shadows, on_words}
use Rattle.law_sweep.specs.Scenes.{Course, scene}
use Rattle.def_names.proofs.Variables.{or_left, or_right}
use Rattle.law_sweep.proofs.Turned.{SameDepth}
use Rattle.def_sweep.specs.Rows.{is_empty, literal, push_own, loop_forward, loop_backward}
use Rattle.law_sweep.specs.Laws.{just, point_inside, LoopLaws}
use Rattle.law_sweep.specs.Passing.{plainly}
use Rattle.def_sweep.specs.Reversals.{Reversal, LoopRun, AreReversed, ReversedLines}
use Rattle.law_sweep.specs.Runs.{Comes, SameOn, SameOff}
use Rattle.law_sweep.proofs.Runs.{comes_stop, comes_leads, comes_one, comes_act}
use Rattle.law_sweep.specs.Kernel.{AllText}
use Rattle.law_sweep.proofs.Evaluations.{value_again}
use Rattle.law_sweep.proofs.Idle.{empty_is}
use Rattle.law_sweep.proofs.LoopSweeps.{same_set, set_off, other_depth, forward_turn, backward_turn, AtTurn}
use Rattle.law_sweep.proofs.Loops.{loop_comes, Turning, turning, trips_back, step_back}
use Rattle.law_sweep.proofs.LoopStatements.{Looped}

-- what comes back of a loop in the backward sweep, from the store g
pub record RowBack (q : Calls ℤ) (sh : Var → Shape) (level : ℕ) (xs : List Key) (d : ℕ) (x : List ℕ) (wrote held : Vars) (c : Code) (base : Course) (f g : Store ℤ) (t t' : List ℤ) (change : Words → Words) (loops : List LoopRun) : Type 0 where
  pub after : Store ℤ
  pub reversals : List Reversal
  pub reversed : AreReversed loops reversals
  pub runs : Comes q (on_words sh level) c base g after t t' reversals
  -- all but the loop's variable has the values that it had before
  pub stays : (y : List ℕ) (j : ℕ) → j < size_of (sh (plain y)) → name_eq y x ≡ false → In (plain y) held → after (plain y) j ≡ f (plain y) j
  pub off : SameOff wrote g after
  pub pairs : (z : Words) → pairing xs (shadows after) z ≡ pairing xs (shadows g) (change z)
  pub depth : SameDepth d g after

-- the loop itself in both sweeps, from the store f
pub record Row (q : Calls ℤ) (sh : Var → Shape) (level : ℕ) (xs : List Key) (d : ℕ) (x : List ℕ) (wrote needed held : Vars) (forth back : Code) (base : Course) (u' f : Store ℤ) (t : List ℤ) (change : Words → Words) (loops : List LoopRun) : Type 0 where
  pub to : Store ℤ
  pub trail : List ℤ
  pub runs : Comes q (on_words sh level) forth base f to t (trail ++ t) []
  pub same : SameOn sh needed u' to
  pub off : SameOff wrote f to
  pub shadows : (y : List ℕ) (j : ℕ) → to (shadow y) j ≡ f (shadow y) j
  pub depth : SameDepth d f to
  pub returns : (b : Course) (g : Store ℤ) → SameOn sh held to g → RowBack q sh level xs d x wrote held back b f g (trail ++ t) t change loops

module _ (p q : Calls ℤ) (lines : ReversedLines) (qd : Calls (ℤ × ℤ)) (sh : Var → Shape) (level : ℕ) (xs : List Key) (w : Facts) (d : ℕ) (i line : ℕ) (x : List ℕ) (one_cell : size_of (sh (plain x)) ≡ 1) (ea eb ec : Term) (body Fb Bb : Code) (laws : LoopLaws w i (plain x) ea eb ec body) (text_a : AllText (λ v. reads_term v ea)) (text_b : AllText (λ v. reads_term v eb)) (text_c : AllText (λ v. reads_term v ec)) (wr : Vars) (spares : wr (plain x) ≡ false) (inert : Bool) (a0 b0 c0 : ℤ) (m : ℕ) (mark : Mark) (u u' : Store ℤ)
    (is_a : value (on_words (plainly sh) level) ea u ≡ Ok a0) (is_b : value (on_words (plainly sh) level) eb u ≡ Ok b0) (is_c : value (on_words (plainly sh) level) ec u ≡ Ok c0) (turns_is : trips mark a0 b0 c0 ≡ Ok m) (kept : w.marks.kept i ≡ true)
    (l : Looped p q lines qd sh level xs w d true i line x one_cell ea eb ec body Fb Bb laws wr spares inert a0 c0 m 0 (set u (plain x) 0 (wrap a0)) u') where
  abbrev nw : Setting ℤ
  nw = on_words sh level

  abbrev n_in : ℕ
  n_in = point_inside i

  abbrev needed : Vars
  needed = w.needed (point_before i)

  abbrev wrote : Vars
  wrote = joined (just (plain x)) wr

  uses_a : Within (λ v. reads_term v ea) needed
  uses_a v h = laws.needs_uses kept v (or_left (reads_term v ea) (reads_term v eb || reads_term v ec) h)

  uses_b : Within (λ v. reads_term v eb) needed
  uses_b v h = laws.needs_uses kept v (or_right (reads_term v ea) (reads_term v eb || reads_term v ec) (or_left (reads_term v eb) (reads_term v ec) h))

  uses_c : Within (λ v. reads_term v ec) needed
  uses_c v h = laws.needs_uses kept v (or_right (reads_term v ea) (reads_term v eb || reads_term v ec) (or_right (reads_term v eb) (reads_term v ec) h))

  needs_in : (y : List ℕ) → name_eq y x ≡ false → In (plain y) (w.needed n_in) → In (plain y) needed
  needs_in y e h = laws.entry_values.needs (plain y) (rw (h, e) refl)

  t : Turning a0 b0 c0 m
  t = turning mark a0 b0 c0 m turns_is

  -- the values at the entry
  entered : (f : Store ℤ) → SameOn sh needed u f → SameOn sh (w.needed n_in) (set u (plain x) 0 (wrap a0)) (set f (plain x) 0 (wrap a0))
  entered f s = same_set sh x one_cell needed (w.needed n_in) u f (wrap a0) (wrap a0) refl needs_in s

  here : (f : Store ℤ) (v : ℤ) → set f (plain x) 0 v (plain x) 0 ≡ v
  here f v = rw (name_refl x) refl

  -- ---- the body has no backward sweep

  silent_row : Bb ≡ stop → (b : Course) (f : Store ℤ) (t0 : List ℤ) → SameOn sh needed u f → Row q sh level xs d x wrote (w.needed n_in) (w.held n_in) (loop_forward true (suc d) line (plain x) ea eb ec Fb) (loop_backward true (suc d) line (plain x) Bb) b u' f t0 l.tangents.change l.tangents.loops
  silent_row e b f t0 s =
      let k = l.silent refl e in
      let f0 = set f (plain x) 0 (wrap a0) in
      let r = k.forth b f0 t0 (entered f s) (here f (wrap a0) ∙ sym (here u (wrap a0))) in
      record {
        to = r.to;
        trail = r.trail;
        runs = comes_one q nw line (loop (plain x) ea eb ec Fb unmarked) b f r.to t0 (r.trail ++ t0)
            (loop_comes q nw line (plain x) ea eb ec Fb b f r.to t0 (r.trail ++ t0) a0 b0 c0 m
            (value_again sh level needed u f s ea text_a uses_a ∙ is_a) (value_again sh level needed u f s eb text_b uses_b ∙ is_b) (value_again sh level needed u f s ec text_c uses_c ∙ is_c) t.plainly r.runs);
        same = r.same;
        off = record { at = λ y j o. r.off.at y j o ∙ (set_off sh x one_cell wr f (wrap a0)).at y j o };
        shadows = λ y j. r.shadows y j;
        depth = record { at = λ o i c lt le. r.depth.at o i c lt le };
        returns = λ b1 g h. record {
          after = g;
          reversals = [];
          reversed = k.unreversed;
          runs = subst (λ (z : List ℤ). Comes q nw stop b1 g g z t0 []) (sym r.flat) (comes_stop q nw b1 g t0);
          stays = λ y j lt n o. h.at y j lt o ∙ r.stays y j lt n o ∙ rw n refl;
          off = record { at = λ y j o. refl };
          pairs = λ z. k.pairs (shadows g) z;
          depth = record { at = λ o i c lt le. refl };
        };
      }

  -- ---- its turns are gone through from the last to the first

  sub-first : sub (pos (0 + m)) (pos 1) ≡ sub (pos m) (pos 1)
  sub-first = let e : 0 + m ≡ m = omega arith in ap (λ z. sub (pos z) (pos 1)) e

  told_row : (b : Course) (f : Store ℤ) (t0 : List ℤ) → SameOn sh needed u f → Row q sh level xs d x wrote (w.needed n_in) (w.held n_in) (loop_forward false (suc d) line (plain x) ea eb ec Fb) (loop_backward false (suc d) line (plain x) Bb) b u' f t0 l.tangents.change l.tangents.loops
  told_row b f t0 s =
      let k = l.told refl in
      let f1 = set f (helper first (suc d)) 0 a0 in
      let f2 = set f1 (helper stride (suc d)) 0 c0 in
      let f3 = set f2 (helper count (suc d)) 0 (pos 0) in
      let f4 = set f3 (plain x) 0 (wrap a0) in
      let s1 : SameOn sh needed u f1 = record { at = λ y j lt h. s.at y j lt h } in
      let s3 : SameOn sh needed u f3 = record { at = λ y j lt h. s.at y j lt h } in
      let first_is : f3 (helper first (suc d)) 0 ≡ a0 = rw (nat_refl (suc d)) refl in
      let stride_is : f3 (helper stride (suc d)) 0 ≡ c0 = rw (nat_refl (suc d)) refl in
      let count_is : f4 (helper count (suc d)) 0 ≡ pos 0 = rw (nat_refl (suc d)) refl in
      let r = k.forth b f4 t0 (entered f3 s3) (here f3 (wrap a0) ∙ sym (here u (wrap a0))) count_is in
      let l0 = r.trail ++ t0 in
      let total = pos (0 + m) in
      let turn_body = forward_turn (suc d) line Fb in
      let looping = loop_comes q nw line (plain x) (var (helper first (suc d))) eb (var (helper stride (suc d))) turn_body b f3 r.to t0 l0 a0 b0 c0 m
      (ap Ok first_is) (value_again sh level needed u f3 s3 eb text_b uses_b ∙ is_b) (ap Ok stride_is) t.plainly r.runs in
      let after = looping.later in
      let tail : Comes q nw (push_own line (helper first (suc d)) (push_own line (helper stride (suc d)) (push_own line (helper count (suc d)) stop))) after r.to r.to l0 (total ∷ (c0 ∷ (a0 ∷ l0))) [] =
      comes_leads q nw _ after r.to r.to l0 (total ∷ (c0 ∷ (a0 ∷ l0)))
      (leads_step q nw line (runtime (push_word (helper first (suc d)) none)) _ (scene after r.to l0) (scene after r.to (a0 ∷ l0)) (scene after r.to (total ∷ (c0 ∷ (a0 ∷ l0)))) (λ k. ap (λ (z : ℤ). Done (scene after r.to (z ∷ l0)) k) (r.start ∙ first_is))
      (leads_step q nw line (runtime (push_word (helper stride (suc d)) none)) _ (scene after r.to (a0 ∷ l0)) (scene after r.to (c0 ∷ (a0 ∷ l0))) (scene after r.to (total ∷ (c0 ∷ (a0 ∷ l0)))) (λ k. ap (λ (z : ℤ). Done (scene after r.to (z ∷ (a0 ∷ l0))) k) (r.step_is ∙ stride_is))
      (leads_step q nw line (runtime (push_word (helper count (suc d)) none)) stop (scene after r.to (c0 ∷ (a0 ∷ l0))) (scene after r.to (total ∷ (c0 ∷ (a0 ∷ l0)))) (scene after r.to (total ∷ (c0 ∷ (a0 ∷ l0)))) (λ k. ap (λ (z : ℤ). Done (scene after r.to (z ∷ (c0 ∷ (a0 ∷ l0)))) k) r.counted_is)
      (leads_stop q nw (scene after r.to (total ∷ (c0 ∷ (a0 ∷ l0)))))))) in
      let rest = comes_act q nw line (loop (plain x) (var (helper first (suc d))) eb (var (helper stride (suc d))) turn_body unmarked) _ b f3 r.to r.to t0 l0 (total ∷ (c0 ∷ (a0 ∷ l0))) looping tail in
      record {
        to = r.to;
        trail = total ∷ (c0 ∷ (a0 ∷ r.trail));
        runs = record {
          later = rest.later;
          tells = rest.tells;
          runs =
              leads_step q nw line (assign (helper first (suc d)) none ea) _ (scene b f t0) (scene b f1 t0) (scene rest.later r.to (total ∷ (c0 ∷ (a0 ∷ l0)))) (λ k. rw (value_again sh level needed u f s ea text_a uses_a ∙ is_a) refl)
              (leads_step q nw line (assign (helper stride (suc d)) none ec) _ (scene b f1 t0) (scene b f2 t0) (scene rest.later r.to (total ∷ (c0 ∷ (a0 ∷ l0)))) (λ k. rw (value_again sh level needed u f1 s1 ec text_c uses_c ∙ is_c) refl)
              (leads_step q nw line (assign (helper count (suc d)) none (literal 0)) _ (scene b f2 t0) (scene b f3 t0) (scene rest.later r.to (total ∷ (c0 ∷ (a0 ∷ l0)))) (λ k. refl) rest.runs));
        };
        same = r.same;
        off = record { at = λ y j o. r.off.at y j o ∙ (set_off sh x one_cell wr f3 (wrap a0)).at y j o };
        shadows = λ y j. r.shadows y j;
        depth = record { at = λ o i c lt le. r.depth.at o i c lt le ∙ rw (other_depth d (role_code o) 5 i le, other_depth d (role_code o) 4 i le, other_depth d (role_code o) 3 i le) refl };
        returns = λ b1 g h.
            let g1 = set g (helper count (suc d)) 0 total in
            let g2 = set g1 (helper stride (suc d)) 0 c0 in
            let g3 = set g2 (helper first (suc d)) 0 a0 in
            let g4 = set g3 (helper turn (suc d)) 0 (wrap (sub total (pos 1))) in
            let total_is : g3 (helper count (suc d)) 0 ≡ total = rw (nat_refl (suc d)) refl in
            let at : AtTurn (suc d) a0 c0 (0 + m) g4 = record { start = rw (nat_refl (suc d)) refl; step_is = rw (nat_refl (suc d)) refl; number = rw (nat_refl (suc d)) (wrap-wrap _) } in
            let e = r.back b1 g4 (record { at = λ y j lt o. h.at y j lt o }) at in
            let turn_back = backward_turn (suc d) line x Bb in
            let looping_back = loop_comes q nw line (helper turn (suc d)) (bin minus (var (helper count (suc d))) (literal 1)) (literal 0) (neg (literal 1)) turn_back b1 g3 e.after l0 t0 (sub total (pos 1)) (pos 0) (negsuc 0) m
            (ap (λ z. Ok (sub z (pos 1))) total_is) refl (ap Ok step_back) (ap (λ z. trips unmarked z (pos 0) (negsuc 0)) sub-first ∙ trips_back m t.small) e.runs in
            let rest_back = comes_one q nw line (loop (helper turn (suc d)) (bin minus (var (helper count (suc d))) (literal 1)) (literal 0) (neg (literal 1)) turn_back unmarked) b1 g3 e.after l0 t0 looping_back in
            record {
              after = e.after;
              reversals = e.reversals;
              reversed = e.reversed;
              runs = record {
                later = rest_back.later;
                tells = rest_back.tells;
                runs =
                    leads_step q nw line (runtime (pop_word (helper count (suc d)) none)) _ (scene b1 g (total ∷ (c0 ∷ (a0 ∷ l0)))) (scene b1 g1 (c0 ∷ (a0 ∷ l0))) (scene rest_back.later e.after t0) (λ k. refl)
                    (leads_step q nw line (runtime (pop_word (helper stride (suc d)) none)) _ (scene b1 g1 (c0 ∷ (a0 ∷ l0))) (scene b1 g2 (a0 ∷ l0)) (scene rest_back.later e.after t0) (λ k. refl)
                    (leads_step q nw line (runtime (pop_word (helper first (suc d)) none)) _ (scene b1 g2 (a0 ∷ l0)) (scene b1 g3 l0) (scene rest_back.later e.after t0) (λ k. refl) rest_back.runs));
              };
              stays = λ y j lt n o. e.same.at y j lt o ∙ rw n refl;
              off = record { at = λ y j o. e.off.at y j o };
              pairs = λ z. e.pairs z;
              depth = record { at = λ o i c lt le. e.depth.at o i c lt le ∙ rw (other_depth d (role_code o) 6 i le, other_depth d (role_code o) 3 i le, other_depth d (role_code o) 4 i le, other_depth d (role_code o) 5 i le) refl };
            };
      }

  -- both rows
  pub row : (idle : Bool) → is_empty Bb ≡ idle → (b : Course) (f : Store ℤ) (t0 : List ℤ) → SameOn sh needed u f → Row q sh level xs d x wrote (w.needed n_in) (w.held n_in) (loop_forward idle (suc d) line (plain x) ea eb ec Fb) (loop_backward idle (suc d) line (plain x) Bb) b u' f t0 l.tangents.change l.tangents.loops
  row true e = silent_row (empty_is Bb e)
  row false e = told_row
