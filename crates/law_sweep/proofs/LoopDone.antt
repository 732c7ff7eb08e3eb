-- A DO that was done: its derivative and its sweeps.
use Rattle.std.proofs.Common.{◌≡◌, ◌<◌, ℕ, suc, Bool, true, false, List, [], refl, sym, ap, ◌∙◌, subst}
use Rattle.std.specs.Prelude.{ℤ, pos, Option, None, Ok, ◌&&◌, ◌||◌, not}
use Rattle.adj_tree.specs.Code.{Var, plain, shadow, name_eq, Term, none, Mark, assign, loop, runtime, push_word, pop_word, Code, stop}
use Rattle.adj_tree.proofs.Names.{name_same}
use Rattle.adj_word.specs.Word.{wrap}
use Rattle.adj_word.specs.Pairing.{put, stands_in, IsApart}
use Rattle.def_meaning.specs.Append.{◌+++◌, one}
use Rattle.def_meaning.specs.Store.{Shape, size_of, Store, set}
use Rattle.def_meaning.specs.Value.{Setting, value}
use Rattle.def_meaning.specs.Run.{Calls, trips}
use Rattle.def_meaning.specs.Read.{reads_term}
use Rattle.def_names.specs.Numbers.{Vars}
use Rattle.def_sweep.specs.Marks.{Marks}
use Rattle.def_names.specs.Numbering.{point_before, point_after}
use Rattle.def_sweep.specs.Marked.{code_if}
use Rattle.def_sweep.specs.Facts.{In, without, joined, Facts}
use Rattle.law_sweep.specs.Pairs.{Key, key_eq, Words, shadows, with_tangents, on_words, on_duals}
use Rattle.law_sweep.specs.Scenes.{Course}
use Rattle.def_names.proofs.Variables.{or_false, and_true}
use Rattle.def_sweep.specs.Plan.{Plan, Schedules, Step, found_or}
use Rattle.def_sweep.specs.ReversalCode.{row_forward, row_backward}
use Rattle.def_sweep.specs.Rows.{is_empty, literal, loop_forward, loop_backward, resets, reset}
use Rattle.def_sweep.specs.Emission.{forward_with, backward_with}
use Rattle.def_sweep.specs.Callees.{nothing, CalleeFacts}
use Rattle.law_sweep.specs.Laws.{just, point_inside, LoopLaws}
use Rattle.def_sweep.specs.MarkedUnits.{is_marked}
use Rattle.law_sweep.specs.Passing.{plainly}
use Rattle.law_sweep.specs.Runs.{Passes, SameOn}
use Rattle.law_sweep.proofs.Runs.{comes_stop, passes_one, same_within}
use Rattle.law_sweep.proofs.Sweeps.{Matches, Sweeps}
use Rattle.law_sweep.proofs.Transposed.{Transposed, matches_way}
use Rattle.law_sweep.specs.Kernel.{AllText}
use Rattle.law_sweep.proofs.Evaluations.{value_dual}
use Rattle.law_sweep.proofs.Idle.{idle_list}
use Rattle.law_sweep.proofs.Turns.{TurnsPass}
use Rattle.law_sweep.proofs.LoopTangents.{set_dual, put_there, matches_cut}
use Rattle.law_sweep.specs.Theorem.{plan_of}
use Rattle.law_sweep.proofs.Loops.{loop_passes}
use Rattle.law_sweep.proofs.LoopStatements.{Looped}
use Rattle.law_sweep.proofs.LoopRows.{Row, row}
use Rattle.law_sweep.proofs.LoopEnds.{reset_words, reset_other, reset_zero, ended_sweeps}
use Rattle.def_sweep.specs.Reversals.{ReversedLines}

module _ (sc : Schedules) (p q : Calls ℤ) (lines : ReversedLines) (qd : Calls (ℤ × ℤ)) (sh : Var → Shape) (level : ℕ) (xs : List Key) (apart : IsApart key_eq xs) (w : Facts) (d : ℕ) (present : Bool) (callees : List ℕ → CalleeFacts) (arrays : Vars) (i line : ℕ) (x : List ℕ) (one_cell : size_of (sh (plain x)) ≡ 1) (in_list : stands_in key_eq (x, 0) xs ≡ true) (ea eb ec : Term) (body : Code) (mark : Mark) (untold : is_marked mark ≡ true → lines line ≡ None) (laws : LoopLaws w i (plain x) ea eb ec body) (text_a : AllText (λ v. reads_term v ea)) (text_b : AllText (λ v. reads_term v eb)) (text_c : AllText (λ v. reads_term v ec)) (wr : Vars) (spares : wr (plain x) ≡ false) (inert : Bool) where
  abbrev plan : Plan
  plan = plan_of callees w arrays

  abbrev m : Marks
  m = w.marks

  abbrev Fb : Code
  Fb = forward_with sc plan (suc i) (suc d) body

  abbrev Bb : Code
  Bb = backward_with sc plan (suc i) (suc d) body

  -- the sweeps of the statement, by how it is reversed
  abbrev pub forward_of : Option Step → Code
  forward_of o =
      code_if (m.kept i || m.adjointed i)
      (code_if (m.saved i (plain x)) (one line (runtime (push_word (plain x) none)))
      +++ found_or o (loop_forward (is_empty Bb) (suc d) line (plain x) ea eb ec Fb) (λ s. row_forward plan i (suc d) line x ea eb ec s))

  abbrev pub backward_of : Option Step → Code
  backward_of o =
      code_if (m.kept i || m.adjointed i)
      (found_or o (loop_backward (is_empty Bb) (suc d) line (plain x) Bb) (λ s. row_backward plan i (suc d) line x s)
      +++ (code_if (m.saved i (plain x)) (one line (runtime (pop_word (plain x) none)))
      +++ reset m i line x))

  abbrev np : Setting ℤ
  np = on_words (plainly sh) level

  abbrev nw : Setting ℤ
  nw = on_words sh level

  abbrev nd : Setting (ℤ × ℤ)
  nd = on_duals (plainly sh) level

  abbrev wrote : Vars
  wrote = joined (just (plain x)) wr

  abbrev this : Code
  this = one line (loop (plain x) ea eb ec body mark)

  module _ (a0 b0 c0 : ℤ) (n : ℕ) (u u' : Store ℤ) (is_a : value np ea u ≡ Ok a0) (is_b : value np eb u ≡ Ok b0) (is_c : value np ec u ≡ Ok c0) (turns_is : trips mark a0 b0 c0 ≡ Ok n) (l : Looped p q lines qd sh level xs w d present i line x one_cell ea eb ec body Fb Bb laws wr spares inert a0 c0 n 0 (set u (plain x) 0 (wrap a0)) u') where
    abbrev change : Words → Words
    change z = l.tangents.change (reset_words sh x one_cell (resets m i x) z)

    abbrev derivative : Words → Words
    derivative y = l.tangents.derivative (put key_eq y (x, 0) (pos 0))

    dual_loop : (home : Course) (y : Words) (t : List (ℤ × ℤ)) → Passes lines qd nd this home (with_tangents u y) (with_tangents u' (derivative y)) t l.tangents.loops
    dual_loop home y t =
        let va = value_dual (plainly sh) level u y ea a0 is_a in
        let vb = value_dual (plainly sh) level u y eb b0 is_b in
        let vc = value_dual (plainly sh) level u y ec c0 is_c in
        passes_one qd nd lines l.tangents.loops line (loop (plain x) ea eb ec body mark) home (with_tangents u y) (with_tangents u' (derivative y)) t
        (loop_passes lines l.tangents.loops qd nd line (plain x) ea eb ec body mark untold home (with_tangents u y) (with_tangents u' (derivative y)) t (a0, va.tangent) (b0, vb.tangent) (c0, vc.tangent) n va.is vb.is vc.is turns_is
        (subst (λ (s : Store (ℤ × ℤ)). TurnsPass lines qd nd n body (plain x) c0 home s (with_tangents u' (derivative y)) t l.tangents.loops) (sym (set_dual x u y (wrap a0))) (l.tangents.dual home (put key_eq y (x, 0) (pos 0)) t)))

    matches_loop : (y z : Words) → Matches sh m (point_before i) y z → Matches sh m (point_after i) (derivative y) (change z)
    matches_loop y z h =
        let zero = reset_zero sh x one_cell m i (resets m i x) refl y z h in
        matches_way sh m (point_inside i) (point_after i) (derivative y) (change z) laws.exit.tangents
        (l.tangents.matches (put key_eq y (x, 0) (pos 0)) (reset_words sh x one_cell (resets m i x) z)
        (matches_cut sh x one_cell m (point_before i) (point_inside i) y z (reset_words sh x one_cell (resets m i x) z) laws.entry_tangents h (λ k e. reset_other sh x one_cell (resets m i x) z k e) zero) zero)

    unwritten_loop : (k : Key) → wrote (plain k.0) ≡ false → (y : Words) → (derivative y k ≡ y k) × (change y k ≡ y k)
    unwritten_loop k o y =
        let e = or_false (name_eq k.0 x) (wr (plain k.0)) o in
        ((l.tangents.unwritten k e.0 e.1 (put key_eq y (x, 0) (pos 0))).0 ∙ put_there sh x one_cell y k e.0, (l.tangents.unwritten k e.0 e.1 (reset_words sh x one_cell (resets m i x) y)).1 ∙ reset_other sh x one_cell (resets m i x) y k e.0)

    still_loop : (not (m.adjointed i) && inert) ≡ true → (z : Words) (k : Key) → change z k ≡ z k
    still_loop e z k = go (m.adjointed i) refl e (resets m i x) refl
      where
        go : (a : Bool) → m.adjointed i ≡ a → (not a && inert) ≡ true → (r : Bool) → resets m i x ≡ r → l.tangents.change (reset_words sh x one_cell r z) k ≡ z k
        go true ea e r er = absurd (let c : false ≡ true = e in cc)
        go false ea e true er = absurd (let c : true ≡ false = sym (laws.adjoints_reset er) ∙ ea in cc)
        go false ea e false er = l.tangents.still e z k

    -- ---- the sweeps

    -- a DO that is kept
    kept_sweeps : present ≡ true → m.kept i ≡ true → (v : Bool) → m.saved i (plain x) ≡ v → (r : Bool) → resets m i x ≡ r → Sweeps q sh level xs d (code_if v (one line (runtime (push_word (plain x) none))) +++ loop_forward (is_empty Bb) (suc d) line (plain x) ea eb ec Fb) (loop_backward (is_empty Bb) (suc d) line (plain x) Bb +++ (code_if v (one line (runtime (pop_word (plain x) none))) +++ code_if r (one line (assign (shadow x) none (literal 0))))) (w.needed (point_before i)) (w.needed (point_after i)) (w.held (point_before i)) (w.held (point_after i)) wrote u u' (λ z. l.tangents.change (reset_words sh x one_cell r z)) l.tangents.loops
    kept_sweeps pr ek v ev r er =
        ended_sweeps q sh level xs apart line x one_cell in_list d (w.needed (point_before i)) (w.needed (point_inside i)) (w.needed (point_after i)) (w.held (point_before i)) (w.held (point_after i)) wrote (loop_forward (is_empty Bb) (suc d) line (plain x) ea eb ec Fb) (loop_backward (is_empty Bb) (suc d) line (plain x) Bb) u u' l.tangents.change l.tangents.loops v r
        (λ h. sym ev ∙ laws.saves ek h) (λ y h. laws.exit.values.needs y (rw h refl)) (λ y n. (or_false (name_eq y x) (wr (plain y)) n).0)
        (λ b f t s.
        let k = row_of pr b f t ek s in
        record {
          to = k.to;
          trail = k.trail;
          runs = k.runs;
          same = k.same;
          off = k.off;
          shades = k.shadows;
          depth = λ a n c lt le. k.depth.at a n c lt le;
          returns = λ b1 g h.
              let o = k.returns b1 g (same_within sh (w.held (point_after i)) (w.held (point_inside i)) k.to g (λ y h. laws.exit.values.holds y (rw h refl)) h) in
              record {
                after = o.after;
                reversals = o.reversals;
                reversed = o.reversed;
                runs = o.runs;
                stays = λ y j lt n h. o.stays y j lt n (laws.entry_values.holds (plain y) (rw (h, ek, n) refl));
                off = o.off;
                pairs = o.pairs;
                depth = λ a n c lt le. o.depth.at a n c lt le;
              };
        })
      where
        row_of : present ≡ true → (b : Course) (f : Store ℤ) (t0 : List ℤ) → m.kept i ≡ true → SameOn sh (w.needed (point_before i)) u f → Row q sh level xs d x wrote (w.needed (point_inside i)) (w.held (point_inside i)) (loop_forward (is_empty Bb) (suc d) line (plain x) ea eb ec Fb) (loop_backward (is_empty Bb) (suc d) line (plain x) Bb) b u' f t0 l.tangents.change l.tangents.loops
        row_of pr b f t0 ek s = at_present present pr l
          where
            at_present : (z : Bool) → z ≡ true → (l : Looped p q lines qd sh level xs w d z i line x one_cell ea eb ec body Fb Bb laws wr spares inert a0 c0 n 0 (set u (plain x) 0 (wrap a0)) u') → Row q sh level xs d x wrote (w.needed (point_inside i)) (w.held (point_inside i)) (loop_forward (is_empty Bb) (suc d) line (plain x) ea eb ec Fb) (loop_backward (is_empty Bb) (suc d) line (plain x) Bb) b u' f t0 l.tangents.change l.tangents.loops
            at_present true e l = row p q lines qd sh level xs w d i line x one_cell ea eb ec body Fb Bb laws text_a text_b text_c wr spares inert a0 b0 c0 n mark u u' is_a is_b is_c turns_is ek l (is_empty Bb) refl b f t0 s
            at_present false e l = absurd (let c : false ≡ true = e in cc)

    -- a DO that isn't
    left_sweeps : present ≡ true → m.kept i ≡ false → (r : Bool) → resets m i x ≡ r → Sweeps q sh level xs d stop stop (w.needed (point_before i)) (w.needed (point_after i)) (w.held (point_before i)) (w.held (point_after i)) wrote u u' (λ z. l.tangents.change (reset_words sh x one_cell r z)) l.tangents.loops
    left_sweeps pr ek true er = absurd (let c : true ≡ false = sym (laws.keeps_reset er) ∙ ek in cc)
    left_sweeps pr ek false er = record {
      way = λ b f t s.
          let entered = same_entered f s in
          record {
            to = f;
            trail = [];
            runs = comes_stop q nw b f t;
            same = same_within sh (w.needed (point_inside i)) (w.needed (point_after i)) u' f (λ y h. laws.exit.values.needs y (rw h refl)) ((l.left pr empty.1 empty.0 idle).same f entered);
            off = record { at = λ y j n. refl };
            shadows = λ y j. refl;
            depth = record { at = λ a k c lt le. refl };
            returns = λ b1 g h. record {
              after = g;
              reversals = [];
              reversed = (l.left pr empty.1 empty.0 idle).unreversed;
              runs = comes_stop q nw b1 g t;
              same = same_within sh (w.held (point_after i)) (w.held (point_before i)) f g (λ y h. laws.exit.values.holds y (without_none (w.held (point_inside i)) y (laws.entry_values.holds y (rw (h, ek) refl)))) h;
              off = record { at = λ y j n. refl };
              pairs = λ z. (l.left pr empty.1 empty.0 idle).pairs (shadows g) z;
              depth = record { at = λ a k c lt le. refl };
            };
          };
    }
      where
        without_none : (a : Vars) (v : Var) → In v a → In v (without a nothing)
        without_none a v h = rw h refl

        idle : w.needed (point_inside i) (plain x) ≡ false
        idle = go (w.needed (point_inside i) (plain x)) refl
          where
            go : (b : Bool) → w.needed (point_inside i) (plain x) ≡ b → b ≡ false
            go true h = absurd (let c : true ≡ false = sym (laws.keeps_variable h) ∙ ek in cc)
            go false h = refl

        empty : (Fb ≡ stop) × (Bb ≡ stop)
        empty = idle_list sc plan (suc i) (suc d) body (laws.keeps ek)

        same_entered : (f : Store ℤ) → SameOn sh (w.needed (point_before i)) u f → SameOn sh (w.needed (point_inside i)) (set u (plain x) 0 (wrap a0)) f
        same_entered f s = record { at = λ y j lt h. go y j lt h (name_eq y x) refl }
          where
            go : (y : List ℕ) (j : ℕ) → j < size_of (sh (plain y)) → In (plain y) (w.needed (point_inside i)) → (b : Bool) → name_eq y x ≡ b → f (plain y) j ≡ set u (plain x) 0 (wrap a0) (plain y) j
            go y j lt h true e = absurd (let c : true ≡ false = sym h ∙ ap (λ z. w.needed (point_inside i) (plain z)) (name_same y x e) ∙ idle in cc)
            go y j lt h false e = rw e (s.at y j lt (laws.entry_values.needs (plain y) (rw (h, e) refl)))

    pub transposed_done : Transposed q lines qd sh level xs w d present wrote (not (m.adjointed i) && inert) (point_before i) (point_after i) this (forward_of None) (backward_of None) u u'
    transposed_done = record {
      derivative = derivative;
      change = change;
      loops = l.tangents.loops;
      dual = dual_loop;
      sweeps = λ e. emitted e (m.kept i) refl (m.adjointed i) refl;
      matches = matches_loop;
      unwritten = unwritten_loop;
      still = still_loop;
      none_reversed = λ e. l.tangents.none_reversed (and_true (not (m.adjointed i)) inert e).1;
    }
      where
        emitted : present ≡ true → (k : Bool) → m.kept i ≡ k → (a : Bool) → m.adjointed i ≡ a → Sweeps q sh level xs d (code_if (k || a) (code_if (m.saved i (plain x)) (one line (runtime (push_word (plain x) none))) +++ loop_forward (is_empty Bb) (suc d) line (plain x) ea eb ec Fb)) (code_if (k || a) (loop_backward (is_empty Bb) (suc d) line (plain x) Bb +++ (code_if (m.saved i (plain x)) (one line (runtime (pop_word (plain x) none))) +++ reset m i line x))) (w.needed (point_before i)) (w.needed (point_after i)) (w.held (point_before i)) (w.held (point_after i)) wrote u u' change l.tangents.loops
        emitted e true ek a ea' = kept_sweeps e ek (m.saved i (plain x)) refl (resets m i x) refl
        emitted e false ek true ea' = absurd (let c : true ≡ false = sym (laws.keeps_adjointed ea') ∙ ek in cc)
        emitted e false ek false ea' = left_sweeps e ek (resets m i x) refl
