-- A DO as a statement: its derivative and its sweeps.
use Rattle.std.proofs.Common.{◌≡◌, ◌<◌, ◌^◌, ℕ, zero, suc, ◌+◌, Bool, true, false, List, [], refl, ap, ◌∙◌, subst, arith}
use Rattle.std.specs.Prelude.{ℤ, pos, ◌&&◌, not}
use Rattle.adj_tree.specs.Code.{Var, plain, name_eq, Term, Code, stop}
use Rattle.adj_tree.proofs.Names.{name_refl}
use Rattle.adj_word.specs.Word.{add, mul}
use Rattle.adj_word.proofs.Counting.{one_step}
use Rattle.def_meaning.specs.Store.{Shape, size_of, Store, set}
use Rattle.def_meaning.specs.Value.{Setting}
use Rattle.def_meaning.specs.Scene.{Scene, Done, then_do}
use Rattle.def_meaning.specs.Run.{Calls, run, turns, stepped}
use Rattle.law_meaning.proofs.Inversions.{then_done, count_done, done_same}
use Rattle.def_names.specs.Numbers.{Vars}
use Rattle.def_sweep.specs.Facts.{In, Facts}
use Rattle.law_sweep.specs.Pairs.{Key, on_words}
use Rattle.law_sweep.specs.Laws.{point_inside, last_point, LoopLaws}
use Rattle.law_sweep.specs.Passing.{plainly}
use Rattle.law_sweep.proofs.Sweeps.{Sweeps}
use Rattle.law_sweep.proofs.Transposed.{Transposed}
use Rattle.law_sweep.proofs.LoopTangents.{LoopTangents, tangents_none, tangents_more}
use Rattle.law_sweep.proofs.LoopSweeps.{LoopSwept, swept_none, swept_more}
use Rattle.law_sweep.proofs.LoopSilent.{LoopSilent, silent_none, silent_more, LoopLeft, left_none, left_more}
use Rattle.def_sweep.specs.Reversals.{ReversedLines}

-- ---- the turns of a run

module _ (p q : Calls ℤ) (lines : ReversedLines) (qd : Calls (ℤ × ℤ)) (sh : Var → Shape) (level : ℕ) (xs : List Key) (w : Facts) (d : ℕ) (present : Bool) (i line : ℕ) (x : List ℕ) (one_cell : size_of (sh (plain x)) ≡ 1) (ea eb ec : Term) (body Fb Bb : Code) (laws : LoopLaws w i (plain x) ea eb ec body) (wr : Vars) (spares : wr (plain x) ≡ false) (inert : Bool) (a0 c0 : ℤ) where
  abbrev n_in : ℕ
  n_in = point_inside i

  abbrev n_last : ℕ
  n_last = last_point n_in (suc i) body

  abbrev np : Setting ℤ
  np = on_words (plainly sh) level

  pub needs : (y : List ℕ) → name_eq y x ≡ false → In (plain y) (w.needed n_in) → In (plain y) (w.needed n_last)
  needs y e h = laws.step_values.needs (plain y) (rw (h, e) refl)

  pub holds : (y : List ℕ) → name_eq y x ≡ false → In (plain y) (w.held n_last) → In (plain y) (w.held n_in)
  holds y e h = laws.step_values.holds (plain y) (go (w.marks.kept i))
    where
      go : (k : Bool) → (w.held n_last (plain y) && not (k && name_eq y x)) ≡ true
      go true = rw (h, e) refl
      go false = rw h refl

  -- m turns from the j-th on: what they make of tangents, and their sweeps
  pub record Looped (m j : ℕ) (u u' : Store ℤ) : Type 0 where
    pub tangents : LoopTangents q lines qd sh level xs w d present x one_cell c0 n_in n_last laws.step_tangents body Fb Bb wr spares inert m u u'
    pub told : present ≡ true → LoopSwept q sh level xs d line x one_cell a0 c0 (w.needed n_in) (w.needed n_last) (w.held n_in) (w.held n_last) needs holds Fb Bb wr spares m j u u' tangents.change tangents.loops
    pub silent : present ≡ true → Bb ≡ stop → LoopSilent q sh level xs d x one_cell c0 (w.needed n_in) (w.needed n_last) (w.held n_in) (w.held n_last) needs Fb wr spares m u u' tangents.change tangents.loops
    pub left : present ≡ true → Bb ≡ stop → Fb ≡ stop → w.needed n_in (plain x) ≡ false → LoopLeft q sh level xs d x one_cell c0 (w.needed n_in) (w.needed n_last) (w.held n_in) (w.held n_last) needs Fb wr spares m u u' tangents.change tangents.loops

  pub looped_none : (j : ℕ) (u : Store ℤ) → Looped 0 j u u
  looped_none j u = record {
    tangents = tangents_none q lines qd sh level xs w d present x one_cell c0 n_in n_last laws.step_tangents body Fb Bb wr spares inert u;
    told = λ e. told0;
    silent = λ e n. silent0;
    left = λ e n f o. left0;
  }
    where
      told0 : LoopSwept q sh level xs d line x one_cell a0 c0 (w.needed n_in) (w.needed n_last) (w.held n_in) (w.held n_last) needs holds Fb Bb wr spares 0 j u u (λ z. z) []
      told0 = swept_none q sh level xs d line x one_cell a0 c0 (w.needed n_in) (w.needed n_last) (w.held n_in) (w.held n_last) needs holds Fb Bb wr spares j u

      silent0 : LoopSilent q sh level xs d x one_cell c0 (w.needed n_in) (w.needed n_last) (w.held n_in) (w.held n_last) needs Fb wr spares 0 u u (λ z. z) []
      silent0 = silent_none q sh level xs d x one_cell c0 (w.needed n_in) (w.needed n_last) (w.held n_in) (w.held n_last) needs Fb wr spares u

      left0 : LoopLeft q sh level xs d x one_cell c0 (w.needed n_in) (w.needed n_last) (w.held n_in) (w.held n_last) needs Fb wr spares 0 u u (λ z. z) []
      left0 = left_none q sh level xs d x one_cell c0 (w.needed n_in) (w.needed n_last) (w.held n_in) (w.held n_last) needs Fb wr spares u

  pub looped_more : (m j : ℕ) (u ub u' : Store ℤ) → suc j < 2 ^ 63 → u (plain x) 0 ≡ add a0 (mul (pos j) c0) → ub (plain x) 0 ≡ u (plain x) 0 → Transposed q lines qd sh level xs w (suc d) present wr inert n_in n_last body Fb Bb u ub → Looped m (suc j) (set ub (plain x) 0 (add (ub (plain x) 0) c0)) u' → Looped (suc m) j u u'
  looped_more m j u ub u' small value_is keeps t rest =
      let g = tangents_more q lines qd sh level xs w d present x one_cell c0 n_in n_last laws.step_tangents body Fb Bb wr spares inert m u ub u' t rest.tangents in
      record {
        tangents = g;
        told = λ e. swept_more q sh level xs d line x one_cell a0 c0 (w.needed n_in) (w.needed n_last) (w.held n_in) (w.held n_last) needs holds Fb Bb wr spares m j u ub u' t.change rest.tangents.change t.loops rest.tangents.loops small value_is keeps (t.sweeps e) (rest.told e);
        silent = λ e n.
            let s = subst (λ z. Sweeps q sh level xs (suc d) Fb z (w.needed n_in) (w.needed n_last) (w.held n_in) (w.held n_last) wr u ub t.change t.loops) n (t.sweeps e) in
            silent_more q sh level xs d x one_cell c0 (w.needed n_in) (w.needed n_last) (w.held n_in) (w.held n_last) needs Fb wr spares m u ub u' t.change rest.tangents.change t.loops rest.tangents.loops keeps s (rest.silent e n);
        left = λ e n f o.
            let s = subst (λ z. Sweeps q sh level xs (suc d) Fb z (w.needed n_in) (w.needed n_last) (w.held n_in) (w.held n_last) wr u ub t.change t.loops) n (t.sweeps e) in
            let s2 = subst (λ z. Sweeps q sh level xs (suc d) z stop (w.needed n_in) (w.needed n_last) (w.held n_in) (w.held n_last) wr u ub t.change t.loops) f s in
            left_more q sh level xs d x one_cell c0 (w.needed n_in) (w.needed n_last) (w.held n_in) (w.held n_last) needs Fb wr spares m u ub u' t.change rest.tangents.change t.loops rest.tangents.loops o s2 (rest.left e n f o);
      }

  -- what a turn of the program does
  pub record Turned (u ub : Store ℤ) : Type 0 where
    pub transposed : Transposed q lines qd sh level xs w (suc d) present wr inert n_in n_last body Fb Bb u ub
    pub keeps : ub (plain x) 0 ≡ u (plain x) 0

  pub looped : ((s e : Scene ℤ) (k left : ℕ) → run p np body s k ≡ Done e left → Turned s.store e.store) → (m j : ℕ) (s s' : Scene ℤ) (k k' : ℕ) → j + m < 2 ^ 63 → s.store (plain x) 0 ≡ add a0 (mul (pos j) c0) → turns np m (run p np body) (stepped np (plain x) c0) s k ≡ Done s' k' → Looped m j s.store s'.store
  looped each zero j s s' k k' small is h = subst (λ (z : Scene ℤ). Looped 0 j s.store z.store) (done_same s s' k k' h) (looped_none j s.store)
  looped each (suc m) j s s' k k' small is h =
      let r = count_done _ k (λ l. then_do (run p np body s l) (λ s1 i. turns np m (run p np body) (stepped np (plain x) c0) (stepped np (plain x) c0 s1) i)) s' k' h in
      let o = then_done (run p np body s r.left) (λ s1 i. turns np m (run p np body) (stepped np (plain x) c0) (stepped np (plain x) c0 s1) i) s' k' r.goes in
      let t = each s o.scene r.left o.left o.first in
      let ub = o.scene.store in
      let next : set ub (plain x) 0 (add (ub (plain x) 0) c0) (plain x) 0 ≡ add a0 (mul (pos (suc j)) c0) = rw (name_refl x) (ap (λ v. add v c0) (t.keeps ∙ is) ∙ one_step a0 c0 j) in
      looped_more m j s.store ub s'.store (omega arith) is t.keeps t.transposed (looped each m (suc j) (stepped np (plain x) c0 o.scene) s' o.left k' (omega arith) next o.second)
