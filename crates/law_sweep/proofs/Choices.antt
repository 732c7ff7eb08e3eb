-- The sweeps of an IF, with marks that meet its laws.
use Rattle.std.proofs.Common.{[], ◌≡◌, ℕ, suc, Bool, true, false, List, ◌∷◌, ◌++◌, refl, sym, ◌∙◌, subst, arith}
use Rattle.std.specs.Prelude.{ℤ, pos, ◌==◌, ◌&&◌, ◌||◌, Ok}
use Rattle.adj_tree.specs.Code.{role_code, Var, helper, control, is_same, var, Test, compare, choose, runtime, push_control, pop_control, Code, stop}
use Rattle.def_meaning.specs.Append.{one}
use Rattle.def_meaning.specs.Store.{Shape, Store, set}
use Rattle.def_meaning.specs.Value.{Setting, holds}
use Rattle.def_meaning.specs.Run.{Calls}
use Rattle.def_meaning.specs.Read.{reads_test}
use Rattle.law_meaning.proofs.Leadings.{leads_stop, leads_step, act_then, act_else}
use Rattle.def_names.specs.Numbers.{Vars, behind}
use Rattle.def_names.specs.Numbering.{point_before, point_after}
use Rattle.def_sweep.specs.Marked.{code_if}
use Rattle.def_sweep.specs.Facts.{Within, Facts}
use Rattle.law_sweep.specs.Pairs.{Key, Words, with_tangents, on_words, on_duals}
use Rattle.law_sweep.specs.Scenes.{Course, scene}
use Rattle.def_names.proofs.Variables.{and_true}
use Rattle.def_sweep.specs.Plan.{Plan, Schedules}
use Rattle.def_sweep.specs.Rows.{is_empty, told_forward, told_backward, literal}
use Rattle.def_sweep.specs.Emission.{forward_act_with, forward_with, backward_act_with, backward_with}
use Rattle.def_sweep.specs.Callees.{CalleeFacts}
use Rattle.law_sweep.specs.Laws.{ChoiceLaws}
use Rattle.law_sweep.specs.Passing.{plainly}
use Rattle.def_sweep.specs.Reversals.{Reversal, LoopRun, ReversedLines}
use Rattle.law_sweep.specs.Runs.{Comes, ActComes, Passes, ActPasses, SameOn}
use Rattle.law_sweep.proofs.Runs.{comes_leads, comes_one, comes_append, passes_one}
use Rattle.law_sweep.proofs.Sweeps.{Returns, Sweeps}
use Rattle.law_sweep.proofs.Transposed.{Transposed}
use Rattle.law_sweep.specs.Kernel.{AllText}
use Rattle.law_sweep.proofs.Evaluations.{holds_again, holds_dual}
use Rattle.law_sweep.proofs.Idle.{empty_is, idle_list}
use Rattle.law_sweep.specs.Theorem.{plan_of}

-- the one of two parts that ran
abbrev pub part : Bool → Code → Code → Code
part true a b = a
part false a b = b

-- the word that tells which
abbrev ran_word : Bool → ℕ
ran_word true = 1
ran_word false = 0

pub comes_choice : {C : Type 0} {rs : List Reversal} (q : Calls C) (n : Setting C) (ran : Bool) (c : Test) (a b : Code) (line : ℕ) (base : Course) (s s' : Store C) (t t' : List C) → holds n c s ≡ Ok ran → Comes q n (part ran a b) base s s' t t' rs → ActComes q n (choose c a b) line base s s' t t' rs
comes_choice q n true c a b line base s s' t t' h r = record { later = r.later; tells = r.tells; runs = act_then q n line c a b (scene base s t) (scene r.later s' t') h r.runs }
comes_choice q n false c a b line base s s' t t' h r = record { later = r.later; tells = r.tells; runs = act_else q n line c a b (scene base s t) (scene r.later s' t') h r.runs }

passes_choice : {C : Type 0} (lines : ReversedLines) (loops : List LoopRun) (q : Calls C) (n : Setting C) (ran : Bool) (c : Test) (a b : Code) (line : ℕ) (base : Course) (s s' : Store C) (t : List C) → holds n c s ≡ Ok ran → Passes lines q n (part ran a b) base s s' t loops → ActPasses lines q n (choose c a b) line base s s' t loops
passes_choice lines loops q n true c a b line base s s' t h r = record { later = r.later; tells = r.tells; runs = act_then q n line c a b (scene base s t) (scene r.later s' t) h r.runs }
passes_choice lines loops q n false c a b line base s s' t h r = record { later = r.later; tells = r.tells; runs = act_else q n line c a b (scene base s t) (scene r.later s' t) h r.runs }

module _ (q : Calls ℤ) (sh : Var → Shape) (level : ℕ) (xs : List Key) (d line : ℕ) (c : Test) (ran : Bool) (fa fb ba bb : Code) (n n' h h' wrote : Vars) (u u' : Store ℤ) (change : Words → Words) (loops : List LoopRun) (text : AllText (λ v. reads_test v c)) (uses : Within (λ v. reads_test v c) n) (is : holds (on_words (plainly sh) level) c u ≡ Ok ran) (s : Sweeps q sh level xs d (part ran fa fb) (part ran ba bb) n n' h h' wrote u u' change loops) where
  abbrev nw : Setting ℤ
  nw = on_words sh level

  test_again : (f : Store ℤ) → SameOn sh n u f → holds nw c f ≡ Ok ran
  test_again f g = holds_again sh level n u f g c text uses ∙ is

  -- the parts tell nothing: there is nothing to go back through
  silent : ba ≡ stop → bb ≡ stop → Sweeps q sh level xs d (one line (choose c fa fb)) stop n n' h h' wrote u u' change loops
  silent ea eb = record {
    way = λ b f t g.
        let w = s.way b f t g in
        record {
          to = w.to;
          trail = w.trail;
          runs = comes_one q nw line (choose c fa fb) b f w.to t (w.trail ++ t) (comes_choice q nw ran c fa fb line b f w.to t (w.trail ++ t) (test_again f g) w.runs);
          same = w.same;
          off = w.off;
          shadows = w.shadows;
          depth = w.depth;
          returns = λ b1 g1 r. subst (λ z. Returns q sh level xs d z h wrote b1 f g1 (w.trail ++ t) t change loops) (both ran) (w.returns b1 g1 r);
        };
  }
    where
      both : (r : Bool) → part r ba bb ≡ stop
      both true = ea
      both false = eb

  -- the part that ran, and its word
  told_comes : (base : Course) (f to : Store ℤ) (t l : List ℤ) → Comes q nw (part ran fa fb) base f to t l [] → Comes q nw (part ran (told_forward false line fa 1) (told_forward false line fb 0)) base f to t (pos (ran_word ran) ∷ l) []
  told_comes base f to t l r = go ran r
    where
      word : (k : ℕ) (base : Course) → Comes q nw (one line (runtime (push_control (literal k)))) base to to l (pos k ∷ l) []
      word k base = comes_leads q nw (one line (runtime (push_control (literal k)))) base to to l (pos k ∷ l)
          (leads_step q nw line (runtime (push_control (literal k))) stop (scene base to l) (scene base to (pos k ∷ l)) (scene base to (pos k ∷ l)) (λ j. refl) (leads_stop q nw (scene base to (pos k ∷ l))))

      go : (r : Bool) → Comes q nw (part r fa fb) base f to t l [] → Comes q nw (part r (told_forward false line fa 1) (told_forward false line fb 0)) base f to t (pos (ran_word r) ∷ l) []
      go true r = comes_append q nw fa (one line (runtime (push_control (literal 1)))) base f to to t l (pos 1 ∷ l) r (word 1 r.later)
      go false r = comes_append q nw fb (one line (runtime (push_control (literal 0)))) base f to to t l (pos 0 ∷ l) r (word 0 r.later)

  -- the word tells which part ran
  word_tells : (r : Bool) (g : Store ℤ) → holds nw (compare is_same (var (helper control 0)) (literal 1)) (set g (helper control 0) 0 (pos (ran_word r))) ≡ Ok r
  word_tells true g = refl
  word_tells false g = refl

  told : Sweeps q sh level xs d (one line (choose c (told_forward false line fa 1) (told_forward false line fb 0))) (told_backward false line ba bb) n n' h h' wrote u u' change loops
  told = record {
    way = λ b f t g.
        let w = s.way b f t g in
        let word = pos (ran_word ran) in
        let r0 = told_comes b f w.to t (w.trail ++ t) w.runs in
        record {
          to = w.to;
          trail = word ∷ w.trail;
          runs = comes_one q nw line (choose c (told_forward false line fa 1) (told_forward false line fb 0)) b f w.to t (word ∷ (w.trail ++ t))
              (comes_choice q nw ran c (told_forward false line fa 1) (told_forward false line fb 0) line b f w.to t (word ∷ (w.trail ++ t)) (test_again f g) r0);
          same = w.same;
          off = w.off;
          shadows = w.shadows;
          depth = w.depth;
          returns = λ b1 g1 r.
              let g2 = set g1 (helper control 0) 0 word in
              let e = w.returns b1 g2 (record { at = λ x j l i. r.at x j l i }) in
              let test = compare is_same (var (helper control 0)) (literal 1) in
              let c1 = comes_one q nw line (choose test ba bb) b1 g2 e.after (w.trail ++ t) t (comes_choice q nw ran test ba bb line b1 g2 e.after (w.trail ++ t) t (word_tells ran g1) e.runs) in
              record {
                after = e.after;
                reversals = e.reversals;
                reversed = e.reversed;
                runs = record {
                  later = c1.later;
                  tells = c1.tells;
                  runs = leads_step q nw line (runtime (pop_control (helper control 0))) (one line (choose test ba bb)) (scene b1 g1 (word ∷ (w.trail ++ t))) (scene b1 g2 (w.trail ++ t)) (scene c1.later e.after t) (λ k. refl) c1.runs;
                };
                same = e.same;
                off = record { at = λ x j o. e.off.at x j o };
                pairs = λ y. e.pairs y;
                depth = record { at = λ o k j lt le. e.depth.at o k j lt le ∙ (let ne : (role_code o == 2) ≡ false = grind arith in rw ne refl) };
              };
        };
  }

module _ (sc : Schedules) (q : Calls ℤ) (lines : ReversedLines) (qd : Calls (ℤ × ℤ)) (sh : Var → Shape) (level : ℕ) (xs : List Key) (w : Facts) (d : ℕ) (present : Bool) (callees : List ℕ → CalleeFacts) (arrays : Vars) (i line : ℕ) (c : Test) (a b : Code) (laws : ChoiceLaws w i c a b) (text : AllText (λ v. reads_test v c)) where
  abbrev p : Plan
  p = plan_of callees w arrays

  abbrev j : ℕ
  j = behind (suc i) a

  abbrev fa : Code
  fa = forward_with sc p (suc i) d a

  abbrev fb : Code
  fb = forward_with sc p j d b

  abbrev ba : Code
  ba = backward_with sc p (suc i) d a

  abbrev bb : Code
  bb = backward_with sc p j d b

  -- both sweeps of the IF, by those of the part that ran
  emitted : (ran : Bool) (n' h' wrote : Vars) (u u' : Store ℤ) (change : Words → Words) (loops : List LoopRun) → holds (on_words (plainly sh) level) c u ≡ Ok ran → Sweeps q sh level xs d (part ran fa fb) (part ran ba bb) (w.needed (point_before i)) n' (w.held (point_before i)) h' wrote u u' change loops → Sweeps q sh level xs d (forward_act_with sc p i d line (choose c a b)) (backward_act_with sc p i d line (choose c a b)) (w.needed (point_before i)) n' (w.held (point_before i)) h' wrote u u' change loops
  emitted ran n' h' wrote u u' change loops is s = go (w.marks.kept i) refl (w.marks.adjointed i) refl
    where
      kept_by : (t : Bool) → w.marks.adjointed i ≡ t → (t ≡ true) → w.marks.kept i ≡ true
      kept_by t e h = laws.keeps_adjointed (e ∙ h)

      parts : w.marks.kept i ≡ true → (idle : Bool) → (is_empty ba && is_empty bb) ≡ idle → Sweeps q sh level xs d (one line (choose c (told_forward idle line fa 1) (told_forward idle line fb 0))) (told_backward idle line ba bb) (w.needed (point_before i)) n' (w.held (point_before i)) h' wrote u u' change loops
      parts k true e =
          let e2 = and_true (is_empty ba) (is_empty bb) e in
          silent q sh level xs d line c ran fa fb ba bb (w.needed (point_before i)) n' (w.held (point_before i)) h' wrote u u' change loops text (laws.needs_uses k) is s (empty_is ba e2.0) (empty_is bb e2.1)
      parts k false e = told q sh level xs d line c ran fa fb ba bb (w.needed (point_before i)) n' (w.held (point_before i)) h' wrote u u' change loops text (laws.needs_uses k) is s

      nothing_of : w.marks.kept i ≡ false → (r : Bool) → (part r fa fb ≡ stop) × (part r ba bb ≡ stop)
      nothing_of e true = idle_list sc p (suc i) d a (laws.keeps e).0
      nothing_of e false = idle_list sc p j d b (laws.keeps e).1

      go : (k : Bool) → w.marks.kept i ≡ k → (t : Bool) → w.marks.adjointed i ≡ t → Sweeps q sh level xs d (code_if (k || t) (one line (choose c (told_forward (is_empty ba && is_empty bb) line fa 1) (told_forward (is_empty ba && is_empty bb) line fb 0)))) (code_if (k || t) (told_backward (is_empty ba && is_empty bb) line ba bb)) (w.needed (point_before i)) n' (w.held (point_before i)) h' wrote u u' change loops
      go true ek t et = parts ek (is_empty ba && is_empty bb) refl
      go false ek true et = absurd (let r : true ≡ false = sym (kept_by true et refl) ∙ ek in cc)
      go false ek false et =
          let o = nothing_of ek ran in
          subst (λ z. Sweeps q sh level xs d z stop (w.needed (point_before i)) n' (w.held (point_before i)) h' wrote u u' change loops) o.0
          (subst (λ z. Sweeps q sh level xs d (part ran fa fb) z (w.needed (point_before i)) n' (w.held (point_before i)) h' wrote u u' change loops) o.1 s)

  -- an IF that was done, by the part that ran
  pub transposed_choice : (ran : Bool) (wrote : Vars) (inert : Bool) (u u' : Store ℤ) → holds (on_words (plainly sh) level) c u ≡ Ok ran →
      Transposed q lines qd sh level xs w d present wrote inert (point_before i) (point_after i) (part ran a b) (part ran fa fb) (part ran ba bb) u u' →
      Transposed q lines qd sh level xs w d present wrote inert (point_before i) (point_after i) (one line (choose c a b)) (forward_act_with sc p i d line (choose c a b)) (backward_act_with sc p i d line (choose c a b)) u u'
  transposed_choice ran wrote inert u u' is t = record {
    derivative = t.derivative;
    change = t.change;
    loops = t.loops;
    dual = λ home y tape.
        let n = on_duals (plainly sh) level in
        passes_one qd n lines t.loops line (choose c a b) home (with_tangents u y) (with_tangents u' (t.derivative y)) tape
        (passes_choice lines t.loops qd n ran c a b line home (with_tangents u y) (with_tangents u' (t.derivative y)) tape (holds_dual (plainly sh) level u y c ∙ is) (t.dual home y tape));
    sweeps = λ e. emitted ran (w.needed (point_after i)) (w.held (point_after i)) wrote u u' t.change t.loops is (t.sweeps e);
    matches = t.matches;
    unwritten = t.unwritten;
    still = t.still;
    none_reversed = t.none_reversed;
  }
