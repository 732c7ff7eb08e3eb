-- The row of a split call in both sweeps, by facts that meet its laws.
use Rattle.std.proofs.Common.{◌≡◌, ◌<◌, ℕ, Bool, true, false, List, ◌++◌, refl, sym, ap, ◌∙◌}
use Rattle.std.specs.Prelude.{ℤ, not, ◌||◌, Option, Some, None}
use Rattle.adj_tree.specs.Code.{Var, plain, call}
use Rattle.def_meaning.specs.Append.{one}
use Rattle.def_meaning.specs.Store.{Shape, size_of, Store}
use Rattle.def_meaning.specs.Run.{Calls}
use Rattle.def_names.specs.Numbers.{Vars}
use Rattle.def_names.specs.Numbering.{point_before, point_after}
use Rattle.def_sweep.specs.Facts.{In, joined, Facts}
use Rattle.def_meaning.specs.Apart.{AreApart}
use Rattle.law_sweep.specs.Pairs.{Key, Words, with_tangents, on_words, on_duals}
use Rattle.law_sweep.specs.Scenes.{Course}
use Rattle.def_sweep.specs.Plan.{beside, IsActual, actuals_named, writes_actual, found_or}
use Rattle.def_sweep.specs.Callees.{nothing, CalleeFacts}
use Rattle.law_sweep.specs.Passing.{plainly}
use Rattle.def_sweep.specs.Reversals.{ReversedLines}
use Rattle.law_sweep.specs.Runs.{SameOn}
use Rattle.law_sweep.proofs.Runs.{passes_one, comes_one}
use Rattle.law_sweep.proofs.Sweeps.{Sweeps}
use Rattle.law_sweep.proofs.Transposed.{Transposed}
use Rattle.law_sweep.proofs.Passing.{beside_back}
use Rattle.law_sweep.proofs.CallTangents.{tangents_out, shadows_out}
use Rattle.law_sweep.proofs.CallSweeps.{CallTransposed, without_none}
use Rattle.law_sweep.proofs.CallStatements.{call_matches, call_unwritten}
use Rattle.law_sweep.specs.Laws.{SplitLaws}
use Rattle.def_sweep.specs.SplitRows.{split_forward, split_backward, back_call}
use Rattle.law_sweep.specs.SplitCalled.{BackCalled, ForthCalled, SplitPair}

-- the dummies whose actuals are in a set
abbrev pub dummies_in : Vars → List (List ℕ) → List (List ℕ) → Vars
dummies_in a ds given (plain d) = found_or (beside ds given d) false (λ x. a (plain x))
dummies_in a ds given v = false

-- a split call that takes the caller's values u to u', where the forward unit agrees with the program on the actuals of these dummies besides
pub record SplitTransposed (q : Calls ℤ) (lines : ReversedLines) (qd : Calls (ℤ × ℤ)) (sh : Var → Shape) (level : ℕ) (xs : List Key) (g : CalleeFacts) (given : List (List ℕ)) (name : List ℕ) (line : ℕ) (also : Vars) (present : Bool) (u u' : Store ℤ) : Type 0 where
  pub call : CallTransposed q lines qd sh level xs g given name line true true false u u'
  pub pair : present ≡ true → SplitPair q sh level xs g given g.callee.forth g.callee.back line also u u' (shadows_out g.callee.shadowed g.callee.dummies given call.change) call.loops

module _ (q : Calls ℤ) (lines : ReversedLines) (qd : Calls (ℤ × ℤ)) (sh : Var → Shape) (level : ℕ) (xs : List Key) (d : ℕ) (w : Facts) (i : ℕ) (g : CalleeFacts) (given : List (List ℕ)) (apart : AreApart g.callee.dummies) (apart' : AreApart given) (laws : SplitLaws w i g given) (name : List ℕ) (line : ℕ) (present : Bool) (u u' : Store ℤ)
    -- what the program's call does, and the pair
    (done : SplitTransposed q lines qd sh level xs g given name line (dummies_in (w.needed (point_before i)) g.callee.dummies given) present u u') where
  abbrev c : CallTransposed q lines qd sh level xs g given name line true true false u u'
  c = done.call

  abbrev forth : List ℕ
  forth = g.callee.forth

  abbrev back : List ℕ
  back = g.callee.back

  abbrev ds : List (List ℕ)
  ds = g.callee.dummies

  abbrev needed : Vars
  needed = w.needed (point_before i)

  abbrev needed_after : Vars
  needed_after = w.needed (point_after i)

  abbrev held : Vars
  held = w.held (point_before i)

  abbrev held_after : Vars
  held_after = w.held (point_after i)

  abbrev wrote : Vars
  wrote = writes_actual g.callee given

  abbrev turned : Words → Words
  turned = shadows_out g.callee.shadowed ds given c.change

  needs_later : (v : Var) → In v needed_after → In v needed
  needs_later v h = laws.call.values.needs v (without_none needed_after v h)

  holds_later : (v : Var) → In v held → In v held_after
  holds_later v h = laws.call.values.holds v (without_none held v h)

  -- the forward unit agrees with the program on what is needed before the call
  abbrev also : Vars
  also = dummies_in needed ds given

  also_has : (e a : List ℕ) → IsActual ds given e a → In (plain a) needed → In (plain e) (joined g.read also)
  also_has e a b h = rw (b, h) (last (g.read (plain e)))
    where
      last : (t : Bool) → (t || true) ≡ true
      last true = refl
      last false = refl

  also_from : (e a : List ℕ) → IsActual ds given e a → In (plain e) (joined g.read also) → In (plain a) needed
  also_from e a b h = go (g.read (plain e)) refl h
    where
      go : (t : Bool) → g.read (plain e) ≡ t → (t || found_or (beside ds given e) false (λ x. needed (plain x))) ≡ true → In (plain a) needed
      go true r h = laws.call.needs_uses laws.kept e a b r
      go false r h = sym (ap (λ o. found_or o false (λ x. needed (plain x))) b) ∙ h

  sweeps : present ≡ true → Sweeps q sh level xs d (split_forward forth line given) (split_backward back line g.callee given) needed needed_after held held_after wrote u u' turned c.loops
  sweeps e = record {
    way = λ b f t s.
        let n = on_words sh level in
        let k = done.pair e b f t (record { at = λ x a is h j l. s.at a j l (also_from x a is h) }) in
        record {
          to = k.after;
          trail = k.trail;
          runs = comes_one q n line (call forth (actuals_named given)) b f k.after t (k.trail ++ t) k.runs;
          same = record { at = λ x j l h. value b f t s k x j l h (beside given ds x) refl };
          off = k.off;
          shadows = k.shadows;
          depth = record { at = λ r o m lt le. k.helpers r o m };
          returns = λ b1 g0 h.
              let r = k.returns b1 g0 (λ x a is rd nw j l. h.at a j l (laws.holds_reads x a is rd nw)) in
              record {
                after = r.after;
                reversals = r.reversals;
                reversed = r.reversed;
                runs = comes_one q n line (back_call back g.callee given) b1 g0 r.after (k.trail ++ t) t r.runs;
                same = record { at = λ x j l m. again b f t k b1 g0 h r x j l m (wrote (plain x)) refl };
                off = r.off;
                pairs = r.pairs;
                depth = record { at = λ ro o m lt le. r.helpers ro o m };
              };
        };
  }
    where
      -- what is needed after the call has the program's value
      value : (b : Course) (f : Store ℤ) (t : List ℤ) → SameOn sh needed u f → (k : ForthCalled q sh level xs g given forth back line also b u' f t turned c.loops) → (x : List ℕ) (j : ℕ) → j < size_of (sh (plain x)) → In (plain x) needed_after → (o : Option (List ℕ)) → beside given ds x ≡ o → k.after (plain x) j ≡ u' (plain x) j
      value b f t s k x j l h None m =
          let off : wrote (plain x) ≡ false = rw m refl in
          k.off.at x j off ∙ s.at x j l (needs_later (plain x) h) ∙ sym (c.off.at x j off)
      value b f t s k x j l h (Some e) m =
          let is : IsActual ds given e x = beside_back given ds apart' apart x e m in
          k.same e x is (also_has e x is (needs_later (plain x) h)) j l

      -- what is held before it is there again
      again : (b : Course) (f : Store ℤ) (t : List ℤ) (k : ForthCalled q sh level xs g given forth back line also b u' f t turned c.loops) (b1 : Course) (g0 : Store ℤ) → SameOn sh held_after k.after g0 → (r : BackCalled q sh level xs g given forth back line b1 f g0 k.trail t turned c.loops) → (x : List ℕ) (j : ℕ) → j < size_of (sh (plain x)) → In (plain x) held → (o : Bool) → wrote (plain x) ≡ o → r.after (plain x) j ≡ f (plain x) j
      again b f t k b1 g0 h r x j l m false o = r.off.at x j o ∙ h.at x j l (holds_later (plain x) m) ∙ k.off.at x j o
      again b f t k b1 g0 h r x j l m true o = go (beside given ds x) refl o
        where
          go : (p : Option (List ℕ)) → beside given ds x ≡ p → found_or p false (λ d. g.callee.written (plain d)) ≡ true → r.after (plain x) j ≡ f (plain x) j
          go None z n = cc
          go (Some e) z n = r.restores e x (beside_back given ds apart' apart x e z) n j l

  -- the split call as a statement
  pub transposed_split : ((v : Var) → g.callee.shadowed v ≡ g.facts.marks.shadowed v) → ((v : Var) → In v (g.facts.marks.varied g.entry) → In v (g.facts.marks.useful g.entry) → In v g.facts.marks.shadowed) → ((v : Var) → In v (g.facts.marks.varied g.end) → In v (g.facts.marks.useful g.end) → In v g.facts.marks.shadowed) →
      Transposed q lines qd sh level xs w d present wrote (not (w.marks.adjointed i)) (point_before i) (point_after i) (one line (call name (actuals_named given))) (split_forward forth line given) (split_backward back line g.callee given) u u'
  transposed_split own entry_shadows end_shadows = record {
    derivative = tangents_out nothing ds given c.derivative;
    change = turned;
    loops = c.loops;
    dual = λ home y t. passes_one qd (on_duals (plainly sh) level) lines c.loops line (call name (actuals_named given)) home (with_tangents u y) (with_tangents u' (tangents_out nothing ds given c.derivative y)) t (let p = c.dual home y t in record { later = p.later; tells = p.marks; runs = p.runs });
    sweeps = sweeps;
    matches = call_matches q lines qd sh level xs w i g given laws.call own apart apart' entry_shadows end_shadows name line true true false u u' c;
    unwritten = call_unwritten q lines qd sh level xs w i g given laws.call own apart apart' entry_shadows end_shadows name line true true false u u' c;
    still = λ e. absurd (let n : not true ≡ true = ap not (sym laws.adjointed) ∙ e in cc);
    none_reversed = λ e. absurd (let n : not true ≡ true = ap not (sym laws.adjointed) ∙ e in cc);
  }
