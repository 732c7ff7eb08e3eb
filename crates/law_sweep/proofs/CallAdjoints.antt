-- The call of an adjoint unit turns the shadows of the actuals as the unit's sweeps turn those of its dummies.
use Rattle.std.proofs.Common.{◌≡◌, ℕ, suc, true, false, List, [], ◌∷◌, ◌++◌, length, map, refl, sym, ap, ◌∙◌, subst}
use Rattle.std.specs.Prelude.{ℤ, pos, Option, Some, None}
use Rattle.adj_tree.specs.Code.{Role, Var, plain, helper, call, Code, stop, Procedure}
use Rattle.adj_word.specs.Pairing.{pairing, IsApart}
use Rattle.def_meaning.specs.Numbers.{words}
use Rattle.def_meaning.specs.Append.{◌+++◌}
use Rattle.def_meaning.specs.Store.{Shape, size_of, Store}
use Rattle.def_meaning.specs.Value.{Setting}
use Rattle.def_meaning.specs.Run.{Calls}
use Rattle.def_meaning.specs.Written.{find_unit}
use Rattle.def_meaning.specs.Rename.{rename}
use Rattle.def_meaning.specs.Seen.{Separates, pulled_setting}
use Rattle.def_meaning.specs.Units.{dummies_fit, setting_in, dummy_shapes, calls_of}
use Rattle.def_names.specs.Numbers.{Vars}
use Rattle.def_meaning.specs.Apart.{AreApart}
use Rattle.law_sweep.specs.Pairs.{Key, key_eq, Words, shadows, on_words}
use Rattle.law_sweep.specs.Scenes.{Course}
use Rattle.def_sweep.specs.Plan.{beside, IsActual, step_snapshot, Callee, found_or}
pub use Rattle.def_sweep.specs.Plan.{writes_actual}
use Rattle.def_sweep.specs.Rows.{adjoint_call}
use Rattle.def_sweep.specs.Bindings.{Bindings, bindings}
use Rattle.law_sweep.specs.Passing.{passed_in, passed_out}
use Rattle.def_sweep.specs.Reversals.{Reversal, LoopRun, AreReversed, words_taken}
use Rattle.law_sweep.specs.Runs.{Comes, ActComes, SameOn, SameOff}
use Rattle.law_sweep.specs.Steps.{ActGoes, words_of}
use Rattle.def_sweep.specs.StepUnits.{taken_behind}
use Rattle.law_sweep.specs.Kernel.{AsMany}
use Rattle.law_sweep.proofs.Taken.{taken_words_back, named_shapes}
use Rattle.law_sweep.proofs.Runs.{comes_before, comes_stop, comes_append, same_refl}
use Rattle.law_sweep.proofs.Sweeps.{Returns, Way, Sweeps}
use Rattle.law_sweep.proofs.Passing.{beside_back, in_plain}
use Rattle.law_sweep.specs.Emitted.{AreNamed, name_of}
use Rattle.law_sweep.proofs.Entering.{writes_as, actuals_at, entry, kept_at, call_comes, call_goes, call_keeps}
use Rattle.law_sweep.proofs.CallTangents.{shadows_out}
use Rattle.law_sweep.proofs.CallDuals.{shadows_bound}
use Rattle.law_sweep.proofs.Handing.{CellsMeet, HandedBack, handed_back, pairs_through}

-- what the call of an adjoint does to the caller's store f
pub record AdjointCalled (q : Calls ℤ) (sh : Var → Shape) (level : ℕ) (xs : List Key) (g : Callee) (given : List (List ℕ)) (line : ℕ) (base : Course) (f : Store ℤ) (t : List ℤ) (change : Words → Words) (loops : List LoopRun) : Type 0 where
  pub after : Store ℤ
  pub reversals : List Reversal
  pub reversed : AreReversed loops reversals
  pub runs : ActComes q (on_words sh level) (adjoint_call g given) line base f after t t reversals
  -- it is entered with dummies of these shapes, by which a snapshot has as many words as the actuals say
  pub shapes : List Shape
  pub takes : (read : Vars) → words_taken (taken_behind g read g.dummies) shapes ≡ words_of sh (step_snapshot g read given)
  pub goes : ActGoes q (on_words sh level) (adjoint_call g given) line base f after t t (record { unit = g.adjoint; height = length t; shapes = shapes } ∷ []) reversals
  -- it changes no variable but the actuals that the unit writes
  pub off : SameOff (writes_actual g given) f after
  pub helpers : (r : Role) (k c : ℕ) → after (helper r k) c ≡ f (helper r k) c
  pub pairs : (y : Words) → pairing xs (shadows after) y ≡ pairing xs (shadows f) (change y)

module _ (qs : List Procedure) (depth : ℕ) (sh : Var → Shape) (level : ℕ) (xs : List Key) (apart_xs : IsApart key_eq xs) (g : Callee) (given : List (List ℕ)) (apart : AreApart g.dummies) (apart' : AreApart given) (a : Procedure) (found : find_unit qs g.adjoint ≡ Some a) (r : Var → Var) (sep : Separates r) (plainly_named : (v : Var) → r v ≡ plain (name_of (r v))) (named : AreNamed r a.dummies (bindings g.shadowed g.dummies given)) (F B : Code) (body : a.body ≡ rename r (F +++ (B +++ stop))) (shG : Var → Shape) (ys : List Key) (apart_ys : IsApart key_eq ys) (meet : CellsMeet g given xs ys) where
  abbrev ds : List (List ℕ)
  ds = g.dummies

  abbrev bs : Bindings
  bs = bindings g.shadowed g.dummies given

  abbrev q0 : Calls ℤ
  q0 = calls_of qs depth

  module _ (base : Course) (f : Store ℤ) (t : List ℤ) (line : ℕ) (fit : dummies_fit words a (entry qs depth (on_words sh level) g.adjoint a found r sep bs named f) a.dummies (actuals_at (on_words sh level) f bs) ≡ true) (shapes : pulled_setting r (setting_in (on_words sh level) a (entry qs depth (on_words sh level) g.adjoint a found r sep bs named f)) ≡ on_words shG (suc level)) where
    abbrev start : Store ℤ
    start = passed_in (pos 0) bs f

    abbrev entry_shapes : List Shape
    entry_shapes = dummy_shapes (setting_in (on_words sh level) a (entry qs depth (on_words sh level) g.adjoint a found r sep bs named f)) a

    module _ (many : AsMany g.dummies given) (sizes : (d a : List ℕ) → IsActual g.dummies given d a → size_of (sh (plain a)) ≡ size_of (shG (plain d))) (needed needed' held held' written : Vars) (wrote : (d : List ℕ) → written (plain d) ≡ g.written (plain d)) (u u' : Store ℤ) (change : Words → Words) (loops : List LoopRun) (sweeps : Sweeps q0 shG (suc level) ys 0 F B needed needed' held held' written u u' change loops) (agrees : SameOn shG needed u start) where
      abbrev kept : Course
      kept = kept_at (on_words sh level) a (dummy_shapes (setting_in (on_words sh level) a (entry qs depth (on_words sh level) g.adjoint a found r sep bs named f)) a) base t

      way : Way q0 shG (suc level) ys 0 F B needed' held held' written kept u' start t change loops
      way = sweeps.way kept start t agrees

      returns : Returns q0 shG (suc level) ys 0 B held written way.runs.later start way.to (way.trail ++ t) t change loops
      returns = way.returns way.runs.later way.to (same_refl shG held' way.to)

      abbrev end : Store ℤ
      end = returns.after

      both : Comes q0 (on_words shG (suc level)) (F +++ (B +++ stop)) kept start end t t returns.reversals
      both =
          let n = on_words shG (suc level) in
          comes_append q0 n F (B +++ stop) kept start way.to end t (way.trail ++ t) t way.runs
          (comes_before q0 n B stop way.runs.later way.to end end (way.trail ++ t) t t returns.runs (comes_stop q0 n returns.runs.later end t))

      inside : Comes q0 (pulled_setting r (setting_in (on_words sh level) a (entry qs depth (on_words sh level) g.adjoint a found r sep bs named f))) (F +++ (B +++ stop)) kept start end t t returns.reversals
      inside = subst (λ n. Comes q0 n (F +++ (B +++ stop)) kept start end t t returns.reversals) (sym shapes) both

      abbrev flags : Vars
      flags = writes_as qs a r

      -- what the adjoint unit doesn't write is at its end as it was handed in
      unflagged : (v : Var) → flags v ≡ false → (j : ℕ) → end v j ≡ start v j
      unflagged v h j = call_keeps qs depth (on_words sh level) g.adjoint a found r sep bs named f (F +++ (B +++ stop)) body base t t end inside v (name_of (r v)) (plainly_named v) h j

      abbrev after : Store ℤ
      after = passed_out flags bs end f

      handed : HandedBack g.shadowed ds given f end after
      handed = handed_back g.shadowed ds given apart apart' f end flags unflagged

      plain_after : SameOff (writes_actual g given) f after
      plain_after = record { at = λ x j h. handed.plains x j ∙ go x j (beside given ds x) refl h }
        where
          go : (x : List ℕ) (j : ℕ) (o : Option (List ℕ)) → beside given ds x ≡ o → found_or o false (λ d. g.written (plain d)) ≡ false → found_or o (f (plain x) j) (λ d. end (plain d) j) ≡ f (plain x) j
          go x j None e h = refl
          go x j (Some d) e h =
              returns.off.at d j (wrote d ∙ h) ∙ way.off.at d j (wrote d ∙ h) ∙ in_plain (pos 0) g.shadowed f ds given d j
              ∙ ap (λ o. found_or o (pos 0) (λ x. f (plain x) j)) (beside_back given ds apart' apart x d e)

      pub adjoint_called : AdjointCalled (calls_of qs (suc depth)) sh level xs g given line base f t (shadows_out g.shadowed ds given change) loops
      adjoint_called = record {
        after = after;
        reversals = returns.reversals;
        shapes = entry_shapes;
        takes = λ read. ap (words_taken (taken_behind g read ds)) (named_shapes (setting_in (on_words sh level) a (entry qs depth (on_words sh level) g.adjoint a found r sep bs named f)) r a.dummies bs named ∙ ap (λ (n : Setting ℤ). map (λ (b : Var × Var). n.shape b.0) bs) shapes) ∙ taken_words_back sh shG g read ds given apart many sizes;
        reversed = returns.reversed;
        runs = subst (λ es. ActComes (calls_of qs (suc depth)) (on_words sh level) (call g.adjoint es) line base f after t t returns.reversals) (sym (shadows_bound g.shadowed ds given))
            (call_comes qs depth (on_words sh level) g.adjoint a found r sep bs named f (F +++ (B +++ stop)) body line base t t end fit inside);
        goes = subst (λ es. ActGoes (calls_of qs (suc depth)) (on_words sh level) (call g.adjoint es) line base f after t t (record { unit = g.adjoint; height = length t; shapes = entry_shapes } ∷ []) returns.reversals) (sym (shadows_bound g.shadowed ds given))
            (call_goes qs depth (on_words sh level) g.adjoint a found r sep bs named f (F +++ (B +++ stop)) body line base t t end fit inside);
        off = plain_after;
        helpers = handed.helpers;
        pairs = pairs_through g given apart apart' xs ys apart_xs apart_ys meet f end after handed change (λ zi. returns.pairs zi ∙ ap (λ s. pairing ys s (change zi)) (λ i k. way.shadows k.0 k.1 i));
      }
