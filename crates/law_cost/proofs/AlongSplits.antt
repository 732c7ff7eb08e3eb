-- What both sweeps of a split call take, where the calls of the forward and the backward unit take so much together.
use Rattle.std.proofs.Common.{◌≡◌, ◌≤◌, ℕ, ◌+◌, Bool, true, false, List, ◌++◌, refl, sym, ap, ◌∙◌, arith}
use Rattle.std.specs.Prelude.{ℤ, ◌||◌}
use Rattle.adj_tree.specs.Code.{Var, plain, call, Procedure}
use Rattle.def_meaning.specs.Append.{one}
use Rattle.def_meaning.specs.Run.{Calls, act}
use Rattle.def_meaning.specs.Scene.{Scene, Done}
use Rattle.def_meaning.specs.Store.{Shape, Store}
use Rattle.def_meaning.specs.Units.{calls_of}
use Rattle.def_meaning.specs.Value.{Setting}
use Rattle.def_names.specs.Numbers.{Vars}
use Rattle.def_names.specs.Numbering.{point_before, point_after}
use Rattle.def_sweep.specs.Callees.{CalleeFacts}
use Rattle.def_sweep.specs.Facts.{In, joined, Facts}
use Rattle.def_sweep.specs.Plan.{beside, IsActual, actuals_named, found_or}
use Rattle.def_sweep.specs.Reversals.{LoopRun}
use Rattle.def_sweep.specs.SplitRows.{back_call}
use Rattle.law_sweep.specs.Laws.{SplitLaws}
use Rattle.law_sweep.specs.Pairs.{Key, Words, on_words}
use Rattle.law_sweep.specs.Runs.{SameOn}
use Rattle.law_sweep.specs.Scenes.{Course, scene}
use Rattle.law_sweep.specs.SplitCalled.{KeepsRead, SplitPair}
use Rattle.law_sweep.specs.Steps.{ActualsAgree}
use Rattle.law_sweep.proofs.Runs.{comes_one}
use Rattle.law_sweep.proofs.SplitRow.{dummies_in}
use Rattle.law_cost.specs.Along.{BothCost}
use Rattle.law_cost.proofs.Runs.{one_done, one_end}

module _ (qs : List Procedure) (depth : ℕ) (sh : Var → Shape) (level : ℕ) (xs : List Key) (w : Facts) (i : ℕ) (g : CalleeFacts) (given : List (List ℕ)) (laws : SplitLaws w i g given) (line : ℕ) (u u' : Store ℤ) (turned : Words → Words) (loops : List LoopRun)
    (pair : SplitPair (calls_of qs depth) sh level xs g given g.callee.forth g.callee.back line (dummies_in (w.needed (point_before i)) g.callee.dummies given) u u' turned loops) (most : ℕ)
    (cost : (base : Course) (f : Store ℤ) (t : List ℤ) (agree : ActualsAgree sh g.callee given (joined g.read (dummies_in (w.needed (point_before i)) g.callee.dummies given)) u f) → (s : Scene ℤ) (k rest : ℕ) → act (calls_of qs depth) (on_words sh level) (call g.callee.forth (actuals_named given)) line (scene base f t) k ≡ Done s rest →
    (later : Course) (g0 : Store ℤ) → KeepsRead (calls_of qs depth) sh level xs g given g.callee.forth g.callee.back line (pair base f t agree).after g0 → (e : Scene ℤ) (k1 rest1 : ℕ) → act (calls_of qs depth) (on_words sh level) (back_call g.callee.back g.callee given) line (scene later g0 s.tape) k1 ≡ Done e rest1 → k + k1 ≤ rest + rest1 + most) where
  abbrev q : Calls ℤ
  q = calls_of qs depth

  abbrev nw : Setting ℤ
  nw = on_words sh level

  abbrev ds : List (List ℕ)
  ds = g.callee.dummies

  abbrev needed : Vars
  needed = w.needed (point_before i)

  abbrev also : Vars
  also = dummies_in (w.needed (point_before i)) g.callee.dummies given

  abbrev forth : List ℕ
  forth = g.callee.forth

  -- the actuals of these are needed before the call
  also_from : (e a : List ℕ) → IsActual ds given e a → In (plain e) (joined g.read also) → In (plain a) needed
  also_from e a b h = go (g.read (plain e)) refl h
    where
      go : (t : Bool) → g.read (plain e) ≡ t → (t || found_or (beside ds given e) false (λ x. needed (plain x))) ≡ true → In (plain a) needed
      go true r h = laws.call.needs_uses laws.kept e a b r
      go false r h = sym (ap (λ o. found_or o false (λ x. needed (plain x))) b) ∙ h

  agrees : (f : Store ℤ) → SameOn sh needed u f → ActualsAgree sh g.callee given (joined g.read also) u f
  agrees f same = record { at = λ x a is h j l. same.at a j l (also_from x a is h) }

  pub cost_split : BothCost q sh level (one line (call g.callee.forth (actuals_named given))) (one line (back_call g.callee.back g.callee given)) (w.needed (point_before i)) (w.held (point_after i)) u (2 + most)
  cost_split = record {
    at = λ base f t same s k rest r later g0 h e k1 rest1 r1.
        let known = pair base f t (agrees f same) in
        let o = one_done q nw line (call g.callee.forth (actuals_named given)) (scene base f t) s k rest r in
        let o1 = one_done q nw line (back_call g.callee.back g.callee given) (scene later g0 s.tape) e k1 rest1 r1 in
        let comes = comes_one q nw line (call g.callee.forth (actuals_named given)) base f known.after t (known.trail ++ t) known.runs in
        let is = one_end qs depth nw (one line (call g.callee.forth (actuals_named given))) (scene base f t) (scene comes.later known.after (known.trail ++ t)) s k rest comes.runs r in
        let keeps : KeepsRead q sh level xs g given g.callee.forth g.callee.back line known.after g0 = λ d a b n nw j l. h.at a j l (laws.holds_reads d a b n nw) ∙ ap (λ (z : Scene ℤ). z.store (plain a) j) is in
        let both = cost base f t (agrees f same) s o.before rest o.done later g0 keeps e o1.before rest1 o1.done in
        let first = o.is in
        let second = o1.is in
        omega (arith, both, first, second);
  }
