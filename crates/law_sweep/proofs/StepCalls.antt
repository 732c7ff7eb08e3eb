-- The steps of a reversed loop that was run, by what its calls transpose.
use Rattle.std.proofs.Common.{◌≡◌, ◌<◌, ℕ, zero, suc, ◌+◌, true, false, Bool, List, [], refl, sym, ap, ◌∙◌, subst, arith}
use Rattle.std.specs.Prelude.{ℤ, pos}
use Rattle.adj_tree.specs.Code.{Var, plain, Terms, call}
use Rattle.adj_tree.proofs.Names.{name_refl}
use Rattle.adj_word.specs.Word.{wrap, add, mul}
use Rattle.adj_word.proofs.Counting.{start_step, one_step}
use Rattle.def_meaning.specs.Store.{Shape, Store, set}
use Rattle.def_meaning.specs.Value.{Setting}
use Rattle.def_meaning.specs.Scene.{Scene, Done}
use Rattle.def_meaning.specs.Run.{Calls}
use Rattle.law_sweep.specs.Pairs.{Key, Words, on_words}
use Rattle.law_sweep.specs.Scenes.{Course, scene}
use Rattle.def_sweep.specs.Plan.{actuals_named, writes_actual}
use Rattle.def_sweep.specs.Rows.{with_shadows}
use Rattle.def_sweep.specs.Callees.{CalleeFacts}
use Rattle.def_sweep.specs.Reversals.{LoopRun, Reversal, Called, ReversedLines}
use Rattle.law_sweep.specs.Steps.{ActGoes, AdjointStep, Steps}
use Rattle.law_sweep.proofs.CallSweeps.{CallTransposed}
use Rattle.law_sweep.proofs.CallTangents.{shadows_out}
use Rattle.law_sweep.proofs.StepRuns.{Chosen, choose_each}

-- calls do the same whatever line they stand at
abbrev pub AtAnyLine : Calls ℤ → Type 0
AtAnyLine q = (n : Setting ℤ) (name : List ℕ) (args : Terms) (one other : ℕ) (s e : Scene ℤ) (k left : ℕ) → q n name args one s k ≡ Done e left → q n name args other s k ≡ Done e left

goes_elsewhere : (q : Calls ℤ) → AtAnyLine q → (n : Setting ℤ) (name : List ℕ) (args : Terms) (one other : ℕ) (base : Course) (s s' : Store ℤ) (t t' : List ℤ) (calls : List Called) (rs : List Reversal) → ActGoes q n (call name args) one base s s' t t' calls rs → ActGoes q n (call name args) other base s s' t t' calls rs
goes_elsewhere q free n name args one other base s s' t t' calls rs g = record {
  later = g.later;
  tells = g.tells;
  runs = record { cost = g.runs.cost; by = λ k. free n name args one other (scene base s t) (scene g.later s' t') (g.runs.cost + k) k (g.runs.by k) };
}

-- what a turn makes of shadows, and its runs of loops
pub record TurnMakes : Type 0 where
  pub change : Words → Words
  pub loops : List LoopRun

module _ (q : Calls ℤ) (free : AtAnyLine q) (lines : ReversedLines) (qd : Calls (ℤ × ℤ)) (sh : Var → Shape) (level : ℕ) (xs : List Key) (g : CalleeFacts) (given : List (List ℕ)) (name : List ℕ) (present : Bool) (line at : ℕ) (x : List ℕ) (x_free : writes_actual g.callee given (plain x) ≡ false) (l : ℕ) (a0 c0 : ℤ) (u : Store ℤ) (U U' : ℕ → Store ℤ)
    (starts : U 0 ≡ set u (plain x) 0 (wrap a0)) (nexts : (j : ℕ) → j < l → U (suc j) ≡ set (U' j) (plain x) 0 (add (U' j (plain x) 0) c0)) (each : (j : ℕ) → j < l → CallTransposed q lines qd sh level xs g given name at true true present (U j) (U' j)) where
  -- the call of a turn, and what it makes
  pub record TurnIs (j : ℕ) (made : TurnMakes) : Type 0 where
    pub call : CallTransposed q lines qd sh level xs g given name at true true present (U j) (U' j)
    pub change_is : made.change ≡ shadows_out g.callee.shadowed g.callee.dummies given call.change
    pub loops_are : made.loops ≡ call.loops

  abbrev pub Made : Type 0
  Made = Chosen TurnIs l

  pub made : Chosen TurnIs l
  made = choose_each TurnIs (record { change = λ y. y; loops = [] }) l (λ j less. let c = each j less in (record { change = shadows_out g.callee.shadowed g.callee.dummies given c.change; loops = c.loops }, record { call = c; change_is = refl; loops_are = refl }))

  abbrev pub change_at : ℕ → Words → Words
  change_at j = (made.at j).change

  abbrev pub loops_at : ℕ → List LoopRun
  loops_at j = (made.at j).loops

  at_step : (j : ℕ) → j < l → U j (plain x) 0 ≡ add a0 (mul (pos j) c0)
  at_step zero less = ap (λ (z : Store ℤ). z (plain x) 0) starts ∙ rw (name_refl x) (start_step a0 c0)
  at_step (suc j) less =
      let before : j < l = omega (arith, less) in
      let t = made.is j before in
      ap (λ (z : Store ℤ). z (plain x) 0) (nexts j before) ∙ rw (name_refl x) (ap (λ v. add v c0) (t.call.off.at x 0 x_free ∙ at_step j before) ∙ one_step a0 c0 j)

  pub steps : present ≡ true → Steps q sh level xs line x g given name l a0 c0 change_at loops_at U U'
  steps pr = record {
    at_step = at_step;
    between = λ j y k less n. ap (λ (z : Store ℤ). z (plain y) k) (nexts j less) ∙ rw n refl;
    off = λ j less. (made.is j less).call.off;
    again = λ j base f t less agree.
        let c = (made.is j less).call.again pr refl base f t agree in
        record {
          after = c.after;
          shapes = c.shapes;
          takes = c.takes g.read;
          runs = goes_elsewhere q free (on_words sh level) name (actuals_named given) at line base f c.after t t _ [] c.goes;
          same = c.same;
          off = c.off;
          shades = c.shadows;
          helpers = c.helpers;
        };
    back = λ j base f t less agree.
        let k = made.is j less in
        let c = k.call.back pr refl base f t agree in
        subst (λ (z : Words → Words). AdjointStep q sh level xs line x g given name z (loops_at j) base f t) (sym k.change_is)
        (subst (λ z. AdjointStep q sh level xs line x g given name (shadows_out g.callee.shadowed g.callee.dummies given k.call.change) z base f t) (sym k.loops_are)
        (record {
          after = c.after;
          rs = c.reversals;
          shapes = c.shapes;
          takes = c.takes g.read;
          runs = goes_elsewhere q free (on_words sh level) g.callee.adjoint (with_shadows g.callee.shadowed g.callee.dummies given) at line base f c.after t t _ c.reversals c.goes;
          reversed = c.reversed;
          off = c.off;
          helpers = c.helpers;
          pairs = c.pairs;
        }));
  }
