-- What both sweeps of a marked loop take that is reversed by a schedule.
use Rattle.std.specs.Prelude.{◌≡◌, ◌≤◌, ◌<◌, ℕ, suc, ◌+◌, ◌*◌, ℤ, List, Ok, Some, length}
use Rattle.adj_tree.specs.Code.{Var, plain, Mark, unmarked, Term, call, Procedure}
use Rattle.adj_word.specs.Word.{wrap, add}
use Rattle.adj_revolve.specs.Binomial.{beta}
use Rattle.def_meaning.specs.Read.{reads_term}
use Rattle.def_meaning.specs.Store.{Shape, Store, set}
use Rattle.def_meaning.specs.Value.{value}
use Rattle.def_meaning.specs.Scene.{Scene, Done}
use Rattle.def_meaning.specs.Run.{Calls, trips, in_force, act}
use Rattle.def_meaning.specs.Units.{calls_of}
use Rattle.def_names.specs.Numbers.{Vars}
use Rattle.def_names.specs.Numbering.{point_before, point_after}
use Rattle.def_sweep.specs.Facts.{Facts}
use Rattle.law_sweep.specs.Pairs.{Key, Words, on_words}
use Rattle.law_sweep.specs.Scenes.{Course, scene}
use Rattle.def_sweep.specs.Plan.{Step, actuals_named}
use Rattle.def_sweep.specs.Rows.{adjoint_call}
use Rattle.law_sweep.specs.Kernel.{AllText, HasSlots}
use Rattle.def_sweep.specs.Callees.{CalleeFacts}
use Rattle.law_sweep.specs.Laws.{ReversedLaws}
use Rattle.law_sweep.specs.Passing.{plainly}
use Rattle.def_sweep.specs.ReversalCode.{row_forward, row_backward}
use Rattle.def_sweep.specs.Reversals.{LoopRun}
use Rattle.law_sweep.specs.Steps.{ActualsAgree, Steps, StepFits}
use Rattle.law_sweep.specs.Theorem.{plan_of}
use Rattle.law_cost.specs.Along.{BothCost}
use Rattle.law_cost.specs.Sums.{sum_of}

-- l steps, whose call has so many actuals, are reversed with r repetitions; the call of the step unit takes P i at step i, and that of its
-- adjoint A i. Both sweeps: the groups and the loop's helpers, the turns of the forward sweep, the actions of the schedule, the steps of its
-- advances, of which each step lies in r at most, and the adjoints.
abbrev pub row_takes : ℕ → (ℕ → ℕ) → (ℕ → ℕ) → ℕ → ℕ → ℕ
row_takes given P A l r = 17 + 4 * given + (30 + 2 * given) * l + suc r * sum_of (λ i. P i + 3) 0 l + sum_of (λ i. A i + 1) 0 l

-- the call of the step unit, from a store that agrees with the program's at step i on what it reads, takes at most P i, and so on
pub record StepsTake (q : Calls ℤ) (sh : Var → Shape) (level line : ℕ) (g : CalleeFacts) (given : List (List ℕ)) (name : List ℕ) (l : ℕ) (U : ℕ → Store ℤ) (P A : ℕ → ℕ) : Type 0 where
  pub plain_calls : (i : ℕ) (base : Course) (f : Store ℤ) (t : List ℤ) → i < l → ActualsAgree sh g.callee given g.read (U i) f → (e : Scene ℤ) (k left : ℕ) → act q (on_words sh level) (call name (actuals_named given)) line (scene base f t) k ≡ Done e left → k ≤ left + P i
  pub adjoint_calls : (i : ℕ) (base : Course) (f : Store ℤ) (t : List ℤ) → i < l → ActualsAgree sh g.callee given g.callee.members (U i) f → (e : Scene ℤ) (k left : ℕ) → act q (on_words sh level) (adjoint_call g.callee given) line (scene base f t) k ≡ Done e left → k ≤ left + A i

-- With facts that meet the laws, both sweeps of a marked loop that turned l times with m snapshots, where r repetitions serve, take at most
-- so much: from a store with the values that are needed before it, where the program had u there and U i before its step i.
abbrev pub ReversedRowsCost : Type 0
ReversedRowsCost =
    (qs : List Procedure) (depth : ℕ) (sh : Var → Shape) (level : ℕ) (cells : List Key) (line : ℕ) (x : List ℕ) (gs : List ℕ → CalleeFacts) (given : List (List ℕ)) (name : List ℕ) (w : Facts) (arrays : Vars) →
    let g = gs name in
    let p = plan_of gs w arrays in
    let q = calls_of qs depth in
    StepFits q sh level cells line x g given name p →
    (i d : ℕ) (a b c : Term) (mark : Mark) → HasSlots mark → ReversedLaws w i x a b c mark g given → AllText (λ v. reads_term v a) → AllText (λ v. reads_term v b) → AllText (λ v. reads_term v c) →
    (l m : ℕ) → l ≤ 1099511627776 →
    (u : Store ℤ) (a0 b0 c0 : ℤ) → value (on_words (plainly sh) level) a u ≡ Ok a0 → value (on_words (plainly sh) level) b u ≡ Ok b0 → value (on_words (plainly sh) level) c u ≡ Ok c0 → trips unmarked a0 b0 c0 ≡ Ok l → in_force (on_words (plainly sh) level) mark u ≡ Some m →
    (change : ℕ → Words → Words) (loops : ℕ → List LoopRun) (U U' : ℕ → Store ℤ) →
    U 0 ≡ set u (plain x) 0 (wrap a0) → ((j : ℕ) → j < l → U (suc j) ≡ set (U' j) (plain x) 0 (add (U' j (plain x) 0) c0)) → Steps q sh level cells line x g given name l a0 c0 change loops U U' →
    (P A : ℕ → ℕ) → StepsTake q sh level line g given name l U P A → (r : ℕ) → l ≤ beta m r →
    let s : Step = record { name = name; given = given; read = g.read; mark = mark } in
    BothCost q sh level (row_forward p i (suc d) line x a b c s) (row_backward p i (suc d) line x s) (w.needed (point_before i)) (w.held (point_after i)) u (row_takes (length given) P A l r)
