-- What a run of both sweeps takes along a run of a unit, and what the emitted program takes. (docs/THEOREMS.md, "What both sweeps cost")
use Rattle.std.specs.Prelude.{◌≡◌, ℕ, ℤ, ◌+◌, ◌*◌, ◌≤◌, length, List, [], ◌∷◌, Bool, true, false, Some, None, IsTrue}
use Rattle.adj_tree.specs.Code.{Var, Code, Procedure}
use Rattle.def_meaning.specs.Padded.{own_nodes, padded, padded_program, padded_procedure}
use Rattle.def_meaning.specs.Numbers.{words}
use Rattle.def_meaning.specs.Store.{Shape}
use Rattle.def_meaning.specs.Scene.{Scene, Done}
use Rattle.def_meaning.specs.Run.{run}
use Rattle.def_meaning.specs.Written.{find_unit}
use Rattle.def_meaning.specs.Units.{Slot, Output, fits, calls_of, run_unit}
use Rattle.def_sweep.specs.Tangents.{AreAlike, Ends}
use Rattle.def_names.specs.Numbers.{Vars}
use Rattle.def_sweep.specs.MarkedAdjoint.{shadow_flags, joined_by}
use Rattle.def_sweep.specs.Facts.{Facts}
use Rattle.law_sweep.specs.Pairs.{on_words}
use Rattle.def_sweep.specs.Declared.{unit_at}
use Rattle.def_sweep.specs.Plan.{Plan}
use Rattle.def_sweep.specs.Emission.{forward, backward}
use Rattle.def_sweep.specs.Callees.{CalleeFacts}
use Rattle.def_sweep.specs.Marking.{SplitsNothing, ProgramFacts}
use Rattle.def_sweep.specs.Names.{adjoint_name}
use Rattle.law_sweep.specs.Passing.{plainly}
use Rattle.def_sweep.specs.Program.{emitted_program}
use Rattle.law_sweep.specs.Source.{SourceFits}
use Rattle.law_sweep.specs.Theorem.{plan_of, ProgramFits, ShapesFit}
use Rattle.law_cost.specs.Along.{BothCost}
use Rattle.def_sweep.specs.Reversals.{ReversedLines}
use Rattle.def_adjoint.specs.CallsAtMost.{CallsAtMost}

-- ---- units

-- a list was run from a scene to another: with each statement paid at its weight that takes a price, and both sweeps take at most four
-- statements to each unit of it, and one more for each call that a chain has
pub record CostsItsPrice (ps qs : List Procedure) (depth calls : ℕ) (sh : Var → Shape) (level : ℕ) (p : Plan) (w : Facts) (i from to : ℕ) (c : Code) (s e : Scene ℤ) : Type 0 where
  pub price : ℕ
  pub pays : (k : ℕ) → run (calls_of (padded_program own_nodes ps) depth) (on_words (plainly sh) level) (padded own_nodes c) s (price + k) ≡ Done e k
  pub cost : BothCost (calls_of qs depth) sh level (forward p i 0 c) (backward p i 0 c) (w.needed from) (w.held to) s.store ((4 + calls) * price)

-- so is each run that is done of a unit whose adjoint is emitted, where no call is split
abbrev pub RunsCost : Type 0
RunsCost =
    (lines : ReversedLines) (ps qs : List Procedure) (g : List ℕ → CalleeFacts) (there answers paired carried : List ℕ → Bool) (first : List ℕ → ℕ) (vars : List ℕ → List (List ℕ)) (arrays : List ℕ → Vars) → (fits : ProgramFits false lines ps qs g there answers paired carried first vars arrays) → ((name : List ℕ) (i : ℕ) → (g name).facts.marks.split i ≡ false) →
    (depth calls : ℕ) (name : List ℕ) (u : Procedure) → find_unit ps name ≡ Some u → IsTrue (fits.inside name) → there name ≡ true → CallsAtMost ps name calls →
    (sh : Var → Shape) (level : ℕ) → ShapesFit (plan_of g (g name).facts (arrays name)) sh →
    (s e : Scene ℤ) (k left : ℕ) → run (calls_of ps depth) (on_words (plainly sh) level) u.body s k ≡ Done e left →
    CostsItsPrice ps qs depth calls sh level (plan_of g (g name).facts (arrays name)) (g name).facts (first name) (g name).entry (g name).end u.body s e

-- ---- the emitted program

-- u ends with each statement paid at its weight, and what was spent is at most four, and one more for each call that a chain has, to each
-- unit of what that takes, and two for each dummy
pub record SpendsItsPrice (ps : List Procedure) (u : Procedure) (input : List (Slot ℤ)) (calls spent : ℕ) : Type 0 where
  pub weighed : Ends words (padded_program own_nodes ps) (padded_procedure own_nodes u) input
  pub most : spent ≤ (4 + calls) * weighed.used + 2 * length u.dummies

-- so it is with each run that is done of the head's adjoint in the program that is emitted by marks that meet the laws and split no call, on an
-- input on which the head's run is done
abbrev pub EmittedCosts : Type 0
EmittedCosts =
    (lines : ReversedLines) (w : ProgramFacts) (ps : List Procedure) (head : ℕ) (vars outvars : List Bool) (u : Procedure) → unit_at head ps ≡ u ∷ [] → SourceFits lines w ps u → SplitsNothing w.marks → (calls : ℕ) → CallsAtMost ps u.name calls →
    (a : Procedure) → find_unit (emitted_program w.marks ps head vars outvars) (adjoint_name ps u) ≡ Some a →
    (input shadows : List (Slot ℤ)) → fits words u input ≡ true → AreAlike input shadows → (k used : ℕ) (output : Output ℤ) → run_unit words ps u input [] None k ≡ Done output used →
    (j spent : ℕ) (end : Output ℤ) → run_unit words (emitted_program w.marks ps head vars outvars) a (joined_by (shadow_flags (w.marks.shadowed u.name) u.dummies) input shadows) [] None j ≡ Done end spent →
    SpendsItsPrice ps u input calls spent
