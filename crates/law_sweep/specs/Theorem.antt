-- The statement of the theorem on sweeps, for the units of a program.
use Rattle.std.specs.Prelude.{◌≡◌, ℕ, suc, ℤ, List, Bool, true, false, IsTrue, Some}
use Rattle.adj_tree.specs.Code.{Var, plain, shadow, Code, Procedure}
use Rattle.def_meaning.specs.Store.{Shape, size_of}
use Rattle.def_meaning.specs.Scene.{Scene, Done}
use Rattle.def_meaning.specs.Run.{run}
use Rattle.def_meaning.specs.Written.{find_unit, writes, handed_back}
use Rattle.law_meaning.specs.Common.{CallsInside, HaveInCommon}
use Rattle.def_meaning.specs.Apart.{AreApart}
use Rattle.def_meaning.specs.Units.{calls_of}
use Rattle.def_names.specs.Numbers.{Vars}
use Rattle.def_sweep.specs.Facts.{In, Facts}
use Rattle.law_sweep.specs.Pairs.{on_words}
use Rattle.def_sweep.specs.Plan.{Plan, IsActual, actuals_named}
use Rattle.def_sweep.specs.Emission.{forward_with, backward_with}
use Rattle.def_sweep.specs.Callees.{nothing, CalleeFacts}
use Rattle.def_sweep.specs.SplitMarks.{split_facts}
use Rattle.law_sweep.specs.SplitCalled.{SplitDone}
use Rattle.law_sweep.specs.Kernel.{CallFits, FitsListBy}
use Rattle.def_sweep.specs.SplitRows.{left_of, forth_body, back_body}
use Rattle.law_sweep.specs.Passing.{plainly}
use Rattle.law_sweep.specs.Cells.{cells_of}
use Rattle.law_sweep.specs.Laws.{last_point, WayLaws, ListLawsBy}
use Rattle.law_sweep.specs.Environment.{UnitFitsBy}
use Rattle.law_sweep.specs.Emitted.{HasAdjoint, HasUnit}
use Rattle.law_sweep.specs.Lists.{TransposesList}
use Rattle.def_sweep.specs.Reversals.{ReversedLines}
use Rattle.def_sweep.specs.Schedules.{schedules_by}

-- the plan of a unit with these facts
abbrev pub plan_of : (List ℕ → CalleeFacts) → Facts → Vars → Plan
plan_of g w arrays = record { marks = w.marks; arrays = arrays; callees = λ name. (g name).callee }

-- a program ps, the program qs that is emitted for it, and facts about the units: `there` tells whose adjoint is in qs, `answers`
-- whose adjoint is called, and `carried` which units are in it themselves; by names, the number of a unit's first statement, its
-- variables, and those that are arrays. (The head's adjoint is in qs, and isn't called: it clears shadows besides.)
pub record ProgramFits (schedules : Bool) (lines : ReversedLines) (ps qs : List Procedure) (g : List ℕ → CalleeFacts) (there answers paired carried : List ℕ → Bool) (first : List ℕ → ℕ) (vars : List ℕ → List (List ℕ)) (arrays : List ℕ → Vars) : Type 0 where
  -- a set of units, by their names, that call no others; nothing is asked of units outside of it
  pub inside : List ℕ → Bool
  pub closed : (name : List ℕ) (u : Procedure) → find_unit ps name ≡ Some u → IsTrue (inside name) → CallsInside inside u.body
  pub units : (name : List ℕ) (u : Procedure) → find_unit ps name ≡ Some u → IsTrue (inside name) → UnitFitsBy (schedules_by schedules g) lines ps g there answers paired carried name u (first name) (vars name) (arrays name)
  pub apart : (name : List ℕ) (u : Procedure) → find_unit ps name ≡ Some u → AreApart u.dummies
  pub common : HaveInCommon carried ps qs
  pub emitted : (name : List ℕ) → answers name ≡ true → there name ≡ true
  pub adjoints : (name : List ℕ) (u : Procedure) → find_unit ps name ≡ Some u → answers name ≡ true →
      HasAdjoint qs u (g name).callee (forward_with (schedules_by schedules g) (plan_of g (g name).facts (arrays name)) (first name) 0 u.body) (backward_with (schedules_by schedules g) (plan_of g (g name).facts (arrays name)) (first name) 0 u.body)
  -- and both units of each that has them
  pub pairs : (name : List ℕ) (u : Procedure) → find_unit ps name ≡ Some u → paired name ≡ true →
      (let p = plan_of g (split_facts (g name) nothing) (arrays name) in
      let left = left_of (g name).callee.written (g name).callee.dummies (vars name) in
      HasUnit qs u (g name).callee.forth (g name).callee nothing (forth_body (schedules_by schedules g) p (first name) u.line left u.body)
      × HasUnit qs u (g name).callee.back (g name).callee (g name).callee.shadowed (back_body (schedules_by schedules g) p (first name) u.line left u.body))

-- scalars have one cell, and shadows the shapes of their variables
pub record ShapesFit (p : Plan) (sh : Var → Shape) : Type 0 where
  pub scalars : (x : List ℕ) → p.arrays (plain x) ≡ false → size_of (sh (plain x)) ≡ 1
  pub shadows : (x : List ℕ) → p.marks.shadowed (plain x) ≡ true → sh (shadow x) ≡ sh (plain x)

-- the sweeps of each unit of that set whose adjoint is emitted transpose the derivative of its body along each run that is done
abbrev pub UnitsTranspose : Type 0
UnitsTranspose =
    (schedules : Bool) (lines : ReversedLines) (ps qs : List Procedure) (g : List ℕ → CalleeFacts) (there answers paired carried : List ℕ → Bool) (first : List ℕ → ℕ) (vars : List ℕ → List (List ℕ)) (arrays : List ℕ → Vars) → (fits : ProgramFits schedules lines ps qs g there answers paired carried first vars arrays) →
    (depth : ℕ) (name : List ℕ) (u : Procedure) → find_unit ps name ≡ Some u → IsTrue (fits.inside name) → there name ≡ true →
    (sh : Var → Shape) (level : ℕ) → ShapesFit (plan_of g (g name).facts (arrays name)) sh →
    (s e : Scene ℤ) (k left : ℕ) → run (calls_of ps depth) (on_words (plainly sh) level) u.body s k ≡ Done e left →
    TransposesList (schedules_by schedules g) (calls_of qs depth) lines (calls_of ps depth) sh level (cells_of sh (vars name)) (plan_of g (g name).facts (arrays name)) (g name).facts 0 (λ x. writes (handed_back ps) x u.body) (first name) (g name).entry (g name).end u.body s.store e.store

-- So do those of each list of its statements that meets their laws: it begins with the statement of number i, `from` leads to it, its end leads to `to`, and it
-- stands in loops of depth d.
abbrev pub ListsTranspose : Type 0
ListsTranspose =
    (schedules : Bool) (lines : ReversedLines) (ps qs : List Procedure) (g : List ℕ → CalleeFacts) (there answers paired carried : List ℕ → Bool) (first : List ℕ → ℕ) (vars : List ℕ → List (List ℕ)) (arrays : List ℕ → Vars) → (fits : ProgramFits schedules lines ps qs g there answers paired carried first vars arrays) →
    (depth : ℕ) (name : List ℕ) (u : Procedure) → find_unit ps name ≡ Some u → IsTrue (fits.inside name) → there name ≡ true →
    (sh : Var → Shape) (level : ℕ) → ShapesFit (plan_of g (g name).facts (arrays name)) sh →
    (i d from to : ℕ) (c : Code) → CallsInside fits.inside c → ListLawsBy (schedules_by schedules g) g (g name).facts from i c → WayLaws (g name).facts (last_point from i c) to →
    FitsListBy (schedules_by schedules g) lines ps g answers paired carried (there name) (g name).facts.marks (vars name) (arrays name) (handed_back ps) i c →
    ((v : Var) → In v ((g name).facts.marks.varied from) → In v ((g name).facts.marks.useful from) → In v (g name).facts.marks.shadowed) →
    (s e : Scene ℤ) (k left : ℕ) → run (calls_of ps depth) (on_words (plainly sh) level) c s k ≡ Done e left →
    TransposesList (schedules_by schedules g) (calls_of qs depth) lines (calls_of ps depth) sh level (cells_of sh (vars name)) (plan_of g (g name).facts (arrays name)) (g name).facts d (λ x. writes (handed_back ps) x c) i from to c s.store e.store

-- So do the sweeps of the forward and the backward unit of each unit that has them, by the facts about them, where the forward unit agrees with
-- the program on the dummies of a set besides those that are read.
abbrev pub PairsTranspose : Type 0
PairsTranspose =
    (schedules : Bool) (lines : ReversedLines) (ps qs : List Procedure) (g : List ℕ → CalleeFacts) (there answers paired carried : List ℕ → Bool) (first : List ℕ → ℕ) (vars : List ℕ → List (List ℕ)) (arrays : List ℕ → Vars) → (fits : ProgramFits schedules lines ps qs g there answers paired carried first vars arrays) →
    (depth : ℕ) (name : List ℕ) (u : Procedure) → find_unit ps name ≡ Some u → IsTrue (fits.inside name) → paired name ≡ true → (also : Vars) →
    (sh : Var → Shape) (level : ℕ) → ShapesFit (plan_of g (g name).facts (arrays name)) sh →
    (s e : Scene ℤ) (k left : ℕ) → run (calls_of ps depth) (on_words (plainly sh) level) u.body s k ≡ Done e left →
    TransposesList (schedules_by schedules g) (calls_of qs depth) lines (calls_of ps depth) sh level (cells_of sh (vars name)) (plan_of g (split_facts (g name) also) (arrays name)) (split_facts (g name) also) 0 (λ x. writes (handed_back ps) x u.body) (first name) (g name).entry (g name).end u.body s.store e.store

-- A split call, in a unit of the name `own`, of a unit that has both: where the program's call is done, its forward and its backward unit are a
-- split pair.
abbrev pub CallsSplit : Type 0
CallsSplit =
    (schedules : Bool) (lines : ReversedLines) (ps qs : List Procedure) (g : List ℕ → CalleeFacts) (there answers paired carried : List ℕ → Bool) (first : List ℕ → ℕ) (vars : List ℕ → List (List ℕ)) (arrays : List ℕ → Vars) → (fits : ProgramFits schedules lines ps qs g there answers paired carried first vars arrays) →
    (depth : ℕ) (own name : List ℕ) (given : List (List ℕ)) → AreApart (vars own) → CallFits ps (vars own) (arrays own) (g name) name given → IsTrue (fits.inside name) → paired name ≡ true →
    ((d a : List ℕ) → IsActual (g name).callee.dummies given d a → In (plain d) (g name).callee.shadowed → In (plain a) (g own).facts.marks.shadowed) → (also : Vars) →
    (sh : Var → Shape) (level : ℕ) → ShapesFit (plan_of g (g own).facts (arrays own)) sh →
    (line : ℕ) (s e : Scene ℤ) (k left : ℕ) → calls_of ps (suc depth) (on_words (plainly sh) level) name (actuals_named given) line s k ≡ Done e left →
    SplitDone (calls_of qs (suc depth)) sh level (cells_of sh (vars own)) (g name) given (g name).callee.forth (g name).callee.back line also s.store e.store
