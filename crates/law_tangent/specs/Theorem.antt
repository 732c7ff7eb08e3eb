-- The run of the tangent of each unit's body follows the dual run of the body.
use Rattle.std.specs.Prelude.{◌≡◌, ◌≤◌, ℕ, suc, ℤ, pos, List, length, Bool, true, false, Some, IsTrue}
use Rattle.adj_tree.specs.Code.{Var, plain, shadow, Procedure}
use Rattle.def_meaning.specs.Append.{◌+++◌}
use Rattle.def_meaning.specs.Store.{Shape, size_of, Store}
use Rattle.def_meaning.specs.Scene.{Scene}
use Rattle.def_meaning.specs.Run.{run}
use Rattle.def_meaning.specs.Written.{find_unit}
use Rattle.def_meaning.specs.Units.{calls_of}
use Rattle.law_meaning.specs.Follows.{Follows}
use Rattle.def_names.specs.Numbers.{Vars}
use Rattle.def_meaning.specs.Apart.{has_name}
use Rattle.law_sweep.specs.Pairs.{Key, Words, SamePlain, with_tangents, on_words, on_duals}
use Rattle.law_sweep.specs.Passing.{plainly}
use Rattle.def_tangent.specs.Forward.{tangents}
use Rattle.law_tangent.specs.Bears.{AreWords, OnlyOn, NoTapes, SceneBears}
use Rattle.def_tangent.specs.Program.{cleared}
use Rattle.law_tangent.specs.Laws.{CalleeFlow}
use Rattle.law_tangent.specs.Units.{plan_of, UnitFits, PlainFits}

-- the shapes of a unit's variables: what isn't an array is a scalar, and a tangent has the shape of its variable
pub record ShapesOf (on arrays : Vars) (sh : Var → Shape) : Type 0 where
  pub scalars : (x : List ℕ) → arrays (plain x) ≡ false → size_of (sh (plain x)) ≡ 1
  pub carried : (x : List ℕ) → on (plain x) ≡ true → sh (shadow x) ≡ sh (plain x)

-- From a scene that holds one of the dual run, the tangent of the body ends in a scene that holds the end of the body's dual run: it is done
-- where that is done, after at most w times as many statements; it traps where that traps; and it has more to do where that has.
abbrev pub UnitsFollow : Type 0
UnitsFollow =
    (ps qs : List Procedure) (w : ℕ) → 1 ≤ w → (reached called still : List ℕ → Bool) (g : List ℕ → CalleeFlow) (f : ℕ → Vars) (first entry end : List ℕ → ℕ) (vars : List ℕ → List (List ℕ)) (arrays : List ℕ → Vars) →
    ((name : List ℕ) (v : Procedure) → find_unit ps name ≡ Some v → IsTrue (reached name) → UnitFits w ps qs reached called still g f name v (first name) (entry name) (end name) (vars name) (arrays name)) →
    ((name : List ℕ) (v : Procedure) → find_unit ps name ≡ Some v → IsTrue (still name) → PlainFits ps qs still (λ n. (g n).callee.dummies) name v (vars name) (arrays name)) →
    (depth : ℕ) (name : List ℕ) (v : Procedure) → find_unit ps name ≡ Some v → IsTrue (reached name) → (sh : Var → Shape) (level : ℕ) → ShapesOf (g name).callee.carried (arrays name) sh →
    (d : Scene (ℤ × ℤ)) (s : Scene ℤ) → SceneBears sh (g name).callee.carried (f (entry name)) d s → (k : ℕ) →
    Follows (SceneBears sh (g name).callee.carried (f (end name))) w 0 (run (calls_of ps depth) (on_duals (plainly sh) level) v.body d) (run (calls_of qs depth) (on_words sh level) (tangents (plan_of g name) v.body) s) k

-- a scene of the head's tangent before it clears the tangents of these variables: the others are handed in
pub record HeadBears (sh : Var → Shape) (on arrays varied : Vars) (at : List (List ℕ)) (d : Scene (ℤ × ℤ)) (s : Scene ℤ) : Type 0 where
  pub values : Store ℤ
  pub tangents : Words
  pub is : d.store ≡ with_tangents values tangents
  pub plains : SamePlain values s.store
  pub words : AreWords tangents
  pub others : OnlyOn sh varied tangents
  pub outside : (k : Key) → size_of (sh (plain k.0)) ≤ k.1 → tangents k ≡ pos 0
  pub given : (x : List ℕ) → on (plain x) ≡ true → has_name x at ≡ false → (j : ℕ) → s.store (shadow x) j ≡ tangents (x, j)
  -- what is cleared has no tangent in the dual run; a scalar's holds nothing beyond its cell
  pub cleared : (x : List ℕ) → on (plain x) ≡ true → has_name x at ≡ true → (j : ℕ) → tangents (x, j) ≡ pos 0
  pub scalar : (x : List ℕ) → on (plain x) ≡ true → has_name x at ≡ true → arrays (plain x) ≡ false → (j : ℕ) → s.store (shadow x) (suc j) ≡ pos 0
  pub opened : s.opened ≡ d.opened
  pub tape : NoTapes d.tape s.tape

-- the body of the head's tangent, which clears these first, follows the head's, with one statement more for each
abbrev pub HeadFollows : Type 0
HeadFollows =
    (ps qs : List Procedure) (w : ℕ) → 1 ≤ w → (reached called still : List ℕ → Bool) (g : List ℕ → CalleeFlow) (f : ℕ → Vars) (first entry end : List ℕ → ℕ) (vars : List ℕ → List (List ℕ)) (arrays : List ℕ → Vars) →
    ((name : List ℕ) (v : Procedure) → find_unit ps name ≡ Some v → IsTrue (reached name) → UnitFits w ps qs reached called still g f name v (first name) (entry name) (end name) (vars name) (arrays name)) →
    ((name : List ℕ) (v : Procedure) → find_unit ps name ≡ Some v → IsTrue (still name) → PlainFits ps qs still (λ n. (g n).callee.dummies) name v (vars name) (arrays name)) →
    (depth : ℕ) (name : List ℕ) (v : Procedure) → find_unit ps name ≡ Some v → IsTrue (reached name) → (sh : Var → Shape) (level : ℕ) → ShapesOf (g name).callee.carried (arrays name) sh →
    (at : List (List ℕ)) (line : ℕ) (d : Scene (ℤ × ℤ)) (s : Scene ℤ) → HeadBears sh (g name).callee.carried (arrays name) (f (entry name)) at d s → (k : ℕ) →
    Follows (SceneBears sh (g name).callee.carried (f (end name))) w (length at) (run (calls_of ps depth) (on_duals (plainly sh) level) v.body d) (run (calls_of qs depth) (on_words sh level) (cleared (arrays name) line at +++ tangents (plan_of g name) v.body) s) k
