-- What two programs have in common.
use Rattle.std.specs.Prelude.{◌≡◌, ℕ, List, Bool, IsTrue, Some}
use Rattle.adj_tree.specs.Code.{Act, assign, choose, loop, during, call, runtime, Code, stop, step, Procedure}
use Rattle.def_meaning.specs.Written.{find_unit}

abbrev mutual
  -- each call in a statement is of a unit inside
  pub CallsInside' : (List ℕ → Bool) → Act → Type 0
  CallsInside' inside (assign x subs e) = Unit {0}
  CallsInside' inside (choose c a b) = CallsInside inside a × CallsInside inside b
  CallsInside' inside (loop x first last by body m) = CallsInside inside body
  CallsInside' inside (during c body) = CallsInside inside body
  CallsInside' inside (call name args) = IsTrue (inside name)
  CallsInside' inside (runtime r) = Unit {0}

  -- each call in a list is of a unit inside
  pub CallsInside : (List ℕ → Bool) → Code → Type 0
  CallsInside inside stop = Unit {0}
  CallsInside inside (step line a rest) = CallsInside' inside a × CallsInside inside rest

-- both programs have the same units of the names inside, and these call no others
pub record HaveInCommon (inside : List ℕ → Bool) (units others : List Procedure) : Type 0 where
  pub same : (name : List ℕ) → IsTrue (inside name) → find_unit units name ≡ find_unit others name
  pub closed : (name : List ℕ) (u : Procedure) → IsTrue (inside name) → find_unit units name ≡ Some u → CallsInside inside u.body
