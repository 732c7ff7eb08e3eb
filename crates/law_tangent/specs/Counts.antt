-- How many statements the tangent puts before those of a list.
use Rattle.std.specs.Prelude.{◌≤◌, ◌+◌, ℕ, suc}
use Rattle.adj_tree.specs.Code.{Act, assign, choose, loop, during, call, runtime, Code, stop, step}
use Rattle.def_tangent.specs.Forward.{Plan, before_act}

-- how many statements a list has, bodies aside
abbrev pub size : Code → ℕ
size stop = 0
size (step line a rest) = suc (size rest)

abbrev mutual
  -- before each statement stand fewer than w statements
  pub IsFew : ℕ → Plan → ℕ → Act → Type 0
  IsFew w p line (assign x subs e) = size (before_act p line (assign x subs e)) + 1 ≤ w
  IsFew w p line (choose c a b) = AreFew w p a × AreFew w p b
  IsFew w p line (loop x a b c body m) = (size (before_act p line (loop x a b c body m)) + 1 ≤ w) × AreFew w p body
  IsFew w p line (during c body) = AreFew w p body
  IsFew w p line (call name args) = Unit {0}
  IsFew w p line (runtime r) = Unit {0}

  pub AreFew : ℕ → Plan → Code → Type 0
  AreFew w p stop = Unit {0}
  AreFew w p (step line a rest) = IsFew w p line a × AreFew w p rest
