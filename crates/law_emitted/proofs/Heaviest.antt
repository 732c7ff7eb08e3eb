-- The statements of a program weigh at most what the heaviest of them weighs.
use Rattle.std.proofs.Common.{arith, ℕ, ◌≤◌, List, [], ◌∷◌}
use Rattle.std.specs.Prelude.{max}
use Rattle.adj_tree.specs.Code.{Act, assign, choose, loop, during, call, runtime, Code, stop, step, Procedure}
use Rattle.def_kernel.specs.Kernel.{EachUnit}
use Rattle.def_kernel.specs.Weights.{weight, ActWeighsAtMost, WeighsAtMost}

-- what the heaviest statement weighs, in bodies too
abbrev mutual
  heaviest_act : Act → ℕ
  heaviest_act (assign x subs e) = weight (assign x subs e)
  heaviest_act (choose c a b) = max (weight (choose c a b)) (max (heaviest a) (heaviest b))
  heaviest_act (loop x first last by body mark) = max (weight (loop x first last by body mark)) (heaviest body)
  heaviest_act (during c body) = max (weight (during c body)) (heaviest body)
  heaviest_act (call name args) = weight (call name args)
  heaviest_act (runtime r) = weight (runtime r)

  heaviest : Code → ℕ
  heaviest stop = 0
  heaviest (step line a rest) = max (heaviest_act a) (heaviest rest)

mutual
  act_weighs : (m : ℕ) (a : Act) → heaviest_act a ≤ m → ActWeighsAtMost m a
  act_weighs m (assign x subs e) h = h
  act_weighs m (choose c a b) h =
      let own : weight (choose c a b) ≤ m = omega (arith, h) in
      let one : heaviest a ≤ m = omega (arith, h) in
      let two : heaviest b ≤ m = omega (arith, h) in
      (own, (weighs m a one, weighs m b two))
  act_weighs m (loop x first last by body mark) h =
      let own : weight (loop x first last by body mark) ≤ m = omega (arith, h) in
      let inner : heaviest body ≤ m = omega (arith, h) in
      (own, weighs m body inner)
  act_weighs m (during c body) h =
      let own : weight (during c body) ≤ m = omega (arith, h) in
      let inner : heaviest body ≤ m = omega (arith, h) in
      (own, weighs m body inner)
  act_weighs m (call name args) h = h
  act_weighs m (runtime r) h = h

  -- no statement of a list weighs more
  weighs : (m : ℕ) (c : Code) → heaviest c ≤ m → WeighsAtMost m c
  weighs m stop h = tt
  weighs m (step line a rest) h =
      let one : heaviest_act a ≤ m = omega (arith, h) in
      let others : heaviest rest ≤ m = omega (arith, h) in
      (act_weighs m a one, weighs m rest others)

-- what the heaviest statement of a program weighs
abbrev pub heaviest_in : List Procedure → ℕ
heaviest_in [] = 0
heaviest_in (u ∷ us) = max (heaviest u.body) (heaviest_in us)

each_weighs : (m : ℕ) (us : List Procedure) → heaviest_in us ≤ m → EachUnit (λ u. WeighsAtMost m u.body) us
each_weighs m [] h = tt
each_weighs m (u ∷ us) h =
    let one : heaviest u.body ≤ m = omega (arith, h) in
    let others : heaviest_in us ≤ m = omega (arith, h) in
    (weighs m u.body one, each_weighs m us others)

-- no statement of a program weighs more
pub all_weigh : (us : List Procedure) → EachUnit (λ u. WeighsAtMost (heaviest_in us) u.body) us
all_weigh us = let least : heaviest_in us ≤ heaviest_in us = omega arith in each_weighs (heaviest_in us) us least
