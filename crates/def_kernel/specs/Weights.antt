-- What statements weigh: each 1 more than the nodes of its own expressions and conditions.
use Rattle.std.specs.Prelude.{ℕ, ◌+◌, ◌≤◌, min}
use Rattle.adj_tree.specs.Code.{Act, assign, choose, loop, during, call, runtime, Code, stop, step}
use Rattle.def_meaning.specs.Padded.{own_nodes}

-- the weight of a statement, bodies aside
abbrev pub weight : Act → ℕ
weight a = own_nodes a + 1

abbrev mutual
  -- what a statement and all statements in its bodies cost together, each `extra` more than one
  pub cost_with_bodies : (Act → ℕ) → Act → ℕ
  cost_with_bodies extra (assign x subs e) = extra (assign x subs e) + 1
  cost_with_bodies extra (choose c a b) = extra (choose c a b) + 1 + total_cost extra a + total_cost extra b
  cost_with_bodies extra (loop x first last by body m) = extra (loop x first last by body m) + 1 + total_cost extra body
  cost_with_bodies extra (during c body) = extra (during c body) + 1 + total_cost extra body
  cost_with_bodies extra (call name args) = extra (call name args) + 1
  cost_with_bodies extra (runtime r) = extra (runtime r) + 1

  -- what all statements of a list cost
  pub total_cost : (Act → ℕ) → Code → ℕ
  total_cost extra stop = 0
  total_cost extra (step line a rest) = cost_with_bodies extra a + total_cost extra rest

-- the weight of a statement and of all statements in its bodies
abbrev pub weight_with_bodies : Act → ℕ
weight_with_bodies = cost_with_bodies own_nodes

-- the weight of all statements of a list
abbrev pub total_weight : Code → ℕ
total_weight = total_cost own_nodes

-- no statement of the list weighs more than m, in bodies either
abbrev mutual
  pub ActWeighsAtMost : ℕ → Act → Type 0
  ActWeighsAtMost m (assign x subs e) = weight (assign x subs e) ≤ m
  ActWeighsAtMost m (choose c a b) = (weight (choose c a b) ≤ m) × (WeighsAtMost m a × WeighsAtMost m b)
  ActWeighsAtMost m (loop x first last by body mark) = (weight (loop x first last by body mark) ≤ m) × WeighsAtMost m body
  ActWeighsAtMost m (during c body) = (weight (during c body) ≤ m) × WeighsAtMost m body
  ActWeighsAtMost m (call name args) = weight (call name args) ≤ m
  ActWeighsAtMost m (runtime r) = weight (runtime r) ≤ m

  pub WeighsAtMost : ℕ → Code → Type 0
  WeighsAtMost m stop = Unit {0}
  WeighsAtMost m (step line a rest) = ActWeighsAtMost m a × WeighsAtMost m rest

-- the nodes of a statement, or m where that is less: a price that is bounded for every statement there is
abbrev pub capped : ℕ → Act → ℕ
capped m a = min (own_nodes a) m
