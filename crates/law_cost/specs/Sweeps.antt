-- How many statements both sweeps have.
use Rattle.std.specs.Prelude.{ℕ, suc, ◌+◌}
use Rattle.adj_tree.specs.Code.{Act, assign, choose, loop, during, call, runtime, Code}
use Rattle.def_names.specs.Numbers.{behind}
use Rattle.def_kernel.specs.Weights.{total_cost}
use Rattle.def_sweep.specs.Plan.{Plan}
use Rattle.def_sweep.specs.Emission.{forward_act, forward, backward_act, backward}

-- how many statements a list has, those in bodies too: what all cost, none more than one
abbrev pub statements_of : Code → ℕ
statements_of = total_cost (λ a. 0)

-- those of both sweeps of the i-th statement, in loops of depth d
abbrev pub act_sweeps : Plan → ℕ → ℕ → ℕ → Act → ℕ
act_sweeps p i d line a = statements_of (forward_act p i d line a) + statements_of (backward_act p i d line a)

-- those of both sweeps of a list that begins with the i-th statement
abbrev pub list_sweeps : Plan → ℕ → ℕ → Code → ℕ
list_sweeps p i d c = statements_of (forward p i d c) + statements_of (backward p i d c)

-- those of both sweeps of a statement's bodies
abbrev pub body_sweeps : Plan → ℕ → ℕ → Act → ℕ
body_sweeps p i d (assign x subs e) = 0
body_sweeps p i d (choose c a b) = list_sweeps p (suc i) d a + list_sweeps p (behind (suc i) a) d b
body_sweeps p i d (loop x first last by body m) = list_sweeps p (suc i) (suc d) body
body_sweeps p i d (during c body) = list_sweeps p (suc i) (suc d) body
body_sweeps p i d (call name args) = 0
body_sweeps p i d (runtime r) = 0
