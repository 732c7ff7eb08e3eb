-- The least costs of the reversals of a run.
use Rattle.std.specs.Prelude.{◌+◌, ℕ, List, [], ◌∷◌}
use Rattle.adj_revolve.specs.LeastCost.{least_cost}
use Rattle.def_sweep.specs.Reversals.{LoopRun}

-- the least costs of some runs of marked loops, together
abbrev pub least_costs : List LoopRun → ℕ
least_costs [] = 0
least_costs (l ∷ ls) = least_cost l.mark.turns l.mark.snapshots + least_costs ls
