-- Schedules: their numbers, where they split, whole ones, and what they cost.
use Rattle.std.specs.Prelude.{◌≡◌, [], ◌∷◌, Some, None}
use Rattle.adj_revolve.specs.declared.machine.Action.TheVariants.{Store, Advance, Turn, Keep, Drop}
use Rattle.adj_revolve.specs.Binomial.{choose, choose_before, beta}
use Rattle.adj_revolve.specs.LeastCost.{bound_at, greatest_up_to, least_cost}
use Rattle.adj_revolve.specs.Machine.{start_state, next_state, without, total_cost, advances_over}
use Rattle.adj_revolve.specs.Schedule.{schedule_of, from_snapshot}
use Rattle.adj_revolve.specs.Split.{first_repetition, repetitions, split_of}

abbrev pub BinomialNumbers : Type 0
BinomialNumbers =
    (choose 5 2 ≡ 10) × (choose 2 5 ≡ 0) × (choose 4 0 ≡ 1) × (choose 0 0 ≡ 1) × (choose 6 6 ≡ 1)
    × (choose_before 5 0 ≡ 0) × (choose_before 5 3 ≡ 10)
    × (beta 2 3 ≡ 10) × (beta 3 2 ≡ 10) × (beta 1 4 ≡ 5) × (beta 4 0 ≡ 1) × (beta 0 4 ≡ 1)

-- l steps and s snapshots: how often each step is advanced over at most, and how many steps come before the next snapshot
abbrev pub Splits : Type 0
Splits =
    (repetitions 1 3 ≡ 0) × (repetitions 4 3 ≡ 1) × (repetitions 5 3 ≡ 2) × (repetitions 10 3 ≡ 2) × (repetitions 11 3 ≡ 3) × (repetitions 5 1 ≡ 4)
    × (first_repetition 5 3 0 1 ≡ 1) × (first_repetition 1 3 2 5 ≡ 2)
    × (split_of 2 1 ≡ 1) × (split_of 5 1 ≡ 4) × (split_of 3 2 ≡ 1) × (split_of 5 2 ≡ 3) × (split_of 10 2 ≡ 6) × (split_of 10 3 ≡ 4) × (split_of 12 3 ≡ 6)

-- three steps with one snapshot and with two, and no step or one
abbrev pub WholeSchedules : Type 0
WholeSchedules =
    (schedule_of 0 3 1 ≡ Store 0 ∷ Advance 0 2 ∷ Turn 2 ∷ Keep 0 ∷ Advance 0 1 ∷ Turn 1 ∷ Drop 0 ∷ Turn 0 ∷ [])
    × (schedule_of 4 3 2 ≡ Store 4 ∷ Advance 4 5 ∷ Store 5 ∷ Advance 5 6 ∷ Turn 6 ∷ Drop 5 ∷ Turn 5 ∷ Drop 4 ∷ Turn 4 ∷ [])
    × (schedule_of 4 0 2 ≡ []) × (schedule_of 4 1 2 ≡ Turn 4 ∷ [])
    × (schedule_of 0 2 2 ≡ Store 0 ∷ Advance 0 1 ∷ Turn 1 ∷ Drop 0 ∷ Turn 0 ∷ [])
    × (from_snapshot 4 1 (Turn 9 ∷ []) ≡ Drop 4 ∷ Turn 4 ∷ []) × (from_snapshot 4 2 (Turn 9 ∷ []) ≡ Keep 4 ∷ Turn 9 ∷ [])
    × (next_state (start_state 3) (Store 2) ≡ record { working = Some 0; stored = 2 ∷ []; left = 3 }) × (next_state (start_state 3) (Advance 0 2) ≡ record { working = Some 2; stored = []; left = 3 })
    × (next_state (start_state 3) (Turn 2) ≡ record { working = None; stored = []; left = 2 })
    × (next_state (record { working = None; stored = 2 ∷ 1 ∷ []; left = 3 }) (Keep 1) ≡ record { working = Some 1; stored = 2 ∷ 1 ∷ []; left = 3 })
    × (next_state (record { working = None; stored = 2 ∷ 1 ∷ 2 ∷ []; left = 3 }) (Drop 1) ≡ record { working = Some 1; stored = 2 ∷ 2 ∷ []; left = 3 })
    × (without 2 (1 ∷ 2 ∷ 2 ∷ []) ≡ 1 ∷ 2 ∷ [])

-- what schedules cost, and the least that any costs
abbrev pub Costs : Type 0
Costs =
    (total_cost (schedule_of 0 3 1) ≡ 3) × (total_cost (schedule_of 0 3 2) ≡ 2) × (total_cost (schedule_of 0 10 3) ≡ 15) × (total_cost [] ≡ 0)
    × (total_cost (Store 3 ∷ Turn 4 ∷ Keep 5 ∷ Drop 6 ∷ Advance 2 7 ∷ []) ≡ 5)
    × (least_cost 3 1 ≡ 3) × (least_cost 3 2 ≡ 2) × (least_cost 10 3 ≡ 15) × (least_cost 1 3 ≡ 0)
    × (bound_at 10 3 2 ≡ 15) × (bound_at 10 3 0 ≡ 0) × (bound_at 1 3 5 ≡ 0)
    × (greatest_up_to (bound_at 10 3) 1 ≡ 9) × (greatest_up_to (bound_at 10 3) 2 ≡ 15) × (greatest_up_to (λ k. 7) 0 ≡ 7) × (greatest_up_to (λ k. k) 0 ≡ 0)
    × (advances_over 0 (schedule_of 0 3 1) ≡ 2) × (advances_over 1 (schedule_of 0 3 1) ≡ 1) × (advances_over 2 (schedule_of 0 3 1) ≡ 0) × (advances_over 3 (Advance 1 3 ∷ Advance 3 4 ∷ Advance 0 5 ∷ []) ≡ 2) × (advances_over 3 (Store 3 ∷ Turn 3 ∷ Keep 3 ∷ Drop 3 ∷ []) ≡ 0)
