-- How many snapshots a schedule takes, as a number: it knows nothing of actions. (docs/SCHEDULES.md, "How many actions")
use Rattle.std.specs.Prelude.{ℕ, zero, suc, ◌+◌, ◌-◌, nat_lt, if◌then◌else◌}
use Rattle.adj_revolve.specs.Binomial.{beta}
use Rattle.adj_revolve.specs.Split.{repetitions}

-- The snapshots that are taken where l steps are turned with so many slots. Where r is the number of repetitions that the
-- steps ask for, those that one repetition fewer turns take `beta (slots - 1) (r - 1)`, and those past them are turned
-- with one slot fewer.
unfoldable pub stores : ℕ → ℕ → ℕ
stores zero l = 0
stores (suc t) l =
    let q = repetitions l (suc t) - 1 in
    if nat_lt l 2 then 0 else (beta t q + stores t (l - beta (suc t) q))
