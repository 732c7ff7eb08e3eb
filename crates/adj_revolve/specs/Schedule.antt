-- The schedule that turns l steps with s snapshots, from place lo on. (docs/SCHEDULES.md, "The schedule")
use Rattle.std.specs.Prelude.{ℕ, zero, suc, ◌+◌, ◌-◌, ◌==◌, if◌then◌else◌, List, [], ◌∷◌, ◌++◌}
use Rattle.adj_revolve.specs.declared.machine.Action.{Action}
use Rattle.adj_revolve.specs.declared.machine.Action.TheVariants.{Store, Advance, Turn, Keep, Drop}
use Rattle.adj_revolve.specs.Split.{split_of}

-- no action for no step, a turn for one, and for more a snapshot and what comes after it
abbrev pub with_snapshot : ℕ → ℕ → List Action → List Action
with_snapshot lo l after = if l == 0 then [] else (if l == 1 then Turn lo ∷ [] else (Store lo ∷ after))

-- back to the snapshot at lo: the last step takes it away, and for more it is kept and used again
abbrev pub from_snapshot : ℕ → ℕ → List Action → List Action
from_snapshot lo k again = if k == 1 then (Drop lo ∷ Turn lo ∷ []) else (Keep lo ∷ again)

-- l steps, 2 or more, where lo is stored and its slot is one of the s: advance to the split, turn the steps above it with
-- one slot fewer, and then those below. Any depth of at least l gives the same list, by the law `schedule_recursion`.
unfoldable pub body : ℕ → ℕ → ℕ → ℕ → List Action
body zero lo l s = []
body (suc depth) lo l s =
    let k = split_of l s in
    Advance lo (lo + k) ∷ (with_snapshot (lo + k) (l - k) (body depth (lo + k) (l - k) (s - 1)) ++ from_snapshot lo k (body depth lo k s))

-- the whole schedule
abbrev pub schedule_of : ℕ → ℕ → ℕ → List Action
schedule_of lo l s = with_snapshot lo l (body l lo l s)
