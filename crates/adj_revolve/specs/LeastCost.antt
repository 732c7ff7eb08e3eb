-- The least cost of turning l steps with s snapshots, as a number: it knows nothing of actions.
-- (docs/SCHEDULES.md, "The numbers")
use Rattle.std.specs.Prelude.{◌≡◌, ℕ, zero, suc, ◌+◌, ◌*◌, ◌-◌, ◌≤◌, max}
use Rattle.adj_revolve.specs.Binomial.{choose}

-- what r advances over each step would cost, without those that r repetitions spare
abbrev pub bound_at : ℕ → ℕ → ℕ → ℕ
bound_at l s r = r * l - choose (s + r) (s + 1)

-- f takes the value v, and none that is greater
pub record IsGreatest (f : ℕ → ℕ) (v : ℕ) : Type 0 where
  pub reached : (r : ℕ) × (f r ≡ v)
  pub above : (r : ℕ) → f r ≤ v

-- the greatest of f 0 to f n
unfoldable pub greatest_up_to : (ℕ → ℕ) → ℕ → ℕ
greatest_up_to f zero = f 0
greatest_up_to f (suc n) = max (greatest_up_to f n) (f (suc n))

-- the greatest of all bounds, which none with r above l exceeds
unfoldable pub least_cost : ℕ → ℕ → ℕ
least_cost l s = greatest_up_to (bound_at l s) l
