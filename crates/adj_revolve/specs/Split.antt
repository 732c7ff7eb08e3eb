-- Where a schedule splits its steps. (docs/SCHEDULES.md, "The split")
use Rattle.std.specs.Prelude.{ℕ, zero, suc, ◌-◌, ◌≤◌, ◌<◌, nat_lt, if◌then◌else◌, min}
use Rattle.adj_revolve.specs.Binomial.{beta}

-- r is the least number with l ≤ beta s r
pub record IsRepetitions (l s r : ℕ) : Type 0 where
  pub enough : l ≤ beta s r
  pub fewer : (i : ℕ) → i < r → beta s i < l

-- the first r with l ≤ beta s r, from `start` on, or the last of so many that were tried
unfoldable pub first_repetition : ℕ → ℕ → ℕ → ℕ → ℕ
first_repetition l s start zero = start
first_repetition l s start (suc tries) =
    if nat_lt (beta s start) l then first_repetition l s (suc start) tries else start

-- that least number, where s is at least 1
unfoldable pub repetitions : ℕ → ℕ → ℕ
repetitions l s = first_repetition l s 0 l

-- how many of l steps, 2 or more, come before the place of the next snapshot
unfoldable pub split_of : ℕ → ℕ → ℕ
split_of l s = min (beta s (repetitions l s - 1)) (l - beta (s - 1) (repetitions l s - 1))
