-- Numbers that a few digits write.
use Rattle.std.proofs.Common.{ℕ, ◌≤◌}

-- a number of so many digits at most, for up to four
pub record IsShort (number digits : ℕ) : Type 0 where
  pub none : digits ≤ 0 → number ≤ 0
  pub one : digits ≤ 1 → number ≤ 9
  pub two : digits ≤ 2 → number ≤ 99
  pub three : digits ≤ 3 → number ≤ 999
  pub four : digits ≤ 4 → number ≤ 9999
