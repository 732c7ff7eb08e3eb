-- The binomial numbers. (docs/SCHEDULES.md, "The numbers"; Griewank and Walther, Algorithm 799, 2000)
use Rattle.std.specs.Prelude.{ℕ, zero, suc, ◌+◌}

-- how many ways there are to choose k of n things, by Pascal's rule
unfoldable pub choose : ℕ → ℕ → ℕ
choose n zero = 1
choose zero (suc k) = 0
choose (suc n) (suc k) = choose n k + choose n (suc k)

-- `choose n (k - 1)`, and 0 where k is 0
abbrev pub choose_before : ℕ → ℕ → ℕ
choose_before n zero = 0
choose_before n (suc k) = choose n k

-- how many steps can be turned with s snapshots where at most r advances lead over each
abbrev pub beta : ℕ → ℕ → ℕ
beta s r = choose (s + r) s
