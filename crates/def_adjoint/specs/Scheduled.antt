-- What a reversal by a schedule takes at most.
use Rattle.std.specs.Prelude.{ℕ, suc, ◌+◌, ◌*◌}

-- the bound on the statements of an adjoint's run, where no statement of the kernel weighs more than `weight`, and the kernel's run of the head takes `used`
abbrev pub most_scheduled : ℕ → ℕ → ℕ → ℕ → ℕ → ℕ
most_scheduled weight calls reps used dummies = (15 + suc calls * suc reps) * (2 * weight * used) + 2 * dummies
