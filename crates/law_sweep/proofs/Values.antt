-- The value and the tangent of an expression as words, wherever it is evaluated.
use Rattle.std.proofs.Common.{◌≡◌, ℕ, zero, suc, refl}
use Rattle.std.specs.Prelude.{ℤ, pos}
use Rattle.adj_word.specs.Word.{mul, power}
use Rattle.adj_word.proofs.Residues.{mul-zero}
use Rattle.def_meaning.specs.Numbers.{power_tangent}

-- ---- values and tangents, traps aside

-- ---- they are what is evaluated

-- ---- stores with the same values of the text's variables

-- a power whose base has no tangent has none
pub power_tangent-zero : (u : ℤ) (k : ℕ) → power_tangent u (pos 0) k ≡ pos 0
power_tangent-zero u zero = refl
power_tangent-zero u (suc k) = mul-zero (mul (pos (suc k)) (power u k))

-- ---- active occurrences alone
