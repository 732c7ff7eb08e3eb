-- What the greatest number of variables bounds.
use Rattle.std.proofs.Common.{ℕ, zero, suc, ◌≤◌, List, [], ◌∷◌, length, arith}
use Rattle.std.specs.Prelude.{slice_index_or}
use Rattle.std.proofs.Math.Nat.{le-max_left, le-max_right}
use Rattle.def_names.specs.Variables.{Name}
use Rattle.adj_symbols.specs.Numbers.{widest}

-- no list has more names
pub widest_above : (xss : List (List Name)) (u : ℕ) → length (slice_index_or xss u []) ≤ widest xss
widest_above [] u = omega arith
widest_above (xs ∷ xss) zero = le-max_left (length xs) (widest xss)
widest_above (xs ∷ xss) (suc u) = omega (arith, widest_above xss u, le-max_right (length xs) (widest xss))
