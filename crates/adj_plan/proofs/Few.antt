-- A checked program that fits has so few units, statements and variables that their numbers are low.
use Rattle.std.proofs.Common.{ℕ, zero, suc, ◌<◌, ◌^◌, List, [], ◌∷◌, length, arith}
use Rattle.std.specs.Prelude.{All}
use Rattle.adj_tree.specs.View.{procedures_of}
use Rattle.adj_symbols.specs.Checked.{Known}
use Rattle.adj_symbols.specs.Numbers.{Fits, widest}
use Rattle.adj_flow.specs.Low.{AreFew}

all_below : (n : ℕ) (vss : List (List (List ℕ))) → widest vss < n → All (λ vs. length vs < n) vss
all_below n [] l k d h = absurd (omega (arith, h))
all_below n (vs ∷ vss) l zero d h = omega (arith, l)
all_below n (vs ∷ vss) l (suc k) d h = all_below n vss (omega (arith, l)) k d (omega (arith, h))

pub few_fit : (k : Known) → Fits k → AreFew k.variables (procedures_of k.program)
few_fit k f = record { units = f.units; statements = f.statements; variables = all_below (2 ^ 30) k.variables f.variables }
