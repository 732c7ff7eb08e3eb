-- Without actuals nothing is passed.
use Rattle.std.proofs.Common.{◌≡◌, List, [], ◌∷◌, Bool, refl}
use Rattle.adj_tree.specs.Code.{none}
use Rattle.adj_flow.specs.Passed.{passed_in}

pub no_passed : (ws : List Bool) → passed_in ws none ≡ []
no_passed [] = refl
no_passed (w ∷ ws) = refl
