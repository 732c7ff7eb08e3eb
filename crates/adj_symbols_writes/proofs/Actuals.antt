-- Without actuals nothing is handed.
use Rattle.std.proofs.Common.{◌≡◌, List, [], ◌∷◌, Bool, refl}
use Rattle.adj_tree.specs.Code.{none}
use Rattle.def_names.specs.VariableLists.{handed_in_actuals}

pub no_handed : (ws : List Bool) → handed_in_actuals ws none ≡ []
no_handed [] = refl
no_handed (w ∷ ws) = refl
