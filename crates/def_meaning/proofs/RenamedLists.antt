-- Renaming lists side by side.
use Rattle.std.proofs.Common.{◌≡◌, refl, ap}
use Rattle.adj_tree.specs.Code.{Var, Code, stop, step}
use Rattle.def_meaning.specs.Append.{◌+++◌}
use Rattle.def_meaning.specs.Rename.{rename_act, rename}

-- the parts of a list are renamed one by one
pub rename-append : (r : Var → Var) (c d : Code) → rename r (c +++ d) ≡ rename r c +++ rename r d
rename-append r stop d = refl
rename-append r (step line a c) d = ap (step line (rename_act r a)) (rename-append r c d)
