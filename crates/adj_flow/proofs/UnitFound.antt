-- The unit of a call.
use Rattle.std.proofs.Common.{◌≡◌, ℕ, suc, List, ◌∷◌, Bool, true, false, ap}
use Rattle.std.specs.Prelude.{Some, if◌then◌else◌, []}
use Rattle.adj_tree.specs.Code.{name_eq, Procedure}
use Rattle.def_meaning.specs.Written.{find_unit}
use Rattle.def_names.specs.Numbers.{behind}
use Rattle.def_flow.specs.Parts.{Part, part, parts_from, find_part}

-- the unit of a name is that of its part
pub unit_found : (t u i : ℕ) (ps : List Procedure) (name : List ℕ) (g : Part) → find_part (parts_from t u i ps) name ≡ Some g → find_unit ps name ≡ Some g.unit
unit_found t u i [] name g e = absurd cc
unit_found t u i (p ∷ ps) name g e = go (name_eq p.name name) e (unit_found t (suc u) (behind i p.body) ps name g)
  where
    go : (b : Bool) → (if b then Some (part t u i p) else find_part (parts_from t (suc u) (behind i p.body) ps) name) ≡ Some g → (find_part (parts_from t (suc u) (behind i p.body) ps) name ≡ Some g → find_unit ps name ≡ Some g.unit) → (if b then Some p else find_unit ps name) ≡ Some g.unit
    go true h r = let s : part t u i p ≡ g = cc in ap (λ (z : Part). Some z.unit) s
    go false h r = r h
