-- Dummies that aren't marked.
use Rattle.std.proofs.Common.{◌≡◌, ℕ, Bool, true, false, List, [], ◌∷◌, refl}
use Rattle.adj_tree.specs.Code.{name_eq}
use Rattle.def_meaning.specs.Apart.{has_name}
use Rattle.def_sweep.specs.Declared.{unmarked}
use Rattle.def_names.proofs.Variables.{or_false}

-- ---- what isn't marked

-- what isn't among the names isn't among those that aren't marked
pub unmarked-out : (x : List ℕ) (xs : List (List ℕ)) (marks : List Bool) → has_name x xs ≡ false → has_name x (unmarked xs marks) ≡ false
unmarked-out x [] marks h = refl
unmarked-out x (y ∷ xs) [] h = let p = or_false (name_eq x y) (has_name x xs) h in rw p.0 (unmarked-out x xs [] p.1)
unmarked-out x (y ∷ xs) (true ∷ marks) h = unmarked-out x xs marks (or_false (name_eq x y) (has_name x xs) h).1
unmarked-out x (y ∷ xs) (false ∷ marks) h = let p = or_false (name_eq x y) (has_name x xs) h in rw p.0 (unmarked-out x xs marks p.1)
