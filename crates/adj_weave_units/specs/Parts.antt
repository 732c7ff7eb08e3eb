-- Declarations by what finds them, and declarations that are passed.
use Rattle.std.specs.Prelude.{◌≡◌, ℕ, List, [], ◌∷◌, length, not, ◌==◌, ◌&&◌, ◌||◌, if◌then◌else◌}
use Rattle.adj_tree.specs.Code.{plain, shadow, name_eq, Declaration}
use Rattle.def_meaning.specs.Apart.{has_name}
use Rattle.def_sweep.specs.Naming.{Named, name_in}
use Rattle.def_names.specs.Numbers.{Vars}

-- a declaration under another name
abbrev pub with_name : Declaration → List ℕ → Declaration
with_name d x = record d { name = x }

-- the declarations of variables, which `find` gives, each followed by that of its shadow, if it has one
abbrev pub declared_among : Vars → (List ℕ → Declaration) → List Named → List (List ℕ) → List Declaration
declared_among a find ns [] = []
declared_among a find ns (x ∷ xs) =
    if a (plain x) then find x ∷ with_name (find x) (name_in ns (shadow x)) ∷ declared_among a find ns xs else find x ∷ declared_among a find ns xs

-- a declaration was passed: its name is known, and is that of an array where it wasn't known and the declaration has extents
pub record PassedBy (d : Declaration) (known arrays known' arrays' : List (List ℕ)) : Type 0 where
  pub known_then : (x : List ℕ) → has_name x known' ≡ (has_name x known || name_eq x d.name)
  pub arrays_then : (x : List ℕ) → has_name x arrays' ≡ (has_name x arrays || (name_eq x d.name && (not (has_name d.name known) && not (length d.extents == 0))))
