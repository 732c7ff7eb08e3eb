-- What tables of a unit say.
use Rattle.std.proofs.Common.{◌≡◌, Bool, true, false, List, [], ◌∷◌, map, length, refl, ap, ◌∙◌, Some, if◌then◌else◌}
use Rattle.std.specs.Prelude.{◌||◌, is_some, unwrap_or, fold}
use Rattle.adj_tree.specs.Code.{plain, name_eq, Declaration, Procedure}
use Rattle.def_meaning.specs.Units.{declared}
use Rattle.def_meaning.specs.Apart.{has_name}
use Rattle.def_names.specs.Variables.{Name, declared_names, rank}
use Rattle.adj_symbols.specs.Outline.{declared_rank}
use Rattle.adj_sets.specs.Sets.{with_name}
use Rattle.adj_symbols.specs.Table.{once}
use Rattle.adj_symbols.proofs.Repeats.{with_name-has}

-- the rank of a variable is the number of extents that it is first declared with
pub rank_is : (u : Procedure) (x : Name) → unwrap_or (declared_rank u.declarations x) 0 ≡ rank u x
rank_is u x = go u.declarations
  where
    pick : (d : Declaration) (ds : List Declaration) (b : Bool) → unwrap_or (declared_rank ds x) 0 ≡ length (declared ds (plain x)) → unwrap_or (if b then Some (length d.extents) else declared_rank ds x) 0 ≡ length (if b then d.extents else declared ds (plain x))
    pick d ds true ih = refl
    pick d ds false ih = ih

    go : (ds : List Declaration) → unwrap_or (declared_rank ds x) 0 ≡ length (declared ds (plain x))
    go [] = refl
    go (d ∷ ds) = pick d ds (name_eq x d.name) (go ds)

-- a name has one where it is declared
pub declared_is : (u : Procedure) (x : Name) → is_some (declared_rank u.declarations x) ≡ has_name x (declared_names u)
declared_is u x = go u.declarations
  where
    pick : (d : Declaration) (ds : List Declaration) (b : Bool) → is_some (declared_rank ds x) ≡ has_name x (map (λ e. e.name) ds) → is_some (if b then Some (length d.extents) else declared_rank ds x) ≡ (b || has_name x (map (λ e. e.name) ds))
    pick d ds true ih = refl
    pick d ds false ih = ih

    go : (ds : List Declaration) → is_some (declared_rank ds x) ≡ has_name x (map (λ e. e.name) ds)
    go [] = refl
    go (d ∷ ds) = pick d ds (name_eq x d.name) (go ds)

-- names once are the same names
pub once-has : (x : Name) (ys : List Name) → has_name x (once ys) ≡ has_name x ys
once-has x ys = go [] ys
  where
    turned : (a b c : Bool) → ((a || b) || c) ≡ (b || (a || c))
    turned true true c = refl
    turned true false c = refl
    turned false b c = refl

    go : (made zs : List Name) → has_name x (fold with_name made zs) ≡ (has_name x made || has_name x zs)
    go made [] = none (has_name x made)
      where
        none : (b : Bool) → b ≡ (b || false)
        none true = refl
        none false = refl
    go made (z ∷ zs) = go (with_name made z) zs ∙ ap (λ b. b || has_name x zs) (with_name-has x z made) ∙ turned (name_eq x z) (has_name x made) (has_name x zs)
