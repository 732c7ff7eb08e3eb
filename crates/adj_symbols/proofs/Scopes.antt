-- Units looked up by name.
use Rattle.std.proofs.Common.{◌≡◌, ℕ, suc, ◌<◌, ◌≤◌, nat_lt, Bool, true, false, List, [], ◌∷◌, ◌++◌, map, length, get_or, Bor, refl, sym, ap, ◌∙◌, Option, Some, None, IfSome, MatchOption, if◌then◌else◌, append_assoc, arith}
use Rattle.std.specs.Prelude.{is_some}
use Rattle.std.specs.List.{slice_get}
use Rattle.std.specs.Option.{option_map}
use Rattle.std.proofs.lemmas.Bool.Decides.{nat_tests}
use Rattle.std.proofs.lemmas.Option.{slice_get_past, slice_get_read, slice_get-map}
use Rattle.adj_tree.specs.Code.{name_eq, Procedure}
use Rattle.def_meaning.specs.Written.{find_unit}
use Rattle.def_names.specs.Variables.{Name}
use Rattle.adj_symbols_writes.specs.Graph.{number_from}
pub use Rattle.adj_symbols_writes.proofs.Rows.{name_comm}

-- a name has a number where it has a unit
pub number_has : (k : ℕ) (ps : List Procedure) (x : Name) → is_some (number_from k ps x) ≡ is_some (find_unit ps x)
number_has k [] x = refl
number_has k (u ∷ us) x = ap (λ b. is_some (if b then Some k else number_from (suc k) us x)) (name_comm x u.name) ∙ go (name_eq u.name x) (number_has (suc k) us x)
  where
    go : (b : Bool) → is_some (number_from (suc k) us x) ≡ is_some (find_unit us x) → is_some (if b then Some k else number_from (suc k) us x) ≡ is_some (if b then Some u else find_unit us x)
    go true ih = refl
    go false ih = ih

-- the unit of a number, where there is one
abbrev pub found_at : List Procedure → Option ℕ → Option Procedure
found_at ps None = None
found_at ps (Some n) = slice_get ps n

-- the unit behind some others
get_behind : (before : List Procedure) (u : Procedure) (us : List Procedure) → slice_get (before ++ (u ∷ us)) (length before) ≡ Some u
get_behind [] u us = refl
get_behind (b ∷ before) u us = get_behind before u us

-- the first unit of a name has its number
found_from : (before ps : List Procedure) (x : Name) → found_at (before ++ ps) (number_from (length before) ps x) ≡ find_unit ps x
found_from before [] x = refl
found_from before (u ∷ us) x =
    ap (λ b. found_at (before ++ (u ∷ us)) (if b then Some (length before) else number_from (suc (length before)) us x)) (name_comm x u.name)
    ∙ go (name_eq u.name x) (ap (λ z. found_at z (number_from (suc (length before)) us x)) (sym (append_assoc before (u ∷ []) us)) ∙ ap (λ n. found_at ((before ++ u ∷ []) ++ us) (number_from n us x)) (sym (longer before u)) ∙ found_from (before ++ u ∷ []) us x)
  where
    longer : (xs : List Procedure) (y : Procedure) → length (xs ++ y ∷ []) ≡ suc (length xs)
    longer [] y = refl
    longer (x ∷ xs) y = ap suc (longer xs y)

    go : (b : Bool) → found_at (before ++ (u ∷ us)) (number_from (suc (length before)) us x) ≡ find_unit us x → found_at (before ++ (u ∷ us)) (if b then Some (length before) else number_from (suc (length before)) us x) ≡ (if b then Some u else find_unit us x)
    go true ih = get_behind before u us
    go false ih = ih

pub number_found : (ps : List Procedure) (x : Name) → found_at ps (number_from 0 ps x) ≡ find_unit ps x
number_found ps x = found_from [] ps x

-- what a look by number gives
pub found_by : {X : Type 0} (view : X → Procedure) (xs : List X) (n : ℕ) (r : Option (Bor X)) (f : Option Procedure) → is_some r ≡ nat_lt n (length xs) → IfSome r (λ x. x.now ≡ get_or xs n x.now) → slice_get (map view xs) n ≡ f → MatchOption r (f ≡ None) (λ o. f ≡ Some (view o.now))
found_by view xs n None f e h g = sym g ∙ slice_get-map view xs n ∙ ap (option_map view) (slice_get_past xs n (past n (length xs) e))
  where
    past : (a b : ℕ) → false ≡ nat_lt a b → b ≤ a
    past a b e = grind (arith, nat_tests)
found_by view xs n (Some b) f e h g = sym g ∙ slice_get-map view xs n ∙ ap (option_map view) (slice_get_read xs (length xs) n b.now refl (within n (length xs) e) h)
  where
    within : (a b : ℕ) → true ≡ nat_lt a b → a < b
    within a b e = grind (arith, nat_tests)
