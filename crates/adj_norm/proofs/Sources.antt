-- The dummies of step units.
use Rattle.std.proofs.Common.{◌≡◌, ℕ, Bool, true, false, List, [], ◌∷◌, ◌++◌, map, refl, sym, ap, ◌∙◌, if◌then◌else◌}
use Rattle.std.specs.Prelude.{◌||◌}
use Rattle.adj_tree.specs.Code.{plain, name_eq, var, none, more, Extent, fixed, given, Declaration}
use Rattle.adj_tree.specs.Listed.{terms_onto}
use Rattle.adj_tree.proofs.Names.{name_refl, name_same}
use Rattle.def_meaning.specs.Units.{declared}
use Rattle.def_meaning.specs.Read.{names_extent}
use Rattle.def_meaning.specs.Apart.{has_name}
use Rattle.def_sweep.specs.Declared.{declaration}
use Rattle.def_names.proofs.Variables.{or_assoc, or_right}
use Rattle.def_meaning.proofs.Variables.{name_comm}
use Rattle.def_kernel.specs.Stepped.{is_extent_of, used_among, as_actuals}
use Rattle.adj_sets.specs.Sets.{with_added, all_added}
use Rattle.adj_sets.proofs.NameSets.{has-behind, with_added_is}
use Rattle.adj_naming.proofs.Added.{once_same}
use Rattle.adj_norm.specs.Source.{extents_in, all_extents_in, kept_among}

-- the test of names may be turned round
pub name_turned : (x y : List ℕ) → name_eq x y ≡ name_eq y x
name_turned x y = go (name_eq x y) refl
  where
    go : (b : Bool) → name_eq x y ≡ b → name_eq x y ≡ name_eq y x
    go true e = e ∙ sym (ap (name_eq y) (name_same x y e) ∙ name_refl y)
    go false e = e ∙ sym (name_comm x y e)

-- ---- extents

-- the extents in the declaration of a variable
pub declared_extents : (line : ℕ) (ds : List Declaration) (x : List ℕ) → (declaration line ds x).extents ≡ declared ds (plain x)
declared_extents line [] x = refl
declared_extents line (d ∷ ds) x = go (name_eq d.name x) (declared_extents line ds x) ∙ ap (λ b. if b then d.extents else declared ds (plain x)) (name_turned d.name x)
  where
    go : (b : Bool) → (declaration line ds x).extents ≡ declared ds (plain x) → (if b then d else declaration line ds x).extents ≡ (if b then d.extents else declared ds (plain x))
    go true ih = refl
    go false ih = ih

pub extents_more : (e : Extent) (es : List Extent) → extents_in (e ∷ es) ≡ extents_in (e ∷ []) ++ extents_in es
extents_more (fixed z) es = refl
extents_more (given x) es = refl

has_extent : (x : List ℕ) (es : List Extent) → has_name x (extents_in es) ≡ names_extent x es
has_extent x [] = refl
has_extent x (fixed z ∷ es) = has_extent x es
has_extent x (given y ∷ es) = ap (λ b. name_eq x y || b) (has_extent x es)

has_extents : (ds : List Declaration) (x : List ℕ) (ys : List (List ℕ)) → has_name x (all_extents_in ds ys) ≡ is_extent_of ds x ys
has_extents ds x [] = refl
has_extents ds x (y ∷ ys) = has-behind x (extents_in (declared ds (plain y))) (all_extents_in ds ys) ∙ (λ i. has_extent x (declared ds (plain y)) i || has_extents ds x ys i)

-- an extent of one of them is one of all
extent_among : (ds : List Declaration) (x y : List ℕ) (ys : List (List ℕ)) → has_name y ys ≡ true → names_extent x (declared ds (plain y)) ≡ true → is_extent_of ds x ys ≡ true
extent_among ds x y [] h e = cc
extent_among ds x y (z ∷ ys) h e = go (name_eq y z) refl h (λ k. extent_among ds x y ys k e)
  where
    go : (b : Bool) → name_eq y z ≡ b → (b || has_name y ys) ≡ true → (has_name y ys ≡ true → is_extent_of ds x ys ≡ true) → is_extent_of ds x (z ∷ ys) ≡ true
    go true g k ih = ap (λ w. names_extent x (declared ds (plain w)) || is_extent_of ds x ys) (sym (name_same y z g)) ∙ ap (λ b. b || is_extent_of ds x ys) e
    go false g k ih = or_right (names_extent x (declared ds (plain z))) (is_extent_of ds x ys) (ih k)

or_no : (a : Bool) → a ≡ (a || false)
or_no true = refl
or_no false = refl

extent_behind : (ds : List Declaration) (x : List ℕ) (xs ys : List (List ℕ)) → is_extent_of ds x (xs ++ ys) ≡ (is_extent_of ds x xs || is_extent_of ds x ys)
extent_behind ds x [] ys = refl
extent_behind ds x (z ∷ xs) ys = ap (λ b. names_extent x (declared ds (plain z)) || b) (extent_behind ds x xs ys) ∙ sym (or_assoc (names_extent x (declared ds (plain z))) (is_extent_of ds x xs) (is_extent_of ds x ys))

extent_added : (ds : List Declaration) (x y : List ℕ) (xs : List (List ℕ)) → is_extent_of ds x (with_added y xs) ≡ (is_extent_of ds x xs || names_extent x (declared ds (plain y)))
extent_added ds x y xs = ap (is_extent_of ds x) (with_added_is y xs) ∙ go (has_name y xs) refl
  where
    p : Bool
    p = names_extent x (declared ds (plain y))

    there : (b : Bool) → p ≡ b → has_name y xs ≡ true → is_extent_of ds x xs ≡ (is_extent_of ds x xs || b)
    there true e h = let all = extent_among ds x y xs h e in all ∙ sym (ap (λ c. c || true) all)
    there false e h = or_no (is_extent_of ds x xs)

    go : (b : Bool) → has_name y xs ≡ b → is_extent_of ds x (if b then xs else xs ++ y ∷ []) ≡ (is_extent_of ds x xs || p)
    go true e = there p refl e
    go false e = extent_behind ds x xs (y ∷ []) ∙ ap (λ b. is_extent_of ds x xs || b) (sym (or_no p))

extent_once : (ds : List Declaration) (x : List ℕ) (xs ys : List (List ℕ)) → is_extent_of ds x (all_added xs ys) ≡ (is_extent_of ds x xs || is_extent_of ds x ys)
extent_once ds x xs [] = or_no (is_extent_of ds x xs)
extent_once ds x xs (y ∷ ys) =
    extent_once ds x (with_added y xs) ys ∙ ap (λ b. b || is_extent_of ds x ys) (extent_added ds x y xs)
    ∙ or_assoc (is_extent_of ds x xs) (names_extent x (declared ds (plain y))) (is_extent_of ds x ys)

-- ---- dummies

-- the variables kept are those used
pub kept_are_used : (ds : List Declaration) (names xs : List (List ℕ)) → kept_among (all_added [] names) (all_added [] (all_extents_in ds (all_added [] names))) xs ≡ used_among ds names xs
kept_are_used ds names [] = refl
kept_are_used ds names (x ∷ xs) =
    let used = all_added [] names in
    let extents = all_extents_in ds used in
    let first : has_name x used ≡ has_name x names = (once_same names).at x in
    let second : has_name x (all_added [] extents) ≡ is_extent_of ds x names = (once_same extents).at x ∙ has_extents ds x used ∙ extent_once ds x [] names in
    (λ i. (if first i || second i then x ∷ [] else []) ++ kept_are_used ds names xs i) ∙ go (has_name x names || is_extent_of ds x names)
  where
    go : (b : Bool) → (if b then x ∷ [] else []) ++ used_among ds names xs ≡ (if b then x ∷ used_among ds names xs else used_among ds names xs)
    go true = refl
    go false = refl

-- ---- actuals and declarations

pub actuals_listed : (xs : List (List ℕ)) → terms_onto (map (λ x. var (plain x)) xs) none ≡ as_actuals xs
actuals_listed [] = refl
actuals_listed (x ∷ xs) = ap (more (var (plain x))) (actuals_listed xs)
