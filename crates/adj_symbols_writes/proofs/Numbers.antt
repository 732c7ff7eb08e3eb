-- Numbers of names, with one more.
use Rattle.std.proofs.Common.{◌≡◌, ℕ, suc, ◌+◌, ◌≤◌, Bool, true, false, List, [], ◌∷◌, ◌++◌, refl, ap, ◌∙◌, arith, Option, Some, None, if◌then◌else◌}
use Rattle.std.specs.Prelude.{is_some}
use Rattle.std.specs.Option.{option_or}
use Rattle.adj_tree.specs.Code.{name_eq}
use Rattle.adj_tree.proofs.Names.{name_same}
use Rattle.def_names.specs.Variables.{Name}
use Rattle.adj_symbols_writes.specs.Graph.{place_from}
use Rattle.adj_symbols_writes.specs.Table.{value_of, with_value}

-- the number of a name among numbers with one more
value_of-behind : (x y : Name) (n : ℕ) (es : List (Name × ℕ)) → value_of x (es ++ (y, n) ∷ []) ≡ option_or (value_of x es) (if name_eq x y then Some n else None)
value_of-behind x y n [] = refl
value_of-behind x y n (e ∷ es) = go (name_eq x e.0) (value_of-behind x y n es)
  where
    go : (b : Bool) → value_of x (es ++ (y, n) ∷ []) ≡ option_or (value_of x es) (if name_eq x y then Some n else None) → (if b then Some e.1 else value_of x (es ++ (y, n) ∷ [])) ≡ option_or (if b then Some e.1 else value_of x es) (if name_eq x y then Some n else None)
    go true ih = refl
    go false ih = ih

-- what is known of the names passed and of those that are left
pub numbers_more : (x : Name) (es made : List (Name × ℕ)) (later : Option ℕ) (y : Name) (n : ℕ) → made ≡ with_value es y n → option_or (value_of x made) later ≡ option_or (value_of x es) (if name_eq x y then Some n else later)
numbers_more x es made later y n m = ap (λ z. option_or (value_of x z) later) m ∙ go (value_of y es) refl
  where
    joined : (a : Option ℕ) (b : Bool) → option_or (option_or a (if b then Some n else None)) later ≡ option_or a (if b then Some n else later)
    joined None true = refl
    joined None false = refl
    joined (Some m) b = refl

    there : (k : ℕ) (b : Bool) → name_eq x y ≡ b → value_of y es ≡ Some k → option_or (value_of x es) later ≡ option_or (value_of x es) (if b then Some n else later)
    there k true e f = let same = ap (λ z. value_of z es) (name_same x y e) ∙ f in rw same refl
    there k false e f = refl

    go : (f : Option ℕ) → value_of y es ≡ f → option_or (value_of x (if is_some f then es else es ++ (y, n) ∷ [])) later ≡ option_or (value_of x es) (if name_eq x y then Some n else later)
    go None f = ap (λ z. option_or z later) (value_of-behind x y n es) ∙ joined (value_of x es) (name_eq x y)
    go (Some k) f = there k (name_eq x y) refl f

-- the place of a name in a list with one ahead
pub place_more : (i j : ℕ) (d : Name) (ds : List Name) (x : Name) → j ≡ i + 1 → (if name_eq x d then Some i else place_from j ds x) ≡ place_from i (d ∷ ds) x
place_more i j d ds x h = let e : j ≡ suc i = omega arith in ap (λ k. if name_eq x d then Some i else place_from k ds x) e

-- no place is before the first one
pub place_above : (k : ℕ) (ys : List Name) (x : Name) (n : ℕ) → place_from k ys x ≡ Some n → k ≤ n
place_above k [] x n h = absurd cc
place_above k (y ∷ ys) x n h = go (name_eq x y) (place_above (suc k) ys x n) h
  where
    go : (b : Bool) → (place_from (suc k) ys x ≡ Some n → suc k ≤ n) → (if b then Some k else place_from (suc k) ys x) ≡ Some n → k ≤ n
    go true later e = let same : k ≡ n = cc in omega arith
    go false later e = omega (arith, later e)
