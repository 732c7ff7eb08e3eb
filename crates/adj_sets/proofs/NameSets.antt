-- Names that a set of their texts has.
use Rattle.std.proofs.Common.{◌≡◌, ℕ, Bool, true, false, List, [], ◌∷◌, ◌++◌, map, nat_eq, nat_lt, cond, ◌+◌, Some, None, refl, sym, ap, ◌∙◌, if◌then◌else◌}
use Rattle.std.specs.Prelude.{◌||◌, ◌&&◌, ◌==◌, not, position}
use Rattle.std.specs.List.{list_any, position_or_len}
use Rattle.std.specs.Str.{bytes_eq}
use Rattle.std.specs.Cmp.Lexicographic.{pointwise}
use Rattle.std.proofs.lemmas.List.{map_push, length-map}
use Rattle.adj_tree.specs.Code.{name_eq}
use Rattle.def_meaning.specs.Apart.{has_name}
use Rattle.adj_tree.proofs.Names.{name_eq-bytes}
use Rattle.adj_sets.specs.Sets.{with_name, with_added}

or_assoc : (a b c : Bool) → ((a || b) || c) ≡ (a || (b || c))
or_assoc true b c = refl
or_assoc false b c = refl

-- what two lists have, one behind the other
pub has-behind : (x : List ℕ) (xs ys : List (List ℕ)) → has_name x (xs ++ ys) ≡ (has_name x xs || has_name x ys)
has-behind x [] ys = refl
has-behind x (y ∷ xs) ys = ap (λ b. name_eq x y || b) (has-behind x xs ys) ∙ sym (or_assoc (name_eq x y) (has_name x xs) (has_name x ys))

pub with_added_is : (x : List ℕ) (xs : List (List ℕ)) → with_added x xs ≡ with_name xs x
unfolding with_added
with_added_is x xs = refl

-- the tests of names are one
pub pointwise_name : (x y : List ℕ) → pointwise nat_eq x y ≡ name_eq x y
pointwise_name [] [] = refl
pointwise_name [] (b ∷ y) = refl
pointwise_name (a ∷ x) [] = refl
pointwise_name (a ∷ x) (b ∷ y) = ap (λ t. (a == b) && t) (pointwise_name x y)

pub bytes_name : (x y : List ℕ) → bytes_eq x y ≡ name_eq x y
bytes_name x y = sym (name_eq-bytes x y)

-- by a test of texts that is the one of names
module _ {K : Type 0} (items : K → List ℕ) (same : List ℕ → List ℕ → Bool) (is : (x y : List ℕ) → same x y ≡ name_eq x y) (x : List ℕ) where
  -- whether a key has these bytes
  pub any_has : (ks : List K) → list_any (λ k. same x (items k)) ks ≡ has_name x (map items ks)
  any_has [] = refl
  any_has (k ∷ ks) = λ i. is x (items k) i || any_has ks i

  place_named : (ks : List K) → position_or_len (λ k. same x (items k)) ks ≡ position_or_len (name_eq x) (map items ks)
  place_named [] = refl
  place_named (k ∷ ks) = λ i. cond (not (is x (items k) i)) (1 + place_named ks i) 0

  -- where a key with these bytes stands
  pub position_named : (ks : List K) → position (λ k. same x (items k)) ks ≡ position (name_eq x) (map items ks)
  position_named ks = λ i. cond (nat_lt (place_named ks i) (sym (length-map ks items) i)) (Some (place_named ks i)) None

  -- a key with these bytes is added
  pub added_named : (k : K) (ks : List K) → items k ≡ x → map items (if list_any (λ j. same (items k) (items j)) ks then ks else ks ++ k ∷ []) ≡ with_name (map items ks) x
  added_named k ks h = go (list_any (λ j. same (items k) (items j)) ks) (ap (λ z. list_any (λ j. same z (items j)) ks) h ∙ any_has ks)
    where
      go : (b : Bool) → b ≡ has_name x (map items ks) → map items (if b then ks else ks ++ k ∷ []) ≡ (if has_name x (map items ks) then map items ks else map items ks ++ x ∷ [])
      go true e = ap (λ b. if b then map items ks else map items ks ++ x ∷ []) e
      go false e = map_push items ks k ∙ ap (λ z. map items ks ++ z ∷ []) h ∙ ap (λ b. if b then map items ks else map items ks ++ x ∷ []) e
