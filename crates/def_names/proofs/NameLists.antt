-- Lists of names side by side.
use Rattle.std.proofs.Common.{◌≡◌, ℕ, true, false, List, ◌∷◌, ◌++◌, refl, sym, ap, ◌∙◌}
use Rattle.std.specs.Prelude.{◌||◌, []}
use Rattle.adj_tree.specs.Code.{name_eq}
use Rattle.def_meaning.specs.Apart.{has_name, AreApart}
use Rattle.adj_tree.proofs.Names.{name_refl}
use Rattle.def_names.proofs.Variables.{or_assoc, or_right}

pub has-append : (x : List ℕ) (xs ys : List (List ℕ)) → has_name x (xs ++ ys) ≡ (has_name x xs || has_name x ys)
has-append x [] ys = refl
has-append x (y ∷ xs) ys = ap (λ b. name_eq x y || b) (has-append x xs ys) ∙ sym (or_assoc (name_eq x y) (has_name x xs) (has_name x ys))

-- names that are apart, before others that are, with none in common
pub apart-append : (xs ys : List (List ℕ)) → AreApart xs → AreApart ys → ((x : List ℕ) → has_name x xs ≡ true → has_name x ys ≡ false) → AreApart (xs ++ ys)
apart-append [] ys a b h = b
apart-append (x ∷ xs) ys a b h =
    let here : has_name x (x ∷ xs) ≡ true = ap (λ t. t || has_name x xs) (name_refl x) in (
      has-append x xs ys ∙ (λ i. a.0 i || h x here i),
      apart-append xs ys a.1 b (λ z g. h z (or_right (name_eq z x) (has_name z xs) g)),
    )
