-- The values that entries give to extents, extent by extent.
use Rattle.std.proofs.Common.{◌≡◌, List, [], ◌∷◌, ◌++◌, refl, ap, ◌∙◌}
use Rattle.std.specs.Prelude.{ℤ, Option, Some, None}
use Rattle.adj_tree.specs.Code.{Extent}
use Rattle.adj_data.specs.Entries.{Entry}
use Rattle.adj_data.specs.Faults.{extent_given, with_first, extents_given}

-- where one has none, there are none
pub given_none : (es : List Entry) (xs ys : List Extent) (x : Extent) → extent_given es x ≡ None → extents_given es (xs ++ (x ∷ ys)) ≡ None
given_none es [] ys x h = ap (λ o. with_first o (extents_given es ys)) h
given_none es (z ∷ xs) ys x h = ap (with_first (extent_given es z)) (given_none es xs ys x h) ∙ none (extent_given es z)
  where
    none : (o : Option ℤ) → with_first o None ≡ None
    none (Some a) = refl
    none None = refl

-- one value more
pub given_more : (es : List Entry) (xs : List Extent) (x : Extent) (zs : List ℤ) (z : ℤ) → extents_given es xs ≡ Some zs → extent_given es x ≡ Some z → extents_given es (xs ++ (x ∷ [])) ≡ Some (zs ++ (z ∷ []))
given_more es [] x [] z g h = ap (λ o. with_first o (Some [])) h
given_more es [] x (a ∷ zs) z g h = absurd cc
given_more es (y ∷ xs) x zs z g h = go (extent_given es y) (extents_given es xs) refl (λ bs e. given_more es xs x bs z e h) g
  where
    go : (o : Option ℤ) (p : Option (List ℤ)) → extents_given es xs ≡ p → ((bs : List ℤ) → extents_given es xs ≡ Some bs → extents_given es (xs ++ (x ∷ [])) ≡ Some (bs ++ (z ∷ []))) → with_first o p ≡ Some zs → with_first o (extents_given es (xs ++ (x ∷ []))) ≡ Some (zs ++ (z ∷ []))
    go (Some a) (Some bs) e ih k = let s : a ∷ bs ≡ zs = cc in ap (with_first (Some a)) (ih bs e) ∙ ap (λ l. Some (l ++ (z ∷ []))) s
    go (Some a) None e ih k = absurd cc
    go None p e ih k = absurd cc
