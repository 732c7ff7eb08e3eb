-- Lists gone through, one member after the other.
use Rattle.std.proofs.Common.{◌≡◌, ℕ, ◌+◌, ◌<◌, ◌≤◌, List, [], ◌∷◌, ◌++◌, length, map, get_or, drop, take, sym, ap, ◌∙◌}
use Rattle.std.proofs.lemmas.List.{drop_more, drop_all, take_more, map_push}

-- what is left, by its first member
pub left_here : {A B : Type 0} (view : A → B) (xs : List A) (i : ℕ) (a : A) → i < length xs → a ≡ get_or xs i a → map view (drop i xs) ≡ view a ∷ map view (drop (i + 1) xs)
left_here view xs i a lt is = ap (map view) (drop_more xs i a lt ∙ ap (λ z. z ∷ drop (i + 1) xs) (sym is))

-- what was passed, with one more
pub passed_here : {A B : Type 0} (view : A → B) (xs : List A) (i : ℕ) (a : A) → i < length xs → a ≡ get_or xs i a → map view (take (i + 1) xs) ≡ map view (take i xs) ++ view a ∷ []
passed_here view xs i a lt is = ap (map view) (take_more xs i a lt ∙ ap (λ z. take i xs ++ z ∷ []) (sym is)) ∙ map_push view (take i xs) a

-- at the end nothing is left
pub left_none : {A B : Type 0} (view : A → B) (xs : List A) (i : ℕ) → length xs ≤ i → map view (drop i xs) ≡ []
left_none view xs i past = ap (map view) (drop_all i xs past)
