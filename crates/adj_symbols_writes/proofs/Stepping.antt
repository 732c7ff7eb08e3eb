-- What is made from the members of a list, one after the other.
use Rattle.std.proofs.Common.{◌≡◌, ℕ, ◌+◌, ◌<◌, ◌≤◌, List, ◌∷◌, ◌++◌, length, map, get_or, drop, sym, ap, ◌∙◌, append_assoc}
use Rattle.std.specs.List.{flat_map}
use Rattle.std.proofs.lemmas.List.{drop_more, drop_all, append-nil}

-- one member more
pub flat_more : {X Y Z : Type 0} (view : X → Y) (f : Y → List Z) (xs : List X) (i : ℕ) (x : X) (made after : List Z) → i < length xs → x ≡ get_or xs i x → after ≡ made ++ f (view x) → after ++ flat_map f (map view (drop (i + 1) xs)) ≡ made ++ flat_map f (map view (drop i xs))
flat_more view f xs i x made after lt is e =
    ap (λ z. z ++ flat_map f (map view (drop (i + 1) xs))) e
    ∙ append_assoc made (f (view x)) (flat_map f (map view (drop (i + 1) xs)))
    ∙ ap (λ z. made ++ flat_map f (map view z)) (sym (drop_more xs i x lt ∙ ap (λ z. z ∷ drop (i + 1) xs) (sym is)))

-- all members
pub flat_end : {X Y Z : Type 0} (view : X → Y) (f : Y → List Z) (xs : List X) (i : ℕ) (made all : List Z) → length xs ≤ i → made ++ flat_map f (map view (drop i xs)) ≡ all → made ≡ all
flat_end view f xs i made all past e = sym (append-nil made) ∙ ap (λ z. made ++ flat_map f (map view z)) (sym (drop_all i xs past)) ∙ e
