-- What is made from the calls of statements, one statement after the other.
use Rattle.std.proofs.Common.{◌≡◌, ℕ, ◌+◌, ◌<◌, ◌≤◌, List, [], ◌∷◌, ◌++◌, length, map, get_or, drop, refl, sym, ap, ap₂, ◌∙◌, append_assoc}
use Rattle.std.specs.List.{flat_map}
use Rattle.std.proofs.lemmas.Grind.{flat_map-append}
use Rattle.std.proofs.lemmas.List.Folds.{flat_map-map}
use Rattle.std.proofs.lemmas.List.{drop_more, drop_all, append-nil}
use Rattle.adj_tree.specs.Code.{Act}
use Rattle.def_names.specs.Statements.{At}
use Rattle.def_names.specs.Calls.{Call, call_in}

-- what the calls of statements give is what the list of all these calls gives
pub calls_listed : {Z : Type 0} (f : At Call → List Z) (ss : List (At Act)) → flat_map (λ s. flat_map (λ c. f (s.0, c)) (call_in s.1)) ss ≡ flat_map f (flat_map (λ s. map (λ c. (s.0, c)) (call_in s.1)) ss)
calls_listed f [] = refl
calls_listed f (s ∷ ss) =
    ap₂ (λ x y. x ++ y) (sym (flat_map-map f (λ c. (s.0, c)) (call_in s.1))) (calls_listed f ss)
    ∙ sym (flat_map-append f (map (λ c. (s.0, c)) (call_in s.1)) (flat_map (λ t. map (λ c. (t.0, c)) (call_in t.1)) ss))

-- one member more
pub flat_more : {X Y Z : Type 0} (view : X → Y) (f : Y → List Z) (xs : List X) (i : ℕ) (x : X) (made after : List Z) → i < length xs → x ≡ get_or xs i x → after ≡ made ++ f (view x) → after ++ flat_map f (map view (drop (i + 1) xs)) ≡ made ++ flat_map f (map view (drop i xs))
flat_more view f xs i x made after lt is e =
    ap (λ z. z ++ flat_map f (map view (drop (i + 1) xs))) e
    ∙ append_assoc made (f (view x)) (flat_map f (map view (drop (i + 1) xs)))
    ∙ ap (λ z. made ++ flat_map f (map view z)) (sym (drop_more xs i x lt ∙ ap (λ z. z ∷ drop (i + 1) xs) (sym is)))

-- all members
pub flat_end : {X Y Z : Type 0} (view : X → Y) (f : Y → List Z) (xs : List X) (i : ℕ) (made all : List Z) → length xs ≤ i → made ++ flat_map f (map view (drop i xs)) ≡ all → made ≡ all
flat_end view f xs i made all past e = sym (append-nil made) ∙ ap (λ z. made ++ flat_map f (map view z)) (sym (drop_all i xs past)) ∙ e
