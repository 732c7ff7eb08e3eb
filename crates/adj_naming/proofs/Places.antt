-- Names passed one by one, and candidates tried one by one.
use Rattle.std.proofs.Common.{◌≡◌, ℕ, zero, suc, true, List, [], ◌∷◌, map, ◌+◌, ◌-◌, ◌<◌, length, drop, get_or, refl, sym, ap, ◌∙◌, arith, drop-cons, add-one, if◌then◌else◌}
use Rattle.def_meaning.specs.Apart.{has_name}
use Rattle.def_names.specs.Fresh.{candidate, first_free}

-- what is left from a place on, by its first member
pub from_here : {A : Type 0} (xs : List A) (i : ℕ) (a : A) → i < length xs → a ≡ get_or xs i a → drop i xs ≡ a ∷ drop (i + 1) xs
from_here xs i a lt at = drop-cons xs i a lt ∙ (λ j. sym at j ∷ drop (sym (add-one i) j) xs)

-- within a list it is no matter what stands for what is missing
pub get_or_any : {A : Type 0} (xs : List A) (j : ℕ) (a b : A) → j < length xs → get_or xs j a ≡ get_or xs j b
get_or_any [] j a b h = absurd (omega arith)
get_or_any (x ∷ xs) zero a b h = refl
get_or_any (x ∷ xs) (suc j) a b h = get_or_any xs j a b (omega arith)

-- a candidate that is taken is passed
pub candidate_passed : (n i : ℕ) (b : List ℕ) (taken : List (List ℕ)) → i < n → has_name (candidate b i) taken ≡ true → first_free (n - i) i b taken ≡ first_free (n - (i + 1)) (i + 1) b taken
candidate_passed n i b taken lt h =
    let e : n - i ≡ suc (n - (i + 1)) = omega arith in
    ap (λ t. first_free t i b taken) e
    ∙ ap (λ t. if t then first_free (n - (i + 1)) (suc i) b taken else candidate b i) h
    ∙ ap (λ j. first_free (n - (i + 1)) j b taken) (sym (add-one i))

-- what a list has at a place, its image has there
pub mapped_at : {A B : Type 0} (f : A → B) (xs : List A) (i : ℕ) (a : A) → i < length xs → a ≡ get_or xs i a → f a ≡ get_or (map f xs) i (f a)
mapped_at f [] i a lt at = absurd (omega arith)
mapped_at f (x ∷ xs) zero a lt at = ap f at
mapped_at f (x ∷ xs) (suc i) a lt at = mapped_at f xs i a (omega arith) at
