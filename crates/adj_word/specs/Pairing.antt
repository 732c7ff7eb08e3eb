-- Sums of products over keys, such as the cells of a store: `s` and `d` give each key its word.
use Rattle.std.specs.Prelude.{◌≡◌, ℤ, pos, Bool, true, false, ◌||◌, List, [], ◌∷◌, if◌then◌else◌}
use Rattle.adj_word.specs.Word.{add, mul}

-- the residue of the sum of the products of s and d at the keys
abbrev pub pairing : {K : Type 0} → List K → (K → ℤ) → (K → ℤ) → ℤ
pairing [] s d = pos 0
pairing (k ∷ ks) s d = add (mul (s k) (d k)) (pairing ks s d)

-- s with w at the key x; `same` tells whether two keys are one
abbrev pub put : {K : Type 0} → (K → K → Bool) → (K → ℤ) → K → ℤ → K → ℤ
put same s x w = λ k. if same k x then w else s k

-- whether a key stands in the list
abbrev pub stands_in : {K : Type 0} → (K → K → Bool) → K → List K → Bool
stands_in same x [] = false
stands_in same x (k ∷ ks) = same k x || stands_in same x ks

-- no key stands twice in the list
abbrev pub IsApart : {K : Type 0} → (K → K → Bool) → List K → Type 0
IsApart same [] = Unit {0}
IsApart same (k ∷ ks) = (stands_in same k ks ≡ false) × IsApart same ks

-- keys that are told to be one are one
abbrev pub IsExact : {K : Type 0} → (K → K → Bool) → Type 0
IsExact {K} same = (x y : K) → same x y ≡ true → x ≡ y
