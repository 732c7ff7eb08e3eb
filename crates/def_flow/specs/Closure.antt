-- What is reached along a list of steps, computed: in some passes over the list.
use Rattle.std.specs.Prelude.{ℕ, zero, suc, List, [], ◌∷◌, Bool, true, false, not, ◌&&◌, ◌||◌, if◌then◌else◌}

-- a member, by a test of sameness
abbrev pub is_in : {A : Type 0} → (A → A → Bool) → List A → A → Bool
is_in same [] x = false
is_in same (y ∷ ys) x = same x y || is_in same ys x

-- a pass: each step from a member adds its end
abbrev pub grown : {A : Type 0} → (A → A → Bool) → List (A × A) → List A → List A
grown same [] set = set
grown same (e ∷ es) set = grown same es (if is_in same set e.0 && not (is_in same set e.1) then e.1 ∷ set else set)

abbrev pub closure : {A : Type 0} → (A → A → Bool) → List (A × A) → ℕ → List A → List A
closure same steps zero set = set
closure same steps (suc n) set = closure same steps n (grown same steps set)

-- no step leads out of the set
abbrev pub is_closed : {A : Type 0} → (A → A → Bool) → List (A × A) → List A → Bool
is_closed same [] set = true
is_closed same (e ∷ es) set = (not (is_in same set e.0) || is_in same set e.1) && is_closed same es set
