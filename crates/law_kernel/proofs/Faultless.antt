-- Lists without faults, and what holds of each member of a list.
use Rattle.std.proofs.Common.{◌≡◌, ℕ, ◌⊎◌, inl, inr, Bool, true, false, List, [], ◌∷◌, ◌++◌, refl, sym, ap, ◌∙◌, subst, if◌then◌else◌}
use Rattle.std.specs.Prelude.{◌||◌, ◌&&◌, not, flat_map, Some}
use Rattle.std.specs.List.{All, list_any}
use Rattle.std.proofs.lemmas.List.Elements.{All-head, All-tail}
use Rattle.adj_tree.specs.Code.{name_eq, Procedure}
use Rattle.adj_tree.specs.declared.fault.Refusal.{Refusal}
use Rattle.adj_tree.proofs.Names.{name_refl}
use Rattle.def_meaning.specs.Written.{find_unit}
use Rattle.def_meaning.proofs.Booleans.{or_false, or_first, or_second}
use Rattle.def_names.specs.Fault.{faults_if}
pub use Rattle.def_names.proofs.Faultless.{none_front, none_behind, none_if}
use Rattle.def_meaning.specs.Apart.{has_name}
use Rattle.def_kernel.specs.Kernel.{EachUnit}

-- P holds of each member
abbrev pub Each : {A : Type 0} → (A → Type 0) → List A → Type 0
Each P [] = Unit {0}
Each P (x ∷ xs) = P x × Each P xs

-- in the first of two lists
pub each_front : {A : Type 0} (P : A → Type 0) (xs ys : List A) → Each P (xs ++ ys) → Each P xs
each_front P [] ys h = tt
each_front P (x ∷ xs) ys h = (h.0, each_front P xs ys h.1)

-- in the second
pub each_behind : {A : Type 0} (P : A → Type 0) (xs ys : List A) → Each P (xs ++ ys) → Each P ys
each_behind P [] ys h = h
each_behind P (x ∷ xs) ys h = each_behind P xs ys h.1

-- and in both
pub each_join : {A : Type 0} (P : A → Type 0) (xs ys : List A) → Each P xs → Each P ys → Each P (xs ++ ys)
each_join P [] ys h g = g
each_join P (x ∷ xs) ys h g = (h.0, each_join P xs ys h.1 g)

-- what follows for each member
pub each_more : {A : Type 0} (P Q : A → Type 0) → ((x : A) → P x → Q x) → (xs : List A) → Each P xs → Each Q xs
each_more P Q f [] h = tt
each_more P Q f (x ∷ xs) h = (f x h.0, each_more P Q f xs h.1)

-- two things of each member
pub each_both : {A : Type 0} (P Q : A → Type 0) (xs : List A) → Each P xs → Each Q xs → Each (λ x. P x × Q x) xs
each_both P Q [] h k = tt
each_both P Q (x ∷ xs) h k = ((h.0, k.0), each_both P Q xs h.1 k.1)

-- the same as `All`
pub each_all : {A : Type 0} (P : A → Type 0) (xs : List A) → All P xs → Each P xs
each_all P [] h = tt
each_all P (x ∷ xs) h = (All-head P x xs h, each_all P xs (All-tail P x xs h))

-- of lists put together, and of each list
pub each_flat : {A B : Type 0} (P : B → Type 0) (f : A → List B) (xs : List A) → Each P (flat_map f xs) → Each (λ x. Each P (f x)) xs
each_flat P f [] h = tt
each_flat P f (x ∷ xs) h = (each_front P (f x) (flat_map f xs) h, each_flat P f xs (each_behind P (f x) (flat_map f xs) h))

-- and the other way
pub flat_each : {A B : Type 0} (P : B → Type 0) (f : A → List B) (xs : List A) → Each (λ x. Each P (f x)) xs → Each P (flat_map f xs)
flat_each P f [] h = tt
flat_each P f (x ∷ xs) h = each_join P (f x) (flat_map f xs) h.0 (flat_each P f xs h.1)

-- units, as members of a list
pub unit_each : (P : Procedure → Type 0) (us : List Procedure) → EachUnit P us → Each P us
unit_each P [] h = tt
unit_each P (u ∷ us) h = (h.0, unit_each P us h.1)

-- units of two lists
pub join_units : (P : Procedure → Type 0) (ps qs : List Procedure) → EachUnit P ps → EachUnit P qs → EachUnit P (ps ++ qs)
join_units P [] qs h g = g
join_units P (p ∷ ps) qs h g = (h.0, join_units P ps qs h.1 g)

-- units one by one
pub of_each : (P : Procedure → Type 0) (us : List Procedure) → Each P us → EachUnit P us
of_each P [] h = tt
of_each P (u ∷ us) h = (h.0, of_each P us h.1)

-- what holds of each unit holds of the one that is found
pub each_found : (P : Procedure → Type 0) (us : List Procedure) → Each P us → (name : List ℕ) (u : Procedure) → find_unit us name ≡ Some u → P u
each_found P [] h name u f = absurd cc
each_found P (v ∷ us) h name u f = go (name_eq v.name name) f (each_found P us h.1 name u)
  where
    go : (b : Bool) → (if b then Some v else find_unit us name) ≡ Some u → (find_unit us name ≡ Some u → P u) → P u
    go true f ih = let same : v ≡ u = cc in subst P same h.0
    go false f ih = ih f

-- ---- truth values

-- from either
pub either_way : {A B D : Type 0} → (A → D) → (B → D) → A ⊎ B → D
either_way f g (inl a) = f a
either_way f g (inr b) = g b

-- neither
pub both_false : (a b : Bool) → a ≡ false → b ≡ false → (a || b) ≡ false
both_false a b h g = ap (λ z. z || b) h ∙ g

-- what isn't so doesn't follow
pub not_back : (a b : Bool) → (a ≡ true → b ≡ true) → b ≡ false → a ≡ false
not_back true b f e = absurd (let z : true ≡ false = sym (f refl) ∙ e in cc)
not_back false b f e = refl

pub and_none : (b : Bool) → (b && false) ≡ false
and_none true = refl
and_none false = refl

-- ---- no faults

-- where lists put together are empty each is
pub none_each : {A B : Type 0} (f : A → List B) (xs : List A) → flat_map f xs ≡ [] → Each (λ x. f x ≡ []) xs
none_each f [] h = tt
none_each f (x ∷ xs) h = (none_front (f x) (flat_map f xs) h, none_each f xs (none_behind (f x) (flat_map f xs) h))

-- and the other way
pub none_flat : {A B : Type 0} (f : A → List B) (xs : List A) → Each (λ x. f x ≡ []) xs → flat_map f xs ≡ []
none_flat f [] h = refl
none_flat f (x ∷ xs) h = ap (λ z. z ++ flat_map f xs) h.0 ∙ none_flat f xs h.1

-- no fault where it isn't so
pub if_none : (b : Bool) (r : Refusal) → b ≡ false → faults_if b r ≡ []
if_none b r h = ap (λ z. if z then r ∷ [] else []) h

-- two empty lists
pub none_both : {A : Type 0} (xs ys : List A) → xs ≡ [] → ys ≡ [] → xs ++ ys ≡ []
none_both xs ys h g = ap (λ z. z ++ ys) h ∙ g

-- what holds for each i of each member holds of each member for each i
pub each_swap : {I A : Type 0} (P : I → A → Type 0) (xs : List A) → ((i : I) → Each (P i) xs) → Each (λ x. (i : I) → P i x) xs
each_swap P [] h = tt
each_swap P (x ∷ xs) h = ((λ i. (h i).0), each_swap P xs (λ i. (h i).1))

-- what holds of no name of a list
pub none_any : (f : List ℕ → Bool) (xs : List (List ℕ)) → ((x : List ℕ) → has_name x xs ≡ true → f x ≡ false) → list_any f xs ≡ false
none_any f [] h = refl
none_any f (x ∷ xs) h = ap (λ b. b || list_any f xs) (h x (or_first (name_eq x x) (has_name x xs) (name_refl x))) ∙ none_any f xs (λ y k. h y (or_second (name_eq y x) (has_name y xs) k))

-- what isn't not so is so
pub isn't_not : (b : Bool) → not b ≡ false → b ≡ true
isn't_not true h = refl
isn't_not false h = absurd cc

-- what holds of none of some names doesn't hold of one of them
pub any_none : (f : List ℕ → Bool) (xs : List (List ℕ)) → list_any f xs ≡ false → (x : List ℕ) → has_name x xs ≡ true → ((y : List ℕ) → name_eq x y ≡ true → f y ≡ f x) → f x ≡ false
any_none f [] h x k same = absurd cc
any_none f (y ∷ ys) h x k same = let p = or_false (f y) (list_any f ys) h in go (name_eq x y) refl k (any_none f ys p.1 x)
  where
    go : (b : Bool) → name_eq x y ≡ b → (b || has_name x ys) ≡ true → (has_name x ys ≡ true → ((z : List ℕ) → name_eq x z ≡ true → f z ≡ f x) → f x ≡ false) → f x ≡ false
    go true e k ih = sym (same y e) ∙ (or_false (f y) (list_any f ys) h).0
    go false e k ih = ih k same
