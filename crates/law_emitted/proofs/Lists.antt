-- Members of lists, lists without faults, and units in lists.
use Rattle.std.proofs.Common.{◌≡◌, ℕ, zero, suc, Bool, true, false, List, [], ◌∷◌, ◌++◌, map, sym, ap, ◌∙◌, subst, if◌then◌else◌}
use Rattle.std.specs.Prelude.{flat_map, Some}
use Rattle.std.specs.List.{All}
use Rattle.std.proofs.lemmas.List.Elements.{All-head, All-tail}
use Rattle.adj_tree.specs.Code.{name_eq, Procedure}
use Rattle.adj_tree.proofs.Names.{name_refl}
use Rattle.def_meaning.specs.Written.{find_unit}
pub use Rattle.def_names.proofs.Faultless.{none_front, none_behind, none_if, apart_places}
use Rattle.def_kernel.specs.Kernel.{EachUnit}
use Rattle.def_meaning.specs.Apart.{has_name, AreApart}
use Rattle.def_sweep.specs.Declared.{unit_name, unit_at}
use Rattle.def_names.proofs.Variables.{or_left, or_right, has_apart}
use Rattle.def_meaning.proofs.Variables.{name_comm}

-- ---- members

-- P holds of each member
abbrev pub Each : {A : Type 0} → (A → Type 0) → List A → Type 0
Each P [] = Unit {0}
Each P (x ∷ xs) = P x × Each P xs

pub each_front : {A : Type 0} (P : A → Type 0) (xs ys : List A) → Each P (xs ++ ys) → Each P xs
each_front P [] ys h = tt
each_front P (x ∷ xs) ys h = (h.0, each_front P xs ys h.1)

pub each_append : {A : Type 0} (P : A → Type 0) (xs ys : List A) → Each P xs → Each P ys → Each P (xs ++ ys)
each_append P [] ys h k = k
each_append P (x ∷ xs) ys h k = (h.0, each_append P xs ys h.1 k)

pub each_behind : {A : Type 0} (P : A → Type 0) (xs ys : List A) → Each P (xs ++ ys) → Each P ys
each_behind P [] ys h = h
each_behind P (x ∷ xs) ys h = each_behind P xs ys h.1

pub each_more : {A : Type 0} (P Q : A → Type 0) → ((x : A) → P x → Q x) → (xs : List A) → Each P xs → Each Q xs
each_more P Q f [] h = tt
each_more P Q f (x ∷ xs) h = (f x h.0, each_more P Q f xs h.1)

pub each_both : {A : Type 0} (P Q : A → Type 0) (xs : List A) → Each P xs → Each Q xs → Each (λ x. P x × Q x) xs
each_both P Q [] h k = tt
each_both P Q (x ∷ xs) h k = ((h.0, k.0), each_both P Q xs h.1 k.1)

pub each_all : {A : Type 0} (P : A → Type 0) (xs : List A) → All P xs → Each P xs
each_all P [] h = tt
each_all P (x ∷ xs) h = (All-head P x xs h, each_all P xs (All-tail P x xs h))

pub each_unit : (P : Procedure → Type 0) (us : List Procedure) → EachUnit P us → Each P us
each_unit P [] h = tt
each_unit P (u ∷ us) h = (h.0, each_unit P us h.1)

-- what holds of each unit holds of the one that is found
pub each_found : (P : Procedure → Type 0) (us : List Procedure) → Each P us → (name : List ℕ) (u : Procedure) → find_unit us name ≡ Some u → P u
each_found P [] h name u f = absurd cc
each_found P (v ∷ us) h name u f = go (name_eq v.name name) f (each_found P us h.1 name u)
  where
    go : (b : Bool) → (if b then Some v else find_unit us name) ≡ Some u → (find_unit us name ≡ Some u → P u) → P u
    go true f ih = let same : v ≡ u = cc in subst P same h.0
    go false f ih = ih f

-- ---- no faults

pub none_each : {A B : Type 0} (f : A → List B) (xs : List A) → flat_map f xs ≡ [] → Each (λ x. f x ≡ []) xs
none_each f [] h = tt
none_each f (x ∷ xs) h = (none_front (f x) (flat_map f xs) h, none_each f xs (none_behind (f x) (flat_map f xs) h))

-- ---- units by their numbers

unit_there : (k : ℕ) (us : List Procedure) (u : Procedure) → unit_at k us ≡ u ∷ [] → has_name u.name (map unit_name us) ≡ true
unit_there zero [] u h = absurd cc
unit_there (suc k) [] u h = absurd cc
unit_there zero (v ∷ us) u h =
    let same : v ≡ u = cc in
    or_left (name_eq u.name v.name) (has_name u.name (map unit_name us)) (subst (λ w. name_eq u.name w.name ≡ true) (sym same) (name_refl u.name))
unit_there (suc k) (v ∷ us) u h = or_right (name_eq u.name v.name) (has_name u.name (map unit_name us)) (unit_there k us u h)

-- the unit of a number is found by its name, where names are apart
pub unit_found : (k : ℕ) (us : List Procedure) (u : Procedure) → AreApart (map unit_name us) → unit_at k us ≡ u ∷ [] → find_unit us u.name ≡ Some u
unit_found zero [] u a h = absurd cc
unit_found (suc k) [] u a h = absurd cc
unit_found zero (v ∷ us) u a h =
    let same : v ≡ u = cc in
    let e : name_eq v.name u.name ≡ true = subst (λ w. name_eq v.name w.name ≡ true) same (name_refl v.name) in
    ap (λ b. if b then Some v else find_unit us u.name) e ∙ ap Some same
unit_found (suc k) (v ∷ us) u a h =
    let e : name_eq v.name u.name ≡ false = name_comm u.name v.name (has_apart u.name v.name (map unit_name us) (unit_there k us u h) a.0) in
    ap (λ b. if b then Some v else find_unit us u.name) e ∙ unit_found k us u a.1 h
