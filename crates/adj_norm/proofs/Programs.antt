-- Units one after another, and the names that are taken by their step units.
use Rattle.std.proofs.Common.{◌≡◌, ℕ, zero, suc, Bool, true, false, List, [], ◌∷◌, ◌++◌, refl, sym, ap, ◌∙◌, append-nil, append_assoc, if◌then◌else◌}
use Rattle.std.specs.Prelude.{◌||◌}
use Rattle.adj_tree.specs.Code.{name_eq, Procedure}
use Rattle.def_meaning.specs.Apart.{has_name}
use Rattle.def_names.specs.Fresh.{fresh}
use Rattle.def_kernel.specs.Kernel.{names_of}
use Rattle.def_kernel.specs.Stepped.{marked_in, once_each, variables_of, wanted_step, step_names}
use Rattle.adj_sets.specs.Sets.{all_added}
use Rattle.adj_sets.proofs.NameSets.{has-behind, with_added_is}
use Rattle.adj_naming.proofs.Added.{or_comm, fresh_alike}
use Rattle.adj_norm.specs.Programs.{AreAlike, taken_after}

-- ---- lists with the same names

pub alike_behind : (xs ys zs ws : List (List ℕ)) → AreAlike xs ys → zs ≡ ws → AreAlike (xs ++ zs) (ys ++ ws)
alike_behind xs ys zs ws h e x = has-behind x xs zs ∙ (λ i. h x i || has_name x (e i)) ∙ sym (has-behind x ys ws)

-- they leave the same names to step units
pub step_names_alike : (xs ys : List (List ℕ)) (name : List ℕ) → AreAlike xs ys → (k : ℕ) → step_names xs name k ≡ step_names ys name k
step_names_alike xs ys name h zero = refl
step_names_alike xs ys name h (suc k) =
    let same = step_names_alike xs ys name h k in
    let one : fresh (wanted_step name k) (xs ++ step_names xs name k) ≡ fresh (wanted_step name k) (ys ++ step_names ys name k) =
    fresh_alike (wanted_step name k) (xs ++ step_names xs name k) (ys ++ step_names ys name k) (record { at = alike_behind xs ys (step_names xs name k) (step_names ys name k) h same }) in
    λ i. same i ++ one i ∷ []

-- ---- each name once

once_behind : (ys xs before : List (List ℕ)) → AreAlike xs before → all_added xs ys ≡ xs ++ once_each before ys
once_behind [] xs before h = sym (append-nil xs)
once_behind (y ∷ ys) xs before h = ap (λ z. all_added z ys) (with_added_is y xs ∙ ap (λ b. if b then xs else xs ++ y ∷ []) (h y)) ∙ go (has_name y before) (once_behind ys xs before h) (once_behind ys (xs ++ y ∷ []) (y ∷ before) longer)
  where
    or_no : (a : Bool) → (a || false) ≡ a
    or_no true = refl
    or_no false = refl

    longer : AreAlike (xs ++ y ∷ []) (y ∷ before)
    longer x = has-behind x xs (y ∷ []) ∙ (λ i. h x i || or_no (name_eq x y) i) ∙ or_comm (has_name x before) (name_eq x y)

    go : (b : Bool) → all_added xs ys ≡ xs ++ once_each before ys → all_added (xs ++ y ∷ []) ys ≡ (xs ++ y ∷ []) ++ once_each (y ∷ before) ys → all_added (if b then xs else xs ++ y ∷ []) ys ≡ xs ++ (if b then once_each before ys else y ∷ once_each (y ∷ before) ys)
    go true f g = f
    go false f g = g ∙ append_assoc xs (y ∷ []) (once_each (y ∷ before) ys)

-- the variables of a unit, each added once
pub variables_added : (u : Procedure) → all_added [] (names_of u) ≡ variables_of u
variables_added u = once_behind (names_of u) [] [] (λ x. refl)

-- ---- units one after another

pub taken_more : (us : List Procedure) (taken : List (List ℕ)) (u : Procedure) → taken_after taken (us ++ u ∷ []) ≡ taken_after taken us ++ step_names (taken_after taken us) u.name (marked_in u.body)
taken_more [] taken u = refl
taken_more (v ∷ us) taken u = taken_more us (taken ++ step_names taken v.name (marked_in v.body)) u
