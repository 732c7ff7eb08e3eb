-- Units that are found under their names in a list of units, which is made group by group, one for each unit of another list.
use Rattle.std.proofs.Common.{◌≡◌, ℕ, Bool, true, false, List, [], ◌∷◌, ◌++◌, map, refl, sym, ap, ◌∙◌, if◌then◌else◌}
use Rattle.std.specs.Prelude.{◌||◌, Some, None}
use Rattle.adj_tree.specs.Code.{name_eq, Procedure}
use Rattle.adj_tree.proofs.Names.{name_refl, name_same}
use Rattle.def_meaning.specs.Written.{find_unit}
use Rattle.def_meaning.specs.Apart.{has_name}
use Rattle.def_sweep.specs.Declared.{unit_name}
use Rattle.def_names.proofs.Variables.{or_left, or_right}
use Rattle.law_sweep.specs.Source.{is_unit}
use Rattle.law_sweep.proofs.Rounds.{either}

-- the first unit is found where it has the name, and passed over where it hasn't
pub take : (u : Procedure) (rest : List Procedure) (name : List ℕ) → name_eq u.name name ≡ true → find_unit (u ∷ rest) name ≡ Some u
take u rest name e = ap (λ b. if b then Some u else find_unit rest name) e

pub skip : (u : Procedure) (rest : List Procedure) (name : List ℕ) → name_eq u.name name ≡ false → find_unit (u ∷ rest) name ≡ find_unit rest name
skip u rest name e = ap (λ b. if b then Some u else find_unit rest name) e

-- the name of a unit is among the names of all
pub unit_named : (us : List Procedure) (x : List ℕ) → is_unit us x ≡ true → has_name x (map unit_name us) ≡ true
unit_named [] x h = absurd cc
unit_named (u ∷ us) x h =
    either (name_eq u.name x) (is_unit us x) (has_name x (map unit_name (u ∷ us))) h
    (λ e. or_left (name_eq x u.name) (has_name x (map unit_name us)) (ap (λ z. name_eq z u.name) (sym (name_same u.name x e)) ∙ name_refl u.name))
    (λ e. or_right (name_eq x u.name) (has_name x (map unit_name us)) (unit_named us x e))

-- a unit that is found is there, and has the name
pub found_there : (us : List Procedure) (name : List ℕ) (u : Procedure) → find_unit us name ≡ Some u → (is_unit us name ≡ true) × (u.name ≡ name)
found_there [] name u h = absurd cc
found_there (v ∷ us) name u h = go (name_eq v.name name) refl h (found_there us name u)
  where
    go : (b : Bool) → name_eq v.name name ≡ b → (if b then Some v else find_unit us name) ≡ Some u → (find_unit us name ≡ Some u → (is_unit us name ≡ true) × (u.name ≡ name)) → ((b || is_unit us name) ≡ true) × (u.name ≡ name)
    go true e h ih = let s : u ≡ v = cc in (refl, ap (λ z. z.name) s ∙ name_same v.name name e)
    go false e h ih = ih h

-- ---- units in groups

-- none of the units has the name
abbrev pub Differ : List ℕ → List Procedure → Type 0
Differ name [] = Unit {0}
Differ name (u ∷ us) = (name_eq u.name name ≡ false) × Differ name us

-- they are passed over
pub skip_all : (name : List ℕ) (l rest : List Procedure) → Differ name l → find_unit (l ++ rest) name ≡ find_unit rest name
skip_all name [] rest d = refl
skip_all name (u ∷ l) rest d = skip u (l ++ rest) name d.0 ∙ skip_all name l rest d.1

pub differ_both : (name : List ℕ) (a b : List Procedure) → Differ name a → Differ name b → Differ name (a ++ b)
differ_both name [] b d e = e
differ_both name (u ∷ a) b d e = (d.0, differ_both name a b d.1 e)

pub differ_one : (name : List ℕ) (c : Bool) (u : Procedure) → name_eq u.name name ≡ false → Differ name (if c then u ∷ [] else [])
differ_one name true u h = (h, tt)
differ_one name false u h = tt

pub differ_two : (name : List ℕ) (c : Bool) (u v : Procedure) → name_eq u.name name ≡ false → name_eq v.name name ≡ false → Differ name (if c then u ∷ v ∷ [] else [])
differ_two name true u v h k = (h, (k, tt))
differ_two name false u v h k = tt

unit_here : (v : Procedure) (us : List Procedure) → is_unit (v ∷ us) v.name ≡ true
unit_here v us = or_left (name_eq v.name v.name) (is_unit us v.name) (name_refl v.name)

-- `emitted` is the list that is made, and `group` what is made for one unit
module _ (emitted : List Procedure → List Procedure) (group : Procedure → List Procedure) (none : emitted [] ≡ []) (grows : (u : Procedure) (us : List Procedure) → emitted (u ∷ us) ≡ group u ++ emitted us) where
  -- a name that is found in the group of its unit, and in none before it
  pub through : (us : List Procedure) (u t : Procedure) (name : List ℕ) → find_unit us u.name ≡ Some u → ((v : Procedure) → is_unit us v.name ≡ true → name_eq v.name u.name ≡ false → Differ name (group v)) → ((rest : List Procedure) → find_unit (group u ++ rest) name ≡ Some t) → find_unit (emitted us) name ≡ Some t
  through [] u t name f apart here = absurd cc
  through (v ∷ us) u t name f apart here =
      ap (λ l. find_unit l name) (grows v us) ∙ go (name_eq v.name u.name) refl f (λ r. through us u t name r (λ w g n. apart w (or_right (name_eq v.name w.name) (is_unit us w.name) g) n) here)
    where
      go : (b : Bool) → name_eq v.name u.name ≡ b → (if b then Some v else find_unit us u.name) ≡ Some u → (find_unit us u.name ≡ Some u → find_unit (emitted us) name ≡ Some t) → find_unit (group v ++ emitted us) name ≡ Some t
      go true e f ih = let s : v ≡ u = cc in ap (λ z. find_unit (group z ++ emitted us) name) s ∙ here (emitted us)
      go false e f ih = skip_all name (group v) (emitted us) (apart v (unit_here v us) e) ∙ ih f

  -- a unit with which its own group begins is found as it was, where no other group has its name
  pub stays : (us : List Procedure) (name : List ℕ) → ((u : Procedure) (rest : List Procedure) → name_eq u.name name ≡ true → find_unit (group u ++ rest) name ≡ Some u) → ((u : Procedure) → is_unit us u.name ≡ true → name_eq u.name name ≡ false → Differ name (group u)) → find_unit (emitted us) name ≡ find_unit us name
  stays [] name first apart = ap (λ l. find_unit l name) none
  stays (u ∷ us) name first apart =
      ap (λ l. find_unit l name) (grows u us) ∙ go (name_eq u.name name) refl (stays us name first (λ v g n. apart v (or_right (name_eq u.name v.name) (is_unit us v.name) g) n))
    where
      go : (b : Bool) → name_eq u.name name ≡ b → find_unit (emitted us) name ≡ find_unit us name → find_unit (group u ++ emitted us) name ≡ (if b then Some u else find_unit us name)
      go true e ih = first u (emitted us) e
      go false e ih = skip_all name (group u) (emitted us) (apart u (unit_here u us) e) ∙ ih
