-- The units that are emitted: those that stay and the tangents. What holds of each of both kinds holds of all, and their names are apart.
use Rattle.std.proofs.Common.{◌≡◌, ℕ, zero, suc, ◌⊎◌, inl, inr, Bool, true, false, List, [], ◌∷◌, ◌++◌, map, refl, sym, ◌∙◌, subst, codes, if◌then◌else◌}
use Rattle.std.specs.Prelude.{flat_map}
use Rattle.adj_tree.specs.Code.{plain, name_eq, Procedure}
use Rattle.def_meaning.specs.Apart.{has_name, AreApart}
use Rattle.def_meaning.proofs.Variables.{name_comm}
use Rattle.def_names.specs.Variables.{variables}
use Rattle.def_names.proofs.NameLists.{has-append}
use Rattle.def_names.proofs.Variables.{or_false, has_apart}
use Rattle.def_sweep.specs.Marked.{names_in}
use Rattle.def_sweep.specs.Marking.{full_marks}
use Rattle.def_sweep.specs.Declared.{unit_name, unmarked, unit_at}
use Rattle.def_sweep.specs.Names.{source_names}
use Rattle.law_sweep.specs.Source.{is_unit}
use Rattle.law_sweep.proofs.HeadNames.{unmarked_in}
use Rattle.law_sweep.proofs.Names.{name_free, names_apart}
use Rattle.law_sweep.proofs.UnitLists.{unit_named}
use Rattle.law_sweep.proofs.Variables.{dummy_among}
use Rattle.def_tangent.specs.Program.{Carried, tangent_name, has_tangent, stays, made_names, tangent_unit, emitted_units, emitted_for, tangent_program}
use Rattle.law_emitted.proofs.Lists.{Each, each_append, each_more, each_both}
use Rattle.law_emitted.proofs.Sources.{each_name}
use Rattle.law_emitted.proofs.Units.{each_marked}
use Rattle.law_emitted.proofs.UnitFaults.{others_apart}

-- ---- the program

-- what holds of an empty program, and of what is emitted for each head, holds of the program
pub for_head : (P : List Procedure → Type 0) (c : Carried) (ps : List Procedure) (n : ℕ) (vars : List Bool) → P [] → ((u : Procedure) → unit_at n ps ≡ u ∷ [] → P (emitted_units c ps u vars ps)) → P (tangent_program c ps n vars)
for_head P c ps n vars e f = go (one_or_none n ps)
  where
    -- there is one unit of a number, or none
    one_or_none : (n : ℕ) (us : List Procedure) → (unit_at n us ≡ []) ⊎ ((u : Procedure) × (unit_at n us ≡ u ∷ []))
    one_or_none zero [] = inl refl
    one_or_none (suc n) [] = inl refl
    one_or_none zero (u ∷ us) = inr (u, refl)
    one_or_none (suc n) (u ∷ us) = one_or_none n us

    go : (unit_at n ps ≡ []) ⊎ ((u : Procedure) × (unit_at n ps ≡ u ∷ [])) → P (tangent_program c ps n vars)
    go (inl none) = subst (λ us. P (emitted_for c ps vars us)) (sym none) e
    go (inr (u, is)) = subst (λ us. P (emitted_for c ps vars us)) (sym is) (f u is)

-- ---- the names of tangents

module _ (ps : List Procedure) where
  -- no variable and no unit of the source has the name of a tangent
  pub tangent_free : (y : List ℕ) → is_unit ps y ≡ true → (has_name (tangent_name ps y) (map unit_name ps) ≡ false) × (has_name (tangent_name ps y) (flat_map variables ps) ≡ false)
  tangent_free y g = or_false (has_name (tangent_name ps y) (map unit_name ps)) (has_name (tangent_name ps y) (flat_map variables ps)) (sym (has-append (tangent_name ps y) (map unit_name ps) (flat_map variables ps)) ∙ name_free (codes "_D") (source_names ps) ps y g)

  pub apart_source : (x y : List ℕ) → is_unit ps x ≡ true → is_unit ps y ≡ true → name_eq x (tangent_name ps y) ≡ false
  apart_source x y h g = has_apart x (tangent_name ps y) (map unit_name ps) (unit_named ps x h) (tangent_free y g).0

-- ---- what is emitted

module _ (c : Carried) (ps : List Procedure) (head : Procedure) (vars : List Bool) where
  -- the names of all units
  abbrev pub all_units : List (List ℕ)
  all_units = map unit_name ps ++ made_names c ps head.name ps

  -- the variables whose tangents the tangent of a unit clears
  abbrev pub at_first : Procedure → List (List ℕ)
  at_first u = if name_eq head.name u.name then names_in (c u.name) (unmarked u.dummies vars) else []

  abbrev pub tangent_of : Procedure → Procedure
  tangent_of u = tangent_unit c ps all_units u (at_first u)

  -- they are variables of the unit that carry a tangent
  pub at_first_stand : (u : Procedure) → Each (λ x. (has_name x (variables u) ≡ true) × (c u.name (plain x) ≡ true)) (at_first u)
  at_first_stand u = go (name_eq head.name u.name)
    where
      go : (b : Bool) → Each (λ x. (has_name x (variables u) ≡ true) × (c u.name (plain x) ≡ true)) (if b then names_in (c u.name) (unmarked u.dummies vars) else [])
      go true = each_marked (λ x. has_name x (variables u) ≡ true) (c u.name) (unmarked u.dummies vars) (each_name (λ x. has_name x (variables u) ≡ true) (unmarked u.dummies vars) (λ x h. dummy_among u x (unmarked_in x u.dummies vars h)))
      go false = tt

  -- what holds of the units that stay and of the tangents holds of all that is emitted
  pub each_emitted : (P : Procedure → Type 0) (us : List Procedure) → Each (λ u. stays c ps head.name u.name ≡ true → P u) us → Each (λ u. has_tangent c ps head.name u.name ≡ true → P (tangent_of u)) us → Each P (emitted_units c ps head vars us)
  each_emitted P [] s t = tt
  each_emitted P (u ∷ us) s t =
      each_append P (if stays c ps head.name u.name then u ∷ [] else []) _ (one_of (stays c ps head.name u.name) u s.0)
      (each_append P (if has_tangent c ps head.name u.name then tangent_of u ∷ [] else []) (emitted_units c ps head vars us) (one_of (has_tangent c ps head.name u.name) (tangent_of u) t.0) (each_emitted P us s.1 t.1))
    where
      one_of : (b : Bool) (v : Procedure) → (b ≡ true → P v) → Each P (if b then v ∷ [] else [])
      one_of true v h = (h refl, tt)
      one_of false v h = tt

  -- ---- they have names of their own

  -- a name that no unit of a list has is apart from that of each
  pub unlike : (us : List Procedure) (z : List ℕ) → has_name z (map unit_name us) ≡ false → Each (λ u. name_eq z u.name ≡ false) us
  unlike us z h = others_apart false full_marks ps head vars [] us z h

  -- a name that neither the units nor their tangents have is none of those emitted
  pub not_emitted : (z : List ℕ) (us : List Procedure) → Each (λ u. (name_eq z u.name ≡ false) × (has_tangent c ps head.name u.name ≡ true → name_eq z (tangent_name ps u.name) ≡ false)) us → has_name z (map unit_name (emitted_units c ps head vars us)) ≡ false
  not_emitted z [] h = refl
  not_emitted z (u ∷ us) h = stay (stays c ps head.name u.name) (made (has_tangent c ps head.name u.name) h.0.1 (not_emitted z us h.1))
    where
      made : (b : Bool) → (b ≡ true → name_eq z (tangent_name ps u.name) ≡ false) → has_name z (map unit_name (emitted_units c ps head vars us)) ≡ false → has_name z (map unit_name ((if b then tangent_of u ∷ [] else []) ++ emitted_units c ps head vars us)) ≡ false
      made true f ih = rw (f refl, ih) refl
      made false f ih = ih

      stay : (b : Bool) → has_name z (map unit_name ((if has_tangent c ps head.name u.name then tangent_of u ∷ [] else []) ++ emitted_units c ps head vars us)) ≡ false → has_name z (map unit_name ((if b then u ∷ [] else []) ++ ((if has_tangent c ps head.name u.name then tangent_of u ∷ [] else []) ++ emitted_units c ps head vars us))) ≡ false
      stay true ih = rw (h.0.0, ih) refl
      stay false ih = ih

  pub emitted_apart : (us : List Procedure) → AreApart (map unit_name us) → Each (λ u. is_unit ps u.name ≡ true) us → AreApart (map unit_name (emitted_units c ps head vars us))
  emitted_apart [] a t = tt
  emitted_apart (u ∷ us) a t = stay (stays c ps head.name u.name) (made (has_tangent c ps head.name u.name) (emitted_apart us a.1 t.1))
    where
      others : Each (λ v. (name_eq u.name v.name ≡ false) × (is_unit ps v.name ≡ true)) us
      others = each_both (λ v. name_eq u.name v.name ≡ false) (λ v. is_unit ps v.name ≡ true) us (unlike us u.name a.0) t.1

      -- neither its name nor that of its tangent is among the others
      own_free : has_name u.name (map unit_name (emitted_units c ps head vars us)) ≡ false
      own_free = not_emitted u.name us (each_more (λ v. (name_eq u.name v.name ≡ false) × (is_unit ps v.name ≡ true)) (λ v. (name_eq u.name v.name ≡ false) × (has_tangent c ps head.name v.name ≡ true → name_eq u.name (tangent_name ps v.name) ≡ false)) (λ v k. (k.0, λ h. apart_source ps u.name v.name t.0 k.1)) us others)

      made_free : has_name (tangent_name ps u.name) (map unit_name (emitted_units c ps head vars us)) ≡ false
      made_free =
          not_emitted (tangent_name ps u.name) us
          (each_more (λ v. (name_eq u.name v.name ≡ false) × (is_unit ps v.name ≡ true)) (λ v. (name_eq (tangent_name ps u.name) v.name ≡ false) × (has_tangent c ps head.name v.name ≡ true → name_eq (tangent_name ps u.name) (tangent_name ps v.name) ≡ false))
          (λ v k. (name_comm v.name (tangent_name ps u.name) (apart_source ps v.name u.name k.1 t.0), λ h. names_apart (codes "_D") (source_names ps) ps u.name v.name t.0 k.1 k.0)) us others)

      made : (b : Bool) → AreApart (map unit_name (emitted_units c ps head vars us)) → AreApart (map unit_name ((if b then tangent_of u ∷ [] else []) ++ emitted_units c ps head vars us))
      made true ih = (made_free, ih)
      made false ih = ih

      no_own : (b : Bool) → has_name u.name (map unit_name ((if b then tangent_of u ∷ [] else []) ++ emitted_units c ps head vars us)) ≡ false
      no_own true = rw (apart_source ps u.name u.name t.0 t.0, own_free) refl
      no_own false = own_free

      stay : (b : Bool) → AreApart (map unit_name ((if has_tangent c ps head.name u.name then tangent_of u ∷ [] else []) ++ emitted_units c ps head vars us)) → AreApart (map unit_name ((if b then u ∷ [] else []) ++ ((if has_tangent c ps head.name u.name then tangent_of u ∷ [] else []) ++ emitted_units c ps head vars us)))
      stay true ih = (no_own (has_tangent c ps head.name u.name), ih)
      stay false ih = ih
