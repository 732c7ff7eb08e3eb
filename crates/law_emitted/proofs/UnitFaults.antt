-- The names of the emitted units are apart, and aren't reserved.
use Rattle.std.proofs.Common.{◌≡◌, ℕ, Bool, true, false, List, [], ◌∷◌, ◌++◌, map, refl, sym, ap, ◌∙◌, subst, if◌then◌else◌}
use Rattle.std.specs.Prelude.{◌||◌, flat_map}
use Rattle.adj_tree.specs.Code.{name_eq, Procedure}
use Rattle.adj_tree.specs.declared.fault.Refusal.{Refusal}
use Rattle.def_names.specs.Reserved.{is_reserved}
use Rattle.def_names.specs.Statements.{At}
use Rattle.def_names.specs.Fault.{Rules, fault, faults_if, again}
use Rattle.def_names.specs.UnitFaults.{unit_places, reserved_units, repeated_units, unit_faults}
use Rattle.def_names.specs.Laws.{HasNone}
use Rattle.def_names.proofs.Sound.{sound_has_none}
use Rattle.def_meaning.specs.Apart.{has_name, AreApart}
use Rattle.def_sweep.specs.Declared.{unit_name, unit_at}
use Rattle.def_names.proofs.Variables.{or_false, or_assoc}
use Rattle.def_meaning.proofs.Variables.{name_comm}
use Rattle.def_sweep.specs.Names.{adjoint_name}
use Rattle.def_sweep.specs.Marking.{ProgramMarks}
use Rattle.def_sweep.specs.Program.{has_adjoint, is_carried_with, all_units, emitted_adjoint_with, has_pair, forth_unit, back_unit, emitted_group, emitted_units_with, emitted_for_with}
use Rattle.law_sweep.specs.Source.{is_unit}
use Rattle.law_emitted.specs.Checked.{IsChecked}
use Rattle.law_emitted.proofs.Lists.{Each, each_append, each_more, each_both, none_each}
use Rattle.def_names.proofs.Faultless.{none_front, none_behind, none_if, apart_places}
use Rattle.law_emitted.proofs.CheckedUnits.{unit_names}
use Rattle.law_emitted.specs.Emitted.{UnitsHaveNone}
use Rattle.law_emitted.proofs.MadeNames.{made_unreserved}
use Rattle.law_emitted.proofs.Makings.{Making, as_adjoint, as_forth, as_back, its_name, made, is_made, ClearsOwn, emitted_making, emitted_is_made, emitted_clears, emitted_there, emitted_named}
use Rattle.law_emitted.proofs.MakingNames.{its_named, its_no_unit, adj_fwd, adj_bwd, fwd_bwd, others_made_apart}
use Rattle.law_emitted.proofs.Sources.{all_named, each_there}

-- ---- lists without faults

pub flat_none : {X Y : Type 0} (f : X → List Y) (xs : List X) → Each (λ x. f x ≡ []) xs → flat_map f xs ≡ []
flat_none f [] h = refl
flat_none f (x ∷ xs) h = λ i. h.0 i ++ flat_none f xs h.1 i

pub if_none : (b : Bool) (r : Refusal) → b ≡ false → faults_if b r ≡ []
if_none true r h = absurd cc
if_none false r h = refl

-- names that are apart from each other and from those before them stand once
pub again_none : (code : ℕ) (before : List (List ℕ)) (ps : List (At (List ℕ))) → AreApart (map (λ p. p.1) ps) → Each (λ (p : At (List ℕ)). has_name p.1 before ≡ false) ps → again code before ps ≡ []
again_none code before [] a h = refl
again_none code before (p ∷ ps) a h =
    λ i. if_none (has_name p.1 before) (fault code p.0) h.0 i ++ again_none code (p.1 ∷ before) ps a.1 (later ps a.0 h.1) i
  where
    -- the names behind the first aren't the first
    later : (qs : List (At (List ℕ))) → has_name p.1 (map (λ q. q.1) qs) ≡ false → Each (λ (q : At (List ℕ)). has_name q.1 before ≡ false) qs → Each (λ (q : At (List ℕ)). has_name q.1 (p.1 ∷ before) ≡ false) qs
    later [] n k = tt
    later (q ∷ qs) n k =
        let other = or_false (name_eq p.1 q.1) (has_name p.1 (map (λ q. q.1) qs)) n in
        (rw (name_comm p.1 q.1 other.0, k.0) refl, later qs other.1 k.1)

-- ---- what holds of each emitted unit

module _ (sb : Bool) (m : ProgramMarks) (ps : List Procedure) (head : Procedure) (vars outvars : List Bool) where
  abbrev group : Procedure → List Procedure
  group u = emitted_group sb m ps head vars outvars u

  abbrev emitted : List Procedure → List Procedure
  emitted us = emitted_units_with sb m ps head vars outvars us

  one_of : (P : Procedure → Type 0) (b : Bool) (v : Procedure) → (b ≡ true → P v) → Each P (if b then v ∷ [] else [])
  one_of P true v h = (h refl, tt)
  one_of P false v h = tt

  two_of : (P : Procedure → Type 0) (b : Bool) (v w : Procedure) → (b ≡ true → P v × P w) → Each P (if b then v ∷ w ∷ [] else [])
  two_of P true v w h = let both = h refl in (both.0, (both.1, tt))
  two_of P false v w h = tt

  -- it holds of those that are carried, and of the adjoints and the pairs that there are
  each_in_group : (P : Procedure → Type 0) (u : Procedure) → (is_carried_with sb m ps head u.name ≡ true → P u) → (has_adjoint m ps head u.name ≡ true → P (emitted_adjoint_with sb m ps head vars outvars u)) →
      (has_pair m ps head u.name ≡ true → P (forth_unit sb m ps (all_units m ps head) u) × P (back_unit sb m ps (all_units m ps head) u)) → Each P (emitted_group sb m ps head vars outvars u)
  each_in_group P u c a t =
      each_append P (if is_carried_with sb m ps head u.name then u ∷ [] else []) _ (one_of P (is_carried_with sb m ps head u.name) u c)
      (each_append P (if has_adjoint m ps head u.name then emitted_adjoint_with sb m ps head vars outvars u ∷ [] else []) _ (one_of P (has_adjoint m ps head u.name) (emitted_adjoint_with sb m ps head vars outvars u) a)
      (two_of P (has_pair m ps head u.name) (forth_unit sb m ps (all_units m ps head) u) (back_unit sb m ps (all_units m ps head) u) t))

  pub each_made : (P : Procedure → Type 0) (us : List Procedure) → Each (λ u. is_carried_with sb m ps head u.name ≡ true → P u) us → Each (λ u. has_adjoint m ps head u.name ≡ true → P (emitted_adjoint_with sb m ps head vars outvars u)) us →
      Each (λ u. has_pair m ps head u.name ≡ true → P (forth_unit sb m ps (all_units m ps head) u) × P (back_unit sb m ps (all_units m ps head) u)) us → Each P (emitted_units_with sb m ps head vars outvars us)
  each_made P [] c a t = tt
  each_made P (u ∷ us) c a t = each_append P (emitted_group sb m ps head vars outvars u) (emitted_units_with sb m ps head vars outvars us) (each_in_group P u c.0 a.0 t.0) (each_made P us c.1 a.1 t.1)

  -- it holds of those that are carried, and of what is made of a unit, whatever it is
  abbrev pub OfMade : (Procedure → Type 0) → Procedure → Type 0
  OfMade P u = (k : Making) → ClearsOwn m u k → is_made m ps head u k ≡ true → P (made sb m ps (all_units m ps head) u k)

  made_adjoint : (P : Procedure → Type 0) (u : Procedure) → OfMade P u → has_adjoint m ps head u.name ≡ true → P (emitted_adjoint_with sb m ps head vars outvars u)
  made_adjoint P u f h = subst P (sym (emitted_is_made sb m ps head vars outvars u)) (f (emitted_making m head vars outvars u) (emitted_clears m head vars outvars u) (emitted_there m ps head vars outvars u ∙ h))

  of_group : (P : Procedure → Type 0) (u : Procedure) → (is_carried_with sb m ps head u.name ≡ true → P u) → OfMade P u → Each P (emitted_group sb m ps head vars outvars u)
  of_group P u c f = each_in_group P u c (made_adjoint P u f) (λ h. (f as_forth tt h, f as_back tt h))

  pub each_emitted : (P : Procedure → Type 0) (us : List Procedure) → Each (λ u. is_carried_with sb m ps head u.name ≡ true → P u) us → Each (OfMade P) us → Each P (emitted_units_with sb m ps head vars outvars us)
  each_emitted P [] c f = tt
  each_emitted P (u ∷ us) c f = each_append P (emitted_group sb m ps head vars outvars u) (emitted_units_with sb m ps head vars outvars us) (of_group P u c.0 f.0) (each_emitted P us c.1 f.1)

  pub made_name : (u : Procedure) → (emitted_adjoint_with sb m ps head vars outvars u).name ≡ adjoint_name ps u
  made_name u = ap (λ v. v.name) (emitted_is_made sb m ps head vars outvars u) ∙ emitted_named m ps head vars outvars u

  -- ---- they have names of their own

  -- a name that none of these units has
  none_has : (z : List ℕ) (us : List Procedure) → Each (λ u. name_eq z u.name ≡ false) us → has_name z (map unit_name us) ≡ false
  none_has z [] h = refl
  none_has z (u ∷ us) h = rw (h.0, none_has z us h.1) refl

  -- a name that neither the units nor those made of them have is none of those emitted
  pub not_emitted : (z : List ℕ) (us : List Procedure) → Each (λ u. (name_eq z u.name ≡ false) × ((k : Making) → is_made m ps head u k ≡ true → name_eq z (its_name ps u k) ≡ false)) us → has_name z (map unit_name (emitted_units_with sb m ps head vars outvars us)) ≡ false
  not_emitted z us h =
      none_has z (emitted us)
      (each_emitted (λ v. name_eq z v.name ≡ false) us
      (each_more (λ u. (name_eq z u.name ≡ false) × ((k : Making) → is_made m ps head u k ≡ true → name_eq z (its_name ps u k) ≡ false)) (λ u. is_carried_with sb m ps head u.name ≡ true → name_eq z u.name ≡ false) (λ u o c. o.0) us h)
      (each_more (λ u. (name_eq z u.name ≡ false) × ((k : Making) → is_made m ps head u k ≡ true → name_eq z (its_name ps u k) ≡ false)) (OfMade (λ v. name_eq z v.name ≡ false)) (λ u o k clears there. o.1 k there) us h))

  -- a unit that stands in a list is none of whose names the list hasn't
  pub others_apart : (us : List Procedure) (z : List ℕ) → has_name z (map unit_name us) ≡ false → Each (λ u. name_eq z u.name ≡ false) us
  others_apart [] z h = tt
  others_apart (u ∷ us) z h = let p = or_false (name_eq z u.name) (has_name z (map unit_name us)) h in (p.0, others_apart us z p.1)

  -- units whose names are apart, and in front of others that have none of their names
  names_after : (vs ws : List Procedure) → AreApart (map unit_name vs) → AreApart (map unit_name ws) → Each (λ v. has_name v.name (map unit_name ws) ≡ false) vs → AreApart (map unit_name (vs ++ ws))
  names_after [] ws a b n = b
  names_after (v ∷ vs) ws a b n = (has_both vs ∙ rw (a.0, n.0) refl, names_after vs ws a.1 b n.1)
    where
      has_both : (xs : List Procedure) → has_name v.name (map unit_name (xs ++ ws)) ≡ (has_name v.name (map unit_name xs) || has_name v.name (map unit_name ws))
      has_both [] = refl
      has_both (x ∷ xs) = ap (λ b. name_eq v.name x.name || b) (has_both xs) ∙ sym (or_assoc (name_eq v.name x.name) (has_name v.name (map unit_name xs)) (has_name v.name (map unit_name ws)))

  -- those of one unit
  group_apart : (u : Procedure) → is_unit ps u.name ≡ true → AreApart (map unit_name (emitted_group sb m ps head vars outvars u))
  group_apart u t =
      names_after (if is_carried_with sb m ps head u.name then u ∷ [] else []) _ (alone (is_carried_with sb m ps head u.name) u)
      (names_after (if has_adjoint m ps head u.name then emitted_adjoint_with sb m ps head vars outvars u ∷ [] else []) _ (alone (has_adjoint m ps head u.name) (emitted_adjoint_with sb m ps head vars outvars u)) (pair (has_pair m ps head u.name))
      (one_of (λ v. has_name v.name (map unit_name pairs) ≡ false) (has_adjoint m ps head u.name) (emitted_adjoint_with sb m ps head vars outvars u) (λ h. subst (λ z. has_name z (map unit_name pairs) ≡ false) (sym adjoint_named) (none_has (its_name ps u (as_adjoint [] [])) pairs (of_pair (its_name ps u (as_adjoint [] [])) (adj_fwd ps u.name u.name t t) (adj_bwd ps u.name u.name t t))))))
      (one_of (λ v. has_name v.name (map unit_name (adjoints ++ pairs)) ≡ false) (is_carried_with sb m ps head u.name) u (λ h. none_has u.name (adjoints ++ pairs) (each_append (λ v. name_eq u.name v.name ≡ false) adjoints pairs
      (one_of (λ v. name_eq u.name v.name ≡ false) (has_adjoint m ps head u.name) (emitted_adjoint_with sb m ps head vars outvars u) (λ g. ap (name_eq u.name) adjoint_named ∙ its_no_unit ps u.name u (as_adjoint [] []) t t)) (of_pair u.name (its_no_unit ps u.name u as_forth t t) (its_no_unit ps u.name u as_back t t)))))
    where
      adjoints : List Procedure
      adjoints = if has_adjoint m ps head u.name then emitted_adjoint_with sb m ps head vars outvars u ∷ [] else []

      pairs : List Procedure
      pairs = if has_pair m ps head u.name then forth_unit sb m ps (all_units m ps head) u ∷ back_unit sb m ps (all_units m ps head) u ∷ [] else []

      adjoint_named : (emitted_adjoint_with sb m ps head vars outvars u).name ≡ its_name ps u (as_adjoint [] [])
      adjoint_named = made_name u

      alone : (b : Bool) (v : Procedure) → AreApart (map unit_name (if b then v ∷ [] else []))
      alone true v = (refl, tt)
      alone false v = tt

      pair : (b : Bool) → AreApart (map unit_name (if b then forth_unit sb m ps (all_units m ps head) u ∷ back_unit sb m ps (all_units m ps head) u ∷ [] else []))
      pair true = (rw (fwd_bwd ps u.name u.name t t) refl, (refl, tt))
      pair false = tt

      of_pair : (z : List ℕ) → name_eq z (its_name ps u as_forth) ≡ false → name_eq z (its_name ps u as_back) ≡ false → Each (λ v. name_eq z v.name ≡ false) (if has_pair m ps head u.name then forth_unit sb m ps (all_units m ps head) u ∷ back_unit sb m ps (all_units m ps head) u ∷ [] else [])
      of_pair z f b = two_of (λ v. name_eq z v.name ≡ false) (has_pair m ps head u.name) (forth_unit sb m ps (all_units m ps head) u) (back_unit sb m ps (all_units m ps head) u) (λ h. (f, b))

  pub emitted_apart : (us : List Procedure) → AreApart (map unit_name us) → Each (λ u. is_unit ps u.name ≡ true) us → AreApart (map unit_name (emitted_units_with sb m ps head vars outvars us))
  emitted_apart [] a t = tt
  emitted_apart (u ∷ us) a t =
      names_after (emitted_group sb m ps head vars outvars u) (emitted us) (group_apart u t.0) (emitted_apart us a.1 t.1)
      (of_group (λ v. has_name v.name (map unit_name (emitted us)) ≡ false) u (λ c. own_free) (λ k clears there. its_free k))
    where
      other : Each (λ v. (name_eq u.name v.name ≡ false) × (is_unit ps v.name ≡ true)) us
      other = each_both (λ v. name_eq u.name v.name ≡ false) (λ v. is_unit ps v.name ≡ true) us (others_apart us u.name a.0) t.1

      -- neither its name nor one that is made of it is among the others
      own_free : has_name u.name (map unit_name (emitted us)) ≡ false
      own_free =
          not_emitted u.name us
          (each_more (λ v. (name_eq u.name v.name ≡ false) × (is_unit ps v.name ≡ true)) (λ v. (name_eq u.name v.name ≡ false) × ((k : Making) → is_made m ps head v k ≡ true → name_eq u.name (its_name ps v k) ≡ false)) (λ v o. (o.0, λ k h. its_no_unit ps u.name v k t.0 o.1)) us other)

      its_free : (k : Making) → has_name (its_name ps u k) (map unit_name (emitted us)) ≡ false
      its_free k =
          not_emitted (its_name ps u k) us
          (each_more (λ v. (name_eq u.name v.name ≡ false) × (is_unit ps v.name ≡ true)) (λ v. (name_eq (its_name ps u k) v.name ≡ false) × ((l : Making) → is_made m ps head v l ≡ true → name_eq (its_name ps u k) (its_name ps v l) ≡ false))
          (λ v o. (name_comm v.name (its_name ps u k) (its_no_unit ps v.name u k o.1 t.0), λ l h. others_made_apart ps u v t.0 o.1 o.0 k l)) us other)

-- ---- no fault of units

module _ (rules : Rules) (ps : List Procedure) (checked : IsChecked rules ps) where
  none : HasNone rules ps
  none = sound_has_none rules ps checked.sound

  pub units_apart : AreApart (map unit_name ps)
  units_apart = subst AreApart (unit_names ps) (apart_places 19 [] (unit_places ps) (none_behind (reserved_units ps) (repeated_units ps) none.units))

  -- no unit's name is reserved
  pub all_free : Each (λ u. is_reserved u.name ≡ false) ps
  all_free = of_units ps (none_each (λ (p : At (List ℕ)). faults_if (is_reserved p.1) (fault 18 p.0)) (unit_places ps) (none_front (reserved_units ps) (repeated_units ps) none.units))
    where
      of_units : (us : List Procedure) → Each (λ (p : At (List ℕ)). faults_if (is_reserved p.1) (fault 18 p.0) ≡ []) (unit_places us) → Each (λ u. is_reserved u.name ≡ false) us
      of_units [] h = tt
      of_units (u ∷ us) h = (none_if (is_reserved u.name) (fault 18 u.line) h.0, of_units us h.1)

  emitted_none : (sb : Bool) (m : ProgramMarks) (head : Procedure) (vars outvars : List Bool) → unit_faults (emitted_units_with sb m ps head vars outvars ps) ≡ []
  emitted_none sb m head vars outvars = λ i. free i ++ apart i
    where
      names_free : (us : List Procedure) → Each (λ u. is_reserved u.name ≡ false) us → Each (λ (p : At (List ℕ)). faults_if (is_reserved p.1) (fault 18 p.0) ≡ []) (unit_places us)
      names_free [] h = tt
      names_free (u ∷ us) h = (if_none (is_reserved u.name) (fault 18 u.line) h.0, names_free us h.1)

      made_free : (us : List Procedure) → Each (λ u. is_unit ps u.name ≡ true) us → Each (OfMade sb m ps head vars outvars (λ v. is_reserved v.name ≡ false)) us
      made_free [] t = tt
      made_free (u ∷ us) t = (λ k clears there. made_unreserved (its_name ps u k) (its_named ps u k (all_named rules ps checked) t.0), made_free us t.1)

      free : reserved_units (emitted_units_with sb m ps head vars outvars ps) ≡ []
      free =
          flat_none (λ (p : At (List ℕ)). faults_if (is_reserved p.1) (fault 18 p.0)) (unit_places (emitted_units_with sb m ps head vars outvars ps))
          (names_free (emitted_units_with sb m ps head vars outvars ps) (each_emitted sb m ps head vars outvars (λ u. is_reserved u.name ≡ false) ps (each_more (λ u. is_reserved u.name ≡ false) (λ u. is_carried_with sb m ps head u.name ≡ true → is_reserved u.name ≡ false) (λ u f h. f) ps all_free) (made_free ps (each_there ps))))

      none_before : (qs : List (At (List ℕ))) → Each (λ (p : At (List ℕ)). has_name p.1 [] ≡ false) qs
      none_before [] = tt
      none_before (q ∷ qs) = (refl, none_before qs)

      apart : repeated_units (emitted_units_with sb m ps head vars outvars ps) ≡ []
      apart =
          again_none 19 [] (unit_places (emitted_units_with sb m ps head vars outvars ps))
          (subst AreApart (sym (unit_names (emitted_units_with sb m ps head vars outvars ps))) (emitted_apart sb m ps head vars outvars ps units_apart (each_there ps))) (none_before (unit_places (emitted_units_with sb m ps head vars outvars ps)))

pub units_have_none : UnitsHaveNone
units_have_none rules ps checked sb m head vars outvars = go (unit_at head ps)
  where
    go : (us : List Procedure) → unit_faults (emitted_for_with sb m ps vars outvars us) ≡ []
    go [] = refl
    go (u ∷ us) = emitted_none rules ps checked sb m u vars outvars
