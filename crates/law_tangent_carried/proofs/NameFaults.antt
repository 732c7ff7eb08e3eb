-- What is emitted has no faults of names.
use Rattle.std.proofs.Common.{◌≡◌, ℕ, Bool, true, false, List, [], ◌∷◌, map, refl, sym, ◌∙◌, if◌then◌else◌}
use Rattle.std.specs.Prelude.{◌||◌, flat_map, is_some}
use Rattle.adj_tree.specs.Code.{name_eq, Procedure}
use Rattle.def_meaning.specs.Apart.{has_name}
use Rattle.def_meaning.specs.Written.{find_unit}
use Rattle.def_names.specs.Numbers.{Vars}
use Rattle.def_names.specs.Reserved.{is_reserved}
use Rattle.def_names.specs.Statements.{At}
use Rattle.def_names.specs.Variables.{places, variables}
use Rattle.def_names.specs.Fault.{Rules, run_rules, fault, faults_if}
use Rattle.def_names.specs.NameFaults.{undeclared, declared_twice, misused, bad_extents, reserved_variables, runtime_calls, too_many_variables, faults_of_names, name_faults}
use Rattle.def_names.proofs.Lists.{names_at}
use Rattle.def_names.proofs.NameLists.{has-append}
use Rattle.def_names.proofs.Variables.{or_false, has_apart}
use Rattle.def_flow.specs.Problem.{Problem}
use Rattle.def_sweep.specs.Declared.{unit_name, unit_at}
use Rattle.law_sweep.specs.Source.{is_unit}
use Rattle.law_sweep.proofs.Variables.{variables_stand}
use Rattle.def_tangent.specs.Program.{Carried, tangent_name, plan_in, has_tangent, stays, made_names, emitted_units}
use Rattle.def_flow.specs.Carried.{IsCarrying, carried_by}
use Rattle.law_emitted.specs.Checked.{IsChecked}
use Rattle.law_emitted.proofs.Lists.{Each, each_more, each_both}
use Rattle.law_emitted.proofs.Callings.{Found}
use Rattle.law_emitted.proofs.Over.{Any}
use Rattle.law_emitted.proofs.Tables.{IsFree}
use Rattle.law_emitted.proofs.Sources.{each_name, of_each, UnitSound, each_there}
use Rattle.law_emitted.proofs.UnitFaults.{flat_none, if_none}
use Rattle.law_emitted.proofs.NameFaults.{NamesSound, all_names_sound, not_there, in_flat, runtime_allowed, none_of_seven}
use Rattle.law_emitted.proofs.CallFaults.{all_there}
use Rattle.law_tangent_carried.specs.Emitted.{NamesHaveNone}
use Rattle.law_tangent_carried.proofs.Forming.{Takes}
use Rattle.law_tangent_carried.proofs.Written.{takes_any}
use Rattle.law_tangent_carried.proofs.EmittedUnits.{for_head, tangent_free, all_units, tangent_of, each_emitted, unlike, not_emitted}
use Rattle.law_tangent_carried.proofs.MadeTangents as made

-- ---- the emitted program

module _ (c : Carried) (ps : List Procedure) (head : Procedure) (vars : List Bool) where
  abbrev qs : List Procedure
  qs = emitted_units c ps head vars ps

  -- a name that is neither reserved nor that of an emitted unit
  abbrev IsApart : List ℕ → Type 0
  IsApart x = (is_reserved x ≡ false) × (has_name x (map unit_name qs) ≡ false)

  -- such is a variable of the source that no unit of the source has as its name
  own_apart : (x : List ℕ) → is_reserved x ≡ false → has_name x (map unit_name ps) ≡ false → has_name x (flat_map variables ps) ≡ true → IsApart x
  own_apart x r h k = (r, not_emitted c ps head vars x ps (go ps (unlike c ps head vars ps x h) (each_there ps)))
    where
      go : (us : List Procedure) → Each (λ u. name_eq x u.name ≡ false) us → Each (λ u. is_unit ps u.name ≡ true) us → Each (λ u. (name_eq x u.name ≡ false) × (has_tangent c ps head.name u.name ≡ true → name_eq x (tangent_name ps u.name) ≡ false)) us
      go [] n t = tt
      go (v ∷ us) n t = ((n.0, λ e. has_apart x (tangent_name ps v.name) (flat_map variables ps) k (tangent_free ps v.name t.0).1), go us n.1 t.1)

  -- and so is a name that was made
  made_apart : (z : List ℕ) → is_reserved z ≡ false → has_name z (all_units c ps head vars) ≡ false → IsApart z
  made_apart z r h =
      let both = or_false (has_name z (map unit_name ps)) (has_name z (made_names c ps head.name ps)) (sym (has-append z (map unit_name ps) (made_names c ps head.name ps)) ∙ h) in
      (r, not_emitted c ps head vars z ps (go ps (unlike c ps head vars ps z both.0) both.1))
    where
      go : (us : List Procedure) → Each (λ u. name_eq z u.name ≡ false) us → has_name z (made_names c ps head.name us) ≡ false → Each (λ u. (name_eq z u.name ≡ false) × (has_tangent c ps head.name u.name ≡ true → name_eq z (tangent_name ps u.name) ≡ false)) us
      go [] n k = tt
      go (v ∷ us) n k = ((n.0, λ e. here (has_tangent c ps head.name v.name) e k), go us n.1 (rest (has_tangent c ps head.name v.name) k))
        where
          here : (b : Bool) → b ≡ true → has_name z (if b then tangent_name ps v.name ∷ made_names c ps head.name us else made_names c ps head.name us) ≡ false → name_eq z (tangent_name ps v.name) ≡ false
          here true e k = (or_false (name_eq z (tangent_name ps v.name)) (has_name z (made_names c ps head.name us)) k).0
          here false e k = absurd cc

          rest : (b : Bool) → has_name z (if b then tangent_name ps v.name ∷ made_names c ps head.name us else made_names c ps head.name us) ≡ false → has_name z (made_names c ps head.name us) ≡ false
          rest true k = (or_false (name_eq z (tangent_name ps v.name)) (has_name z (made_names c ps head.name us)) k).1
          rest false k = k

  -- ---- no faults of names

  -- where the names at all places are neither reserved nor those of units
  unreserved_places : (u : Procedure) → Each (λ (p : At (List ℕ)). IsApart p.1) (places u) → reserved_variables qs u ≡ []
  unreserved_places u h =
      flat_none (λ (p : At (List ℕ)). faults_if (is_reserved p.1 || is_some (find_unit qs p.1)) (fault 18 p.0)) (places u)
      (each_more (λ (p : At (List ℕ)). IsApart p.1) (λ p. faults_if (is_reserved p.1 || is_some (find_unit qs p.1)) (fault 18 p.0) ≡ []) (λ p k. if_none (is_reserved p.1 || is_some (find_unit qs p.1)) (fault 18 p.0) (rw (k.0, not_there qs p.1 k.1) refl)) (places u) h)

  module _ (u : Procedure) (s : UnitSound ps u) (n : NamesSound ps u) (inside : (x : List ℕ) → has_name x (variables u) ≡ true → has_name x (flat_map variables ps) ≡ true) where
    variable_apart : (x : List ℕ) → has_name x (variables u) ≡ true → IsApart x
    variable_apart x h = own_apart x (of_each IsFree (variables u) s.free x h).1 (n.no_unit x h) (inside x h)

    -- the places of a unit have its variables
    own_places : Each (λ (p : At (List ℕ)). IsApart p.1) (places u)
    own_places = go (places u) (each_name IsApart (names_at (places u)) (λ x h. variable_apart x (variables_stand u x ∙ h)))
      where
        go : (l : List (At (List ℕ))) → Each IsApart (names_at l) → Each (λ (p : At (List ℕ)). IsApart p.1) l
        go [] h = tt
        go (p ∷ l) h = (h.0, go l h.1)

    -- a unit that stays
    plain_none : faults_of_names run_rules qs u ≡ []
    plain_none =
        none_of_seven (undeclared u) (declared_twice u) (misused run_rules u) (bad_extents u) (reserved_variables qs u) (runtime_calls run_rules u) (too_many_variables run_rules u)
        n.no_undeclared n.no_twice n.no_misused n.no_bad_extents (unreserved_places u own_places) (runtime_allowed u) refl

    -- and the tangent of one
    tangent_none : Takes Any (plan_in c ps u.name) u.body → faults_of_names run_rules qs (tangent_of c ps head vars u) ≡ []
    tangent_none takes =
        let v = tangent_of c ps head vars u in
        none_of_seven (undeclared v) (declared_twice v) (misused run_rules v) (bad_extents v) (reserved_variables qs v) (runtime_calls run_rules v) (too_many_variables run_rules v)
        (made.no_undeclared c ps head vars u s n takes) (made.no_twice c ps head vars u s n) (made.no_misused c ps head vars u s n takes) (made.no_bad_extents c ps head vars u s n)
        (unreserved_places v (made.each_place c ps head vars u s n takes IsApart variable_apart (λ z free k. made_apart z free.1 k))) (runtime_allowed v) refl

-- ---- the law

module _ (rules : Rules) (k : Problem) (checked : IsChecked rules k.units) (f on : ℕ → Vars) (is : IsCarrying k f on) (top : Procedure) (at : unit_at k.head k.units ≡ top ∷ []) where
  abbrev its : Carried
  its = carried_by k.units on

  -- what is known of each unit
  abbrev IsKnown : Procedure → Type 0
  IsKnown u = Found k.units u × ((UnitSound k.units u × NamesSound k.units u) × ((x : List ℕ) → has_name x (variables u) ≡ true → has_name x (flat_map variables k.units) ≡ true))

  all_known : Each IsKnown k.units
  all_known = each_both (Found k.units) _ k.units (all_there rules k.units checked) (each_both (λ u. UnitSound k.units u × NamesSound k.units u) _ k.units (all_names_sound rules k.units checked) (in_flat variables k.units))

  emitted_none : name_faults run_rules (emitted_units its k.units top k.vars k.units) ≡ []
  emitted_none =
      flat_none (faults_of_names run_rules (emitted_units its k.units top k.vars k.units)) (emitted_units its k.units top k.vars k.units)
      (each_emitted its k.units top k.vars (λ u. faults_of_names run_rules (emitted_units its k.units top k.vars k.units) u ≡ []) k.units
      (each_more IsKnown (λ u. stays its k.units top.name u.name ≡ true → faults_of_names run_rules (emitted_units its k.units top k.vars k.units) u ≡ []) (λ u i h. plain_none its k.units top k.vars u i.1.0.0 i.1.0.1 i.1.1) k.units all_known)
      (each_more IsKnown (λ u. has_tangent its k.units top.name u.name ≡ true → faults_of_names run_rules (emitted_units its k.units top k.vars k.units) (tangent_of its k.units top k.vars u) ≡ [])
      (λ u i h. tangent_none its k.units top k.vars u i.1.0.0 i.1.0.1 i.1.1 (takes_any rules k checked f on is top at u i.0 i.1.0.0 h)) k.units all_known))

pub names_have_none : NamesHaveNone
names_have_none rules k checked f on is = for_head (λ qs. name_faults run_rules qs ≡ []) (carried_by k.units on) k.units k.head k.vars refl (λ u at. emitted_none rules k checked f on is u at)
