-- What a checked program has of each of its units.
use Rattle.std.proofs.Common.{◌≡◌, ℕ, Bool, true, false, List, [], ◌∷◌, refl, sym, ◌∙◌, subst}
use Rattle.std.specs.Prelude.{◌||◌, flat_map, is_some}
use Rattle.adj_tree.specs.Code.{name_eq, Procedure}
use Rattle.adj_tree.proofs.Names.{name_refl, name_same}
use Rattle.def_text.specs.Written.{IsName, IsWrittenProcedure}
use Rattle.def_meaning.specs.Written.{find_unit}
use Rattle.def_names.specs.Reserved.{is_reserved, reserved}
use Rattle.def_names.specs.Statements.{At, statements}
use Rattle.def_names.specs.Variables.{places, variables}
use Rattle.def_names.specs.Fault.{Rules, fault, faults_if}
use Rattle.def_names.specs.NameFaults.{undeclared, declared_twice, misused, bad_extents, reserved_variables, faults_of_names}
use Rattle.def_names.specs.CallFaults.{faults_of_call}
use Rattle.def_names.specs.Laws.{HasNone}
use Rattle.def_names.proofs.Sound.{sound_has_none}
use Rattle.def_names.proofs.Lists.{names_at}
use Rattle.def_kernel.specs.Form.{IsKernelCode}
use Rattle.def_meaning.specs.Apart.{has_name}
use Rattle.def_names.proofs.Variables.{or_false, or_left, or_right}
use Rattle.law_sweep.specs.Source.{is_unit}
use Rattle.law_sweep.proofs.Variables.{variables_stand}
use Rattle.law_emitted.specs.Checked.{IsChecked}
use Rattle.law_emitted.proofs.Lists.{Each, each_more, each_all, each_unit, none_each}
use Rattle.def_names.proofs.Faultless.{none_front, none_behind, none_if}
use Rattle.law_emitted.proofs.Statements.{CallHasNone}
use Rattle.law_emitted.proofs.Names.{variable_named}
use Rattle.law_emitted.proofs.Tables.{IsFree}

-- what holds of each name of a list
pub each_name : (P : List ℕ → Type 0) (xs : List (List ℕ)) → ((x : List ℕ) → has_name x xs ≡ true → P x) → Each P xs
each_name P [] f = tt
each_name P (x ∷ xs) f = (f x (or_left (name_eq x x) (has_name x xs) (name_refl x)), each_name P xs (λ y h. f y (or_right (name_eq y x) (has_name y xs) h)))

pub of_each : (P : List ℕ → Type 0) (xs : List (List ℕ)) → Each P xs → (x : List ℕ) → has_name x xs ≡ true → P x
of_each P [] e x h = absurd cc
of_each P (y ∷ xs) e x h = go (name_eq x y) refl h (of_each P xs e.1 x)
  where
    go : (b : Bool) → name_eq x y ≡ b → (b || has_name x xs) ≡ true → (has_name x xs ≡ true → P x) → P x
    go true d h ih = subst P (sym (name_same x y d)) e.0
    go false d h ih = ih h

-- each unit of a list stands in it
pub each_there : (us : List Procedure) → Each (λ u. is_unit us u.name ≡ true) us
each_there [] = tt
each_there (u ∷ us) = (or_left (name_eq u.name u.name) (is_unit us u.name) (name_refl u.name), each_more (λ v. is_unit us v.name ≡ true) (λ v. is_unit (u ∷ us) v.name ≡ true) (λ v h. or_right (name_eq u.name v.name) (is_unit us v.name) h) us (each_there us))

-- ---- what a checked program has of each of its units

-- what is asked of a unit, so that its adjoint is written
pub record UnitSound (ps : List Procedure) (u : Procedure) : Type 0 where
  pub written : IsWrittenProcedure u
  pub kernel : IsKernelCode u.body
  pub free : Each IsFree (variables u)
  pub calls : Each (CallHasNone ps u) (statements u.body)
  pub there : is_unit ps u.name ≡ true

module _ (rules : Rules) (ps : List Procedure) (checked : IsChecked rules ps) where
  none : HasNone rules ps
  none = sound_has_none rules ps checked.sound

  all_written : Each IsWrittenProcedure ps
  all_written = each_all IsWrittenProcedure ps checked.written

  pub all_named : Each (λ u. IsName u.name) ps
  all_named = each_more IsWrittenProcedure (λ u. IsName u.name) (λ u w. w.named) ps all_written

  pub all_calls : Each (λ u. Each (CallHasNone ps u) (statements u.body)) ps
  all_calls =
      each_more (λ u. flat_map (λ s. faults_of_call ps u s.0 s.1) (statements u.body) ≡ []) (λ u. Each (CallHasNone ps u) (statements u.body)) (λ u h. none_each (λ s. faults_of_call ps u s.0 s.1) (statements u.body) h) ps
      (none_each (λ u. flat_map (λ s. faults_of_call ps u s.0 s.1) (statements u.body)) ps none.calls)

  -- no variable has a reserved name
  unreserved : (u : Procedure) → faults_of_names rules ps u ≡ [] → (x : List ℕ) → has_name x (variables u) ≡ true → has_name x reserved ≡ false
  unreserved u h x k = of_each (λ y. has_name y reserved ≡ false) (names_at (places u)) (named_places (places u) each) x (sym (variables_stand u x) ∙ k)
    where
      of_places : reserved_variables ps u ≡ []
      of_places = none_front (reserved_variables ps u) _ (none_behind (bad_extents u) _ (none_behind (misused rules u) _ (none_behind (declared_twice u) _ (none_behind (undeclared u) _ h))))

      each : Each (λ (p : At (List ℕ)). has_name p.1 reserved ≡ false) (places u)
      each =
          each_more (λ (p : At (List ℕ)). faults_if (is_reserved p.1 || is_some (find_unit ps p.1)) (fault 18 p.0) ≡ []) (λ p. has_name p.1 reserved ≡ false)
          (λ p e. (or_false (is_reserved p.1) (is_some (find_unit ps p.1)) (none_if (is_reserved p.1 || is_some (find_unit ps p.1)) (fault 18 p.0) e)).0) (places u)
          (none_each (λ (p : At (List ℕ)). faults_if (is_reserved p.1 || is_some (find_unit ps p.1)) (fault 18 p.0)) (places u) of_places)

      named_places : (qs : List (At (List ℕ))) → Each (λ (p : At (List ℕ)). has_name p.1 reserved ≡ false) qs → Each (λ y. has_name y reserved ≡ false) (names_at qs)
      named_places [] e = tt
      named_places (q ∷ qs) e = (e.0, named_places qs e.1)

  unit_sound : (u : Procedure) → IsWrittenProcedure u → IsKernelCode u.body → faults_of_names rules ps u ≡ [] → Each (CallHasNone ps u) (statements u.body) → is_unit ps u.name ≡ true → UnitSound ps u
  unit_sound u w k n c t = record {
    written = w;
    kernel = k;
    free = each_name IsFree (variables u) (λ x h. (variable_named u w x h, unreserved u n x h));
    calls = c;
    there = t;
  }

  pub all_sound : Each (UnitSound ps) ps
  all_sound = go ps all_written (each_unit (λ u. IsKernelCode u.body) ps checked.kernel) (none_each (faults_of_names rules ps) ps none.names) all_calls (each_there ps)
    where
      go : (us : List Procedure) → Each IsWrittenProcedure us → Each (λ u. IsKernelCode u.body) us → Each (λ u. faults_of_names rules ps u ≡ []) us → Each (λ u. Each (CallHasNone ps u) (statements u.body)) us → Each (λ u. is_unit ps u.name ≡ true) us → Each (UnitSound ps) us
      go [] w k n c t = tt
      go (u ∷ us) w k n c t = (unit_sound u w.0 k.0 n.0 c.0 t.0, go us w.1 k.1 n.1 c.1 t.1)
