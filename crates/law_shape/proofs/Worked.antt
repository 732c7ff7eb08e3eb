-- The program that squares twice: what is emitted for it has the shape that its marks say, and other forms haven't.
use Rattle.std.proofs.Common.{◌≡◌, Bool, true, false, List, [], ◌∷◌, ◌++◌, map, refl, sym, ap, ◌∙◌, subst, length, codes, if◌then◌else◌}
use Rattle.std.specs.Prelude.{◌==◌, ◌&&◌, Some, None}
use Rattle.adj_tree.specs.Code.{plain, name_eq, var_eq, Code, stop, Procedure}
use Rattle.adj_tree.specs.Lines.{unlined_code, unlined_procedure}
use Rattle.def_meaning.specs.Append.{◌+++◌}
use Rattle.def_meaning.proofs.Appends.{append-stop}
use Rattle.def_meaning.specs.Written.{find_unit}
use Rattle.def_meaning.specs.Apart.{has_name}
use Rattle.def_sweep.specs.Declared.{unit_name}
use Rattle.def_sweep.specs.Marking.{full_marks}
use Rattle.def_sweep.specs.Program.{emitted_program}
use Rattle.def_adjoint.specs.Shape.{gathered, is_own, is_shadow, pushed, is_sparing, is_called, done_list, deeds, IsAdjointUnit, HasShape}
use Rattle.law_shape.specs.Worked.{X, squared, pushes, fourth_power, sparing, all_at, turned_back, adjoint_with, emitted, pushing_more, pushing_helpers, twice_forward, all_kept, keeping_all}
use Rattle.law_shape.proofs.Cuts.{none_cut, cut_not}

abbrev ps : List Procedure
ps = fourth_power ∷ []

-- ---- what is emitted

pub emitted_so : emitted_program sparing (fourth_power ∷ []) 0 (true ∷ []) (true ∷ []) ≡ emitted
emitted_so = refl

either_none : {A : Type 0} (b : Bool) (xs : List A) → xs ≡ [] → (if b then [] else xs) ≡ []
either_none true xs h = refl
either_none false xs h = h

unit_shaped : IsAdjointUnit false sparing (fourth_power ∷ []) fourth_power (true ∷ []) (true ∷ []) fourth_power (unlined_procedure (adjoint_with (all_at 3 (pushes X ∷ squared ∷ []) turned_back)))
unit_shaped = record {
  name = refl;
  dummies = refl;
  scalars = λ v a b.
      either_none (var_eq v (plain (codes "X"))) _
      (either_none (var_eq v (plain (codes "XB"))) _ (either_none (var_eq v (plain (codes "ADW1"))) _ (either_none (var_eq v (plain (codes "ADW2"))) [] refl)));
  forth = all_at 0 (pushes X ∷ squared ∷ []) stop;
  back = unlined_code turned_back;
  body = refl;
  forward = record { keeps = refl; spares = refl; pushes_alone = refl; saves = refl; sparing = refl };
  backward = record { reverses = refl; assigns = refl };
}

pub emitted_shaped : HasShape false sparing (fourth_power ∷ []) fourth_power (true ∷ []) (true ∷ []) emitted
emitted_shaped = record {
  made = λ u. unlined_procedure (adjoint_with (all_at 3 (pushes X ∷ squared ∷ []) turned_back));
  forth = λ u. u;
  back = λ u. u;
  units = refl;
  adjoints = λ u f a. go u (name_eq (codes "P") u.name) f;
  pairs = λ u f a. absurd (let z : false ≡ true = a in cc);
}
  where
    go : (u : Procedure) (b : Bool) → (if b then Some fourth_power else find_unit [] u.name) ≡ Some u → IsAdjointUnit false sparing (fourth_power ∷ []) fourth_power (true ∷ []) (true ∷ []) u (unlined_procedure (adjoint_with (all_at 3 (pushes X ∷ squared ∷ []) turned_back)))
    go u true f = let same : fourth_power ≡ u = cc in subst (λ v. IsAdjointUnit false sparing (fourth_power ∷ []) fourth_power (true ∷ []) (true ∷ []) v (unlined_procedure (adjoint_with (all_at 3 (pushes X ∷ squared ∷ []) turned_back)))) same unit_shaped
    go u false f = absurd cc

-- ---- other forms

abbrev first_unit : List Procedure → Procedure
first_unit [] = fourth_power
first_unit (a ∷ others) = a

abbrev is_none : {X : Type 0} → List X → Bool
is_none [] = true
is_none (x ∷ xs) = false

-- a forward sweep that pushes once and no helper, and a backward sweep that doesn't push
abbrev pushes_so : Code → Code → Bool
pushes_so c d =
    is_sparing (is_own fourth_power) (is_shadow sparing (fourth_power ∷ []) fourth_power fourth_power) false 0 c
    && ((length (gathered (pushed (is_own fourth_power)) c) == 1) && is_none (done_list (deeds (is_own fourth_power) (λ x. has_name x (map unit_name (fourth_power ∷ [])))) None 0 d))

-- of a program of one unit that has the shape the unit is the adjoint unit
module _ (body : Code) (called_none : is_called (unlined_procedure (adjoint_with body) ∷ []) (codes "P") ≡ false) where
  only_unit : HasShape false sparing (fourth_power ∷ []) fourth_power (true ∷ []) (true ∷ []) (adjoint_with body ∷ []) → IsAdjointUnit false sparing (fourth_power ∷ []) fourth_power (true ∷ []) (true ∷ []) fourth_power (unlined_procedure (adjoint_with body))
  only_unit x =
      let units : unlined_procedure (adjoint_with body) ∷ [] ≡ x.made fourth_power ∷ [] = x.units ∙ ap (λ b. ((if b then unlined_procedure fourth_power ∷ [] else []) ++ (x.made fourth_power ∷ [])) ++ []) called_none in
      let same : x.made fourth_power ≡ unlined_procedure (adjoint_with body) = sym (ap first_unit units) in
      subst (λ a. IsAdjointUnit false sparing (fourth_power ∷ []) fourth_power (true ∷ []) (true ∷ []) fourth_power a) same (x.adjoints fourth_power refl refl)

  -- so a cut of its body in two sweeps pushes so
  not_shaped : none_cut pushes_so stop (unlined_code body) ≡ true → HasShape false sparing (fourth_power ∷ []) fourth_power (true ∷ []) (true ∷ []) (adjoint_with body ∷ []) → ⊥
  not_shaped h x =
      let s = only_unit x in
      let cut : unlined_code body ≡ s.forth +++ s.back = s.body ∙ ap (λ c. s.forth +++ c) (append-stop s.back) in
      let yes : pushes_so s.forth s.back ≡ true = λ j. s.forward.sparing j && ((length (s.forward.saves j) == 1) && is_none (s.backward.reverses j)) in
      let no : pushes_so s.forth s.back ≡ false = cut_not pushes_so stop s.forth s.back (ap (none_cut pushes_so stop) (sym cut) ∙ h) in
      let z : true ≡ false = sym yes ∙ no in
      cc

pub not_pushing_more : HasShape false sparing (fourth_power ∷ []) fourth_power (true ∷ []) (true ∷ []) pushing_more → ⊥
not_pushing_more = not_shaped (all_at 3 (pushes X ∷ pushes X ∷ squared ∷ []) turned_back) refl refl

pub not_pushing_helpers : HasShape false sparing (fourth_power ∷ []) fourth_power (true ∷ []) (true ∷ []) pushing_helpers → ⊥
not_pushing_helpers = not_shaped (all_at 3 (pushes (codes "ADW1") ∷ pushes X ∷ squared ∷ []) turned_back) refl refl

pub not_twice_forward : HasShape false sparing (fourth_power ∷ []) fourth_power (true ∷ []) (true ∷ []) twice_forward → ⊥
not_twice_forward = not_shaped (all_at 3 (pushes X ∷ squared ∷ pushes X ∷ squared ∷ []) turned_back) refl refl

pub not_all_kept : HasShape false sparing (fourth_power ∷ []) fourth_power (true ∷ []) (true ∷ []) keeping_all → ⊥
not_all_kept = not_shaped all_kept refl refl

pub all_kept_so : emitted_program full_marks (fourth_power ∷ []) 0 (true ∷ []) (true ∷ []) ≡ keeping_all
all_kept_so = refl
