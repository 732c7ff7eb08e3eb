-- What is emitted hands no variable to a unit twice, and nothing but names.
use Rattle.std.proofs.Common.{◌≡◌, refl, ℕ, Bool, true, List, [], ◌∷◌, ◌++◌}
use Rattle.std.specs.Prelude.{flat_map}
use Rattle.adj_tree.specs.Code.{Procedure}
use Rattle.def_meaning.specs.Append.{◌+++◌}
use Rattle.def_meaning.specs.LeastSet.{Dummies}
use Rattle.def_text.specs.Written.{IsWrittenCode, IsWrittenProcedure}
use Rattle.def_names.specs.Fault.{Rules}
use Rattle.def_names.specs.WriteFaults.{shared_variables, written_values}
use Rattle.def_sweep.specs.Declared.{unit_at}
use Rattle.def_sweep.specs.Marking.{arrays_of}
use Rattle.def_sweep.specs.Naming.{naming}
use Rattle.def_tangent.specs.Forward.{tangents}
use Rattle.def_tangent.specs.Program.{Carried, plan_in, cleared, names_of_unit, has_tangent, stays, emitted_units}
use Rattle.def_flow.specs.Carried.{carried_by}
use Rattle.law_kernel.proofs.Holding.{holds_join}
use Rattle.law_emitted.specs.Checked.{IsChecked}
use Rattle.law_emitted.proofs.Lists.{Each, each_more, each_both}
use Rattle.law_emitted.proofs.Callings.{Found}
use Rattle.law_emitted.proofs.CallFaults.{all_there}
use Rattle.law_emitted.proofs.Premises.{checked_fits}
use Rattle.law_emitted.proofs.Sources.{UnitSound, all_sound}
use Rattle.law_emitted.proofs.UnitFaults.{flat_none}
use Rattle.law_tangent_carried.specs.Emitted.{ActualsHaveNone}
use Rattle.law_tangent_carried.proofs.EmittedUnits.{all_units, at_first, tangent_of, each_emitted, for_head}
use Rattle.law_emitted.proofs.PlainTexts.{AreText, text_code}
use Rattle.law_emitted.proofs.DistinctActuals.{IsDistinct, body_clean, renamed_distinct, text_distinct}
use Rattle.law_tangent_carried.proofs.Actuals.{tangent_distinct, cleared_distinct}
use Rattle.law_tangent_carried.proofs.TangentNames.{IsOrderly, tangent_apart}

-- a unit of the source in kernel form
abbrev pub IsOwn : Procedure → Type 0
IsOwn u = AreText u.body × IsOrderly u

module _ (handed : Dummies) (c : Carried) (ps : List Procedure) (head : Procedure) (vars : List Bool) where
  -- no fault of actuals
  abbrev HasNone : Procedure → Type 0
  HasNone v = shared_variables handed v ++ written_values handed v ≡ []

  still_clean : (u : Procedure) → IsOwn u → HasNone u
  still_clean u own = body_clean handed u (text_distinct u.body own.0)

  tangent_clean : (u : Procedure) → IsOwn u → HasNone (tangent_of c ps head vars u)
  tangent_clean u own =
      body_clean handed (tangent_of c ps head vars u)
      (renamed_distinct (naming (names_of_unit (c u.name) (all_units c ps head vars) u)) (tangent_apart c ps (all_units c ps head vars) u own.1) (cleared (arrays_of u) u.line (at_first c ps head vars u) +++ tangents (plan_in c ps u.name) u.body)
      (holds_join (λ line a. IsDistinct a) (cleared (arrays_of u) u.line (at_first c ps head vars u)) (tangents (plan_in c ps u.name) u.body) (cleared_distinct (arrays_of u) u.line (at_first c ps head vars u)) (tangent_distinct (plan_in c ps u.name) u.body own.0)))

  pub emitted_clean : Each IsOwn ps → Each HasNone (emitted_units c ps head vars ps)
  emitted_clean own =
      each_emitted c ps head vars HasNone ps (each_more IsOwn (λ u. stays c ps head.name u.name ≡ true → HasNone u) (λ u k h. still_clean u k) ps own)
      (each_more IsOwn (λ u. has_tangent c ps head.name u.name ≡ true → HasNone (tangent_of c ps head vars u)) (λ u k h. tangent_clean u k) ps own)

-- the units of a checked program are so
pub all_own : (rules : Rules) (ps : List Procedure) → IsChecked rules ps → (n : ℕ) (head : Procedure) → unit_at n ps ≡ head ∷ [] → Each IsOwn ps
all_own rules ps checked n head at =
    let fits = checked_fits rules ps checked n head at in
    each_more (λ u. Found ps u × UnitSound ps u) IsOwn (λ u k. (text_code u.body (of_unit u k.1) k.1.kernel, (fits.inside u.name u k.0.0, fits.extents u.name u k.0.0))) ps (each_both (Found ps) (UnitSound ps) ps (all_there rules ps checked) (all_sound rules ps checked))
  where
    of_unit : (u : Procedure) → UnitSound ps u → IsWrittenCode u.body
    of_unit u s = let written : IsWrittenProcedure u = s.written in written.body

-- the law
pub actuals_have_none : ActualsHaveNone
actuals_have_none rules k checked varied on is handed =
    for_head (λ qs. flat_map (λ u. shared_variables handed u ++ written_values handed u) qs ≡ []) (carried_by k.units on) k.units k.head k.vars refl (λ u at.
    flat_none (λ u. shared_variables handed u ++ written_values handed u) (emitted_units (carried_by k.units on) k.units u k.vars k.units) (emitted_clean handed (carried_by k.units on) k.units u k.vars (all_own rules k.units checked k.head u at)))
