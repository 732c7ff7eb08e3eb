-- The names of the emitted units are apart, and aren't reserved.
use Rattle.std.proofs.Common.{◌≡◌, ℕ, Bool, true, false, List, [], ◌∷◌, ◌++◌, refl, sym, subst}
use Rattle.adj_tree.specs.Code.{Procedure}
use Rattle.def_names.specs.Reserved.{is_reserved}
use Rattle.def_names.specs.Statements.{At}
use Rattle.def_names.specs.Fault.{Rules, fault, faults_if}
use Rattle.def_names.specs.UnitFaults.{unit_places, reserved_units, repeated_units, unit_faults}
use Rattle.def_meaning.specs.Apart.{has_name, AreApart}
use Rattle.def_sweep.specs.Declared.{unit_at}
use Rattle.def_sweep.specs.Names.{source_names}
use Rattle.law_sweep.specs.Source.{is_unit}
use Rattle.def_tangent.specs.Program.{Carried, tangent_name, has_tangent, stays, emitted_units, emitted_for}
use Rattle.law_emitted.specs.Checked.{IsChecked}
use Rattle.law_emitted.proofs.Lists.{Each, each_more}
use Rattle.law_emitted.proofs.CheckedUnits.{unit_names}
use Rattle.law_emitted.proofs.MadeNames.{made_unreserved}
use Rattle.law_emitted.proofs.Sources.{all_named, each_there}
use Rattle.law_emitted.proofs.UnitFaults.{flat_none, if_none, again_none, units_apart, all_free}
use Rattle.law_tangent_carried.specs.Emitted.{UnitsHaveNone}
use Rattle.law_tangent_carried.proofs.EmittedUnits.{tangent_of, each_emitted, emitted_apart}
use Rattle.law_tangent_carried.proofs.Written.{tangent_named}

module _ (rules : Rules) (ps : List Procedure) (checked : IsChecked rules ps) where
  module _ (c : Carried) (head : Procedure) (vars : List Bool) where
    abbrev qs : List Procedure
    qs = emitted_units c ps head vars ps

    names_free : (us : List Procedure) → Each (λ u. is_reserved u.name ≡ false) us → Each (λ (p : At (List ℕ)). faults_if (is_reserved p.1) (fault 18 p.0) ≡ []) (unit_places us)
    names_free [] h = tt
    names_free (u ∷ us) h = (if_none (is_reserved u.name) (fault 18 u.line) h.0, names_free us h.1)

    tangents_free : (us : List Procedure) → Each (λ u. is_unit ps u.name ≡ true) us → Each (λ u. has_tangent c ps head.name u.name ≡ true → is_reserved (tangent_of c ps head vars u).name ≡ false) us
    tangents_free [] t = tt
    tangents_free (u ∷ us) t = (λ h. made_unreserved (tangent_name ps u.name) (tangent_named (source_names ps) ps u.name (all_named rules ps checked) t.0), tangents_free us t.1)

    free : reserved_units (emitted_units c ps head vars ps) ≡ []
    free =
        flat_none (λ (p : At (List ℕ)). faults_if (is_reserved p.1) (fault 18 p.0)) (unit_places (emitted_units c ps head vars ps))
        (names_free (emitted_units c ps head vars ps) (each_emitted c ps head vars (λ u. is_reserved u.name ≡ false) ps (each_more (λ u. is_reserved u.name ≡ false) (λ u. stays c ps head.name u.name ≡ true → is_reserved u.name ≡ false) (λ u f h. f) ps (all_free rules ps checked)) (tangents_free ps (each_there ps))))

    none_before : (places : List (At (List ℕ))) → Each (λ (p : At (List ℕ)). has_name p.1 [] ≡ false) places
    none_before [] = tt
    none_before (p ∷ places) = (refl, none_before places)

    apart : repeated_units (emitted_units c ps head vars ps) ≡ []
    apart =
        again_none 19 [] (unit_places (emitted_units c ps head vars ps))
        (subst AreApart (sym (unit_names (emitted_units c ps head vars ps))) (emitted_apart c ps head vars ps (units_apart rules ps checked) (each_there ps))) (none_before (unit_places (emitted_units c ps head vars ps)))

    emitted_none : unit_faults (emitted_units c ps head vars ps) ≡ []
    emitted_none = λ i. free i ++ apart i

-- the law
pub units_have_none : UnitsHaveNone
units_have_none rules k checked c = go (unit_at k.head k.units)
  where
    go : (us : List Procedure) → unit_faults (emitted_for c k.units k.vars us) ≡ []
    go [] = refl
    go (u ∷ us) = emitted_none rules k.units checked c u k.vars
