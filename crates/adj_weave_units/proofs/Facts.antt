-- What is known of a checked program.
use Rattle.std.proofs.Common.{◌≡◌, [], List, length, map, ap, ◌∙◌, subst}
use Rattle.std.proofs.lemmas.List.{length-map}
use Rattle.adj_tree.specs.Code.{Procedure}
use Rattle.adj_tree.specs.View.{procedure_of, procedures_of}
use Rattle.def_meaning.specs.Apart.{AreApart}
use Rattle.def_kernel.specs.Form.{IsKernel}
use Rattle.def_names.specs.Fault.{run_rules}
use Rattle.def_names.specs.Laws.{HasNone}
use Rattle.def_names.specs.UnitFaults.{unit_places, reserved_units, repeated_units}
use Rattle.def_names.specs.Variables.{variables}
use Rattle.def_names.proofs.Faultless.{apart_places, none_behind}
use Rattle.def_names.proofs.Sound.{sound_has_none}
use Rattle.def_sweep.specs.Declared.{unit_name}
use Rattle.law_emitted.specs.Checked.{IsChecked}
use Rattle.law_emitted.proofs.CheckedUnits.{unit_names}
use Rattle.adj_symbols.specs.Checked.{Known, AreFacts}

module _ (k : Known) (facts : AreFacts k) where
  abbrev ps : List Procedure
  ps = procedures_of k.program

  -- no two units have one name
  pub units_apart : AreApart (map unit_name ps)
  units_apart =
      let none : HasNone run_rules ps = sound_has_none run_rules ps facts.sound in
      subst AreApart (unit_names ps) (apart_places 19 [] (unit_places ps) (none_behind (reserved_units ps) (repeated_units ps) none.units))

  -- in kernel form it is what the laws on emitted programs ask for
  pub in_form : IsKernel ps → IsChecked run_rules ps
  in_form kernel = record { written = facts.written; sound = facts.sound; kernel = kernel }

  -- each unit has its variables, and a row of the dummies that it writes and one of those that it reads
  pub variables_each : length k.variables ≡ length k.program.units
  variables_each = ap length facts.variables ∙ length-map ps variables ∙ length-map k.program.units procedure_of
