-- What is emitted has no fault as a text that is run.
use Rattle.std.proofs.Common.{◌≡◌, List, [], ◌∷◌, false, refl}
use Rattle.adj_tree.specs.Code.{Procedure}
use Rattle.def_names.specs.Fault.{run_rules, first_in_passes}
use Rattle.def_names.specs.UnitFaults.{unit_faults}
use Rattle.def_names.specs.NameFaults.{name_faults}
use Rattle.def_names.specs.CallFaults.{call_faults}
use Rattle.def_names.specs.ChainFaults.{chain_faults}
use Rattle.def_names.specs.WriteFaults.{write_faults}
use Rattle.def_names.specs.Check.{IsSound}
use Rattle.def_sweep.specs.Marking.{full_marks}
use Rattle.def_sweep.specs.Program.{emitted_program_with}
use Rattle.law_emitted.specs.Emitted.{MarkedIsSound, EmittedIsSound}
use Rattle.law_emitted.proofs.Calling.{unsplit_may}
use Rattle.law_emitted.proofs.Programs.{full_shadows}
use Rattle.law_emitted.proofs.UnitFaults.{units_have_none}
use Rattle.law_emitted.proofs.NameFaults.{names_have_none}
use Rattle.law_emitted.proofs.CallFaults.{calls_have_none}
use Rattle.law_emitted.proofs.ChainFaults.{chains_have_none}
use Rattle.law_emitted.proofs.WriteFaults.{writes_have_none}

-- a program that has none in any pass has no first one
pub none_first : (qs : List Procedure) → unit_faults qs ≡ [] → name_faults run_rules qs ≡ [] → call_faults qs ≡ [] → chain_faults run_rules qs ≡ [] → write_faults qs ≡ [] → IsSound run_rules qs
none_first qs units names calls chains writes = λ i. first_in_passes (units i ∷ names i ∷ calls i ∷ chains i ∷ writes i ∷ [])

pub marked_sound : MarkedIsSound
marked_sound rules ps checked few sb m shadowed may head vars outvars =
    none_first (emitted_program_with sb m ps head vars outvars) (units_have_none rules ps checked sb m head vars outvars) (names_have_none rules ps checked sb m shadowed may head vars outvars) (calls_have_none rules ps checked sb m shadowed may head vars outvars)
    (chains_have_none rules ps checked few sb m may head vars outvars) (writes_have_none rules ps checked sb m shadowed may head vars outvars)

pub emitted_sound : EmittedIsSound
emitted_sound rules ps checked few head vars outvars = marked_sound rules ps checked few false full_marks (full_shadows ps ps) (unsplit_may false full_marks (λ i. refl) ps ps) head vars outvars
