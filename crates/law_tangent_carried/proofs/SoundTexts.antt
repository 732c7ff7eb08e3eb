-- What is emitted has no fault as a text that is run.
use Rattle.def_tangent.specs.Program.{tangent_program}
use Rattle.def_flow.specs.Carried.{carried_by}
use Rattle.law_emitted.proofs.SoundPrograms.{none_first}
use Rattle.law_tangent_carried.specs.Emitted.{TangentIsSound}
use Rattle.law_tangent_carried.proofs.UnitFaults.{units_have_none}
use Rattle.law_tangent_carried.proofs.NameFaults.{names_have_none}
use Rattle.law_tangent_carried.proofs.CallFaults.{calls_have_none}
use Rattle.law_tangent_carried.proofs.ChainFaults.{chains_have_none}
use Rattle.law_tangent_carried.proofs.WriteFaults.{writes_have_none}

pub tangent_is_sound : TangentIsSound
tangent_is_sound rules k checked few varied on is =
    let c = carried_by k.units on in
    none_first (tangent_program c k.units k.head k.vars) (units_have_none rules k checked c) (names_have_none rules k checked varied on is) (calls_have_none rules k checked varied on is) (chains_have_none rules k checked few c) (writes_have_none rules k checked varied on is)
