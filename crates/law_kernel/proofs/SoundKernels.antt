-- The kernel of a program without faults has none.
use Rattle.std.proofs.Common.{◌≡◌, List, [], ◌∷◌, ap, ◌∙◌}
use Rattle.adj_tree.specs.Code.{Procedure}
use Rattle.def_names.specs.Fault.{Rules, run_rules, first_in_passes}
use Rattle.def_names.specs.UnitFaults.{unit_faults}
use Rattle.def_names.specs.NameFaults.{name_faults}
use Rattle.def_names.specs.CallFaults.{call_faults}
use Rattle.def_names.specs.ChainFaults.{chain_faults}
use Rattle.def_names.specs.WriteFaults.{write_faults}
use Rattle.def_names.specs.Check.{IsSound}
use Rattle.def_kernel.specs.Stepped.{kernel_of}
use Rattle.law_kernel.specs.Sound.{KernelIsSound}
use Rattle.law_kernel.proofs.SoundUnits.{kernel_units}
use Rattle.law_kernel.proofs.SoundNames.{kernel_names}
use Rattle.law_kernel.proofs.SoundActuals.{kernel_calls}
use Rattle.law_kernel.proofs.SoundChains.{kernel_chains}
use Rattle.law_kernel.proofs.SoundWrites.{kernel_writes}

-- a program without a fault in any pass is sound
none_is_sound : (m : Rules) (ps : List Procedure) → unit_faults ps ≡ [] → name_faults m ps ≡ [] → call_faults ps ≡ [] → chain_faults m ps ≡ [] → write_faults ps ≡ [] → IsSound m ps
none_is_sound m ps u n c h w =
    ap (λ z. first_in_passes (z ∷ name_faults m ps ∷ call_faults ps ∷ chain_faults m ps ∷ write_faults ps ∷ [])) u
    ∙ ap (λ z. first_in_passes (z ∷ call_faults ps ∷ chain_faults m ps ∷ write_faults ps ∷ [])) n
    ∙ ap (λ z. first_in_passes (z ∷ chain_faults m ps ∷ write_faults ps ∷ [])) c
    ∙ ap (λ z. first_in_passes (z ∷ write_faults ps ∷ [])) h
    ∙ ap (λ z. first_in_passes (z ∷ [])) w

pub kernel_is_sound : KernelIsSound
kernel_is_sound units a =
    none_is_sound run_rules (kernel_of units) (kernel_units units a.sound) (kernel_names units a.written a.sound) (kernel_calls units a.written a.sound) (kernel_chains units a.written a.sound) (kernel_writes units a.written a.sound)
