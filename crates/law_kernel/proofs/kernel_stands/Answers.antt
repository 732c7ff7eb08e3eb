-- Each pass has its lemma.
use Rattle.law_kernel.proofs.SoundUnits.{kernel_units}
use Rattle.law_kernel.proofs.SoundNames.{kernel_names}
use Rattle.law_kernel.proofs.SoundActuals.{kernel_calls}
use Rattle.law_kernel.proofs.SoundChains.{kernel_chains}
use Rattle.law_kernel.proofs.SoundKernels.{kernel_is_sound}
use Rattle.law_kernel.proofs.SoundWrites.{kernel_writes}
use Rattle.law_kernel.proofs.kernel_stands.Goals as goal

pub returns-clause-units : goal.returns-clause-units
returns-clause-units c units a = kernel_units units a.sound

pub returns-clause-writes : goal.returns-clause-writes
returns-clause-writes c units a = kernel_writes units a.written a.sound

pub returns-clause-names : goal.returns-clause-names
returns-clause-names c units a = kernel_names units a.written a.sound

pub returns-clause-calls : goal.returns-clause-calls
returns-clause-calls c units a = kernel_calls units a.written a.sound

pub returns-clause-chains : goal.returns-clause-chains
returns-clause-chains c units a = kernel_chains units a.written a.sound

pub returns-clause-sound : goal.returns-clause-sound
returns-clause-sound c = kernel_is_sound
