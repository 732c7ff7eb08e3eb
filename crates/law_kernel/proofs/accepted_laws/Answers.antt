-- Each law is one on sources.
use Rattle.std.specs.Prelude.{ℤ}
use Rattle.def_kernel.specs.Stepped.{stepped_program}
use Rattle.law_kernel.proofs.WholeKernels.{stepped_fit, whole_kernel_form, whole_means_alike, whole_written}
use Rattle.law_kernel.proofs.StepsWritten.{whole_kernel_written}
use Rattle.law_kernel.proofs.Costs.{weighed_means}
use Rattle.law_kernel.proofs.SoundPrograms.{sound_is_source, sound_calls}
use Rattle.law_kernel.proofs.OneNotion.{one_notion}
use Rattle.law_kernel.proofs.accepted_laws.Goals as goal

pub returns-clause-source : goal.returns-clause-source
returns-clause-source c = (λ units a. sound_is_source units a.written a.sound ℤ, λ units a. sound_is_source units a.written a.sound (ℤ × ℤ))

pub returns-clause-means_alike : goal.returns-clause-means_alike
returns-clause-means_alike c = (λ n shows units a. whole_means_alike {C = ℤ} n shows units (sound_is_source units a.written a.sound ℤ), λ n shows units a. whole_means_alike {C = ℤ × ℤ} n shows units (sound_is_source units a.written a.sound (ℤ × ℤ)))

pub returns-clause-form : goal.returns-clause-form
returns-clause-form c units a = whole_kernel_form ℤ units (sound_is_source units a.written a.sound ℤ)

pub returns-clause-written : goal.returns-clause-written
returns-clause-written c units a = whole_kernel_written units a.written (sound_calls units a.written a.sound)

pub returns-clause-writes : goal.returns-clause-writes
returns-clause-writes c units a = whole_written ℤ units (sound_is_source units a.written a.sound ℤ)

pub returns-clause-cost : goal.returns-clause-cost
returns-clause-cost c = (λ n shows units a. weighed_means {C = ℤ} n shows (stepped_program units) (stepped_fit ℤ units (sound_is_source units a.written a.sound ℤ)), λ n shows units a. weighed_means {C = ℤ × ℤ} n shows (stepped_program units) (stepped_fit (ℤ × ℤ) units (sound_is_source units a.written a.sound (ℤ × ℤ))))

pub returns-clause-variables : goal.returns-clause-variables
returns-clause-variables c = one_notion
